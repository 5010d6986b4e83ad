-- Lemmas on a page that the kernel writes.
use Rattle.std.proofs.Common.{◌≡◌, ℕ, ◌/◌, List, Bool, true, false, cond, Option, Some, None, get_or, refl, IfSome}
use Rattle.std.specs.Prelude.{IsSome}
use Rattle.std.proofs.lemmas.Bool.{false≢true}
use Rattle.machine_state.specs.Memory.{page_size}
use Rattle.guest_pages.specs.declared.entry.Entry.{Entry}
use Rattle.guest_pages.specs.declared.entry.Place.{Place}
use Rattle.guest_pages.specs.declared.entry.Place.TheVariants.{Resident, Zeros, Swapped}
use Rattle.guest_pages.specs.Entry.{away_slot_of, is_in_frame, is_resident, place_frame, slot_frame, IsLent}
use Rattle.guest_pages.specs.Pages.{PagesValue, table_of}
use Rattle.guest_pages.specs.Slots.{IsSeatOf, LacksPage}
use Rattle.guest_pages.proofs.Seats.{entry_there}
use Rattle.guest_pages.proofs.Tables.{table_none}
use Rattle.guest_pages.proofs.Writes.{IsHeld}

-- a mapped page has a slot
pub mapped_seat : (pages : PagesValue) (page : ℕ) → LacksPage pages.slots page → IsSome (table_of pages page) → ⊥
mapped_seat pages page lacks mapped = absurd (false≢true (rw (table_none pages page lacks) at mapped))

framed_case : (slot : Option Entry) (k : ℕ) → away_slot_of slot k ≡ None → is_in_frame slot ≡ true
framed_case slot k h = by (is_in_frame slot) h
  where
    by : (resident : Bool) → cond resident None (Some k) ≡ None → resident ≡ true
    by true h = refl
    by false h = cc

held_case : (place : Place) (at len : ℕ) (part : List ℕ) → is_resident place ≡ true → IfSome (place_frame place) (IsLent at len part)
    → (bytes : List ℕ) × (mark : _) × (place ≡ Resident bytes mark) × IsLent at len part bytes
held_case (Resident bytes mark) at len part h lent = (bytes, mark, refl, lent)
held_case Zeros at len part h lent = cc
held_case Swapped at len part h lent = cc

-- a slot whose page isn't away holds it in a frame
pub seat_held : (pages : PagesValue) (addr k at len : ℕ) (part : List ℕ) → IsSeatOf pages.slots (addr / page_size) k → away_slot_of (get_or pages.slots k None) k ≡ None
    → IfSome (slot_frame (get_or pages.slots k None)) (IsLent at len part) → IsHeld pages addr k
seat_held pages addr k at len part seat here lent =
    let there = entry_there (get_or pages.slots k None) (addr / page_size) seat.here in
    let framed : is_resident there.0.place ≡ true = rw there.1 at (framed_case (get_or pages.slots k None) k here) in
    let is = held_case there.0.place at len part framed (rw there.1 at lent) in
    record {
      seat = seat;
      entry = there.0;
      is = there.1;
      page_is = there.2;
      bytes = is.0;
      mark = is.1;
      place_is = is.2;
      whole = is.3.whole;
    }

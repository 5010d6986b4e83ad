-- Lemmas on what a page shows.
use Rattle.std.proofs.Common.{◌≡◌, ℕ, ◌+◌, ◌-◌, ◌/◌, ◌%◌, ◌<◌, ◌≤◌, List, ◌++◌, Bool, true, false, cond, Option, Some, None, length, get_or, refl, sym, ap, ◌∙◌, arith, take, drop, slice_range}
use Rattle.std.proofs.lemmas.List.{length-append, length-take, length-drop}
use Rattle.machine_state.specs.declared.kinds.Miss.TheVariants.{Away}
use Rattle.machine_state.specs.Memory.{page_size, Swap, bytes_at}
use Rattle.machine_state.proofs.MemoryLemmas.{bytes_at-append, bytes_at_listed, bytes_at-zero}
use Rattle.guest_pages.specs.declared.entry.Entry.{Entry}
use Rattle.guest_pages.specs.declared.entry.Place.{Place}
use Rattle.guest_pages.specs.declared.entry.Place.TheVariants.{Resident, Zeros, Swapped}
use Rattle.guest_pages.specs.Entry.{place_frame, slot_frame, is_resident, place_byte, away_slot_of}
use Rattle.std.specs.Option.{option_map}
use Rattle.guest_pages.specs.Table.{away_at}
use Rattle.guest_pages.specs.Pages.{PagesValue, table_of, byte_of}
use Rattle.guest_pages.specs.Changes.{IsShown}
use Rattle.guest_pages.specs.Slots.{IsSeatOf}
use Rattle.guest_pages.proofs.Seats.{seek_at, entry_there}
use Rattle.guest_pages.proofs.Tables.{table_at}

no_frame : (place : Place) → place_frame place ≡ None → is_resident place ≡ false
no_frame (Resident bytes mark) h = cc
no_frame Zeros h = refl
no_frame Swapped h = refl

a_frame : (place : Place) (bytes : List ℕ) → place_frame place ≡ Some bytes → is_resident place ≡ true
a_frame (Resident held mark) bytes h = refl
a_frame Zeros bytes h = cc
a_frame Swapped bytes h = cc

frame_byte : (place : Place) (bytes swapped : List ℕ) (at : ℕ) → place_frame place ≡ Some bytes → place_byte swapped place at ≡ get_or bytes at 0
frame_byte (Resident held mark) bytes swapped at h = let same : held ≡ bytes = cc in ap (λ (b : List ℕ). get_or b at 0) same
frame_byte Zeros bytes swapped at h = cc
frame_byte Swapped bytes swapped at h = cc

-- the slot of a page that is away, as the table has it
pub slot_away : (pages : PagesValue) (page k : ℕ) → IsSeatOf pages.slots page k
    → option_map Away (away_slot_of (get_or pages.slots k None) k) ≡ away_at (table_of pages page)
slot_away pages page k seat =
    let there = entry_there (get_or pages.slots k None) page seat.here in
    ap (λ (slot : Option Entry). option_map Away (away_slot_of slot k)) there.1
    ∙ away_case (is_resident there.0.place) k
    ∙ sym (ap away_at (table_at pages page k there.0 seat there.1))
  where
    away_case : (resident : Bool) (k : ℕ) → option_map Away (cond resident None (Some k)) ≡ cond resident None (Some (Away k))
    away_case true k = refl
    away_case false k = refl

-- a page without a frame is away
pub away_there : (pages : PagesValue) (page k : ℕ) → IsSeatOf pages.slots page k → slot_frame (get_or pages.slots k None) ≡ None
    → away_at (table_of pages page) ≡ Some (Away k)
away_there pages page k seat none =
    let there = entry_there (get_or pages.slots k None) page seat.here in
    let place : place_frame there.0.place ≡ None = rw there.1 at none in
    rw (table_at pages page k there.0 seat there.1, no_frame there.0.place place) refl

-- a page with a frame isn't
pub resident_there : (pages : PagesValue) (page k : ℕ) (bytes : List ℕ) → IsSeatOf pages.slots page k → slot_frame (get_or pages.slots k None) ≡ Some bytes
    → away_at (table_of pages page) ≡ None
resident_there pages page k bytes seat some =
    let there = entry_there (get_or pages.slots k None) page seat.here in
    let place : place_frame there.0.place ≡ Some bytes = rw there.1 at some in
    rw (table_at pages page k there.0 seat there.1, a_frame there.0.place bytes place) refl

byte_there : (pages : PagesValue) (addr k : ℕ) (bytes : List ℕ) (swap : Swap) (i : ℕ) → IsSeatOf pages.slots (addr / page_size) k
    → slot_frame (get_or pages.slots k None) ≡ Some bytes → addr % page_size + i < page_size → byte_of pages swap (addr + i) ≡ get_or bytes (addr % page_size + i) 0
unfolding byte_of
byte_there pages addr k bytes swap i seat some within =
    let there = entry_there (get_or pages.slots k None) (addr / page_size) seat.here in
    let place : place_frame there.0.place ≡ Some bytes = rw there.1 at some in
    let page : (addr + i) / page_size ≡ addr / page_size = omega arith in
    let index : (addr + i) % page_size ≡ addr % page_size + i = omega arith in
    rw (page, index, seek_at pages.slots (addr / page_size) k there.0 seat there.1) (frame_byte there.0.place bytes (swap k) (addr % page_size + i) place)

-- a part of a frame shows the bytes of its page
pub shown_there : (pages : PagesValue) (addr k len : ℕ) (bytes shown : List ℕ) → IsSeatOf pages.slots (addr / page_size) k
    → slot_frame (get_or pages.slots k None) ≡ Some bytes → addr % page_size + len ≤ page_size → length bytes ≡ page_size
    → shown ≡ slice_range bytes (addr % page_size) (addr % page_size + len) → IsShown pages addr len shown
shown_there pages addr k len bytes shown seat some within whole is =
    let count : addr % page_size + len - addr % page_size ≡ len = omega arith in
    let cut : shown ≡ take len (drop (addr % page_size) bytes) = is ∙ ap (λ (n : ℕ). take n (drop (addr % page_size) bytes)) count in
    let rest : length (drop (addr % page_size) bytes) ≡ page_size - addr % page_size = length-drop (addr % page_size) bytes ∙ ap (λ (n : ℕ). n - addr % page_size) whole in
    record {
      len_is = rw (cut, length-take len (drop (addr % page_size) bytes), rest) (omega arith);
      bytes = λ swap. cut ∙ bytes_at_listed (byte_of pages swap) addr len bytes (addr % page_size) (rw whole within) (λ i h. byte_there pages addr k bytes swap i seat some (omega arith));
    }

pub shown_none : (pages : PagesValue) (addr : ℕ) (bytes : List ℕ) → IsShown pages addr 0 (take 0 bytes)
shown_none pages addr bytes = record { len_is = refl; bytes = λ swap. sym (bytes_at-zero (byte_of pages swap) addr) }

-- what was shown in two parts
pub shown_on : (pages : PagesValue) (addr from end : ℕ) (first second : List ℕ) → from ≤ end → IsShown pages addr from first
    → IsShown pages (addr + from) (end - from) second → IsShown pages addr end (first ++ second)
shown_on pages addr from end first second h one two =
    let sum : from + (end - from) ≡ end = omega arith in
    record {
      len_is = rw (length-append first second, one.len_is, two.len_is) sum;
      bytes = λ swap. rw (one.bytes swap, two.bytes swap) (sym (bytes_at-append (byte_of pages swap) addr from (end - from)) ∙ ap (bytes_at (byte_of pages swap) addr) sum);
    }

-- Lemmas on pages of which a part was written.
use Rattle.std.proofs.Common.{◌≡◌, ℕ, ◌+◌, ◌-◌, ◌/◌, ◌%◌, ◌<◌, ◌≤◌, List, Bool, true, false, cond, Option, Some, None, length, get_or, set, ◌==◌, refl, sym, ap, ◌∙◌, ⊎_elim, arith, take, slice_range, IfSome, ◌≢◌}
use Rattle.std.proofs.lemmas.List.{length-take-le}
use Rattle.std.proofs.lemmas.Bool.{cases_eq, eq-eqb, ne_eqb, false≢true}
use Rattle.machine_state.specs.declared.kinds.Kind.{Kind}
use Rattle.machine_state.specs.Memory.{page_size, Swap, written, miss_at, is_noncanonical}
use Rattle.machine_state.proofs.MemoryLemmas.{written_on}
use Rattle.guest_pages.specs.declared.entry.Entry.{Entry}
use Rattle.guest_pages.specs.declared.entry.Mark.{Mark}
use Rattle.guest_pages.specs.declared.entry.Place.{Place}
use Rattle.guest_pages.specs.declared.entry.Place.TheVariants.{Resident, Zeros, Swapped}
use Rattle.guest_pages.specs.Entry.{slot_frame, entry_with, slot_with, is_resident, is_in_frame, mark_in, place_with, place_marked, IsLent}
use Rattle.guest_pages.specs.Table.{blocked, away_at, perms_in}
use Rattle.guest_pages.specs.Pages.{PagesValue, table_of, byte_of, mark_of, lent}
use Rattle.guest_pages.specs.Changes.{IsShown, IsWritten, Marks, with_mark, written_marks}
use Rattle.guest_pages.specs.Slots.{LacksPage, IsSeatOf, CanTake, AreSound, IsInOrder}
use Rattle.guest_pages.proofs.Seats.{seek_at, entry_there, take_seat}
use Rattle.guest_pages.proofs.Tables.{table_at, table_none}
use Rattle.guest_pages.proofs.Takes.{taken, size_taken, byte_taken, mark_taken, table_kept, count_kept}
use Rattle.guest_pages.proofs.Walks.{ready_here}
use Rattle.guest_pages.proofs.Shows.{shown_there}
use Rattle.machine_state.specs.declared.kinds.Miss.TheVariants.{Away, NonCanonical, Unmapped}
use Rattle.guest_pages.specs.declared.lists.Lists.{Lists}
use Rattle.guest_pages.specs.declared.entry.Mark.TheVariants.{Written}
use Rattle.guest_pages.proofs.Marks.{touches_within, written_marks_on}
use Rattle.guest_pages.proofs.Keeps.{order_changed}
use Rattle.machine_state.proofs.MemoryLemmas.{length_slice}
use Rattle.guest_pages.proofs.Puts.{get_or-put_at, test_there, test_elsewhere}

-- slot k holds the page of an address in a frame
pub record IsHeld (pages : PagesValue) (addr k : ℕ) : Type 0 where
  pub seat : IsSeatOf pages.slots (addr / page_size) k
  pub entry : Entry
  pub is : get_or pages.slots k None ≡ Some entry
  pub page_is : entry.page ≡ addr / page_size
  pub bytes : List ℕ
  pub mark : Mark
  pub place_is : entry.place ≡ Resident bytes mark
  pub whole : length bytes ≡ page_size

resident_case : (resident : Bool) (slot : ℕ) → cond resident None (Some (Away slot)) ≡ None → resident ≡ true
resident_case true slot h = refl
resident_case false slot h = cc

place_there : (place : Place) → is_resident place ≡ true → (bytes : List ℕ) × (mark : Mark) × (place ≡ Resident bytes mark)
place_there (Resident bytes mark) h = (bytes, mark, refl)
place_there Zeros h = absurd (false≢true h)
place_there Swapped h = absurd (false≢true h)

-- the entry of the page of an access that can be made
pub ready_entry : (pages : PagesValue) (kind : Kind) (addr k len : ℕ) → IsSeatOf pages.slots (addr / page_size) k → 0 < len → blocked (table_of pages) kind addr len ≡ None
    → (entry : Entry) × (get_or pages.slots k None ≡ Some entry) × (entry.page ≡ addr / page_size) × (is_resident entry.place ≡ true)
ready_entry pages kind addr k len seat some ready =
    let there = entry_there (get_or pages.slots k None) (addr / page_size) seat.here in
    let mapped = table_at pages (addr / page_size) k there.0 seat there.1 in
    let here : away_at (table_of pages (addr / page_size)) ≡ None = (ready_here (table_of pages) kind addr len some ready).1 in
    (there.0, there.1, there.2, resident_case (is_resident there.0.place) k (rw mapped at here))

-- the page of an access that can be made is mapped
pub never_lacks : (pages : PagesValue) (kind : Kind) (addr len : ℕ) → LacksPage pages.slots (addr / page_size) → 0 < len → blocked (table_of pages) kind addr len ≡ None → ⊥
never_lacks pages kind addr len lacks some ready =
    let here : miss_at (perms_in (table_of pages)) kind addr ≡ None = (ready_here (table_of pages) kind addr len some ready).0 in
    unmapped_case (is_noncanonical addr) addr (rw (table_none pages (addr / page_size) lacks) at here)
  where
    unmapped_case : (b : Bool) (addr : ℕ) → cond b (Some (NonCanonical addr)) (Some (Unmapped addr)) ≡ None → ⊥
    unmapped_case true addr h = cc
    unmapped_case false addr h = cc

pub ready_frame : (pages : PagesValue) (kind : Kind) (addr k len : ℕ) → IsSeatOf pages.slots (addr / page_size) k → 0 < len → blocked (table_of pages) kind addr len ≡ None
    → is_in_frame (get_or pages.slots k None) ≡ true
ready_frame pages kind addr k len seat some ready = let entry = ready_entry pages kind addr k len seat some ready in rw entry.1 entry.3

pub ready_held : (pages : PagesValue) (kind : Kind) (addr k len : ℕ) → IsSeatOf pages.slots (addr / page_size) k → 0 < len → blocked (table_of pages) kind addr len ≡ None
    → (at : ℕ) (part : List ℕ) → IfSome (slot_frame (get_or pages.slots k None)) (IsLent at len part) → IsHeld pages addr k
ready_held pages kind addr k len seat some ready at part lent =
    let entry = ready_entry pages kind addr k len seat some ready in
    let place = place_there entry.0.place entry.3 in
    let is : IsLent at len part place.0 = rw (entry.1, place.2) at lent in
    record {
      seat = seat;
      entry = entry.0;
      is = entry.1;
      page_is = entry.2;
      bytes = place.0;
      mark = place.1;
      place_is = place.2;
      whole = is.whole;
    }

-- a part that is lent shows the bytes of its page
pub lent_shown : (pages : PagesValue) (addr k len : ℕ) (part : List ℕ) → IsHeld pages addr k → addr % page_size + len ≤ page_size
    → IfSome (slot_frame (get_or pages.slots k None)) (IsLent (addr % page_size) len part) → IsShown pages addr len part
lent_shown pages addr k len part held fits lent =
    let is : IsLent (addr % page_size) len part held.bytes = rw (held.is, held.place_is) at lent in
    shown_there pages addr k len held.bytes part held.seat (rw (held.is, held.place_is) refl) fits held.whole is.is

pub lent_at : (pages : PagesValue) (addr k : ℕ) (entry : Entry) (other : List ℕ) → IsSeatOf pages.slots (addr / page_size) k → get_or pages.slots k None ≡ Some entry
    → lent pages addr other ≡ taken pages k (entry_with entry (addr % page_size) other) pages.recent
unfolding lent
lent_at pages addr k entry other seat is = rw (seek_at pages.slots (addr / page_size) k entry seat is) refl

-- what the code leaves of a slot whose page was lent
pub lent_view : (pages : PagesValue) (addr k : ℕ) (slot : Option Entry) (entry : Entry) (other : List ℕ) → IsSeatOf pages.slots (addr / page_size) k
    → get_or pages.slots k None ≡ Some entry → slot ≡ get_or pages.slots k None
    → ◌≡◌ {A = PagesValue} (record { frames = pages.frames; slots = set pages.slots k (slot_with slot (addr % page_size) other); recent = pages.recent }) (lent pages addr other)
lent_view pages addr k slot entry other seat is read = rw (read, is) (sym (lent_at pages addr k entry other seat is))

byte_at : (pages : PagesValue) (addr k : ℕ) (held : IsHeld pages addr k) (swap : Swap) (at : ℕ) → addr / page_size ≡ at / page_size
    → byte_of pages swap at ≡ get_or held.bytes (at % page_size) 0
unfolding byte_of
byte_at pages addr k held swap at same = rw (← same, seek_at pages.slots (addr / page_size) k held.entry held.seat held.is, held.place_is) refl

module _ (pages : PagesValue) (addr k : ℕ) (held : IsHeld pages addr k) (sound : AreSound pages.slots) (other : List ℕ) (some : 0 < length other) (fits : addr % page_size + length other ≤ page_size) where
  can : CanTake pages.slots held.entry.page k
  can = rw held.page_is (take_seat pages.slots (addr / page_size) k sound.apart held.seat)

  table_same : table_of (taken pages k (entry_with held.entry (addr % page_size) other) pages.recent) ≡ table_of pages
  table_same =
      table_kept pages k (entry_with held.entry (addr % page_size) other) pages.recent can
      (rw held.page_is (table_at pages (addr / page_size) k held.entry held.seat held.is ∙ rw held.place_is refl))

  byte_case : (swap : Swap) (at : ℕ) → byte_of (taken pages k (entry_with held.entry (addr % page_size) other) pages.recent) swap at ≡ written (byte_of pages swap) addr other at
  byte_case swap at = ⊎_elim
      (λ (here : addr / page_size ≡ at / page_size).
      let test : (at / page_size == held.entry.page) ≡ true = eq-eqb (at / page_size) held.entry.page (sym here ∙ sym held.page_is) in
      let index : at % page_size - addr % page_size ≡ at - addr = omega arith in
      let room : addr % page_size + length other ≤ length held.bytes = rw held.whole fits in
      byte_taken pages k (entry_with held.entry (addr % page_size) other) pages.recent can swap at
      ∙ rw (test, held.place_is)
      (get_or-put_at held.bytes (addr % page_size) (at % page_size) other room
      ∙ (λ i. cond (test_there addr at (length other) here i) (get_or other (index i) 0) (sym (byte_at pages addr k held swap at here) i))))
      (λ (there : addr / page_size ≡ at / page_size → ⊥).
      let test : (at / page_size == held.entry.page) ≡ false = ne_eqb (at / page_size) held.entry.page (λ same. there (sym (same ∙ held.page_is))) in
      byte_taken pages k (entry_with held.entry (addr % page_size) other) pages.recent can swap at
      ∙ rw (test, test_elsewhere addr at (length other) fits there) refl)
      (cases_eq (addr / page_size) (at / page_size))

  marks_at : (page : ℕ) → with_mark (mark_of pages) held.entry.page (Some Written) page ≡ written_marks (mark_of pages) addr (length other) page
  marks_at page = ⊎_elim
      (λ (same : page ≡ held.entry.page).
      let here : page ≡ addr / page_size = same ∙ held.page_is in
      rw (eq-eqb page held.entry.page same, touches_within addr (length other) page some fits, eq-eqb page (addr / page_size) here) refl)
      (λ (apart : page ≢ held.entry.page).
      let off : page ≢ addr / page_size = λ e. apart (e ∙ sym held.page_is) in
      rw (ne_eqb page held.entry.page apart, touches_within addr (length other) page some fits, ne_eqb page (addr / page_size) off) refl)
      (cases_eq page held.entry.page)

  marks_are : mark_of (taken pages k (entry_with held.entry (addr % page_size) other) pages.recent) ≡ written_marks (mark_of pages) addr (length other)
  marks_are =
      mark_taken pages k (entry_with held.entry (addr % page_size) other) pages.recent can
      ∙ ap (with_mark (mark_of pages) held.entry.page) (ap (λ (place : Place). mark_in (place_with (place_marked place) (addr % page_size) other)) held.place_is)
      ∙ (λ i page. marks_at page i)

  -- the pages as they are once a part that was lent is written
  pub written_there : IsWritten pages (lent pages addr other) addr other
  written_there = rw (lent_at pages addr k held.entry other held.seat held.is) (record {
    size = size_taken pages k (entry_with held.entry (addr % page_size) other) pages.recent;
    table = table_same;
    byte = λ swap i at. byte_case swap at i;
    marks = marks_are;
    recent = refl;
    count = count_kept pages k (entry_with held.entry (addr % page_size) other) held.entry pages.recent held.seat.within held.is;
  })

stays : (place : Place) (at : ℕ) (other : List ℕ) → is_resident (place_with (place_marked place) at other) ≡ is_resident place
stays (Resident bytes mark) at other = refl
stays Zeros at other = refl
stays Swapped at other = refl

-- what the pages keep of their slots holds whatever is written to the part that was lent
pub lent_kept : (slots : List (Option Entry)) (frames free capacity : ℕ) (lists : Lists) (order : List ℕ) (room page k at : ℕ) (entry : Entry) (other : List ℕ) → IsSeatOf slots page k
    → get_or slots k None ≡ Some entry → entry.page ≡ page → IsInOrder slots frames free capacity lists order room
    → IsInOrder (set slots k (Some (entry_with entry at other))) frames free capacity lists order room
lent_kept slots frames free capacity lists order room page k at entry other seat is page_is kept =
    order_changed slots frames free capacity lists order room page k entry (entry_with entry at other) seat is page_is refl (stays entry.place at other) kept

-- two writes, the second going on where the first ended, are one
pub writes_on : (old mid new : PagesValue) (addr : ℕ) (bytes : List ℕ) (from end : ℕ) → from ≤ end → end ≤ length bytes → IsWritten old mid addr (take from bytes)
    → IsWritten mid new (addr + from) (slice_range bytes from end) → IsWritten old new addr (take end bytes)
writes_on old mid new addr bytes from end h l first second = record {
  size = record { frames = second.size.frames ∙ first.size.frames; pages = second.size.pages ∙ first.size.pages };
  table = second.table ∙ first.table;
  byte = λ swap.
      second.byte swap
      ∙ ap (λ (f : ℕ → ℕ). written f (addr + from) (slice_range bytes from end)) (first.byte swap)
      ∙ written_on (byte_of old swap) addr bytes from end h l;
  marks =
      let front : length (take from bytes) ≡ from = length-take-le from bytes (omega arith) in
      let part : length (slice_range bytes from end) ≡ end - from = length_slice bytes from end h l in
      let whole : length (take end bytes) ≡ end = length-take-le end bytes l in
      second.marks
      ∙ ap (λ (marks : Marks). written_marks marks (addr + from) (length (slice_range bytes from end))) first.marks
      ∙ rw (front, part, whole) (written_marks_on (mark_of old) addr from end h);
  recent = second.recent ∙ first.recent;
  count = second.count ∙ first.count;
}

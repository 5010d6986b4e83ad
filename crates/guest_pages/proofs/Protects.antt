-- Lemmas on a page whose permissions change.
use Rattle.std.proofs.Common.{◌≡◌, ℕ, ap, add-zero, ◌/◌, ◌%◌, List, Option, Some, None, get_or, refl, sym, ◌∙◌, ⊎_elim, ◌≢◌, IsSome, set}
use Rattle.std.proofs.lemmas.Bool.{cases_eq, eq-eqb, ne_eqb, false≢true}
use Rattle.machine_state.specs.Memory.{page_size, Swap, zeroed}
use Rattle.machine_state.specs.declared.permissions.Perms.{Perms}
use Rattle.guest_pages.specs.declared.entry.Entry.{Entry}
use Rattle.guest_pages.specs.declared.lists.Lists.{Lists}
use Rattle.guest_pages.specs.Entry.{mark_in, HasPerms}
use Rattle.guest_pages.specs.Table.{Mapped}
use Rattle.guest_pages.specs.Pages.{PagesValue, seat_byte, table_of, byte_of, mark_of, mapped_count}
use Rattle.guest_pages.specs.Changes.{IsProtected, IsUnmapped}
use Rattle.guest_pages.specs.Slots.{LacksPage, IsSeatOf, AreSound, CanTake, IsInOrder}
use Rattle.guest_pages.proofs.Seats.{seek_at, seek_none, seat_at, take_seat, entry_there}
use Rattle.guest_pages.proofs.Tables.{table_at, table_none}
use Rattle.guest_pages.proofs.Takes.{taken, entry_mapped, size_taken, table_taken, byte_taken, mark_taken, mark_at, mark_none, with_entry_same, with_mark_same, count_kept}
use Rattle.guest_pages.proofs.Keeps.{order_changed}

pub byte_seated : (pages : PagesValue) (k : ℕ) (entry : Entry) (swap : Swap) (at : ℕ) → IsSeatOf pages.slots (at / page_size) k → get_or pages.slots k None ≡ Some entry
    → byte_of pages swap at ≡ seat_byte swap (seat_at k entry) (at % page_size)
unfolding byte_of
byte_seated pages k entry swap at seat is = rw (seek_at pages.slots (at / page_size) k entry seat is) refl

module _ (pages : PagesValue) (page k : ℕ) (entry : Entry) (seat : IsSeatOf pages.slots page k) (is : get_or pages.slots k None ≡ Some entry) (page_is : entry.page ≡ page) (sound : AreSound pages.slots)
    (perms : Perms) where
  can : CanTake pages.slots entry.page k
  can = rw page_is (take_seat pages.slots page k sound.apart seat)

  mapped : table_of pages entry.page ≡ Some (entry_mapped k entry)
  mapped = rw page_is (table_at pages page k entry seat is)

  byte_case : (swap : Swap) (at : ℕ) → byte_of (taken pages k (record entry { perms = perms }) pages.recent) swap at ≡ byte_of pages swap at
  byte_case swap at = ⊎_elim
      (λ (here : at / page_size ≡ entry.page).
      let there : IsSeatOf pages.slots (at / page_size) k = rw (here, page_is) seat in
      byte_taken pages k (record entry { perms = perms }) pages.recent can swap at ∙ rw (eq-eqb (at / page_size) entry.page here) (sym (byte_seated pages k entry swap at there is)))
      (λ (other : at / page_size ≢ entry.page).
      byte_taken pages k (record entry { perms = perms }) pages.recent can swap at ∙ rw (ne_eqb (at / page_size) entry.page other) refl)
      (cases_eq (at / page_size) entry.page)

  -- the pages where the permissions of one changed
  pub protected_there : IsProtected pages (taken pages k (record entry { perms = perms }) pages.recent) page perms.0
  protected_there = record {
    size = size_taken pages k (record entry { perms = perms }) pages.recent;
    table = table_taken pages k (record entry { perms = perms }) pages.recent can ∙ rw (← page_is, mapped) refl;
    byte = λ swap i at. byte_case swap at i;
    marks = mark_taken pages k (record entry { perms = perms }) pages.recent can ∙ with_mark_same (mark_of pages) entry.page (mark_in entry.place) (rw page_is (mark_at pages page k entry seat is));
    count = count_kept pages k (record entry { perms = perms }) entry pages.recent seat.within is;
    recent = refl;
  }

-- what the pages keep holds where a slot's page gets other permissions
pub protected_kept : (slots : List (Option Entry)) (frames free capacity : ℕ) (lists : Lists) (order : List ℕ) (room page k : ℕ) (entry : Entry) (perms : Perms) → IsSeatOf slots page k
    → get_or slots k None ≡ Some entry → entry.page ≡ page → IsInOrder slots frames free capacity lists order room
    → IsInOrder (set slots k (Some (record entry { perms = perms }))) frames free capacity lists order room
protected_kept slots frames free capacity lists order room page k entry perms seat is page_is kept =
    order_changed slots frames free capacity lists order room page k entry (record entry { perms = perms }) seat is page_is refl refl kept

pub mapped_seat : (pages : PagesValue) (page : ℕ) → LacksPage pages.slots page → IsSome (table_of pages page) → ⊥
mapped_seat pages page lacks mapped = false≢true (rw (table_none pages page lacks) at mapped)

absent_byte : (pages : PagesValue) (page : ℕ) → LacksPage pages.slots page → (swap : Swap) (at : ℕ) → byte_of pages swap at ≡ zeroed (byte_of pages swap) page at
unfolding byte_of
absent_byte pages page lacks swap at = ⊎_elim
    (λ (here : at / page_size ≡ page). rw (eq-eqb (at / page_size) page here, here, seek_none 0 pages.slots page lacks) refl)
    (λ (other : at / page_size ≢ page). rw (ne_eqb (at / page_size) page other) refl)
    (cases_eq (at / page_size) page)

-- a page that isn't mapped
pub unmapped_absent : (pages : PagesValue) (page : ℕ) → LacksPage pages.slots page → IsUnmapped pages pages page
unmapped_absent pages page lacks = record {
  size = record { frames = refl; pages = refl };
  table = sym (with_entry_same (table_of pages) page None (table_none pages page lacks));
  byte = λ swap i at. absent_byte pages page lacks swap at i;
  marks = sym (with_mark_same (mark_of pages) page None (mark_none pages page lacks));
  recent = rw (table_none pages page lacks) refl;
  count = rw (table_none pages page lacks) (add-zero (mapped_count pages));
}

-- the permissions of a slot's page are those of the table
pub perms_there : (pages : PagesValue) (page k : ℕ) (slot : Option Entry) (perms : Perms) (mapped : Mapped) → IsSeatOf pages.slots page k → slot ≡ get_or pages.slots k None
    → HasPerms slot perms → table_of pages page ≡ Some mapped → perms.0 ≡ mapped.perms
perms_there pages page k slot perms mapped seat read has is =
    let there = entry_there (get_or pages.slots k None) page seat.here in
    let same : perms ≡ there.0.perms = rw (read, there.1) at has in
    let entry : ◌≡◌ {A = Option Mapped} (Some (entry_mapped k there.0)) (Some mapped) = sym (table_at pages page k there.0 seat there.1) ∙ is in
    ap (λ (p : Perms). p.0) same ∙ some_perms (entry_mapped k there.0) mapped entry
  where
    some_perms : (a b : Mapped) → ◌≡◌ {A = Option Mapped} (Some a) (Some b) → a.perms ≡ b.perms
    some_perms a b e = cc

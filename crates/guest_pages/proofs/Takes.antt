-- Lemmas on the pages where a slot is given to an entry.
use Rattle.std.proofs.Common.{◌≡◌, ℕ, ◌+◌, ◌/◌, ◌%◌, ◌<◌, List, Bool, true, false, cond, Option, Some, None, length, get_or, set, ◌==◌, refl, sym, ap, ◌∙◌, arith, add-zero, is_some, count_by, ⊎_elim, ◌≢◌}
use Rattle.std.proofs.lemmas.Bool.{cases_eq, eq-eqb, ne_eqb}
use Rattle.std.specs.Option.{option_map, option_and_then}
use Rattle.std.proofs.lemmas.List.{length-set}
use Rattle.std.proofs.lemmas.List.Sums.{sum_by-set}
use Rattle.machine_state.specs.Memory.{page_size, Swap}
use Rattle.guest_pages.specs.declared.entry.Entry.{Entry}
use Rattle.guest_pages.specs.Entry.{is_resident, is_in_frame, is_on_swap, mark_in}
use Rattle.guest_pages.specs.declared.entry.Mark.{Mark}
use Rattle.guest_pages.specs.Table.{Mapped, Table, with_entry}
use Rattle.guest_pages.specs.Pages.{PagesValue, Seat, mapped_of, table_of, seat_byte, byte_of, mark_of, seat_swapped, is_swapped, mapped_count}
use Rattle.guest_pages.specs.Order.{without}
use Rattle.guest_pages.specs.Changes.{KeepsSize, IsUnmapped, Marks, with_mark}
use Rattle.guest_pages.specs.Slots.{LacksPage, CanTake, IsSeatOf, AreApart}
use Rattle.guest_pages.proofs.Seats.{seat_at, seek_at, seek_none, seek_taken, seek_emptied}

abbrev pub taken : PagesValue → ℕ → Entry → List ℕ → PagesValue
taken pages k entry recent = record { frames = pages.frames; slots = set pages.slots k (Some entry); recent = recent }

abbrev pub entry_mapped : ℕ → Entry → Mapped
entry_mapped k entry = record { slot = k; perms = entry.perms.0; resident = is_resident entry.place }

pub size_taken : (pages : PagesValue) (k : ℕ) (entry : Entry) (recent : List ℕ) → KeepsSize pages (taken pages k entry recent)
size_taken pages k entry recent = record { frames = refl; pages = length-set pages.slots k (let o : Option Entry = Some entry in o) }

map_cond : {X Y : Type 0} (f : X → Y) (b : Bool) (x y : Option X) → option_map f (cond b x y) ≡ cond b (option_map f x) (option_map f y)
map_cond f true x y = refl
map_cond f false x y = refl

pub table_taken : (pages : PagesValue) (k : ℕ) (entry : Entry) (recent : List ℕ) → CanTake pages.slots entry.page k
    → table_of (taken pages k entry recent) ≡ with_entry (table_of pages) entry.page (Some (entry_mapped k entry))
unfolding table_of
table_taken pages k entry recent can = λ i page.
    (ap (option_map mapped_of) (seek_taken pages.slots k entry page can) ∙ map_cond mapped_of (page == entry.page) _ _) i

byte_cond : (swap : Swap) (b : Bool) (x y : Option Seat) (at : ℕ) → seat_byte swap (cond b x y) at ≡ cond b (seat_byte swap x at) (seat_byte swap y at)
byte_cond swap true x y at = refl
byte_cond swap false x y at = refl

pub byte_taken : (pages : PagesValue) (k : ℕ) (entry : Entry) (recent : List ℕ) → CanTake pages.slots entry.page k → (swap : Swap) (addr : ℕ)
    → byte_of (taken pages k entry recent) swap addr
    ≡ cond (addr / page_size == entry.page) (seat_byte swap (seat_at k entry) (addr % page_size)) (byte_of pages swap addr)
unfolding byte_of
byte_taken pages k entry recent can swap addr =
    ap (λ (seat : Option Seat). seat_byte swap seat (addr % page_size)) (seek_taken pages.slots k entry (addr / page_size) can)
    ∙ byte_cond swap (addr / page_size == entry.page) _ _ (addr % page_size)

pub count_taken : (pages : PagesValue) (k : ℕ) (entry : Entry) (recent : List ℕ) → k < length pages.slots
    → mapped_count (taken pages k entry recent) + cond (is_some (get_or pages.slots k None)) 1 0 ≡ mapped_count pages + 1
unfolding mapped_count
count_taken pages k entry recent within = sum_by-set (λ o. cond (is_some o) 1 0) pages.slots k (Some entry) None within

pub frames_taken : (slots : List (Option Entry)) (k : ℕ) (entry : Entry) → k < length slots
    → count_by is_in_frame (set slots k (Some entry)) + cond (is_in_frame (get_or slots k None)) 1 0
    ≡ count_by is_in_frame slots + cond (is_resident entry.place) 1 0
frames_taken slots k entry within = sum_by-set (λ o. cond (is_in_frame o) 1 0) slots k (Some entry) None within

same_case : (table : Table) (page at : ℕ) (entry : Option Mapped) → table page ≡ entry → with_entry table page entry at ≡ table at
same_case table page at entry is = ⊎_elim
    (λ (same : at ≡ page). rw (eq-eqb at page same, same) (sym is))
    (λ (other : at ≢ page). rw (ne_eqb at page other) refl)
    (cases_eq at page)

-- a table with the entry that it has
pub with_entry_same : (table : Table) (page : ℕ) (entry : Option Mapped) → table page ≡ entry → with_entry table page entry ≡ table
with_entry_same table page entry is = λ i at. same_case table page at entry is i

-- a slot given to an entry of which the table says the same
pub table_kept : (pages : PagesValue) (k : ℕ) (entry : Entry) (recent : List ℕ) → CanTake pages.slots entry.page k → table_of pages entry.page ≡ Some (entry_mapped k entry)
    → table_of (taken pages k entry recent) ≡ table_of pages
table_kept pages k entry recent can is = table_taken pages k entry recent can ∙ with_entry_same (table_of pages) entry.page (Some (entry_mapped k entry)) is

-- as many pages are mapped where a slot that held one is given to an entry
pub count_kept : (pages : PagesValue) (k : ℕ) (entry before : Entry) (recent : List ℕ) → k < length pages.slots → get_or pages.slots k None ≡ Some before
    → mapped_count (taken pages k entry recent) ≡ mapped_count pages
count_kept pages k entry before recent within is = let counts : mapped_count (taken pages k entry recent) + 1 ≡ mapped_count pages + 1 = rw is at (count_taken pages k entry recent within) in omega arith

mark_cond : (b : Bool) (x y : Option Seat) → option_and_then (λ seat. mark_in seat.entry.place) (cond b x y)
    ≡ cond b (option_and_then (λ seat. mark_in seat.entry.place) x) (option_and_then (λ seat. mark_in seat.entry.place) y)
mark_cond true x y = refl
mark_cond false x y = refl

pub mark_taken : (pages : PagesValue) (k : ℕ) (entry : Entry) (recent : List ℕ) → CanTake pages.slots entry.page k
    → mark_of (taken pages k entry recent) ≡ with_mark (mark_of pages) entry.page (mark_in entry.place)
unfolding mark_of
mark_taken pages k entry recent can = λ i page.
    (ap (option_and_then (λ seat. mark_in seat.entry.place)) (seek_taken pages.slots k entry page can) ∙ mark_cond (page == entry.page) _ _) i

pub mark_at : (pages : PagesValue) (page k : ℕ) (entry : Entry) → IsSeatOf pages.slots page k → get_or pages.slots k None ≡ Some entry → mark_of pages page ≡ mark_in entry.place
unfolding mark_of
mark_at pages page k entry seat is = ap (option_and_then (λ seat. mark_in seat.entry.place)) (seek_at pages.slots page k entry seat is)

pub mark_none : (pages : PagesValue) (page : ℕ) → LacksPage pages.slots page → mark_of pages page ≡ None
unfolding mark_of
mark_none pages page lacks = rw (seek_none 0 pages.slots page lacks) refl

same_mark : (marks : Marks) (page at : ℕ) (mark : Option Mark) → marks page ≡ mark → with_mark marks page mark at ≡ marks at
same_mark marks page at mark is = ⊎_elim
    (λ (same : at ≡ page). rw (eq-eqb at page same, same) (sym is))
    (λ (other : at ≢ page). rw (ne_eqb at page other) refl)
    (cases_eq at page)

swapped_cond : (b : Bool) (x y : Option Seat) → seat_swapped (cond b x y) ≡ cond b (seat_swapped x) (seat_swapped y)
swapped_cond true x y = refl
swapped_cond false x y = refl

pub swapped_taken : (pages : PagesValue) (k : ℕ) (entry : Entry) (recent : List ℕ) → CanTake pages.slots entry.page k → (page : ℕ)
    → is_swapped (taken pages k entry recent) page ≡ cond (page == entry.page) (is_on_swap entry.place) (is_swapped pages page)
unfolding is_swapped
swapped_taken pages k entry recent can page =
    ap seat_swapped (seek_taken pages.slots k entry page can) ∙ swapped_cond (page == entry.page) _ _

-- marks with the one that they have
pub with_mark_same : (marks : Marks) (page : ℕ) (mark : Option Mark) → marks page ≡ mark → with_mark marks page mark ≡ marks
with_mark_same marks page mark is = λ i at. same_mark marks page at mark is i

abbrev pub emptied : PagesValue → ℕ → PagesValue
emptied pages k = record { frames = pages.frames; slots = set pages.slots k None; recent = without k pages.recent }

-- the pages where a slot gives its page up
pub emptied_there : (pages : PagesValue) (page k : ℕ) (entry : Entry) → AreApart pages.slots → IsSeatOf pages.slots page k → get_or pages.slots k None ≡ Some entry
    → IsUnmapped pages (emptied pages k) page
unfolding table_of byte_of mark_of mapped_count
emptied_there pages page k entry apart seat is = record {
  size = record { frames = refl; pages = length-set pages.slots k None };
  table = λ i q. (ap (option_map mapped_of) (seek_emptied pages.slots k page q apart seat) ∙ map_cond mapped_of (q == page) _ _) i;
  byte = λ swap i at.
      (ap (λ (seat : Option Seat). seat_byte swap seat (at % page_size)) (seek_emptied pages.slots k page (at / page_size) apart seat) ∙ byte_cond swap (at / page_size == page) _ _ (at % page_size)) i;
  recent = rw (seek_at pages.slots page k entry seat is) refl;
  marks = λ i q. (ap (option_and_then (λ seat. mark_in seat.entry.place)) (seek_emptied pages.slots k page q apart seat) ∙ mark_cond (q == page) _ _) i;
  count =
      let counts : count_by is_some (set pages.slots k None) + 1 ≡ count_by is_some pages.slots + 0 = rw is at (sum_by-set (λ o. cond (is_some o) 1 0) pages.slots k None None seat.within) in
      rw (seek_at pages.slots page k entry seat is) (omega arith);
}

pub frames_emptied : (slots : List (Option Entry)) (k : ℕ) → k < length slots
    → count_by is_in_frame (set slots k None) + cond (is_in_frame (get_or slots k None)) 1 0 ≡ count_by is_in_frame slots
frames_emptied slots k within = (let counts = sum_by-set (λ o. cond (is_in_frame o) 1 0) slots k None None within in counts) ∙ add-zero (count_by is_in_frame slots)

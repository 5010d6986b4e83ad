-- Lemmas on the table of the mapped pages.
use Rattle.std.proofs.Common.{◌≡◌, ℕ, ◌+◌, ◌/◌, ◌<◌, List, [], ◌∷◌, true, false, Option, Some, None, length, get_or, refl, sym, ap, ◌∙◌, arith, suc, ◌==◌, ⊎_elim, add-zero, zero-add}
use Rattle.std.proofs.lemmas.Bool.{lt-leb, cases_Bool}
use Rattle.std.specs.Option.{option_map}
use Rattle.machine_state.specs.declared.kinds.Kind.{Kind}
use Rattle.machine_state.specs.declared.kinds.Miss.{Miss}
use Rattle.machine_state.specs.declared.kinds.Miss.TheVariants.{Denied}
use Rattle.machine_state.specs.Memory.{page_size, miss_at, permits}
use Rattle.guest_pages.specs.declared.entry.Entry.{Entry}
use Rattle.guest_pages.specs.Entry.{holds_page, slot_permits, is_resident}
use Rattle.guest_pages.specs.Table.{Mapped, perms_in}
use Rattle.guest_pages.specs.Pages.{PagesValue, Seat, seek, mapped_of, table_of}
use Rattle.guest_pages.specs.Slots.{LacksPage, IsSeatOf, AreSound, IsGranted}
use Rattle.guest_pages.proofs.Seats.{seek_at, seek_none, entry_there}

pub table_none : (pages : PagesValue) (page : ℕ) → LacksPage pages.slots page → table_of pages page ≡ None
unfolding table_of
table_none pages page lacks = ap (option_map mapped_of) (seek_none 0 pages.slots page lacks)

pub table_at : (pages : PagesValue) (page k : ℕ) (entry : Entry) → IsSeatOf pages.slots page k → get_or pages.slots k None ≡ Some entry
    → table_of pages page ≡ Some (record { slot = k; perms = entry.perms.0; resident = is_resident entry.place })
unfolding table_of
table_at pages page k entry seat is = ap (option_map mapped_of) (seek_at pages.slots page k entry seat is)

-- the byte where no page is mapped
pub miss_unmapped : (pages : PagesValue) (kind : Kind) (addr : ℕ) (miss : Miss) → LacksPage pages.slots (addr / page_size)
    → ((any : Kind) → miss_at (λ _. None) any addr ≡ Some miss) → miss_at (perms_in (table_of pages)) kind addr ≡ Some miss
miss_unmapped pages kind addr miss lacks is = rw (table_none pages (addr / page_size) lacks) (is kind)

canonical : (slots : List (Option Entry)) (addr k : ℕ) → AreSound slots → IsSeatOf slots (addr / page_size) k → addr < 0x800000000000
canonical slots addr k sound seat = let low : addr / page_size < 0x800000000 = sound.low k (addr / page_size) seat.within seat.here in omega arith

-- a page that grants the access
pub granted : (pages : PagesValue) (kind : Kind) (addr k : ℕ) → AreSound pages.slots → IsSeatOf pages.slots (addr / page_size) k
    → slot_permits (get_or pages.slots k None) kind ≡ true → IsGranted pages kind addr k
granted pages kind addr k sound seat may =
    let low = canonical pages.slots addr k sound seat in
    let there = entry_there (get_or pages.slots k None) (addr / page_size) seat.here in
    let allows : permits kind there.0.perms.0 ≡ true = rw there.1 at may in
    record {
      grants = rw (lt-leb 0x800000000000 addr low, table_at pages (addr / page_size) k there.0 seat there.1, allows) refl;
      low = low;
      seat = seat;
    }

-- a page that doesn't
pub denied : (pages : PagesValue) (kind : Kind) (addr k : ℕ) → AreSound pages.slots → IsSeatOf pages.slots (addr / page_size) k
    → slot_permits (get_or pages.slots k None) kind ≡ false → miss_at (perms_in (table_of pages)) kind addr ≡ Some (Denied addr)
denied pages kind addr k sound seat not_so =
    let low = canonical pages.slots addr k sound seat in
    let there = entry_there (get_or pages.slots k None) (addr / page_size) seat.here in
    let denies : permits kind there.0.perms.0 ≡ false = rw there.1 at not_so in
    rw (lt-leb 0x800000000000 addr low, table_at pages (addr / page_size) k there.0 seat there.1, denies) refl

found_from : (n : ℕ) (slots : List (Option Entry)) (page : ℕ) (seat : Seat) → seek n slots page ≡ Some seat
    → (i : ℕ) × (seat.slot ≡ n + i) × (i < length slots) × (holds_page (get_or slots i None) page ≡ true)
found_from n [] page seat is = cc
found_from n (None ∷ slots) page seat is =
    let there = found_from (n + 1) slots page seat is in
    (suc there.0, (let e = there.1 in omega arith), (let h = there.2 in omega arith), there.3)
found_from n (Some entry ∷ slots) page seat is = ⊎_elim
    (λ (here : (page == entry.page) ≡ true).
    let e : ◌≡◌ {A = Option Seat} (Some (record { slot = n; entry = entry })) (Some seat) = rw here at is in
    let same : record { slot = n; entry = entry } ≡ seat = some_same _ _ e in
    (0, ap (λ (s : Seat). s.slot) (sym same) ∙ sym (add-zero n), omega arith, here))
    (λ (off : (page == entry.page) ≡ false).
    let rest : seek (n + 1) slots page ≡ Some seat = rw off at is in
    let there = found_from (n + 1) slots page seat rest in
    (suc there.0, (let e = there.1 in omega arith), (let h = there.2 in omega arith), there.3))
    (cases_Bool (page == entry.page))
  where
    some_same : (a b : Seat) → ◌≡◌ {A = Option Seat} (Some a) (Some b) → a ≡ b
    some_same a b e = cc

mapped_seat : (seat : Option Seat) (mapped : Mapped) → option_map mapped_of seat ≡ Some mapped → (there : Seat) × (seat ≡ Some there) × (mapped.slot ≡ there.slot)
mapped_seat None mapped h = cc
mapped_seat (Some there) mapped h = (there, refl, ap (λ (o : Option Mapped). slot_or o 0) (sym h))
  where
    slot_or : Option Mapped → ℕ → ℕ
    slot_or None n = n
    slot_or (Some m) n = m.slot

-- the slot of a mapped page holds it
pub mapped_entry : (pages : PagesValue) (page : ℕ) (mapped : Mapped) → table_of pages page ≡ Some mapped
    → (mapped.slot < length pages.slots) × (holds_page (get_or pages.slots mapped.slot None) page ≡ true)
unfolding table_of
mapped_entry pages page mapped is =
    let seat = mapped_seat (seek 0 pages.slots page) mapped is in
    let there = found_from 0 pages.slots page seat.0 seat.1 in
    let same : mapped.slot ≡ there.0 = seat.2 ∙ there.1 ∙ zero-add there.0 in
    (rw same there.2, rw same there.3)

-- a page that a slot holds is mapped
pub table_some : (pages : PagesValue) (page k : ℕ) → IsSeatOf pages.slots page k → table_of pages page ≡ None → ⊥
table_some pages page k seat none =
    let there = entry_there (get_or pages.slots k None) page seat.here in
    let some = table_at pages page k there.0 seat there.1 in
    cc

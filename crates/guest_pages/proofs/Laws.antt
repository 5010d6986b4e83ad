-- Lemmas on what holds of pages at any time.
use Rattle.std.proofs.Common.{◌≡◌, ◌≢◌, ℕ, ◌+◌, ◌<◌, ◌≤◌, ◌/◌, reverse, ⊎_elim, ◌%◌, ◌==◌, ◌||◌, IsSome, List, [], ◌∷◌, length, get_or, Bool, true, false, cond, Option, Some, None, suc, is_some, nat_eq, count_by, refl, sym, ap, ◌∙◌, arith, zero-add}
use Rattle.std.specs.Option.{option_map}
use Rattle.std.specs.List.{list_any, IsDistinct, AllByRecursion}
use Rattle.std.proofs.lemmas.List.Sums.{count_by-le-length, sum_by-cons}
use Rattle.std.proofs.lemmas.Bool.{eq-eqb, ne_eqb, false≢true, cases_eq, cases_lt}
use Rattle.std.proofs.lemmas.List.{length-reverse, get_or_past}
use Rattle.std.proofs.lemmas.List.Sorted.{IsPermutation-reverse, list_any-IsPermutation}
use Rattle.std.proofs.lemmas.Map.Keys.{IsDistinct-IsPermutation}
use Rattle.guest_pages.specs.declared.lists.Lists.{Lists}
use Rattle.guest_pages.specs.Order.{is_recent, IsResidentIn, AreOrdered}
use Rattle.machine_state.specs.Memory.{page_size, Swap}
use Rattle.guest_pages.specs.declared.entry.Entry.{Entry}
use Rattle.guest_pages.specs.Entry.{is_in_frame, is_resident}
use Rattle.guest_pages.specs.Table.{Mapped, in_frame}
use Rattle.guest_pages.specs.Pages.{PagesValue, Seat, seek, seat_byte, byte_of, mapped_of, table_of, mapped_count, resident_count}
use Rattle.guest_pages.specs.Laws.{AreMapped, AreCounted, HaveSlots, FitMemory}
use Rattle.guest_pages.specs.Slots.{LacksPage, IsSeatOf, AreApart, AreSound, IsOrdered, IsInOrder}
use Rattle.guest_pages.proofs.Seats.{seat_of, same_page, entry_there}
use Rattle.guest_pages.proofs.Tables.{table_at, mapped_entry}
use Rattle.guest_pages.proofs.Keeps.{kept_few}

-- the pages that slots hold
abbrev held : List (Option Entry) → List ℕ
held [] = []
held (None ∷ slots) = held slots
held (Some entry ∷ slots) = entry.page ∷ held slots

held_count : (slots : List (Option Entry)) → count_by is_some slots ≡ length (held slots)
held_count [] = refl
held_count (None ∷ slots) = sum_by-cons (λ (o : Option Entry). cond (is_some o) 1 0) None slots ∙ zero-add (count_by is_some slots) ∙ held_count slots
held_count (Some entry ∷ slots) =
    let rest : count_by is_some slots ≡ length (held slots) = held_count slots in
    sum_by-cons (λ (o : Option Entry). cond (is_some o) 1 0) (Some entry) slots ∙ omega arith

or_cond : (b : Bool) (seat : Seat) (rest : Option Seat) → (b || is_some rest) ≡ is_some (cond b (Some seat) rest)
or_cond true seat rest = refl
or_cond false seat rest = refl

held_has : (n : ℕ) (slots : List (Option Entry)) (page : ℕ) → list_any (λ other. page == other) (held slots) ≡ is_some (seek n slots page)
held_has n [] page = refl
held_has n (None ∷ slots) page = held_has (n + 1) slots page
held_has n (Some entry ∷ slots) page =
    ap (λ (b : Bool). (page == entry.page) || b) (held_has (n + 1) slots page) ∙ or_cond (page == entry.page) (record { slot = n; entry = entry }) (seek (n + 1) slots page)

held_off : (slots : List (Option Entry)) (page : ℕ) → LacksPage slots page → AllByRecursion (λ other. nat_eq page other ≡ false) (held slots)
held_off [] page lacks = tt
held_off (None ∷ slots) page lacks = held_off slots page (λ i h. lacks (suc i) (omega arith))
held_off (Some entry ∷ slots) page lacks = (lacks 0 (omega arith), held_off slots page (λ i h. lacks (suc i) (omega arith)))

rest_apart : (o : Option Entry) (slots : List (Option Entry)) → AreApart (o ∷ slots) → AreApart slots
rest_apart o slots apart = λ i j page l h held. apart (suc i) (suc j) page (omega arith) (omega arith) held

held_once : (slots : List (Option Entry)) → AreApart slots → IsDistinct nat_eq (held slots)
unfolding IsDistinct
held_once [] apart = tt
held_once (None ∷ slots) apart = held_once slots (rest_apart None slots apart)
held_once (Some entry ∷ slots) apart =
    (held_off slots entry.page (λ i h. apart 0 (suc i) entry.page (omega arith) (omega arith) (eq-eqb entry.page entry.page refl)), held_once slots (rest_apart (let o : Option Entry = Some entry in o) slots apart))

held_frames : (slots : List (Option Entry)) (f : ℕ → Bool) → ((k : ℕ) (entry : Entry) → k < length slots → get_or slots k None ≡ Some entry → f entry.page ≡ is_resident entry.place)
    → count_by is_in_frame slots ≡ count_by f (held slots)
held_frames [] f each = refl
held_frames (None ∷ slots) f each =
    sum_by-cons (λ (o : Option Entry). cond (is_in_frame o) 1 0) None slots ∙ zero-add (count_by is_in_frame slots) ∙ held_frames slots f (λ k entry h is. each (suc k) entry (omega arith) is)
held_frames (Some entry ∷ slots) f each =
    let rest : count_by is_in_frame slots ≡ count_by f (held slots) = held_frames slots f (λ k other h is. each (suc k) other (omega arith) is) in
    let here : f entry.page ≡ is_resident entry.place = each 0 entry (omega arith) refl in
    sum_by-cons (λ (o : Option Entry). cond (is_in_frame o) 1 0) (Some entry) slots
    ∙ rw (rest, here) refl
    ∙ sym (sum_by-cons (λ (page : ℕ). cond (f page) 1 0) entry.page (held slots))

map_some : (seat : Option Seat) → is_some (option_map mapped_of seat) ≡ is_some seat
map_some None = refl
map_some (Some seat) = refl

held_mapped : (pages : PagesValue) → AreApart pages.slots → AreMapped (table_of pages) (held pages.slots)
unfolding table_of
held_mapped pages apart = record {
  once = held_once pages.slots apart;
  has = λ page. held_has 0 pages.slots page ∙ sym (map_some (seek 0 pages.slots page));
}

held_in_frame : (pages : PagesValue) → AreApart pages.slots → (k : ℕ) (entry : Entry) → k < length pages.slots → get_or pages.slots k None ≡ Some entry
    → in_frame (table_of pages entry.page) ≡ is_resident entry.place
held_in_frame pages apart k entry within is =
    ap in_frame (table_at pages entry.page k entry (seat_of pages.slots entry.page k apart within (rw is (eq-eqb entry.page entry.page refl))) is)

-- what the counts of pages count
pub pages_counted : (pages : PagesValue) (free capacity room : ℕ) (lists : Lists) (order : List ℕ) → pages.recent ≡ reverse order
    → IsInOrder pages.slots pages.frames free capacity lists order room → AreCounted pages
unfolding mapped_count resident_count
pages_counted pages free capacity room lists order recent whole = record {
  mapped = held pages.slots;
  mapped_are = held_mapped pages whole.kept.sound.apart;
  count = held_count pages.slots;
  most = count_by-le-length is_some pages.slots;
  frames = held_frames pages.slots (λ page. in_frame (table_of pages page)) (held_in_frame pages whole.kept.sound.apart);
  brought = sym (rw recent (length-reverse order ∙ whole.ordered.count));
  room = kept_few pages free capacity whole.kept.shares;
  some = whole.some;
}

-- each mapped page has a slot of its own
pub pages_slots : (pages : PagesValue) → HaveSlots pages
pages_slots pages = record {
  within = λ page mapped is. (mapped_entry pages page mapped is).0;
  apart = λ page other one two first second same.
      same_page (get_or pages.slots one.slot None) page other (mapped_entry pages page one first).1 (rw same (mapped_entry pages other two second).1);
}

low_case : (pages : PagesValue) (page : ℕ) → AreSound pages.slots → (there : Option Mapped) → table_of pages page ≡ there → IsSome there → page < 0x800000000
low_case pages page sound None is some = absurd (false≢true some)
low_case pages page sound (Some mapped) is some = let seat = mapped_entry pages page mapped is in sound.low mapped.slot page seat.0 seat.1

zero_case : (swap : Swap) (seat : Option Seat) (at : ℕ) → option_map mapped_of seat ≡ None → seat_byte swap seat at ≡ 0
zero_case swap None at h = refl
zero_case swap (Some seat) at h = cc

-- pages lie low, and where none is mapped bytes are 0
pub pages_memory : (pages : PagesValue) → AreSound pages.slots → FitMemory pages
unfolding table_of byte_of
pages_memory pages sound = record {
  low = λ page some. low_case pages page sound (table_of pages page) refl some;
  zeros = λ swap addr none. zero_case swap (seek 0 pages.slots (addr / page_size)) (addr % page_size) none;
}

nat_flip : (a b : ℕ) → nat_eq a b ≡ nat_eq b a
nat_flip a b = ⊎_elim
    (λ (same : a ≡ b). rw same refl)
    (λ (other : a ≢ b). ne_eqb a b other ∙ sym (ne_eqb b a (λ e. other (sym e))))
    (cases_eq a b)

-- the slot of a mapped page is in a frame or not as the table says
pub framed_slot : (pages : PagesValue) (page : ℕ) (mapped : Mapped) → AreApart pages.slots → table_of pages page ≡ Some mapped
    → (entry : Entry) × (IsSeatOf pages.slots page mapped.slot) × (get_or pages.slots mapped.slot None ≡ Some entry) × (entry.page ≡ page)
    × (record { slot = mapped.slot; perms = entry.perms.0; resident = is_resident entry.place } ≡ mapped)
framed_slot pages page mapped apart is =
    let there = mapped_entry pages page mapped is in
    let seat = seat_of pages.slots page mapped.slot apart there.0 there.1 in
    let entry = entry_there (get_or pages.slots mapped.slot None) page there.1 in
    let same : ◌≡◌ {A = Option Mapped} (Some (record { slot = mapped.slot; perms = entry.0.perms.0; resident = is_resident entry.0.place })) (Some mapped) =
    sym (table_at pages page mapped.slot entry.0 seat entry.1) ∙ is in
    (entry.0, seat, entry.1, entry.2, some_same _ _ same)
  where
    some_same : (a b : Mapped) → ◌≡◌ {A = Option Mapped} (Some a) (Some b) → a ≡ b
    some_same a b e = cc

module _ (pages : PagesValue) (order : List ℕ) (apart : AreApart pages.slots) (recent : pages.recent ≡ reverse order) (ordered : IsOrdered pages.slots order) where
  recent_has : (slot : ℕ) → is_recent pages.recent slot ≡ is_in_frame (get_or pages.slots slot None)
  recent_has slot = rw recent (sym (list_any-IsPermutation (λ (other : ℕ). slot == other) order (reverse order) (IsPermutation-reverse order)) ∙ ordered.has slot)

  in_slot : (slot : ℕ) (held : Option Entry) → get_or pages.slots slot None ≡ held → is_in_frame held ≡ true → IsResidentIn pages slot
  in_slot slot None is resident = absurd (false≢true resident)
  in_slot slot (Some entry) is resident =
      let within : slot < length pages.slots = ⊎_elim
      (λ (l : slot < length pages.slots). l)
      (λ (l : length pages.slots ≤ slot). absurd (let none : ◌≡◌ {A = Option Entry} None (Some entry) = sym (get_or_past pages.slots slot None l) ∙ is in cc))
      (cases_lt slot (length pages.slots)) in
      let seat = seat_of pages.slots entry.page slot apart within (rw is (eq-eqb entry.page entry.page refl)) in
      record {
        page = entry.page;
        mapped = record { slot = slot; perms = entry.perms.0; resident = is_resident entry.place };
        there = record { is = table_at pages entry.page slot entry seat is; slot_is = refl };
        resident_is = resident;
      }

  -- what the order names
  pub pages_ordered : AreOrdered pages
  pages_ordered = record {
    once = rw recent (IsDistinct-IsPermutation nat_eq nat_flip order (reverse order) (IsPermutation-reverse order) ordered.once);
    has = λ page mapped is.
        let there = framed_slot pages page mapped apart is in
        recent_has mapped.slot ∙ rw there.2 (ap (λ (m : Mapped). m.resident) there.4);
    only = λ slot is. in_slot slot (get_or pages.slots slot None) refl (sym (recent_has slot) ∙ is);
  }

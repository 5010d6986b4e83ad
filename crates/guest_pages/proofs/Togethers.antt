-- Lemmas on what joins the pages and a swap.
use Rattle.std.proofs.Common.{◌≡◌, ◌≢◌, ℕ, ◌*◌, ◌/◌, ◌%◌, ◌==◌, List, [], ◌∷◌, Bool, true, false, cond, Option, Some, None, IsSome, is_some, reverse, refl, sym, ap, ◌∙◌, arith, subst, ⊎_elim}
use Rattle.std.specs.Option.{option_map, option_and_then}
use Rattle.std.proofs.lemmas.Bool.{cases_eq, cases_Bool, eq-eqb, ne_eqb, false≢true}
use Rattle.machine_state.specs.Memory.{page_size, Swap, zeroed}
use Rattle.guest_pages.specs.declared.entry.Mark.{Mark}
use Rattle.guest_pages.specs.declared.entry.Mark.TheVariants.{Written}
use Rattle.guest_pages.specs.declared.entry.Place.{Place}
use Rattle.guest_pages.specs.declared.entry.Place.TheVariants.{Resident, Zeros, Swapped}
use Rattle.guest_pages.specs.declared.lists.Lists.{Lists}
use Rattle.guest_pages.specs.Entry.{is_resident, is_on_swap, mark_in, place_byte}
use Rattle.guest_pages.specs.Table.{Mapped, Table, with_entry}
use Rattle.guest_pages.specs.Pages.{PagesValue, Seat, seek, mapped_of, seat_byte, seat_swapped, table_of, byte_of, mark_of, is_swapped}
use Rattle.guest_pages.specs.Changes.{KeepsPage, KeepsTable, IsWritten, IsBlank, IsMapped, IsUnmapped, IsProtected, IsZeroed, Marks, with_mark, with_perms, away_byte, is_kept}
use Rattle.guest_pages.specs.Together.{AreClean, IsPlaced, AreTogether, NoneSwapped, is_clean}
use Rattle.guest_pages.specs.Slots.{IsInOrder}
use Rattle.guest_pages.proofs.Carries.{keeps_written}
use Rattle.guest_pages.proofs.Laws.{pages_counted, pages_ordered}

same_eqb : (a : ℕ) → (a == a) ≡ true
same_eqb a = eq-eqb a a refl

-- a page that stays as it is, in the slot that it has
pub clean_kept : (old new : PagesValue) (swap : Swap) (page : ℕ) (was mapped : Mapped) → AreClean old swap → table_of old page ≡ Some was → was.slot ≡ mapped.slot → KeepsPage old new page
    → is_clean (mark_of new page) ≡ true → (addr : ℕ) → addr / page_size ≡ page
    → byte_of new swap addr ≡ away_byte (is_kept (mark_of new page)) (swap mapped.slot) (addr % page_size)
clean_kept old new swap page was mapped clean is slot_is kept unwritten addr on =
    let mark = kept.mark in
    kept.bytes swap addr on ∙ clean.clean page was is (rw (← mark) unwritten) addr on ∙ rw (← mark, slot_is) refl

written_unclean : (mark : Option Mark) → mark ≡ Some Written → is_clean mark ≡ true → ⊥
written_unclean mark is unwritten = false≢true (rw is at unwritten)

-- accesses keep it
pub clean_table : (old new : PagesValue) (swap : Swap) → KeepsTable old new → AreClean old swap → AreClean new swap
clean_table old new swap keeps clean = record {
  clean = λ page mapped is unwritten addr on. ⊎_elim
      (λ (kept : KeepsPage old new page).
      clean_kept old new swap page mapped mapped clean (sym (ap (λ (t : Table). t page) keeps.table) ∙ is) refl kept unwritten addr on)
      (λ (marked : mark_of new page ≡ Some Written). absurd (written_unclean (mark_of new page) marked unwritten))
      (keeps.pages page);
}

pub clean_written : (old new : PagesValue) (swap : Swap) (addr : ℕ) (bytes : List ℕ) → IsWritten old new addr bytes → AreClean old swap → AreClean new swap
clean_written old new swap addr bytes written clean = clean_table old new swap (keeps_written old new addr bytes written) clean

-- a page beside the one that is mapped anew or not any more
table_off : (old new : PagesValue) (page other : ℕ) (entry : Option Mapped) → table_of new ≡ with_entry (table_of old) page entry → (other == page) ≡ false → table_of new other ≡ table_of old other
table_off old new page other entry table out = ap (λ (t : Table). t other) table ∙ rw out refl

kept_off : (old new : PagesValue) (page other : ℕ) (mark : Option Mark) → ((swap : Swap) → byte_of new swap ≡ zeroed (byte_of old swap) page)
    → mark_of new ≡ with_mark (mark_of old) page mark → (other == page) ≡ false → KeepsPage old new other
kept_off old new page other mark byte marks out = record {
  mark = ap (λ (m : Marks). m other) marks ∙ rw out refl;
  bytes = λ swap addr on. let there : (addr / page_size == page) ≡ false = rw on out in ap (λ (f : ℕ → ℕ). f addr) (byte swap) ∙ rw there refl;
}

zero_on : (old new : PagesValue) (page : ℕ) (swap : Swap) (addr : ℕ) → byte_of new swap ≡ zeroed (byte_of old swap) page → addr / page_size ≡ page → byte_of new swap addr ≡ 0
zero_on old new page swap addr byte on =
    let there : (addr / page_size == page) ≡ true = eq-eqb (addr / page_size) page on in
    ap (λ (f : ℕ → ℕ). f addr) byte ∙ rw there refl

mark_on : (old new : PagesValue) (page other : ℕ) (mark : Option Mark) → mark_of new ≡ with_mark (mark_of old) page mark → other ≡ page → mark_of new other ≡ mark
mark_on old new page other mark marks same = ap (λ (m : Marks). m other) marks ∙ rw (eq-eqb other page same) refl

-- a page that is mapped keeps it
pub clean_mapped : (old new : PagesValue) (swap : Swap) (page perms : ℕ) → IsMapped old new page perms → AreClean old swap → AreClean new swap
clean_mapped old new swap page perms m clean = record {
  clean = λ other mapped is unwritten addr on. ⊎_elim
      (λ (same : other ≡ page).
      absurd (false≢true (rw (mark_on old new page other None m.marks same) at unwritten)))
      (λ (apart : other ≢ page).
      let out = ne_eqb other page apart in
      clean_kept old new swap other mapped mapped clean (sym (table_off old new page other (Some m.entry) m.table out) ∙ is) refl
      (kept_off old new page other _ m.byte m.marks out) unwritten addr on)
      (cases_eq other page);
}

-- a page that is unmapped keeps it
pub clean_unmapped : (old new : PagesValue) (swap : Swap) (page : ℕ) → IsUnmapped old new page → AreClean old swap → AreClean new swap
clean_unmapped old new swap page m clean = record {
  clean = λ other mapped is unwritten addr on. ⊎_elim
      (λ (same : other ≡ page). absurd (false≢true (rw (mark_on old new page other None m.marks same) at unwritten)))
      (λ (apart : other ≢ page).
      let out = ne_eqb other page apart in
      clean_kept old new swap other mapped mapped clean (sym (table_off old new page other None m.table out) ∙ is) refl
      (kept_off old new page other _ m.byte m.marks out) unwritten addr on)
      (cases_eq other page);
}

pub perms_slot : (perms : ℕ) (was : Option Mapped) (mapped : Mapped) → option_map (with_perms perms) was ≡ Some mapped → (before : Mapped) × (was ≡ Some before) × (before.slot ≡ mapped.slot)
perms_slot perms None mapped h = cc
perms_slot perms (Some before) mapped h = (before, refl, ap (λ (o : Option Mapped). slot_or o before.slot) h)
  where
    slot_or : Option Mapped → ℕ → ℕ
    slot_or None n = n
    slot_or (Some m) n = m.slot

-- other permissions keep it
pub clean_protected : (old new : PagesValue) (swap : Swap) (page perms : ℕ) → IsProtected old new page perms → AreClean old swap → AreClean new swap
clean_protected old new swap page perms m clean = record {
  clean = λ other mapped is unwritten addr on.
      let before = was other mapped is in
      clean_kept old new swap other before.0 mapped clean before.1 before.2 (kept other) unwritten addr on;
}
  where
    kept : (other : ℕ) → KeepsPage old new other
    kept other = record { mark = ap (λ (k : Marks). k other) m.marks; bytes = λ swap addr on. ap (λ (f : ℕ → ℕ). f addr) (m.byte swap) }

    was : (other : ℕ) (mapped : Mapped) → table_of new other ≡ Some mapped → (before : Mapped) × (table_of old other ≡ Some before) × (before.slot ≡ mapped.slot)
    was other mapped is = ⊎_elim
        (λ (same : other ≡ page).
        let here : table_of new other ≡ option_map (with_perms perms) (table_of old other) = ap (λ (t : Table). t other) m.table ∙ rw (eq-eqb other page same, same) refl in
        perms_slot perms (table_of old other) mapped (sym here ∙ is))
        (λ (apart : other ≢ page).
        (mapped, sym (table_off old new page other _ m.table (ne_eqb other page apart)) ∙ is, refl))
        (cases_eq other page)

-- it holds where no page is mapped
pub clean_blank : (pages : PagesValue) (swap : Swap) (frames most : ℕ) → IsBlank pages frames most → AreClean pages swap
clean_blank pages swap frames most blank = record {
  clean = λ page mapped is unwritten addr on. absurd (false≢true (rw (blank.marks page) at unwritten));
}

placed_frame : (place : Place) → is_some (mark_in place) ≡ is_resident place
placed_frame (Resident bytes mark) = refl
placed_frame Zeros = refl
placed_frame Swapped = refl

placed_swapped : (place : Place) → is_on_swap place ≡ true → is_resident place ≡ false
placed_swapped (Resident bytes mark) h = absurd (false≢true h)
placed_swapped Zeros h = refl
placed_swapped Swapped h = refl

placed_away : (place : Place) (saved : List ℕ) (at : ℕ) → is_resident place ≡ false → place_byte saved place at ≡ away_byte (is_on_swap place) saved at
placed_away (Resident bytes mark) saved at h = absurd (false≢true (sym h))
placed_away Zeros saved at h = refl
placed_away Swapped saved at h = refl

seat_placed : (pages : PagesValue) (swap : Swap) (page : ℕ) (mapped : Mapped) (seat : Option Seat) → seek 0 pages.slots page ≡ seat → option_map mapped_of seat ≡ Some mapped
    → IsPlaced pages swap page mapped
unfolding byte_of mark_of is_swapped
seat_placed pages swap page mapped None is some = cc
seat_placed pages swap page mapped (Some seat) is some =
    let same : mapped_of seat ≡ mapped = some_same (mapped_of seat) mapped some in
    subst (λ (m : Mapped). IsPlaced pages swap page m) same (record {
      frame = rw is (placed_frame seat.entry.place);
      swapped = λ h. placed_swapped seat.entry.place (rw is at h);
      away = λ h addr on. rw (on, is) (placed_away seat.entry.place (swap seat.slot) (addr % page_size) h);
    })
  where
    some_same : (a b : Mapped) → ◌≡◌ {A = Option Mapped} (Some a) (Some b) → a ≡ b
    some_same a b e = cc

pub pages_placed : (pages : PagesValue) (swap : Swap) (page : ℕ) (mapped : Mapped) → table_of pages page ≡ Some mapped → IsPlaced pages swap page mapped
unfolding table_of
pages_placed pages swap page mapped is = seat_placed pages swap page mapped (seek 0 pages.slots page) refl is

-- the other three parts hold of pages at any time
pub pages_together : (pages : PagesValue) (free capacity room : ℕ) (lists : Lists) (order : List ℕ) (swap : Swap) → pages.recent ≡ reverse order
    → IsInOrder pages.slots pages.frames free capacity lists order room → AreClean pages swap → AreTogether pages swap
pages_together pages free capacity room lists order swap recent whole clean =
    let counts = pages_counted pages free capacity room lists order recent whole in
    let brought = counts.brought in
    let few = counts.room in
    record {
      frames = omega arith;
      places = λ page mapped is. pages_placed pages swap page mapped is;
      clean = clean;
      order = pages_ordered pages order whole.kept.sound.apart recent whole.ordered;
    }

elsewhere_case : (seat : Option Seat) (at : ℕ) (swap other : Swap) → ((mapped : Mapped) → option_map mapped_of seat ≡ Some mapped → swap mapped.slot ≡ other mapped.slot)
    → seat_byte swap seat at ≡ seat_byte other seat at
elsewhere_case None at swap other same = refl
elsewhere_case (Some seat) at swap other same = rw (same (mapped_of seat) refl) refl

-- a page shows the same over swaps that have the same for its slot
pub byte_elsewhere : (pages : PagesValue) (addr : ℕ) (swap other : Swap) → ((mapped : Mapped) → table_of pages (addr / page_size) ≡ Some mapped → swap mapped.slot ≡ other mapped.slot)
    → byte_of pages swap addr ≡ byte_of pages other addr
unfolding byte_of table_of
byte_elsewhere pages addr swap other same = elsewhere_case (seek 0 pages.slots (addr / page_size)) (addr % page_size) swap other same

pub ones : Swap
ones slot = 1 ∷ []

pub zeros : Swap
zeros slot = 0 ∷ []

-- the first byte of a page on the swap is what the swap says; that of another isn't the swap's
first_page : (page : ℕ) → page * page_size / page_size ≡ page
first_page page = omega arith

first_index : (page : ℕ) → page * page_size % page_size ≡ 0
first_index page = omega arith

unseen_case : (seat : Option Seat) (at : ℕ) (swap other : Swap) → seat_swapped seat ≡ false → seat_byte swap seat at ≡ seat_byte other seat at
unseen_case None at swap other h = refl
unseen_case (Some seat) at swap other h = place_case seat.entry.place h
  where
    place_case : (place : Place) → is_on_swap place ≡ false → place_byte (swap seat.slot) place at ≡ place_byte (other seat.slot) place at
    place_case (Resident bytes mark) h = refl
    place_case Zeros h = refl
    place_case Swapped h = absurd (false≢true (sym h))

seen_case : (seat : Option Seat) → seat_swapped seat ≡ true → seat_byte ones seat 0 ≡ seat_byte zeros seat 0 → ⊥
unfolding ones zeros
seen_case None h same = false≢true h
seen_case (Some seat) h same = place_case seat.entry.place h same
  where
    place_case : (place : Place) → is_on_swap place ≡ true → place_byte (1 ∷ []) place 0 ≡ place_byte (0 ∷ []) place 0 → ⊥
    place_case (Resident bytes mark) h same = false≢true h
    place_case Zeros h same = false≢true h
    place_case Swapped h same = absurd (omega (arith, same))

-- a page that shows the same whatever the swap holds isn't on the swap
unswapped : (pages : PagesValue) (page : ℕ) → byte_of pages ones (page * page_size) ≡ byte_of pages zeros (page * page_size) → is_swapped pages page ≡ false
unfolding byte_of is_swapped
unswapped pages page same = ⊎_elim
    (λ (swapped : seat_swapped (seek 0 pages.slots page) ≡ true).
    absurd (seen_case (seek 0 pages.slots page) swapped (rw (first_page page, first_index page) at same)))
    (λ (out : seat_swapped (seek 0 pages.slots page) ≡ false). out)
    (cases_Bool (seat_swapped (seek 0 pages.slots page)))

unseen : (pages : PagesValue) (addr : ℕ) (swap other : Swap) → is_swapped pages (addr / page_size) ≡ false → byte_of pages swap addr ≡ byte_of pages other addr
unfolding byte_of is_swapped
unseen pages addr swap other out = unseen_case (seek 0 pages.slots (addr / page_size)) (addr % page_size) swap other out

marked_case : (seat : Option Seat) → is_some (option_and_then (λ s. mark_in s.entry.place) seat) ≡ true → seat_swapped seat ≡ false
marked_case None h = refl
marked_case (Some seat) h = place_case seat.entry.place h
  where
    place_case : (place : Place) → is_some (mark_in place) ≡ true → is_on_swap place ≡ false
    place_case (Resident bytes mark) h = refl
    place_case Zeros h = refl
    place_case Swapped h = absurd (false≢true h)

marked : (pages : PagesValue) (page : ℕ) (mark : Mark) → mark_of pages page ≡ Some mark → is_swapped pages page ≡ false
unfolding mark_of is_swapped
marked pages page mark is = marked_case (seek 0 pages.slots page) (rw is refl)

-- accesses put no page to the swap
pub none_table : (old new : PagesValue) → KeepsTable old new → NoneSwapped old → NoneSwapped new
none_table old new keeps before = record {
  none = λ page. ⊎_elim
      (λ (kept : KeepsPage old new page).
      unswapped new page
      (kept.bytes ones (page * page_size) (first_page page)
      ∙ unseen old (page * page_size) ones zeros (rw (first_page page) (before.none page))
      ∙ sym (kept.bytes zeros (page * page_size) (first_page page))))
      (λ (is : mark_of new page ≡ Some Written). marked new page Written is)
      (keeps.pages page);
}

-- nor does a change of one page
pub none_same : (old new : PagesValue) → NoneSwapped old → ((addr : ℕ) → byte_of old ones addr ≡ byte_of old zeros addr → byte_of new ones addr ≡ byte_of new zeros addr) → NoneSwapped new
none_same old new before same = record {
  none = λ page. unswapped new page (same (page * page_size) (unseen old (page * page_size) ones zeros (before.none (page * page_size / page_size))));
}

zero_same : (b : Bool) (x y : ℕ) → x ≡ y → cond b 0 x ≡ cond b 0 y
zero_same true x y h = refl
zero_same false x y h = h

none_zeroed : (old new : PagesValue) (page : ℕ) → ((swap : Swap) → byte_of new swap ≡ zeroed (byte_of old swap) page) → NoneSwapped old → NoneSwapped new
none_zeroed old new page byte none = none_same old new none (λ addr h.
    ap (λ (f : ℕ → ℕ). f addr) (byte ones)
    ∙ zero_same (addr / page_size == page) (byte_of old ones addr) (byte_of old zeros addr) h
    ∙ sym (ap (λ (f : ℕ → ℕ). f addr) (byte zeros)))

pub none_mapped : (old new : PagesValue) (page perms : ℕ) → IsMapped old new page perms → NoneSwapped old → NoneSwapped new
none_mapped old new page perms m none = none_zeroed old new page m.byte none

pub none_unmapped : (old new : PagesValue) (page : ℕ) → IsUnmapped old new page → NoneSwapped old → NoneSwapped new
none_unmapped old new page m none = none_zeroed old new page m.byte none

pub none_protected : (old new : PagesValue) (page perms : ℕ) → IsProtected old new page perms → NoneSwapped old → NoneSwapped new
none_protected old new page perms m none = none_same old new none (λ addr h.
    ap (λ (f : ℕ → ℕ). f addr) (m.byte ones) ∙ h ∙ sym (ap (λ (f : ℕ → ℕ). f addr) (m.byte zeros)))

pub none_blank : (pages : PagesValue) (frames most : ℕ) → IsBlank pages frames most → NoneSwapped pages
none_blank pages frames most blank = record {
  none = λ page. unswapped pages page (blank.byte ones (page * page_size) ∙ sym (blank.byte zeros (page * page_size)));
}

-- a mapped page that is mapped anew is mapped, with the permissions that it has
zeroed_is : (old new : PagesValue) (page : ℕ) (P : Type 0) → IsSome (table_of old page) → IsZeroed old new page → ((perms : ℕ) → IsMapped old new page perms → P) → P
zeroed_is old new page P some zeroed keeps = by_entry (table_of old page) refl some
  where
    by_entry : (entry : Option Mapped) → table_of old page ≡ entry → IsSome entry → P
    by_entry None is h = absurd (false≢true h)
    by_entry (Some mapped) is h = keeps mapped.perms (zeroed mapped is)

pub clean_zeroed : (old new : PagesValue) (swap : Swap) (page : ℕ) → IsSome (table_of old page) → IsZeroed old new page → AreClean old swap → AreClean new swap
clean_zeroed old new swap page some zeroed clean = zeroed_is old new page (AreClean new swap) some zeroed (λ perms m. clean_mapped old new swap page perms m clean)

pub none_zero : (old new : PagesValue) (page : ℕ) → IsSome (table_of old page) → IsZeroed old new page → NoneSwapped old → NoneSwapped new
none_zero old new page some zeroed none = zeroed_is old new page (NoneSwapped new) some zeroed (λ perms m. none_mapped old new page perms m none)

-- a page that is mapped is in the table, and stays there where it is mapped anew
pub mapped_some : (old new : PagesValue) (page perms : ℕ) → IsMapped old new page perms → IsSome (table_of new page)
mapped_some old new page perms m = rw (ap (λ (t : Table). t page) m.table, eq-eqb page page refl) refl

pub zeroed_stays : (old new : PagesValue) (page : ℕ) → IsSome (table_of old page) → IsZeroed old new page → IsSome (table_of new page)
zeroed_stays old new page some zeroed = zeroed_is old new page (IsSome (table_of new page)) some zeroed (λ perms m. mapped_some old new page perms m)

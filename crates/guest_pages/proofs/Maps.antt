-- Lemmas on a page that is mapped.
use Rattle.std.proofs.Common.{◌≡◌, ℕ, ◌+◌, ◌/◌, ◌<◌, ◌≤◌, List, Bool, true, false, cond, Option, Some, None, length, get_or, ◌==◌, refl, sym, ap, ◌∙◌, ⊎_elim, arith, ◌≢◌, is_some, count_by, [], MatchOption}
use Rattle.std.proofs.lemmas.List.{length-set}
use Rattle.std.proofs.lemmas.Bool.{cases_eq, eq-eqb, false≢true}
use Rattle.machine_state.specs.Memory.{page_size}
use Rattle.guest_pages.specs.declared.entry.Entry.{Entry}
use Rattle.guest_pages.specs.declared.entry.Place.TheVariants.{Zeros}
use Rattle.guest_pages.specs.declared.lists.Lists.{Lists}
use Rattle.guest_pages.specs.Lists.{AreListed}
use Rattle.guest_pages.specs.Entry.{is_in_frame}
use Rattle.guest_pages.specs.Table.{Mapped}
use Rattle.guest_pages.specs.Pages.{PagesValue, table_of, byte_of, mapped_count}
use Rattle.guest_pages.specs.Changes.{IsBlank, IsMapped}
use Rattle.guest_pages.specs.Order.{without}
use Rattle.guest_pages.proofs.Orders.{ordered_none}
use Rattle.guest_pages.specs.Slots.{LacksPage, IsSeatOf, AreSound, CanTake, AreFiled, IsInOrder, list_of}
use Rattle.guest_pages.proofs.Counts.{count_by_none, count_by_below}
use Rattle.guest_pages.proofs.Seats.{seek_none, take_free}
use Rattle.guest_pages.proofs.Tables.{table_at, table_none, mapped_entry}
use Rattle.guest_pages.proofs.Files.{free_there, full_there}
use Rattle.guest_pages.proofs.Takes.{taken, entry_mapped, size_taken, table_taken, byte_taken, mark_taken, mark_none, count_taken}

-- a slot that can take the page and holds one holds that page
pub taken_seat : (slots : List (Option Entry)) (page k : ℕ) (entry : Entry) → CanTake slots page k → get_or slots k None ≡ Some entry → IsSeatOf slots page k
taken_seat slots page k entry can is =
    let same : page ≡ entry.page = can.here entry.page (rw is (eq-eqb entry.page entry.page refl)) in
    record {
      within = can.within;
      here = rw is (eq-eqb page entry.page same);
      first = λ i h. can.others i (let other : i ≢ k = omega arith in other);
    }

-- where a slot that can take the page is free, no slot holds it
pub free_lacks : (slots : List (Option Entry)) (page k : ℕ) → CanTake slots page k → get_or slots k None ≡ None → LacksPage slots page
free_lacks slots page k can is = λ i h. ⊎_elim
    (λ (same : i ≡ k). rw (same, is) refl)
    (λ (other : i ≢ k). can.others i other)
    (cases_eq i k)

-- where no slot holds the page, the first of the last list can take it, and where there is none all are used
pub seat_or_full : (pages : PagesValue) (lists : Lists) (page : ℕ) (found : Option ℕ) → AreFiled pages.slots lists → LacksPage pages.slots page
    → found ≡ get_or lists.heads.items (length pages.slots) None
    → MatchOption found ((table_of pages page ≡ None) × (mapped_count pages ≡ length pages.slots)) (CanTake pages.slots page)
unfolding mapped_count
seat_or_full pages lists page None filed lacks is = (table_none pages page lacks, full_there pages.slots lists filed (sym is))
seat_or_full pages lists page (Some k) filed lacks is = let there = free_there pages.slots lists k filed (sym is) in take_free pages.slots page k there.0 lacks there.1

-- where a slot can take the page, the page is mapped or fewer are than there may be
pub not_full : (pages : PagesValue) (page k : ℕ) → CanTake pages.slots page k → table_of pages page ≡ None → mapped_count pages ≡ length pages.slots → ⊥
unfolding mapped_count
not_full pages page k can none full = by_slot (get_or pages.slots k None) refl
  where
    by_slot : (slot : Option Entry) → get_or pages.slots k None ≡ slot → ⊥
    by_slot None is = let below : count_by is_some pages.slots < length pages.slots = count_by_below is_some pages.slots k None can.within (rw is refl) in omega arith
    by_slot (Some entry) is = let mapped = table_at pages page k entry (taken_seat pages.slots page k entry can is) is in cc

zero_case : (b : Bool) (x y : ℕ) → x ≡ 0 → cond b x y ≡ cond b 0 y
zero_case true x y h = h
zero_case false x y h = refl

module _ (pages : PagesValue) (k : ℕ) (entry : Entry) (recent : List ℕ) (can : CanTake pages.slots entry.page k) (zeros : entry.place ≡ Zeros) where
  count_is : (slot : Option Entry) → get_or pages.slots k None ≡ slot → mapped_count (taken pages k entry recent) ≡ mapped_count pages + cond (is_some (table_of pages entry.page)) 0 1
  count_is None is =
      let counts : mapped_count (taken pages k entry recent) + 0 ≡ mapped_count pages + 1 = rw is at (count_taken pages k entry recent can.within) in
      rw (table_none pages entry.page (free_lacks pages.slots entry.page k can is)) (omega arith)
  count_is (Some before) is =
      let counts : mapped_count (taken pages k entry recent) + 1 ≡ mapped_count pages + 1 = rw is at (count_taken pages k entry recent can.within) in
      rw (table_at pages entry.page k before (taken_seat pages.slots entry.page k before can is) is) (omega arith)

  stays : (slot : Option Entry) → get_or pages.slots k None ≡ slot → (mapped : Mapped) → table_of pages entry.page ≡ Some mapped → k ≡ mapped.slot
  stays None is mapped h = let none = table_none pages entry.page (free_lacks pages.slots entry.page k can is) in cc
  stays (Some before) is mapped h =
      let some = table_at pages entry.page k before (taken_seat pages.slots entry.page k before can is) is in
      let same : Some (entry_mapped k before) ≡ Some mapped = sym some ∙ h in
      cc

  apart_from : (other : ℕ) (mapped : Mapped) → other ≢ entry.page → table_of pages other ≡ Some mapped → mapped.slot ≢ k
  apart_from other mapped apart h same =
      let there = mapped_entry pages other mapped h in
      apart (sym (can.here other (rw (sym same) there.1)))

  -- the pages where a page of zeros is mapped
  pub mapped_there : recent ≡ without k pages.recent → IsMapped pages (taken pages k entry recent) entry.page entry.perms.0
  mapped_there recent_is = record {
    size = size_taken pages k entry recent;
    entry = entry_mapped k entry;
    table = table_taken pages k entry recent can;
    perms_are = refl;
    away = rw zeros refl;
    slot_stays = stays (get_or pages.slots k None) refl;
    slot_within = rw (length-set pages.slots k (let o : Option Entry = Some entry in o)) can.within;
    slot_apart = λ other mapped apart h. apart_from other mapped apart h;
    byte = λ swap i at.
        (byte_taken pages k entry recent can swap at ∙ zero_case (at / page_size == entry.page) _ _ (rw zeros refl)) i;
    marks = mark_taken pages k entry recent can ∙ rw zeros refl;
    recent = recent_is;
    count = count_is (get_or pages.slots k None) refl;
  }

blank_lacks : (slots : List (Option Entry)) → ((i : ℕ) → get_or slots i None ≡ None) → (page : ℕ) → LacksPage slots page
blank_lacks slots blank page = λ i h. rw (blank i) refl

-- slots of which none holds a page are sound
blank_sound : (slots : List (Option Entry)) → ((i : ℕ) → get_or slots i None ≡ None) → AreSound slots
blank_sound slots blank = record {
  apart = λ i j page l within held. blank_lacks slots blank page j within;
  low = λ k page within held. absurd (false≢true (sym (blank_lacks slots blank page k within) ∙ held));
}

-- what the pages keep holds of slots that are all free, all of them in the last list
pub blank_kept : (slots : List (Option Entry)) (frames free capacity room : ℕ) (lists : Lists) (order : List ℕ) → ((i : ℕ) → get_or slots i None ≡ None) → free ≡ frames
    → frames ≤ capacity → length lists.heads.items ≡ length slots + 1 → length lists.nexts.items ≡ length slots → AreListed lists (λ _. length slots) → order ≡ [] → 8 ≤ frames
    → frames ≤ room → IsInOrder slots frames free capacity lists order room
blank_kept slots frames free capacity room lists order blank all holds heads nexts listed empty eight has_room =
    let none : count_by is_in_frame slots ≡ 0 = count_by_none is_in_frame slots None (λ i h. rw (blank i) refl) in
    record {
      kept = record {
        sound = blank_sound slots blank;
        shares = record { shared = omega arith; room = holds };
        filed = record {
          count = heads;
          numbers = nexts;
          listed = λ list h.
              let there = listed list h in
              record { numbers = there.numbers; is = there.is; has = λ k l. there.has k l ∙ ap (λ (home : ℕ). home == list) (sym (ap (λ (slot : Option Entry). list_of slot (length slots)) (blank k))) };
        };
      };
      ordered = rw empty (ordered_none slots (λ k. rw (blank k) refl) none);
      some = eight;
      room_is = has_room;
    }

-- pages of which no slot holds one
pub blank_there : (pages : PagesValue) (frames most : ℕ) → ((i : ℕ) → get_or pages.slots i None ≡ None) → pages.frames ≡ frames → length pages.slots ≡ most → pages.recent ≡ []
    → IsBlank pages frames most
unfolding byte_of mapped_count
blank_there pages frames most blank frames_are pages_are empty = record {
  recent = empty;
  frames_are = frames_are;
  pages_are = pages_are;
  table = λ page. table_none pages page (blank_lacks pages.slots blank page);
  byte = λ swap addr. rw (seek_none 0 pages.slots (addr / page_size) (blank_lacks pages.slots blank (addr / page_size))) refl;
  marks = λ page. mark_none pages page (blank_lacks pages.slots blank page);
  count = count_by_none is_some pages.slots None (λ i h. rw (blank i) refl);
}

-- Lemmas on the pages where the one brought first is let go.
use Rattle.std.proofs.Common.{◌≡◌, ◌≢◌, ℕ, ◌+◌, ◌-◌, ◌<◌, ◌≤◌, ◌==◌, List, [], ◌∷◌, ◌++◌, false, cond, Option, Some, Result, Ok, Err, length, take, nat_eq, nat_lt, refl, sym, ap, ◌∙◌, arith, inl, ⊎_elim}
use Rattle.std.specs.List.{IsDistinct, AllByRecursion}
use Rattle.std.proofs.lemmas.Bool.{eq-eqb, ne_eqb, cases_lt, lt-ltb, false≢true}
use Rattle.std.proofs.lemmas.List.{length-append, length-take, take_all, take-append-le}
use Rattle.host_edge.specs.declared.outside.HostCall.{HostCall}
use Rattle.host_edge.specs.declared.outside.HostCall.TheVariants.{Load, Store, SwapOpen, SwapGet, SwapPut, Take, PutOut, PutErr}
use Rattle.host_edge.specs.Causes.{Counts}
use Rattle.host_edge.specs.Files.{Held}
use Rattle.guest_pages.specs.Table.{Mapped, Table}
use Rattle.guest_pages.specs.Pages.{PagesValue, table_of, mark_of, is_swapped}
use Rattle.guest_pages.specs.Changes.{IsLeft, is_unsaved}
use Rattle.guest_pages.specs.Order.{AreOrdered, IsSlotOf, IsFirstBrought, IsAwayIn, without, is_recent}
use Rattle.guest_pages.specs.Laws.{AreCounted}
use Rattle.guest_pages.proofs.Aways.{last_recent, first_resident}
use Rattle.guest_pages.proofs.Laws.{pages_slots}
use Rattle.swap_pager.specs.Bringing.{FirstPage, IsSaved, IsOnSwap, MustPut, NeedsSwap, IsCaused}
use Rattle.swap_pager.specs.Stages.{HasRoom, IsUnsaved}

all_last : (P : ℕ → Type 0) (later : List ℕ) (slot : ℕ) → AllByRecursion P (later ++ slot ∷ []) → P slot
all_last P [] slot all = all.0
all_last P (n ∷ later) slot all = all_last P later slot all.1

-- an order without its last is what stands before it
without_last : (later : List ℕ) (slot : ℕ) → IsDistinct nat_eq (later ++ slot ∷ []) → without slot (later ++ slot ∷ []) ≡ later
unfolding IsDistinct
without_last [] slot once = rw (eq-eqb slot slot refl) refl
without_last (n ∷ later) slot once =
    let off : (n == slot) ≡ false = all_last (λ m. nat_eq n m ≡ false) later slot once.0 in
    rw (off, without_last later slot once.1) refl

-- and the first ones of it
pub without_first : (recent : List ℕ) (frames slot : ℕ) → IsDistinct nat_eq recent → IsFirstBrought recent slot → length recent ≤ frames → frames ≤ length recent
    → without slot recent ≡ take (frames - 1) recent
without_first recent frames slot once first most full =
    let is = first.is in
    let len : length recent ≡ length first.later + 1 = rw is (length-append first.later (slot ∷ [])) in
    let short : without slot recent ≡ first.later = rw is (without_last first.later slot (rw is at once)) in
    let cut : take (frames - 1) recent ≡ first.later =
    ap (take (frames - 1)) is ∙ take-append-le (frames - 1) first.later (slot ∷ []) (omega arith) ∙ take_all (frames - 1) first.later (omega arith) in
    short ∙ sym cut

-- the page brought first, as the order and the table have it
abbrev pub first_page : (pages : PagesValue) (slot : ℕ) → AreOrdered pages → IsFirstBrought pages.recent slot → FirstPage pages
first_page pages slot ordered first = record {
  slot = slot;
  page = (first_resident pages slot ordered first).page;
  mapped = (first_resident pages slot ordered first).mapped;
  first = first;
  there = (first_resident pages slot ordered first).there;
  resident = (first_resident pages slot ordered first).resident_is;
}

-- where a frame is free nothing is done
pub room_free : (pages : PagesValue) (held : Option Held) → AreCounted pages → length pages.recent < pages.frames → HasRoom pages pages held held
room_free pages held counts free = record {
  free = λ some. (refl, refl);
  gone = λ full. absurd (omega arith);
  recent = sym (take_all (pages.frames - 1) pages.recent (omega arith));
  room = free;
  away = λ page mapped is away. (is, refl);
}

off_entry : (old new : PagesValue) (page other : ℕ) (entry : Option Mapped) → table_of new ≡ (λ at. cond (at == page) entry (table_of old at)) → other ≢ page → table_of new other ≡ table_of old other
off_entry old new page other entry table apart = ap (λ (t : Table). t other) table ∙ rw (ne_eqb other page apart) refl

-- and where none is free the page brought first left
pub room_left : (old new : PagesValue) (held after : Option Held) (first : FirstPage old) → AreOrdered old → AreCounted old → old.frames ≤ length old.recent
    → IsLeft old new first.page first.mapped → IsSaved (is_unsaved (mark_of old first.page)) old first.slot first.page held after → HasRoom old new held after
room_left old new held after first ordered counts full left saved =
    let brought = counts.brought in
    let most = counts.room in
    let eight = counts.some in
    let same : new.recent ≡ take (old.frames - 1) old.recent =
    left.recent ∙ ap (λ (slot : ℕ). without slot old.recent) first.there.slot_is ∙ without_first old.recent old.frames first.slot ordered.once first.first (omega arith) full in
    let frames = left.size.frames in
    record {
      free = λ some. absurd (omega arith);
      gone = λ none. (first, left, saved);
      recent = same;
      room = rw same (take_short old.frames old.recent new.frames (omega arith) (omega arith));
      away = λ page mapped is away.
          let apart : page ≢ first.page = λ same. false≢true (sym away ∙ ap (λ (m : Mapped). m.resident) (some_same _ _ (sym is ∙ ap (table_of old) same ∙ first.there.is)) ∙ first.resident) in
          (off_entry old new first.page page _ left.table apart ∙ is, left.swapped page ∙ rw (ne_eqb page first.page apart) refl);
    }
  where
    take_short : (frames : ℕ) (recent : List ℕ) (now : ℕ) → 0 < frames → now ≡ frames → length (take (frames - 1) recent) < now
    take_short frames recent now some is = let short = length-take (frames - 1) recent in omega arith

    some_same : (a b : Mapped) → ◌≡◌ {A = Option Mapped} (Some a) (Some b) → a ≡ b
    some_same a b e = cc

-- the page that is brought is away still
pub still_away : (old new : PagesValue) (held after : Option Held) (slot : ℕ) → HasRoom old new held after → IsAwayIn old slot → IsAwayIn new slot
still_away old new held after slot room has =
    record {
      page = has.page;
      mapped = has.mapped;
      there = record { is = (room.away has.page has.mapped has.there.is has.resident_is).0; slot_is = has.there.slot_is };
      resident_is = has.resident_is;
    }

same_page : (pages : PagesValue) (slot page other : ℕ) (one two : Mapped) → IsSlotOf pages slot page one → IsSlotOf pages slot other two → page ≡ other
same_page pages slot page other one two first second = (pages_slots pages).apart page other one two first.is second.is (first.slot_is ∙ sym second.slot_is)

-- and on the swap only if it was
pub was_swapped : (old new : PagesValue) (held after : Option Held) (slot : ℕ) → HasRoom old new held after → IsAwayIn old slot → IsOnSwap new slot → IsOnSwap old slot
was_swapped old new held after slot room has swapped =
    let there = room.away has.page has.mapped has.there.is has.resident_is in
    let same : swapped.page ≡ has.page = same_page new slot swapped.page has.page swapped.mapped has.mapped swapped.there (record { is = there.0; slot_is = has.there.slot_is }) in
    record { page = has.page; mapped = has.mapped; there = has.there; swapped = sym there.1 ∙ ap (is_swapped new) (sym same) ∙ swapped.swapped }

-- a count that isn't below another
pub not_below : (count most : ℕ) → false ≡ nat_lt count most → most ≤ count
not_below count most out = ⊎_elim
    (λ (below : count < most). absurd (false≢true (out ∙ lt-ltb count most below)))
    (λ (least : most ≤ count). least)
    (cases_lt count most)

-- a page that had to be put
pub must_put : (pages : PagesValue) (slot : ℕ) → AreOrdered pages → pages.frames ≤ length pages.recent → IsFirstBrought pages.recent slot → IsUnsaved pages slot → MustPut pages
must_put pages slot ordered full first has = record {
  full = full;
  first = record {
    slot = slot;
    page = has.page;
    mapped = has.mapped;
    first = first;
    there = has.there;
    resident =
        sym (ordered.has has.page has.mapped has.there.is)
        ∙ ap (is_recent pages.recent) has.there.slot_is
        ∙ (let is = first.is in rw is (last_recent first.later slot));
  };
  unsaved = has.unsaved;
}

-- a call that failed was one that had to be made
pub caused_by : (Get Put Get' Put' : Type 0) → (Get → Get') → (Put → Put') → (result : Result (Unit {0}) HostCall) (old new : Counts) → IsCaused Get Put result old new → IsCaused Get' Put' result old new
caused_by Get Put Get' Put' get put (Ok done) old new h = h
caused_by Get Put Get' Put' get put (Err SwapGet) old new h = (get h.0, h.1, h.2)
caused_by Get Put Get' Put' get put (Err SwapPut) old new h = (put h.0, h.1, h.2)
caused_by Get Put Get' Put' get put (Err (Load word)) old new h = h
caused_by Get Put Get' Put' get put (Err (Store word)) old new h = h
caused_by Get Put Get' Put' get put (Err SwapOpen) old new h = h
caused_by Get Put Get' Put' get put (Err Take) old new h = h
caused_by Get Put Get' Put' get put (Err PutOut) old new h = h
caused_by Get Put Get' Put' get put (Err PutErr) old new h = h

-- the swap is open where the page is brought from there
pub slot_open : (old new : PagesValue) (held after : Option Held) (slot opened : ℕ) → HasRoom old new held after → IsAwayIn old slot → (NeedsSwap old slot → length old.slots ≤ opened)
    → IsOnSwap new slot → slot < opened
slot_open old new held after slot opened room has is_open swapped =
    let within = (pages_slots old).within has.page has.mapped has.there.is in
    let same = has.there.slot_is in
    let most = is_open (inl (was_swapped old new held after slot room has swapped)) in
    omega arith

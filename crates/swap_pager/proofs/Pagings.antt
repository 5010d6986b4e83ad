-- Lemmas on pages and a host with which each page that is away can be brought.
use Rattle.std.proofs.Common.{◌≡◌, ◌≢◌, ◌∙◌, ◌⊎◌, inl, inr, ℕ, suc, ◌≤◌, ◌<◌, ◌==◌, ◌||◌, Bool, true, false, cond, List, [], ◌∷◌, length, Option, Some, None, is_some, refl, sym, ap, arith, subst}
use Rattle.std.specs.Prelude.{count_by}
use Rattle.std.specs.List.{list_any, filter}
use Rattle.std.proofs.Math.Dec.{eqb}
use Rattle.std.proofs.lemmas.Bool.{eqb-true}
use Rattle.std.proofs.lemmas.Bool.Decides.{eqb_tells}
use Rattle.std.proofs.lemmas.List.Sums.{count_by-le-length, length-filter}
use Rattle.host_edge.specs.Files.{Held, Becomes}
use Rattle.guest_pages.specs.Table.{in_frame}
use Rattle.guest_pages.specs.Pages.{PagesValue, table_of}
use Rattle.guest_pages.specs.Laws.{AreCounted}
use Rattle.guest_pages.specs.Order.{IsAwayIn}
use Rattle.guest_pages.specs.Together.{AreClean}
use Rattle.swap_pager.specs.Bringing.{IsBrought, KeepsMemory, NeedsSwap}
use Rattle.swap_pager.specs.Paging.{CanPage}

-- some page that fails a test is among pages, so those that pass are fewer
filter_fewer : (p : ℕ → Bool) (page : ℕ) (xs : List ℕ) → list_any (λ other. page == other) xs ≡ true → p page ≡ false → length (filter p xs) < length xs
filter_fewer p page [] h fails = cc
filter_fewer p page (x ∷ xs) h fails = here (page == x) refl h (λ rest. filter_fewer p page xs rest fails)
  where
    same : (page == x) ≡ true → p x ≡ false
    same e = subst (λ (n : ℕ). p n ≡ false) (eqb-true page x e) fails

    later : (b : Bool) → length (filter p xs) < length xs → length (cond b (x ∷ filter p xs) (filter p xs)) < suc (length xs)
    later true h = omega (arith, h)
    later false h = omega (arith, h)

    here : (b : Bool) → (page == x) ≡ b → (b || list_any (λ other. page == other) xs) ≡ true
        → (list_any (λ other. page == other) xs ≡ true → length (filter p xs) < length xs) → length (cond (p x) (x ∷ filter p xs) (filter p xs)) < suc (length xs)
    here true e h again = rw (same e) (let most = count_by-le-length p xs in let is = length-filter p xs in omega (arith, most, is))
    here false e h again = later (p x) (again h)

count_fewer : (p : ℕ → Bool) (page : ℕ) (xs : List ℕ) → list_any (λ other. page == other) xs ≡ true → p page ≡ false → count_by p xs < length xs
count_fewer p page xs h fails = let fewer = filter_fewer p page xs h fails in let is = length-filter p xs in omega (arith, fewer, is)

-- where a page is away, fewer pages are in frames than are mapped
away_fewer : (pages : PagesValue) (slot : ℕ) → AreCounted pages → IsAwayIn pages slot → length pages.recent < length pages.slots
away_fewer pages slot counted away =
    let table = table_of pages in
    let listed : list_any (λ other. away.page == other) counted.mapped ≡ true =
    counted.mapped_are.has away.page ∙ ap is_some away.there.is in
    let fails : in_frame (table away.page) ≡ false = ap in_frame away.there.is ∙ away.resident_is in
    let fewer = count_fewer (λ page. in_frame (table page)) away.page counted.mapped listed fails in
    omega (arith, fewer, counted.frames, counted.brought, counted.count, counted.most)

-- where each page has a frame, one is free for a page that is away
pub frame_free : (pages : PagesValue) (slot : ℕ) → AreCounted pages → IsAwayIn pages slot → pages.frames ≡ length pages.slots → length pages.recent < pages.frames
frame_free pages slot counted away whole = let fewer = away_fewer pages slot counted away in omega (arith, fewer, whole)

pub swap_open : (pages : PagesValue) (held : Option Held) (opened slot : ℕ) → CanPage pages held opened → AreCounted pages → IsAwayIn pages slot
    → NeedsSwap pages slot → length pages.slots ≤ opened
swap_open pages held opened slot can counted away needs = by_frames (eqb_tells pages.frames (length pages.slots))
  where
    by_need : pages.frames ≡ length pages.slots → NeedsSwap pages slot → length pages.slots ≤ opened
    by_need whole (inl on) = absurd (let none = can.none whole in let e = sym on.swapped ∙ none.none on.page in cc)
    by_need whole (inr full) = absurd (let free = frame_free pages slot counted away whole in omega (arith, free, full))

    by_frames : ((eqb pages.frames (length pages.slots) ≡ true) × (pages.frames ≡ length pages.slots))
        ⊎ ((eqb pages.frames (length pages.slots) ≡ false) × (pages.frames ≢ length pages.slots)) → length pages.slots ≤ opened
    by_frames (inl whole) = by_need whole.1 needs
    by_frames (inr over) = let apart = over.1 in let fit = can.fit in can.over (omega (arith, apart, fit))

-- what a host tells after a call it told before
pub clean_after : (old new : PagesValue) (held held' : Option Held) → Becomes (KeepsMemory old new) held held' → (told : Held) → held' ≡ Some told → AreClean new told.page
clean_after old new None held' becomes told is = absurd (let e = sym (ap is_some is) ∙ becomes.tells in cc)
clean_after old new (Some held) held' becomes told is =
    let r = becomes.related held refl in
    let same : r.0 ≡ told = some_same r.0 told (sym r.1 ∙ is) in
    subst (λ (h : Held). AreClean new h.page) same r.2.together.clean
  where
    some_same : (a b : Held) → ◌≡◌ {A = Option Held} (Some a) (Some b) → a ≡ b
    some_same a b e = cc

pub can_page : (old new : PagesValue) (held held' : Option Held) (opened opened' slot : ℕ) → CanPage old held opened → AreCounted old → IsAwayIn old slot
    → IsBrought old new slot → Becomes (KeepsMemory old new) held held' → opened' ≡ opened → CanPage new held' opened'
can_page old new held held' opened opened' slot can counted away brought becomes same = record {
  least = rw brought.size.frames can.least;
  fit = rw (brought.size.frames, brought.size.pages) can.fit;
  none = λ whole.
      let before : old.frames ≡ length old.slots = sym brought.size.frames ∙ whole ∙ brought.size.pages in
      brought.none (frame_free old slot counted away before) (can.none before);
  over = λ over. rw (brought.size.pages, same) (can.over (rw (brought.size.frames, brought.size.pages) at over));
  clean = clean_after old new held held' becomes;
}

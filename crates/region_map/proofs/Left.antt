-- Searches among regions in ascending order.
use Rattle.std.proofs.Common.{◌≡◌, ℕ, ◌+◌, ◌-◌, ◌≤◌, ◌<◌, Bool, true, false, cond, List, [], ◌∷◌, drop, get_or, length, min, max, nat_le, Option, Some, None, is_some, refl, ◌∙◌, ap, subst, arith, add-one, ◌*◌, ◌/◌, ◌⊎◌, inl, inr, ⊎_elim}
use Rattle.std.proofs.lemmas.Bool.{cases_lt}
use Rattle.std.proofs.lemmas.Bool.Decides.{nat_tests}
use Rattle.std.proofs.Math.Seq.{drop-cons}
use Rattle.machine_state.specs.Memory.{page_size}
use Rattle.machine_state.specs.declared.kinds.Region.{Region}
use Rattle.machine_state.specs.Regions.{Nature, end_of, has_page, nature_at, AreRegions}
use Rattle.region_map.specs.Calls.{is_mapped, NoneIn, lowest_page, highest_end, IsHighest, IsFreeBelow}
use Rattle.region_map.specs.Lists.{IsFreeSpan}
use Rattle.region_map.proofs.Ascents.{regions_ascend}
use Rattle.region_map.proofs.Natures.{in_true, in_above}
use Rattle.region_map.proofs.Tallies.{low_none}

abbrev pub no_region : Region
no_region = record { first = 0; count = 0; perms = record { 0 = 0 }; file = false }

pub drop_here : (xs : List Region) (i : ℕ) → i < length xs → drop i xs ≡ get_or xs i no_region ∷ drop (i + 1) xs
drop_here xs i h = rw add-one (drop-cons xs i no_region h)

-- the regions that are left when some were gone through: they are regions, and tell what the pages from one on are
pub record AreLeft (xs left : List Region) (at : ℕ) : Type 0 where
  pub are : AreRegions left
  pub tell : (page : ℕ) → at ≤ page → nature_at xs page ≡ nature_at left page

pub left_all : (xs : List Region) (at : ℕ) → AreRegions xs → AreLeft xs xs at
left_all xs at are = record { are = are; tell = λ page h. refl }

-- one more
pub left_one : (xs rest : List Region) (x : Region) (at next : ℕ) → AreLeft xs (x ∷ rest) at → at ≤ next → end_of x ≤ next → AreLeft xs rest next
left_one xs rest x at next left le ends = record {
  are = left.are.4;
  tell = λ page h.
      let out : has_page x page ≡ false = in_above x.first (end_of x) page (omega arith) in
      left.tell page (omega arith) ∙ rw out refl;
}

pub left_in : (xs rest : List Region) (x : Region) (at page : ℕ) → AreLeft xs (x ∷ rest) at → at ≤ page → x.first ≤ page → page < end_of x → is_mapped xs page ≡ true
left_in xs rest x at page left h le lt =
    let here : has_page x page ≡ true = in_true x.first (end_of x) page le lt in
    ap (λ (n : Option Nature). is_some n) (left.tell page h) ∙ rw here refl

pub left_below : (xs rest : List Region) (x : Region) (at page : ℕ) → AreLeft xs (x ∷ rest) at → at ≤ page → page < x.first → is_mapped xs page ≡ false
left_below xs rest x at page left h lt =
    ap (λ (n : Option Nature). is_some n) (left.tell page h) ∙ low_none x.first (x ∷ rest) page (regions_ascend (x ∷ rest) left.are x.first (omega arith)) lt

pub left_none : (xs : List Region) (at page : ℕ) → AreLeft xs [] at → at ≤ page → is_mapped xs page ≡ false
left_none xs at page left h = ap (λ (n : Option Nature). is_some n) (left.tell page h)

-- at an index among regions
pub left_at : (xs : List Region) (i at : ℕ) → i < length xs → AreLeft xs (drop i xs) at → AreLeft xs (get_or xs i no_region ∷ drop (i + 1) xs) at
left_at xs i at lt left = subst (λ (ys : List Region). AreLeft xs ys at) (drop_here xs i lt) left

-- of the spans that end by a page, this is the highest free one
pub record IsBest (xs : List Region) (end count : ℕ) (found : Option ℕ) : Type 0 where
  pub highest : IsHighest (IsFreeSpan xs end count) found

-- what is known where regions up to a page were gone through: the page is the lowest one, or the one below it is mapped
pub record IsReached (xs : List Region) (low : ℕ) : Type 0 where
  pub above : lowest_page ≤ low
  pub under : lowest_page < low → is_mapped xs (low - 1) ≡ true

-- a free span that ends beyond such a page begins there or above it
span_above : (xs : List Region) (low end count page : ℕ) → IsReached xs low → IsFreeSpan xs end count page → low < page + count → low ≤ page
span_above xs low end count page reached span beyond = ⊎_elim
    (λ (under : page < low).
    let here = reached.under (omega (arith, span.low)) in
    let free = span.free (low - 1) (omega arith) (omega arith) in
    cc)
    (λ (h : low ≤ page). h)
    (cases_lt page low)

-- the last free pages from one on and below another, where none of those is mapped
pub best_later : (xs : List Region) (low top end new count : ℕ) (found : Option ℕ) → IsReached xs low → 0 < count → IsBest xs (min low end) count found → min low end ≤ new
    → new ≤ end → top ≤ new → NoneIn (is_mapped xs) low top
    → ((page : ℕ) → IsFreeSpan xs new count page → (page + count ≤ top) ⊎ (page + count ≤ low))
    → IsBest xs new count (cond (nat_le (low + count) top) (Some (top - count)) found)
best_later xs low top end new count found reached some best le short high free cover = here (nat_le (low + count) top) refl
  where
    kept : (last : Option ℕ) → IsHighest (IsFreeSpan xs (min low end) count) last → ((page : ℕ) → IsFreeSpan xs new count page → page + count ≤ min low end)
        → IsHighest (IsFreeSpan xs new count) last
    kept None h fit = λ page span. h page (record { low = span.low; ends = fit page span; free = span.free })
    kept (Some best) h fit = (
      record { low = h.0.low; ends = (let ends = h.0.ends in omega arith); free = h.0.free },
      λ page span. h.1 page (record { low = span.low; ends = fit page span; free = span.free }),
    )

    here : (b : Bool) → nat_le (low + count) top ≡ b → IsBest xs new count (cond b (Some (top - count)) found)
    here true e =
        let fits : low + count ≤ top = grind (arith, nat_tests) in
        let above = reached.above in
        record {
          highest = (
            record { low = omega arith; ends = omega arith; free = λ page h lt. free page (omega arith) (omega arith) },
            λ page span. ⊎_elim (λ (a : page + count ≤ top). omega arith) (λ (a : page + count ≤ low). omega arith) (cover page span),
          );
        }
    here false e =
        let full : top < low + count = grind (arith, nat_tests) in
        let fit : (page : ℕ) → IsFreeSpan xs new count page → page + count ≤ min low end = λ page span.
        let ends = span.ends in
        ⊎_elim
        (λ (beyond : low < page + count). ⊎_elim
        (λ (a : page + count ≤ top). absurd (let up = span_above xs low new count page reached span beyond in omega arith))
        (λ (a : page + count ≤ low). omega arith)
        (cover page span))
        (λ (within : page + count ≤ low). omega arith)
        (cases_lt low (page + count)) in
        record { highest = kept found best.highest fit }

-- before the next region
pub best_next : (xs rest : List Region) (x : Region) (low end count : ℕ) (found : Option ℕ) → AreLeft xs (x ∷ rest) low → IsReached xs low → 0 < count
    → IsBest xs (min low end) count found
    → IsBest xs (min (max low (end_of x)) end) count (cond (nat_le (low + count) (min x.first end)) (Some (min x.first end - count)) found)
best_next xs rest x low end count found left reached some best =
    best_later xs low (min x.first end) end (min (max low (end_of x)) end) count found reached some best (omega arith) (omega arith) (omega arith)
    (λ page h lt. left_below xs rest x low page left h (omega arith))
    (λ page span. let ends = span.ends in ⊎_elim
    (λ (beyond : low < page + count). ⊎_elim
    (λ (over : x.first < page + count).
    let here : is_mapped xs (page + count - 1) ≡ true = left_in xs rest x low (page + count - 1) left (omega arith) (omega arith) (omega arith) in
    let free : is_mapped xs (page + count - 1) ≡ false = span.free (page + count - 1) (omega arith) (omega arith) in
    absurd (cc))
    (λ (before : page + count ≤ x.first). inl (omega arith))
    (cases_lt x.first (page + count)))
    (λ (within : page + count ≤ low). inr within)
    (cases_lt low (page + count)))

-- and behind the last
pub best_last : (xs : List Region) (low end count : ℕ) (found : Option ℕ) → AreLeft xs [] low → IsReached xs low → 0 < count → IsBest xs (min low end) count found
    → IsBest xs end count (cond (nat_le (low + count) end) (Some (end - count)) found)
best_last xs low end count found left reached some best =
    best_later xs low end end end count found reached some best (omega arith) (omega arith) (omega arith) (λ page h lt. left_none xs low page left h)
    (λ page span. inl span.ends)

pub reached_next : (xs rest : List Region) (x : Region) (low : ℕ) → AreLeft xs (x ∷ rest) low → IsReached xs low → IsReached xs (max low (end_of x))
reached_next xs rest x low left reached =
    let above = reached.above in
    let some = left.are.0 in
    record {
      above = omega arith;
      under = λ beyond. ⊎_elim
          (λ (higher : low < end_of x).
          let e : max low (end_of x) ≡ end_of x = omega arith in
          rw e (⊎_elim
          (λ (apart : end_of x - 1 < low). absurd (omega arith))
          (λ (h : low ≤ end_of x - 1). left_in xs rest x low (end_of x - 1) left h (omega arith) (omega arith))
          (cases_lt (end_of x - 1) low)))
          (λ (lower : end_of x ≤ low). let e : max low (end_of x) ≡ low = omega arith in rw e (reached.under (omega arith)))
          (cases_lt low (end_of x));
    }

-- where nothing was gone through
pub best_first : (xs : List Region) (end count : ℕ) → 0 < count → IsBest xs (min lowest_page end) count None
best_first xs end count some = record { highest = λ page span. let ends = span.ends in let low = span.low in absurd (omega arith) }

pub reached_first : (xs : List Region) → IsReached xs lowest_page
reached_first xs = record { above = omega arith; under = λ lt. absurd (omega arith) }

-- the same by addresses
pub span_below : (xs : List Region) (top end count page : ℕ) → end ≡ min (top / page_size) highest_end → IsFreeSpan xs end count page → IsFreeBelow xs top count (page * page_size)
span_below xs top end count page e span =
    let ends = span.ends in
    record { page = page; addr_is = refl; low = span.low; high = omega arith; ends = omega arith; free = span.free }

pub highest_below : (xs : List Region) (top end count page : ℕ) → end ≡ min (top / page_size) highest_end → ((other : ℕ) → IsFreeSpan xs end count other → other ≤ page)
    → (place : ℕ) → IsFreeBelow xs top count place → place ≤ page * page_size
highest_below xs top end count page e highest place b =
    let ends = b.ends in
    let high = b.high in
    let is = b.addr_is in
    let le = highest b.page (record { low = b.low; ends = omega arith; free = b.free }) in
    omega arith

pub none_below : (xs : List Region) (top end count : ℕ) → end ≡ min (top / page_size) highest_end → ((other : ℕ) → IsFreeSpan xs end count other → ⊥)
    → (place : ℕ) → IsFreeBelow xs top count place → ⊥
none_below xs top end count e none place b =
    let ends = b.ends in
    let high = b.high in
    let is = b.addr_is in
    none b.page (record { low = b.low; ends = omega arith; free = b.free })

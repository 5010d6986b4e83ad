-- How many numbers below one pass a test.
use Rattle.std.proofs.Common.{◌≡◌, ◌≢◌, ℕ, zero, suc, ◌+◌, ◌-◌, ◌≤◌, ◌<◌, Bool, true, false, cond, ◌||◌, List, [], ◌∷◌, min, Option, Some, is_some, refl, sym, ◌∙◌, arith, ⊎_elim}
use Rattle.std.proofs.lemmas.Bool.{cases_eq, cases_lt}
use Rattle.std.proofs.lemmas.Bool.Decides.{nat_tests}
use Rattle.machine_state.specs.declared.kinds.Region.{Region}
use Rattle.machine_state.specs.Regions.{Nature, nature_of, end_of, has_page, nature_at, page_sum, AreRegions}
use Rattle.region_map.specs.Ranges.{page_end, is_in}
use Rattle.region_map.specs.Calls.{is_mapped}
use Rattle.region_map.specs.Lists.{count_below}
use Rattle.region_map.proofs.Ascents.{Ascend, StartFrom, regions_ascend}
use Rattle.region_map.proofs.Natures.{in_is, in_below}

abbrev one : Bool → ℕ
one b = cond b 1 0

pub count_same : (f g : ℕ → Bool) (n : ℕ) → ((k : ℕ) → k < n → f k ≡ g k) → count_below f n ≡ count_below g n
unfolding count_below
count_same f g zero same = refl
count_same f g (suc n) same =
    let rest = count_same f g n (λ k h. same k (omega arith)) in
    rw (same n (omega arith), rest) refl

pub count_most : (f g : ℕ → Bool) (n : ℕ) → ((k : ℕ) → f k ≡ true → g k ≡ true) → count_below f n ≤ count_below g n
unfolding count_below
count_most f g zero more = omega arith
count_most f g (suc n) more = step (f n) (g n) (more n) (count_most f g n more)
  where
    step : (a b : Bool) → (a ≡ true → b ≡ true) → count_below f n ≤ count_below g n → one a + count_below f n ≤ one b + count_below g n
    step true true h le = omega arith
    step true false h le = let e = h refl in cc
    step false true h le = omega arith
    step false false h le = omega arith

pub count_less : (f g : ℕ → Bool) (n k : ℕ) → ((j : ℕ) → f j ≡ true → g j ≡ true) → k < n → f k ≡ false → g k ≡ true → count_below f n < count_below g n
unfolding count_below
count_less f g zero k more lt out is = absurd (omega arith)
count_less f g (suc n) k more lt out is = ⊎_elim
    (λ (e : k ≡ n).
    let le = count_most f g n more in
    let no_n : f n ≡ false = rw (← e) out in
    let is_n : g n ≡ true = rw (← e) is in
    rw (no_n, is_n) (omega arith))
    (λ (ne : k ≢ n). step (f n) (g n) (more n) (count_less f g n k more (omega arith) out is))
    (cases_eq k n)
  where
    step : (a b : Bool) → (a ≡ true → b ≡ true) → count_below f n < count_below g n → one a + count_below f n < one b + count_below g n
    step true true h le = omega arith
    step true false h le = let e = h refl in cc
    step false true h le = omega arith
    step false false h le = omega arith

-- tests that differ at one number
pub count_one : (f g : ℕ → Bool) (n k : ℕ) → ((j : ℕ) → j ≢ k → f j ≡ g j) → k < n → count_below f n + one (g k) ≡ count_below g n + one (f k)
unfolding count_below
count_one f g zero k same lt = absurd (omega arith)
count_one f g (suc n) k same lt = ⊎_elim
    (λ (e : k ≡ n).
    let rest = count_same f g n (λ j h. same j (omega arith)) in
    rw (e, rest) (omega arith))
    (λ (ne : k ≢ n).
    let rest = count_one f g n k same (omega arith) in
    let here : f n ≡ g n = same n (λ e. ne (sym e)) in
    rw here (omega arith))
    (cases_eq k n)

pub count_bound : (f : ℕ → Bool) (n : ℕ) → count_below f n ≤ n
unfolding count_below
count_bound f zero = omega arith
count_bound f (suc n) = step (f n) (count_bound f n)
  where
    step : (a : Bool) → count_below f n ≤ n → one a + count_below f n ≤ suc n
    step true le = omega arith
    step false le = omega arith

count_none : (n : ℕ) → count_below (λ k. false) n ≡ 0
unfolding count_below
count_none zero = refl
count_none (suc n) = rw (count_none n) refl

-- a range apart from what else passes
count_range : (from to n : ℕ) (f : ℕ → Bool) → from ≤ to → ((k : ℕ) → is_in from to k ≡ true → f k ≡ false)
    → count_below (λ k. is_in from to k || f k) n ≡ (min n to - from) + count_below f n
unfolding count_below
count_range from to zero f le apart = omega arith
count_range from to (suc n) f le apart = step (is_in from to n) (f n) refl (apart n) (count_range from to n f le apart)
  where
    step : (a b : Bool) → is_in from to n ≡ a → (a ≡ true → b ≡ false) → count_below (λ k. is_in from to k || f k) n ≡ (min n to - from) + count_below f n
        → one (a || b) + count_below (λ k. is_in from to k || f k) n ≡ (min (suc n) to - from) + (one b + count_below f n)
    step true true e h rest = let out = h refl in cc
    step true false e h rest = let is = in_is from to n e in rw rest (omega (arith, is.0, is.1))
    step false b e h rest = ⊎_elim
        (λ (low : n < from). rw rest (omega arith))
        (λ (high : from ≤ n). ⊎_elim
        (λ (inside : n < to). let e' : is_in from to n ≡ true = grind (arith, nat_tests) in cc)
        (λ (above : to ≤ n). rw rest (omega arith))
        (cases_lt n to))
        (cases_lt n from)

pub low_none : (from : ℕ) (xs : List Region) (page : ℕ) → Ascend from xs → page < from → is_mapped xs page ≡ false
low_none from [] page h lt = refl
low_none from (x ∷ xs) page h lt =
    let out : has_page x page ≡ false = in_below x.first (end_of x) page (omega (arith, h.0)) in
    rw out (low_none (end_of x) xs page h.4 (omega (arith, h.0)))

-- the regions' pages are those that they map
ascend_count : (from : ℕ) (xs : List Region) → Ascend from xs → page_sum xs ≡ count_below (is_mapped xs) page_end
ascend_count from [] h = sym (count_none page_end)
ascend_count from (x ∷ xs) h =
    let rest = ascend_count (end_of x) xs h.4 in
    let apart : (k : ℕ) → is_in x.first (end_of x) k ≡ true → is_mapped xs k ≡ false = λ k e. low_none (end_of x) xs k h.4 (in_is x.first (end_of x) k e).1 in
    let both : count_below (λ k. is_in x.first (end_of x) k || is_mapped xs k) page_end ≡ (min page_end (end_of x) - x.first) + count_below (is_mapped xs) page_end =
    count_range x.first (end_of x) page_end (is_mapped xs) (omega arith) apart in
    let all : count_below (is_mapped (x ∷ xs)) page_end ≡ count_below (λ k. is_in x.first (end_of x) k || is_mapped xs k) page_end =
    count_same (is_mapped (x ∷ xs)) (λ k. is_in x.first (end_of x) k || is_mapped xs k) page_end (λ k lt. here (has_page x k) (nature_at xs k)) in
    all_of page_end x.first x.count (page_sum xs) _ _ (omega (arith, h.3)) rest (all ∙ both)
  where
    here : (b : Bool) (rest : Option Nature) → is_some (cond b (Some (nature_of x)) rest) ≡ (b || is_some rest)
    here true rest = refl
    here false rest = refl

    all_of : (n first count sum tally total : ℕ) → first + count ≤ n → sum ≡ tally → total ≡ (min n (first + count) - first) + tally → count + sum ≡ total
    all_of n first count sum tally total le e f = omega arith

pub regions_count : (xs : List Region) → AreRegions xs → page_sum xs ≡ count_below (is_mapped xs) page_end
regions_count xs are = ascend_count 0 xs (regions_ascend xs are 0 (start xs))
  where
    start : (ys : List Region) → StartFrom 0 ys
    start [] = tt
    start (y ∷ ys) = omega arith

pub sum_small : (xs : List Region) → AreRegions xs → page_sum xs ≤ page_end
sum_small xs are = rw (regions_count xs are) (count_bound (is_mapped xs) page_end)

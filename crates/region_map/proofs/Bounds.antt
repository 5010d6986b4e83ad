-- How many regions and pages there are after a change of a range.
use Rattle.std.proofs.Common.{◌≡◌, ℕ, zero, suc, ◌+◌, ◌-◌, ◌≤◌, ◌<◌, Bool, true, false, cond, ◌||◌, List, [], ◌∷◌, ◌++◌, length, map, min, max, nat_lt, is_some, Option, refl, sym, ◌∙◌, ap, arith, ⊎_elim, inl, inr, length-append, ◌⊎◌}
use Rattle.std.proofs.lemmas.Bool.{cases_lt}
use Rattle.std.proofs.lemmas.Bool.Decides.{nat_tests}
use Rattle.std.proofs.lemmas.List.{length-map}
use Rattle.machine_state.specs.declared.kinds.Region.{Region}
use Rattle.machine_state.specs.Regions.{Nature, end_of, nature_at, page_sum, AreRegions}
use Rattle.region_map.specs.declared.kinds.Change.{Change}
use Rattle.region_map.specs.declared.kinds.Change.TheVariants.{Map, Unmap, Protect}
use Rattle.region_map.specs.Calls.{is_mapped}
use Rattle.region_map.specs.Lists.{count_below}
use Rattle.region_map.specs.Ranges.{page_end, is_in, becomes, part, parts, touches, joined, merged, with_region_perms, middle, changed_regions, IsAfter}
use Rattle.region_map.proofs.Ascents.{Ascend, StartFrom, regions_ascend}
use Rattle.region_map.proofs.Natures.{in_is}
use Rattle.region_map.proofs.Tallies.{count_most, regions_count}

-- regions that touch are made one, and none is added
joined_few : (x : Region) (ys : List Region) → length (joined x ys) ≤ length ys + 1
joined_few x [] = omega arith
joined_few x (y ∷ ys) = here (touches x y)
  where
    here : (b : Bool) → length (cond b (record x { count = x.count + y.count } ∷ ys) (x ∷ y ∷ ys)) ≤ length (y ∷ ys) + 1
    here true = omega arith
    here false = omega arith

merged_few : (xs : List Region) → length (merged xs) ≤ length xs
merged_few [] = omega arith
merged_few (x ∷ xs) =
    let rest = merged_few xs in
    let one = joined_few x (merged xs) in
    omega arith

-- a region has a part in a range or none
part_size : (low high : ℕ) (x : Region)
    → ((max x.first low < min (end_of x) high) × (length (part low high x) ≡ 1)) ⊎ ((min (end_of x) high ≤ max x.first low) × (length (part low high x) ≡ 0))
part_size low high x = here (nat_lt (max x.first low) (min (end_of x) high)) refl
  where
    here : (b : Bool) → nat_lt (max x.first low) (min (end_of x) high) ≡ b
        → ((max x.first low < min (end_of x) high) × (length (cond b (record x { first = max x.first low; count = min (end_of x) high - max x.first low } ∷ []) []) ≡ 1))
        ⊎ ((min (end_of x) high ≤ max x.first low) × (length (cond b (record x { first = max x.first low; count = min (end_of x) high - max x.first low } ∷ []) []) ≡ 0))
    here true e = inl (grind (arith, nat_tests), refl)
    here false e = inr (grind (arith, nat_tests), refl)

parts_size : (low high : ℕ) (x : Region) (xs : List Region) → length (parts low high (x ∷ xs)) ≡ length (part low high x) + length (parts low high xs)
parts_size low high x xs = length-append (part low high x) (parts low high xs)

parts_few : (low high : ℕ) (xs : List Region) → length (parts low high xs) ≤ length xs
parts_few low high [] = omega arith
parts_few low high (x ∷ xs) =
    let all = parts_size low high x xs in
    let rest = parts_few low high xs in
    ⊎_elim (λ some. omega arith) (λ none. omega arith) (part_size low high x)

-- a longer range has no fewer parts
parts_more : (low more high : ℕ) (xs : List Region) → low ≤ more → length (parts more high xs) ≤ length (parts low high xs)
parts_more low more high [] le = omega arith
parts_more low more high (x ∷ xs) le =
    let all = parts_size low high x xs in
    let fewer = parts_size more high x xs in
    let rest = parts_more low more high xs le in
    ⊎_elim
    (λ some. ⊎_elim (λ here. omega arith) (λ none. omega arith) (part_size low high x))
    (λ none. ⊎_elim (λ here. omega arith) (λ other. omega arith) (part_size low high x))
    (part_size more high x)

parts_none : (low high from : ℕ) (xs : List Region) → Ascend from xs → high ≤ from → length (parts low high xs) ≡ 0
parts_none low high from [] h le = refl
parts_none low high from (x ∷ xs) h le =
    let all = parts_size low high x xs in
    let above = h.0 in
    let rest = parts_none low high (end_of x) xs h.4 (omega arith) in
    ⊎_elim (λ some. absurd (omega arith)) (λ none. omega arith) (part_size low high x)

-- a range that is cut in two has one part more at most
parts_cut : (low at high from : ℕ) (xs : List Region) → Ascend from xs → low ≤ at → at ≤ high
    → length (parts low at xs) + length (parts at high xs) ≤ length (parts low high xs) + 1
parts_cut low at high from [] h le le' = omega arith
parts_cut low at high from (x ∷ xs) h le le' =
    let all = parts_size low high x xs in
    let below = parts_size low at x xs in
    let above = parts_size at high x xs in
    ⊎_elim
    (λ (ends : end_of x < at + 1).
    let rest = parts_cut low at high (end_of x) xs h.4 le le' in
    ⊎_elim
    (λ some. absurd (omega arith))
    (λ none. ⊎_elim
    (λ here. ⊎_elim (λ whole. omega arith) (λ whole. absurd (omega arith)) (part_size low high x))
    (λ here. ⊎_elim (λ whole. omega arith) (λ whole. omega arith) (part_size low high x))
    (part_size low at x))
    (part_size at high x))
    (λ (goes : at + 1 ≤ end_of x).
    let rest = parts_none low at (end_of x) xs h.4 (omega arith) in
    let more = parts_more low at high xs le in
    ⊎_elim
    (λ some. ⊎_elim (λ here. ⊎_elim (λ whole. omega arith) (λ whole. absurd (omega arith)) (part_size low high x)) (λ here. omega arith) (part_size low at x))
    (λ none. ⊎_elim (λ here. omega arith) (λ here. omega arith) (part_size low at x))
    (part_size at high x))
    (cases_lt (end_of x) (at + 1))

start : (xs : List Region) → StartFrom 0 xs
start [] = tt
start (x ∷ xs) = omega arith

all_few : (change : Change) (from to : ℕ) (xs : List Region) → AreRegions xs → from ≤ to → to ≤ page_end
    → length (parts 0 from xs) + length (middle change from to xs) + length (parts to page_end xs) ≤ length xs + 2
all_few (Map perms file) from to xs are le low =
    let first = parts_cut 0 from page_end 0 xs (regions_ascend xs are 0 (start xs)) (omega arith) (omega arith) in
    let more = parts_more from to page_end xs le in
    let all = parts_few 0 page_end xs in
    omega arith
all_few Unmap from to xs are le low =
    let first = parts_cut 0 from page_end 0 xs (regions_ascend xs are 0 (start xs)) (omega arith) (omega arith) in
    let more = parts_more from to page_end xs le in
    let all = parts_few 0 page_end xs in
    omega arith
all_few (Protect perms) from to xs are le low =
    let ascend = regions_ascend xs are 0 (start xs) in
    let first = parts_cut 0 from page_end 0 xs ascend (omega arith) (omega arith) in
    let second = parts_cut from to page_end 0 xs ascend le low in
    let all = parts_few 0 page_end xs in
    let same : length (map (with_region_perms perms) (parts from to xs)) ≡ length (parts from to xs) = length-map (parts from to xs) (with_region_perms perms) in
    omega arith

changed_few : (change : Change) (from to : ℕ) (xs : List Region) → AreRegions xs → from ≤ to → to ≤ page_end → length (changed_regions change from to xs) ≤ length xs + 2
changed_few change from to xs are le low =
    let all = all_few change from to xs are le low in
    let few = merged_few (parts 0 from xs ++ middle change from to xs ++ parts to page_end xs) in
    let two = length-append (parts 0 from xs ++ middle change from to xs) (parts to page_end xs) in
    let one = length-append (parts 0 from xs) (middle change from to xs) in
    omega arith

-- a range passes a test beside what passes it already
count_with : (from to n : ℕ) (f : ℕ → Bool) → count_below (λ k. is_in from to k || f k) n ≤ (min n to - from) + count_below f n
unfolding count_below
count_with from to zero f = omega arith
count_with from to (suc n) f = step (is_in from to n) (f n) refl (count_with from to n f)
  where
    step : (a b : Bool) → is_in from to n ≡ a → count_below (λ k. is_in from to k || f k) n ≤ (min n to - from) + count_below f n
        → cond (a || b) 1 0 + count_below (λ k. is_in from to k || f k) n ≤ (min (suc n) to - from) + (cond b 1 0 + count_below f n)
    step true true e rest = let is = in_is from to n e in omega (arith, is.0, is.1)
    step true false e rest = let is = in_is from to n e in omega (arith, is.0, is.1)
    step false true e rest = omega arith
    step false false e rest = omega arith

changed_pages : (change : Change) (from to : ℕ) (old new : List Region) → AreRegions old → IsAfter change from to old new → page_sum new ≤ page_sum old + (to - from)
changed_pages change from to old new are after =
    let before = regions_count old are in
    let behind = regions_count new after.listed in
    let most = count_most (is_mapped new) (λ k. is_in from to k || is_mapped old k) page_end
    (λ k e. more k (is_in from to k) (sym (ap (λ (n : Option Nature). is_some n) (after.natures k)) ∙ e)) in
    let with_range = count_with from to page_end (is_mapped old) in
    omega arith
  where
    more : (k : ℕ) (b : Bool) → is_some (cond b (becomes change (nature_at old k)) (nature_at old k)) ≡ true → (b || is_mapped old k) ≡ true
    more k true e = refl
    more k false e = e

-- the regions and pages that a change adds
pub changed_bounds : (change : Change) (from to : ℕ) (old new : List Region) → AreRegions old → from ≤ to → to ≤ page_end → IsAfter change from to old new
    → (length new ≤ length old + 2) × (page_sum new ≤ page_sum old + (to - from))
changed_bounds change from to old new are le low after =
    let few = changed_few change from to old are le low in
    let same = ap (length {A = Region}) after.list in
    (omega arith, changed_pages change from to old new are after)

-- Regions after a change of a range are in ascending order, each as long as it can be.
use Rattle.std.proofs.Common.{◌≡◌, ℕ, ◌+◌, ◌-◌, ◌≤◌, ◌<◌, Bool, true, false, cond, List, [], ◌∷◌, ◌++◌, map, min, max, nat_lt, refl, sym, ◌∙◌, arith}
use Rattle.std.proofs.lemmas.Bool.Decides.{nat_tests}
use Rattle.machine_state.specs.declared.kinds.Region.{Region}
use Rattle.machine_state.specs.declared.permissions.Perms.{Perms}
use Rattle.machine_state.specs.Regions.{end_of, AreRegions, ComesBefore}
use Rattle.region_map.specs.declared.kinds.Change.{Change}
use Rattle.region_map.specs.declared.kinds.Change.TheVariants.{Map, Unmap, Protect}
use Rattle.region_map.specs.Ranges.{page_end, parts, touches, joined, merged, with_region_perms, middle, changed_regions}
use Rattle.region_map.specs.Lists.{AreShort, MayChange}
use Rattle.region_map.proofs.Joins.{touch_is, touch_not}

-- regions in ascending order, from a page on
abbrev pub Ascend : ℕ → List Region → Type 0
Ascend from [] = Unit {0}
Ascend from (x ∷ xs) = (from ≤ x.first) × (0 < x.count) × (x.perms.0 < 8) × (end_of x ≤ page_end) × Ascend (end_of x) xs

-- and none beyond another
abbrev pub EndBy : ℕ → List Region → Type 0
EndBy to [] = Unit {0}
EndBy to (x ∷ xs) = (end_of x ≤ to) × EndBy to xs

-- the first of regions is at a page or above it
abbrev pub StartFrom : ℕ → List Region → Type 0
StartFrom from [] = Unit {0}
StartFrom from (x ∷ xs) = from ≤ x.first

pub lower : (low from : ℕ) (xs : List Region) → low ≤ from → Ascend from xs → Ascend low xs
lower low from [] le h = tt
lower low from (x ∷ xs) le h = (omega (arith, h.0), h.1, h.2, h.3, h.4)

pub ascend_append : (from to : ℕ) (xs ys : List Region) → from ≤ to → Ascend from xs → EndBy to xs → Ascend to ys → Ascend from (xs ++ ys)
ascend_append from to [] ys le h ends g = lower from to ys le g
ascend_append from to (x ∷ xs) ys le h ends g = (h.0, h.1, h.2, h.3, ascend_append (end_of x) to xs ys ends.0 h.4 ends.1 g)

-- regions ascend
pub regions_ascend : (xs : List Region) → AreRegions xs → (from : ℕ) → StartFrom from xs → Ascend from xs
regions_ascend [] are from start = tt
regions_ascend (x ∷ xs) are from start = (start, are.0, are.1, are.2, regions_ascend xs are.4 (end_of x) (next xs are.3))
  where
    next : (ys : List Region) → ComesBefore x ys → StartFrom (end_of x) ys
    next [] before = tt
    next (y ∷ ys) before = before.0

pub regions_short : (xs : List Region) → AreRegions xs → AreShort xs
regions_short [] are = tt
regions_short (x ∷ xs) are = (omega (arith, are.2), regions_short xs are.4)

-- the parts of regions
parts_ascend : (from to a : ℕ) (xs : List Region) → Ascend a xs → Ascend (max a from) (parts from to xs)
parts_ascend from to a [] h = tt
parts_ascend from to a (x ∷ xs) h = here (nat_lt (max x.first from) (min (end_of x) to)) refl (parts_ascend from to (end_of x) xs h.4)
  where
    first : ℕ
    first = max x.first from

    end : ℕ
    end = min (end_of x) to

    here : (b : Bool) → nat_lt first end ≡ b → Ascend (max (end_of x) from) (parts from to xs) → Ascend (max a from) (cond b (record x { first = first; count = end - first } ∷ []) [] ++ parts from to xs)
    here true e rest =
        let lt : first < end = grind (arith, nat_tests) in
        let ends : first + (end - first) ≤ max (end_of x) from = omega arith in
        (omega (arith, h.0), omega arith, h.2, omega (arith, h.3), lower (first + (end - first)) (max (end_of x) from) (parts from to xs) ends rest)
    here false e rest = lower (max a from) (max (end_of x) from) (parts from to xs) (omega (arith, h.0)) rest

parts_end : (from to : ℕ) (xs : List Region) → EndBy to (parts from to xs)
parts_end from to [] = tt
parts_end from to (x ∷ xs) = here (nat_lt (max x.first from) (min (end_of x) to)) refl (parts_end from to xs)
  where
    first : ℕ
    first = max x.first from

    end : ℕ
    end = min (end_of x) to

    here : (b : Bool) → nat_lt first end ≡ b → EndBy to (parts from to xs) → EndBy to (cond b (record x { first = first; count = end - first } ∷ []) [] ++ parts from to xs)
    here true e rest = let lt : first < end = grind (arith, nat_tests) in (omega arith, rest)
    here false e rest = rest

protected_ascend : (perms : Perms) (from : ℕ) (xs : List Region) → perms.0 < 8 → Ascend from xs → Ascend from (map (with_region_perms perms) xs)
protected_ascend perms from [] set h = tt
protected_ascend perms from (x ∷ xs) set h = (h.0, h.1, set, h.3, protected_ascend perms (end_of x) xs set h.4)

protected_end : (perms : Perms) (to : ℕ) (xs : List Region) → EndBy to xs → EndBy to (map (with_region_perms perms) xs)
protected_end perms to [] h = tt
protected_end perms to (x ∷ xs) h = (h.0, protected_end perms to xs h.1)

middle_ascend : (change : Change) (from to : ℕ) (xs : List Region) → Ascend 0 xs → from < to → MayChange change from to
    → Ascend from (middle change from to xs) × EndBy to (middle change from to xs)
middle_ascend (Map perms file) from to xs h lt may = ((omega arith, omega arith, may.0, omega (arith, may.1), tt), (omega arith, tt))
middle_ascend Unmap from to xs h lt may = (tt, tt)
middle_ascend (Protect perms) from to xs h lt may = (
  protected_ascend perms from (parts from to xs) may (lower from (max 0 from) (parts from to xs) (omega arith) (parts_ascend from to 0 xs h)),
  protected_end perms to (parts from to xs) (parts_end from to xs),
)

all_ascend : (change : Change) (from to : ℕ) (xs : List Region) → Ascend 0 xs → from < to → MayChange change from to
    → Ascend 0 (parts 0 from xs ++ middle change from to xs ++ parts to page_end xs)
all_ascend change from to xs h lt may =
    let low = lower 0 (max 0 0) (parts 0 from xs) (omega arith) (parts_ascend 0 from 0 xs h) in
    let mid = middle_ascend change from to xs h lt may in
    let high = lower to (max 0 to) (parts to page_end xs) (omega arith) (parts_ascend to page_end 0 xs h) in
    let two = ascend_append 0 from (parts 0 from xs) (middle change from to xs) (omega arith) low (parts_end 0 from xs) mid.0 in
    ascend_append 0 to (parts 0 from xs ++ middle change from to xs) (parts to page_end xs) (omega arith) two
    (end_append to (parts 0 from xs) (middle change from to xs) (end_later from to (parts 0 from xs) (omega arith) (parts_end 0 from xs)) mid.1) high
  where
    end_append : (m : ℕ) (ys zs : List Region) → EndBy m ys → EndBy m zs → EndBy m (ys ++ zs)
    end_append m [] zs h g = g
    end_append m (y ∷ ys) zs h g = (h.0, end_append m ys zs h.1 g)

    end_later : (m n : ℕ) (ys : List Region) → m ≤ n → EndBy m ys → EndBy n ys
    end_later m n [] le h = tt
    end_later m n (y ∷ ys) le h = (omega (arith, h.0), end_later m n ys le h.1)

-- where touching regions are made one
joined_start : (from : ℕ) (x : Region) (ys : List Region) → from ≤ x.first → StartFrom from (joined x ys)
joined_start from x [] h = h
joined_start from x (y ∷ ys) h = here (touches x y)
  where
    here : (b : Bool) → StartFrom from (cond b (record x { count = x.count + y.count } ∷ ys) (x ∷ y ∷ ys))
    here true = h
    here false = h

joined_are : (x : Region) (ys : List Region) → 0 < x.count → x.perms.0 < 8 → end_of x ≤ page_end → StartFrom (end_of x) ys → AreRegions ys → AreRegions (joined x ys)
joined_are x [] some set low start are = (some, set, low, tt, tt)
joined_are x (y ∷ ys) some set low start are = here (touches x y) refl
  where
    here : (b : Bool) → touches x y ≡ b → AreRegions (cond b (record x { count = x.count + y.count } ∷ ys) (x ∷ y ∷ ys))
    here false e = (some, set, low, (start, touch_not x y e), are)
    here true e =
        let is = touch_is x y e in
        let ends : x.first + (x.count + y.count) ≡ end_of y = omega (arith, is.0) in
        (omega arith, set, omega (arith, are.2), before ys are.3 ends, are.4)
      where
        before : (zs : List Region) → ComesBefore y zs → x.first + (x.count + y.count) ≡ end_of y → ComesBefore (record x { count = x.count + y.count }) zs
        before [] h ends = tt
        before (z ∷ zs) h ends = (omega (arith, h.0), λ at same. h.1 (sym ends ∙ at) (sym (touch_is x y e).1 ∙ same))

merged_are : (from : ℕ) (xs : List Region) → Ascend from xs → AreRegions (merged xs) × StartFrom from (merged xs)
merged_are from [] h = (tt, tt)
merged_are from (x ∷ xs) h =
    let rest = merged_are (end_of x) xs h.4 in
    (joined_are x (merged xs) h.1 h.2 h.3 rest.1 rest.0, joined_start from x (merged xs) h.0)

start_zero : (xs : List Region) → StartFrom 0 xs
start_zero [] = tt
start_zero (x ∷ xs) = omega arith

-- the regions after a change of a range
pub changed_are : (change : Change) (from to : ℕ) (xs : List Region) → AreRegions xs → from < to → MayChange change from to → AreRegions (changed_regions change from to xs)
changed_are change from to xs are lt may =
    (merged_are 0 (parts 0 from xs ++ middle change from to xs ++ parts to page_end xs) (all_ascend change from to xs (regions_ascend xs are 0 (start_zero xs)) lt may)).0

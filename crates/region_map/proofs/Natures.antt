-- What pages are by lists of regions.
use Rattle.std.proofs.Common.{◌≡◌, ℕ, ◌+◌, ◌-◌, ◌≤◌, ◌<◌, Bool, true, false, cond, ◌&&◌, ◌||◌, List, [], ◌∷◌, ◌++◌, map, min, max, nat_le, nat_lt, Option, Some, None, refl, sym, ◌∙◌, ap, arith, ⊎_elim}
use Rattle.std.proofs.lemmas.Bool.{cases_lt}
use Rattle.std.proofs.lemmas.Bool.Decides.{nat_tests}
use Rattle.std.specs.Option.{option_map}
use Rattle.machine_state.specs.declared.kinds.Region.{Region}
use Rattle.machine_state.specs.declared.permissions.Perms.{Perms}
use Rattle.machine_state.specs.Regions.{Nature, nature_of, end_of, has_page, nature_at, AreRegions}
use Rattle.region_map.specs.declared.kinds.Change.{Change}
use Rattle.region_map.specs.declared.kinds.Change.TheVariants.{Map, Unmap, Protect}
use Rattle.region_map.specs.Ranges.{page_end, is_in, with_nature_perms, becomes, changed, part, parts, touches, joined, merged, with_region_perms, middle, changed_regions}
use Rattle.region_map.proofs.Joins.{touch_is}

abbrev pub or_nature : Option Nature → Option Nature → Option Nature
or_nature (Some n) other = Some n
or_nature None other = other

pub nature_at-append : (xs ys : List Region) (page : ℕ) → nature_at (xs ++ ys) page ≡ or_nature (nature_at xs page) (nature_at ys page)
nature_at-append [] ys page = refl
nature_at-append (x ∷ xs) ys page = here (has_page x page) (nature_at-append xs ys page)
  where
    here : (b : Bool) → nature_at (xs ++ ys) page ≡ or_nature (nature_at xs page) (nature_at ys page)
        → cond b (Some (nature_of x)) (nature_at (xs ++ ys) page) ≡ or_nature (cond b (Some (nature_of x)) (nature_at xs page)) (nature_at ys page)
    here true e = refl
    here false e = e

-- a region that two make
has_both : (x y : Region) (page : ℕ) → end_of x ≡ y.first → has_page (record x { count = x.count + y.count }) page ≡ (has_page x page || has_page y page)
has_both x y page ends = grind (arith, nat_tests)

joined_natures : (x : Region) (ys : List Region) (page : ℕ) → nature_at (joined x ys) page ≡ nature_at (x ∷ ys) page
joined_natures x [] page = refl
joined_natures x (y ∷ ys) page = here (touches x y) refl
  where
    two : (a b : Bool) (n m : Nature) (rest : Option Nature) → n ≡ m → cond (a || b) (Some n) rest ≡ cond a (Some n) (cond b (Some m) rest)
    two true b n m rest e = refl
    two false true n m rest e = ap (λ (k : Nature). let o : Option Nature = Some k in o) e
    two false false n m rest e = refl

    here : (b : Bool) → touches x y ≡ b
        → nature_at (cond b (record x { count = x.count + y.count } ∷ ys) (x ∷ y ∷ ys)) page ≡ nature_at (x ∷ y ∷ ys) page
    here false e = refl
    here true e =
        let is = touch_is x y e in
        rw (has_both x y page is.0) (two (has_page x page) (has_page y page) (nature_of x) (nature_of y) (nature_at ys page) is.1)

pub merged_natures : (xs : List Region) (page : ℕ) → nature_at (merged xs) page ≡ nature_at xs page
merged_natures [] page = refl
merged_natures (x ∷ xs) page =
    joined_natures x (merged xs) page ∙ ap (λ (n : Option Nature). cond (has_page x page) (Some (nature_of x)) n) (merged_natures xs page)

-- the pages of a part
part_bool : (from to : ℕ) (x : Region) (page : ℕ) → nat_lt (max x.first from) (min (end_of x) to) ≡ true
    → has_page (record x { first = max x.first from; count = min (end_of x) to - max x.first from }) page ≡ (is_in from to page && has_page x page)
part_bool from to x page e = grind (arith, nat_tests)

part_none : (from to : ℕ) (x : Region) (page : ℕ) → nat_lt (max x.first from) (min (end_of x) to) ≡ false → (is_in from to page && has_page x page) ≡ false
part_none from to x page e = grind (arith, nat_tests)

pub part_natures : (from to : ℕ) (x : Region) (page : ℕ) → nature_at (part from to x) page ≡ cond (is_in from to page && has_page x page) (Some (nature_of x)) None
part_natures from to x page = here (nat_lt (max x.first from) (min (end_of x) to)) refl
  where
    here : (b : Bool) → nat_lt (max x.first from) (min (end_of x) to) ≡ b
        → nature_at (cond b (record x { first = max x.first from; count = min (end_of x) to - max x.first from } ∷ []) []) page
        ≡ cond (is_in from to page && has_page x page) (Some (nature_of x)) None
    here true e = rw (part_bool from to x page e) refl
    here false e = rw (part_none from to x page e) refl

pub parts_natures : (from to : ℕ) (xs : List Region) (page : ℕ) → nature_at (parts from to xs) page ≡ cond (is_in from to page) (nature_at xs page) None
parts_natures from to [] page = none (is_in from to page)
  where
    none : (b : Bool) → let o : Option Nature = None in o ≡ cond b None None
    none true = refl
    none false = refl
parts_natures from to (x ∷ xs) page =
    nature_at-append (part from to x) (parts from to xs) page
    ∙ rw (part_natures from to x page, parts_natures from to xs page) (both (is_in from to page) (has_page x page) (nature_of x) (nature_at xs page))
  where
    both : (a b : Bool) (n : Nature) (rest : Option Nature) → or_nature (cond (a && b) (Some n) None) (cond a rest None) ≡ cond a (cond b (Some n) rest) None
    both true true n rest = refl
    both true false n rest = refl
    both false b n rest = refl

protected_natures : (perms : Perms) (xs : List Region) (page : ℕ)
    → nature_at (map (with_region_perms perms) xs) page ≡ option_map (with_nature_perms perms.0) (nature_at xs page)
protected_natures perms [] page = refl
protected_natures perms (x ∷ xs) page = here (has_page x page) (nature_at xs page) (protected_natures perms xs page)
  where
    here : (b : Bool) (old : Option Nature) → nature_at (map (with_region_perms perms) xs) page ≡ option_map (with_nature_perms perms.0) old
        → cond b (Some (nature_of (with_region_perms perms x))) (nature_at (map (with_region_perms perms) xs) page)
        ≡ option_map (with_nature_perms perms.0) (cond b (Some (nature_of x)) old)
    here true old e = refl
    here false old e = e

-- the pages of a range that is mapped as one
range_bool : (from to page : ℕ) → from ≤ to → (nat_le from page && nat_lt page (from + (to - from))) ≡ is_in from to page
range_bool from to page h = grind (arith, nat_tests)

pub middle_natures : (change : Change) (from to : ℕ) (xs : List Region) (page : ℕ) → from ≤ to
    → nature_at (middle change from to xs) page ≡ cond (is_in from to page) (becomes change (nature_at xs page)) None
middle_natures (Map perms file) from to xs page h = rw (range_bool from to page h) refl
middle_natures Unmap from to xs page h = none (is_in from to page)
  where
    none : (b : Bool) → let o : Option Nature = None in o ≡ cond b None None
    none true = refl
    none false = refl
middle_natures (Protect perms) from to xs page h =
    protected_natures perms (parts from to xs) page ∙ rw (parts_natures from to xs page) (here (is_in from to page) (nature_at xs page))
  where
    here : (b : Bool) (old : Option Nature) → option_map (with_nature_perms perms.0) (cond b old None) ≡ cond b (option_map (with_nature_perms perms.0) old) None
    here true old = refl
    here false old = refl

pub in_true : (from to page : ℕ) → from ≤ page → page < to → is_in from to page ≡ true
in_true from to page h l = grind (arith, nat_tests)

pub in_below : (from to page : ℕ) → page < from → is_in from to page ≡ false
in_below from to page h = grind (arith, nat_tests)

pub in_above : (from to page : ℕ) → to ≤ page → is_in from to page ≡ false
in_above from to page h = grind (arith, nat_tests)

pub in_is : (from to page : ℕ) → is_in from to page ≡ true → (from ≤ page) × (page < to)
in_is from to page h = (grind (arith, nat_tests), grind (arith, nat_tests))

or_none : (n : Option Nature) → or_nature n None ≡ n
or_none None = refl
or_none (Some n) = refl

has_low : (x : Region) (page : ℕ) → end_of x ≤ page_end → page_end ≤ page → has_page x page ≡ false
has_low x page low high = grind (arith, nat_tests)

-- no page lies higher than any can
pub high_none : (xs : List Region) (page : ℕ) → AreRegions xs → page_end ≤ page → nature_at xs page ≡ None
high_none [] page are high = refl
high_none (x ∷ xs) page are high = rw (has_low x page are.2 high) (high_none xs page are.4 high)

-- what each page is after a change of a range
pub changed_natures : (change : Change) (from to : ℕ) (xs : List Region) (page : ℕ) → AreRegions xs → from ≤ to
    → nature_at (changed_regions change from to xs) page ≡ changed change from to (nature_at xs) page
changed_natures change from to xs page are h =
    let low = parts 0 from xs in
    let mid = middle change from to xs in
    let high = parts to page_end xs in
    merged_natures (low ++ mid ++ high) page
    ∙ nature_at-append (low ++ mid) high page
    ∙ ap (λ (n : Option Nature). or_nature n (nature_at high page)) (nature_at-append low mid page)
    ∙ rw (parts_natures 0 from xs page, middle_natures change from to xs page h, parts_natures to page_end xs page) (here (nature_at xs page) refl)
  where
    here : (old : Option Nature) → nature_at xs page ≡ old
        → or_nature (or_nature (cond (is_in 0 from page) old None) (cond (is_in from to page) (becomes change old) None)) (cond (is_in to page_end page) old None)
        ≡ cond (is_in from to page) (becomes change old) old
    here old e = ⊎_elim
        (λ (low : page < from).
        rw (in_true 0 from page (omega arith) low, in_below from to page low, in_below to page_end page (omega arith))
        (or_none (or_nature old None) ∙ or_none old))
        (λ (up : from ≤ page). ⊎_elim
        (λ (inside : page < to).
        rw (in_above 0 from page up, in_true from to page up inside, in_below to page_end page inside) (or_none (becomes change old)))
        (λ (above : to ≤ page). ⊎_elim
        (λ (fits : page < page_end).
        rw (in_above 0 from page up, in_above from to page above, in_true to page_end page above fits) refl)
        (λ (high : page_end ≤ page).
        rw (in_above 0 from page up, in_above from to page above, in_above to page_end page high) (sym (high_none xs page are high) ∙ e))
        (cases_lt page page_end))
        (cases_lt page to))
        (cases_lt page from)

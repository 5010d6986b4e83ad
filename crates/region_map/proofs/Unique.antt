-- Regions are told by what the pages are.
use Rattle.machine_state.specs.declared.kinds.Region.{Region}
use Rattle.machine_state.specs.Regions.{AreRegions, Nature, end_of, nature_at, nature_of}
use Rattle.region_map.proofs.Ascents.{regions_ascend}
use Rattle.region_map.proofs.Natures.{in_above, in_true}
use Rattle.region_map.proofs.Tallies.{low_none}
use Rattle.region_map.specs.Calls.{is_mapped}
use Rattle.std.proofs.Common.{◌<◌, List, None, Option, Some, [], ap, arith, false, is_some, refl, sym, ℕ, ⊎_elim, ◌∙◌, ◌∷◌, ◌≡◌, ◌≢◌, ◌≤◌}
use Rattle.std.proofs.lemmas.Bool.{cases_eq, cases_lt}

-- a page that isn't mapped has no nature
none_of : (xs : List Region) (page : ℕ) → is_mapped xs page ≡ false → nature_at xs page ≡ None
none_of xs page e = here (nature_at xs page) e
  where
    here : (n : Option Nature) → is_some n ≡ false → n ≡ None
    here None e = refl
    here (Some n) e = cc

below_none : (x : Region) (xs : List Region) (page : ℕ) → AreRegions (x ∷ xs) → page < x.first → nature_at (x ∷ xs) page ≡ None
below_none x xs page are lt = none_of (x ∷ xs) page (low_none x.first (x ∷ xs) page (regions_ascend (x ∷ xs) are x.first (omega arith)) lt)

rest_below : (x : Region) (xs : List Region) (page : ℕ) → AreRegions (x ∷ xs) → page < end_of x → nature_at xs page ≡ None
rest_below x xs page are lt =
    let all = regions_ascend (x ∷ xs) are x.first (omega arith) in
    none_of xs page (low_none (end_of x) xs page all.4 lt)

first_nature : (x : Region) (xs : List Region) (page : ℕ) → x.first ≤ page → page < end_of x → nature_at (x ∷ xs) page ≡ Some (nature_of x)
first_nature x xs page le lt = rw (in_true x.first (end_of x) page le lt) refl

rest_nature : (x : Region) (xs : List Region) (page : ℕ) → end_of x ≤ page → nature_at (x ∷ xs) page ≡ nature_at xs page
rest_nature x xs page le = rw (in_above x.first (end_of x) page le) refl

-- the page behind a region has another nature
next_other : (x : Region) (xs : List Region) → AreRegions (x ∷ xs) → nature_at xs (end_of x) ≡ Some (nature_of x) → ⊥
next_other x [] are e = cc
next_other x (z ∷ zs) are e = ⊎_elim
    (λ (touch : end_of x ≡ z.first).
    let here = first_nature z zs (end_of x) (omega arith) (let some = are.4.0 in omega arith) in
    are.3.1 touch (let same : Some (nature_of x) ≡ Some (nature_of z) = sym e ∙ here in cc))
    (λ (apart : end_of x ≢ z.first).
    let here = below_none z zs (end_of x) are.4 (let le = are.3.0 in omega arith) in
    let never : Some (nature_of x) ≡ None = sym e ∙ here in cc)
    (cases_eq (end_of x) z.first)

region_same : (x y : Region) → x.first ≡ y.first → x.count ≡ y.count → nature_of x ≡ nature_of y → x ≡ y
region_same x y first count nature =
    ap (λ (n : ℕ). let r : Region = record { first = n; count = x.count; perms = x.perms; file = x.file } in r) first
    ∙ ap (λ (n : ℕ). let r : Region = record { first = y.first; count = n; perms = x.perms; file = x.file } in r) count
    ∙ ap (λ (n : Nature). let r : Region = record { first = y.first; count = y.count; perms = record { 0 = n.perms }; file = n.file } in r) nature

not_earlier : (x y : Region) (xs ys : List Region) → AreRegions (x ∷ xs) → AreRegions (y ∷ ys)
    → ((page : ℕ) → nature_at (x ∷ xs) page ≡ nature_at (y ∷ ys) page) → x.first < y.first → ⊥
not_earlier x y xs ys are others same lt =
    let here = first_nature x xs x.first (omega arith) (let some = are.0 in omega arith) in
    let there = below_none y ys x.first others lt in
    let never : Some (nature_of x) ≡ None = sym here ∙ same x.first ∙ there in
    cc

not_shorter : (x y : Region) (xs ys : List Region) → AreRegions (x ∷ xs) → x.first ≡ y.first → nature_of x ≡ nature_of y
    → ((page : ℕ) → nature_at (x ∷ xs) page ≡ nature_at (y ∷ ys) page) → end_of x < end_of y → ⊥
not_shorter x y xs ys are first nature same lt =
    let here = first_nature y ys (end_of x) (omega arith) lt in
    let rest = rest_nature x xs (end_of x) (omega arith) in
    next_other x xs are (sym rest ∙ same (end_of x) ∙ here ∙ ap (λ (n : Nature). let o : Option Nature = Some n in o) (sym nature))

-- regions with the same pages are the same
pub regions_unique : (xs ys : List Region) → AreRegions xs → AreRegions ys → ((page : ℕ) → nature_at xs page ≡ nature_at ys page) → xs ≡ ys
regions_unique [] [] are others same = refl
regions_unique [] (y ∷ ys) are others same =
    let here = first_nature y ys y.first (omega arith) (let some = others.0 in omega arith) in
    let never : Some (nature_of y) ≡ None = sym here ∙ sym (same y.first) in
    cc
regions_unique (x ∷ xs) [] are others same =
    let here = first_nature x xs x.first (omega arith) (let some = are.0 in omega arith) in
    let never : Some (nature_of x) ≡ None = sym here ∙ same x.first in
    cc
regions_unique (x ∷ xs) (y ∷ ys) are others same =
    let first : x.first ≡ y.first = equal x.first y.first (not_earlier x y xs ys are others same) (not_earlier y x ys xs others are (λ page. sym (same page))) in
    let nature : nature_of x ≡ nature_of y =
    (let one = first_nature x xs x.first (omega arith) (let some = are.0 in omega arith) in
    let other = first_nature y ys x.first (omega arith) (let some = others.0 in omega arith) in
    let both : Some (nature_of x) ≡ Some (nature_of y) = sym one ∙ same x.first ∙ other in
    cc) in
    let end : end_of x ≡ end_of y = equal (end_of x) (end_of y) (not_shorter x y xs ys are first nature same)
    (not_shorter y x ys xs others (sym first) (sym nature) (λ page. sym (same page))) in
    let rest : (page : ℕ) → nature_at xs page ≡ nature_at ys page = λ page. ⊎_elim
    (λ (low : page < end_of x). rest_below x xs page are low ∙ sym (rest_below y ys page others (omega arith)))
    (λ (high : end_of x ≤ page). sym (rest_nature x xs page high) ∙ same page ∙ rest_nature y ys page (omega arith))
    (cases_lt page (end_of x)) in
    let tail = regions_unique xs ys are.4 others.4 rest in
    ap (λ (r : Region). r ∷ xs) (region_same x y first (omega arith) nature) ∙ ap (λ (rs : List Region). y ∷ rs) tail
  where
    equal : (a b : ℕ) → (a < b → ⊥) → (b < a → ⊥) → a ≡ b
    equal a b h g = ⊎_elim
        (λ (lt : a < b). absurd (h lt))
        (λ (le : b ≤ a). ⊎_elim (λ (lt : b < a). absurd (g lt)) (λ (le' : a ≤ b). omega arith) (cases_lt b a))
        (cases_lt a b)

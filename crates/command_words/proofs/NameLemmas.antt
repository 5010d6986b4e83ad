-- Names in two lists, each once.
use Rattle.std.proofs.Common.{◌≡◌, ◌∙◌, ◌≢◌, ℕ, ◌+◌, ◌<◌, ◌≤◌, ◌⊎◌, inl, inr, ⊎_elim, Bool, true, false, not, ◌&&◌, ◌||◌, List, [], ◌∷◌, ◌++◌, length, refl, sym, ap, arith}
use Rattle.std.specs.List.{filter, list_any, IsDistinct, AllByRecursion}
use Rattle.std.specs.Set.{is_member}
use Rattle.std.specs.Str.{bytes_eq}
use Rattle.std.proofs.lemmas.Bool.{both_ways}
use Rattle.std.proofs.lemmas.Cmp.{nat_list_eq_equiv}
use Rattle.std.proofs.lemmas.List.Folds.{list_any-append}
use Rattle.std.proofs.lemmas.List.Kept.{AllPairs-filter}
use Rattle.std.proofs.lemmas.Map.Made.{is_member-filter, length-le_from_is_member, AllPairs-from_IsDistinct, IsDistinct-from_AllPairs}
use Rattle.std.proofs.lemmas.Map.Steps.{list_any_congr}
use Rattle.std.proofs.lemmas.Slice.Eq.{bytes_eq-Decides}

abbrev pub has : List (List ℕ) → List ℕ → Bool
has names name = is_member bytes_eq names name

abbrev pub AreDistinct : List (List ℕ) → Type 0
AreDistinct = IsDistinct bytes_eq

-- the names of the first list, and those of the second that the first doesn't have
abbrev pub union : (front back : List (List ℕ)) → List (List ℕ)
union front back = front ++ filter (λ name. not (has front name)) back

-- ---- tests
absorb : (a b : Bool) → (a || (b && not a)) ≡ (a || b)
absorb true b = refl
absorb false true = refl
absorb false false = refl

or-true : (a b : Bool) → (a || b) ≡ true → (a ≡ true) ⊎ (b ≡ true)
or-true true b e = inl refl
or-true false b e = inr e

or-left : (a b : Bool) → a ≡ true → (a || b) ≡ true
or-left true b e = refl
or-left false b e = cc

or-right : (a b : Bool) → b ≡ true → (a || b) ≡ true
or-right true b e = refl
or-right false b e = e

or-neither : (a b : Bool) → (a || b) ≡ false → (a ≡ false) × (b ≡ false)
or-neither true b e = cc
or-neither false b e = (refl, e)

-- ---- what a list has
pub has-same : (names : List (List ℕ)) (q n : List ℕ) → bytes_eq q n ≡ true → has names q ≡ has names n
has-same names q n e = list_any_congr nat_list_eq_equiv q n names e

pub has-append : (front back : List (List ℕ)) (q : List ℕ) → has (front ++ back) q ≡ (has front q || has back q)
has-append front back q = list_any-append (bytes_eq q) front back

pub has-union : (front back : List (List ℕ)) (q : List ℕ) → has (union front back) q ≡ (has front q || has back q)
has-union front back q =
    has-append front (filter (λ name. not (has front name)) back) q
    ∙ ap (λ (b : Bool). has front q || b)
    (is_member-filter nat_list_eq_equiv (λ name. not (has front name)) q (λ x e. ap not (has-same front q x e)) back)
    ∙ absorb (has front q) (has back q)

-- ---- names that differ
apart-append : (name : List ℕ) (front back : List (List ℕ)) → AllByRecursion (λ other. bytes_eq name other ≡ false) front → has back name ≡ false
    → AllByRecursion (λ other. bytes_eq name other ≡ false) (front ++ back)
apart-append name [] [] a h = tt
apart-append name [] (x ∷ back) a h =
    let neither = or-neither (bytes_eq name x) (has back name) h in (neither.0, apart-append name [] back tt neither.1)
apart-append name (x ∷ front) back a h = (a.0, apart-append name front back a.1 h)

append-distinct : (front back : List (List ℕ)) → AreDistinct front → AreDistinct back
    → ((q : List ℕ) → has front q ≡ true → has back q ≡ false) → AreDistinct (front ++ back)
unfolding IsDistinct
append-distinct [] back f b apart = b
append-distinct (x ∷ front) back f b apart = (
  apart-append x front back f.0 (apart x (or-left (bytes_eq x x) (has front x) (nat_list_eq_equiv.refl x))),
  append-distinct front back f.1 b (λ q h. apart q (or-right (bytes_eq q x) (has front q) h)),
)

filter-distinct : (test : List ℕ → Bool) (names : List (List ℕ)) → AreDistinct names → AreDistinct (filter test names)
filter-distinct test names d =
    IsDistinct-from_AllPairs bytes_eq-Decides (filter test names)
    (AllPairs-filter (λ (a b : List ℕ). a ≢ b) test names (AllPairs-from_IsDistinct bytes_eq-Decides names d))

pub union-distinct : (front back : List (List ℕ)) → AreDistinct front → AreDistinct back → AreDistinct (union front back)
union-distinct front back f b =
    append-distinct front (filter (λ name. not (has front name)) back) f (filter-distinct (λ name. not (has front name)) back b) (λ q h.
    is_member-filter nat_list_eq_equiv (λ name. not (has front name)) q (λ x e. ap not (has-same front q x e)) back
    ∙ ap (λ (x : Bool). has back q && not x) h
    ∙ nothing (has back q))
  where
    nothing : (b : Bool) → (b && false) ≡ false
    nothing true = refl
    nothing false = refl

pub push-distinct : (names : List (List ℕ)) (name : List ℕ) → AreDistinct names → has names name ≡ false → AreDistinct (names ++ name ∷ [])
unfolding IsDistinct
push-distinct names name d new =
    append-distinct names (name ∷ []) d (tt, tt) (λ q h. other (bytes_eq q name) (λ e. both_ways (has names q) (has-same names q name e ∙ new) h))
  where
    other : (b : Bool) → (b ≡ true → ⊥) → (b || false) ≡ false
    other true not_it = absurd (not_it refl)
    other false not_it = refl

-- ---- how many there are
-- names that are one name or among some: with room for that one, they aren't too many
pub union-fits : (front back front' back' : List (List ℕ)) (name : List ℕ) (most : ℕ) → AreDistinct front' → AreDistinct back'
    → ((q : List ℕ) → has (union front' back') q ≡ true → (bytes_eq q name || has (union front back) q) ≡ true)
    → (has (union front back) name ≡ true) ⊎ (length (union front back) < most) → length (union front back) ≤ most
    → length (union front' back') ≤ most
union-fits front back front' back' name most f b within room fits =
    ⊎_elim
    (λ old. omega (
      arith,
      fits,
      length-le_from_is_member nat_list_eq_equiv (union front' back') (union front back) (union-distinct front' back' f b) (λ q h.
          ⊎_elim (λ e. has-same (union front back) q name e ∙ old) (λ k. k) (or-true (bytes_eq q name) (has (union front back) q) (within q h))),
    ))
    (λ less. omega (arith, less, length-le_from_is_member nat_list_eq_equiv (union front' back') (name ∷ union front back) (union-distinct front' back' f b) within))
    room

-- one more name in front, or behind
pub within-front : (front back : List (List ℕ)) (name q : List ℕ) → has (union (front ++ name ∷ []) back) q ≡ true
    → (bytes_eq q name || has (union front back) q) ≡ true
within-front front back name q h =
    ap (λ (x : Bool). bytes_eq q name || x) (has-union front back q)
    ∙ swap (has front q) (bytes_eq q name) (has back q)
    (sym (ap (λ (x : Bool). x || has back q) (has-append front (name ∷ []) q)) ∙ sym (has-union (front ++ name ∷ []) back q) ∙ h)
  where
    swap : (f n b : Bool) → ((f || (n || false)) || b) ≡ true → (n || (f || b)) ≡ true
    swap true true b e = refl
    swap true false b e = refl
    swap false true b e = refl
    swap false false b e = e

pub within-back : (front back : List (List ℕ)) (name q : List ℕ) → has (union front (back ++ name ∷ [])) q ≡ true
    → (bytes_eq q name || has (union front back) q) ≡ true
within-back front back name q h =
    ap (λ (x : Bool). bytes_eq q name || x) (has-union front back q)
    ∙ swap (has front q) (bytes_eq q name) (has back q)
    (sym (ap (λ (x : Bool). has front q || x) (has-append back (name ∷ []) q)) ∙ sym (has-union front (back ++ name ∷ []) q) ∙ h)
  where
    swap : (f n b : Bool) → (f || (b || (n || false))) ≡ true → (n || (f || b)) ≡ true
    swap true true b e = refl
    swap true false b e = refl
    swap false true b e = refl
    swap false false true e = refl
    swap false false false e = e

-- each list is no longer than both together
pub front-short : (front back : List (List ℕ)) → AreDistinct front → length front ≤ length (union front back)
front-short front back d =
    length-le_from_is_member nat_list_eq_equiv front (union front back) d (λ q h. has-union front back q ∙ or-left (has front q) (has back q) h)

pub back-short : (front back : List (List ℕ)) → AreDistinct back → length back ≤ length (union front back)
back-short front back d =
    length-le_from_is_member nat_list_eq_equiv back (union front back) d (λ q h. has-union front back q ∙ or-right (has front q) (has back q) h)

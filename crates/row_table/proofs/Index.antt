-- What the index says of each row, for any list of rows and any index.
use Rattle.std.proofs.Common.{◌≡◌, ℕ, zero, suc, ◌+◌, ◌<◌, ◌≤◌, ◌==◌, Bool, true, false, cond, refl, ap, subst, ◌&&◌, nat_lt, nat_le, leb-true, eqb-true, List, [], ◌∷◌, length, slice_get, slice_index, Some, arith, ◌⊎◌, inl, inr}
use Rattle.std.proofs.lemmas.Bool.{and_parts, cases_lt}
use borrow.Author.Tests.{ltb-true}
use Rattle.row_table.specs.declared.kinds.Row.{Row}
use Rattle.row_table.specs.declared.kinds.Class.{Class}
use Rattle.row_table.specs.declared.kinds.Class.TheVariants.{Legacy, Vex, Evex}
use Rattle.row_table.specs.Rows.{row_place, place, class_number}
use Rattle.row_table.specs.Matching.{IsAt}

-- The rows behind the i-th, of which those of the place `here` are passed by; then `rest` goes on, and the number of
-- rows so far is the place's end.
unfoldable pub passes_by : (ℕ → List Row → Bool) → (here end i : ℕ) → List Row → Bool
passes_by rest here end i [] = (end == i) && rest i []
passes_by rest here end i (r ∷ rs) =
    let within = passes_by rest here end (suc i) rs in
    let beyond = (end == i) && rest i (r ∷ rs) in
    cond (row_place r == here) within beyond

-- One walk along the rows and the index: the rows behind the i-th, at places from `here` up, against the ends of the
-- rows of each place.
unfoldable pub indexed : (here i : ℕ) → List Row → List ℕ → Bool
indexed here i [] [] = true
indexed here i (r ∷ rs) [] = false
indexed here i rs (end ∷ ends) = passes_by (λ j qs. indexed (suc here) j qs ends) here end i rs

unfoldable pub index_fits : (starts : List ℕ) → List Row → Bool
index_fits [] rs = false
index_fits (first ∷ ends) rs = (first == 0) && indexed 0 0 rs ends

-- the map and the opcode of each row are in range
unfoldable pub ranged : List Row → Bool
ranged [] = true
ranged (r ∷ rs) = (nat_lt r.map 4 && nat_lt r.opcode 256) && ranged rs

pub record Placed (starts : List ℕ) (i : ℕ) (r : Row) : Type 0 where
  pub from : slice_index starts (row_place r) ≤ i
  pub below : i < slice_index starts (row_place r + 1)
  pub map : r.map < 4
  pub opcode : r.opcode < 256

pub some_same : (a b : Row) → Some a ≡ Some b → a ≡ b
some_same a b e = cc

-- ---- what the walk says
cond_cases : (b x y : Bool) → cond b x y ≡ true → ((b ≡ true) × (x ≡ true)) ⊎ ((b ≡ false) × (y ≡ true))
cond_cases true x y h = inl (refl, h)
cond_cases false x y h = inr (refl, h)

-- a row is at some place from `here` up, and lies between the starts of that place and of the next
pub record At (here first i : ℕ) (ends : List ℕ) (r : Row) : Type 0 where
  pub steps : ℕ
  pub place : row_place r ≡ here + steps
  pub from : slice_index (first ∷ ends) steps ≤ i
  pub below : i < slice_index (first ∷ ends) (suc steps)

abbrev Rest : (ℕ → List Row → Bool) → (here end : ℕ) → List ℕ → Type 0
Rest rest here end ends = (i j : ℕ) (rs : List Row) (r : Row) → end ≡ i → rest i rs ≡ true → slice_get rs j ≡ Some r
    → At (suc here) end (i + j) ends r

end-above : (rest : ℕ → List Row → Bool) (here end i : ℕ) (rs : List Row) → passes_by rest here end i rs ≡ true → i ≤ end
unfolding passes_by
end-above rest here end i [] h = let e = eqb-true end i (and_parts (end == i) _ h).0 in omega arith
end-above rest here end i (r ∷ rs) h = elim (cond_cases (row_place r == here) _ _ h) [
  | inl w ↦ let a = end-above rest here end (suc i) rs w.1 in omega arith
  | inr w ↦ let e = eqb-true end i (and_parts (end == i) _ w.1).0 in omega arith
]

later : (here first end k : ℕ) (ends : List ℕ) (r : Row) → At (suc here) end k ends r → At here first k (end ∷ ends) r
later here first end k ends r a =
    let p = a.place in
    record { steps = suc a.steps; place = omega arith; from = a.from; below = a.below }

passed-at : (rest : ℕ → List Row → Bool) (here first end i j : ℕ) (ends : List ℕ) (rs : List Row) (r : Row)
    → Rest rest here end ends → first ≤ i → passes_by rest here end i rs ≡ true → slice_get rs j ≡ Some r
    → At here first (i + j) (end ∷ ends) r
unfolding passes_by
passed-at rest here first end i j ends [] r go le h g = absurd cc
passed-at rest here first end i zero ends (q ∷ rs) r go le h g = elim (cond_cases (row_place q == here) _ _ h) [
  | inl w ↦
      let e = eqb-true (row_place q) here w.0 in
      let same : row_place q ≡ row_place r = ap row_place (some_same q r g) in
      let a = end-above rest here end (suc i) rs w.1 in
      record { steps = 0; place = omega arith; from = omega arith; below = omega arith }
  | inr w ↦
      let p = and_parts (end == i) _ w.1 in
      later here first end (i + 0) ends r (go i 0 (q ∷ rs) r (eqb-true end i p.0) p.1 g)
]
passed-at rest here first end i (suc j) ends (q ∷ rs) r go le h g = elim (cond_cases (row_place q == here) _ _ h) [
  | inl w ↦
      let n : suc i + j ≡ i + suc j = omega arith in
      let up : first ≤ suc i = omega arith in
      subst (λ k. At here first k (end ∷ ends) r) n (passed-at rest here first end (suc i) j ends rs r go up w.1 g)
  | inr w ↦
      let p = and_parts (end == i) _ w.1 in
      later here first end (i + suc j) ends r (go i (suc j) (q ∷ rs) r (eqb-true end i p.0) p.1 g)
]

indexed-at : (here first i j : ℕ) (ends : List ℕ) (rs : List Row) (r : Row) → first ≤ i → indexed here i rs ends ≡ true
    → slice_get rs j ≡ Some r → At here first (i + j) ends r
unfolding indexed
indexed-at here first i j [] [] r le h g = absurd cc
indexed-at here first i j [] (q ∷ rs) r le h g = absurd cc
indexed-at here first i j (end ∷ ends) rs r le h g =
    passed-at (λ k qs. indexed (suc here) k qs ends) here first end i j ends rs r
    (λ k l qs q e w v. let up : end ≤ k = omega arith in indexed-at (suc here) end k l ends qs q up w v) le h g

ranged-at : (rs : List Row) (i : ℕ) (r : Row) → ranged rs ≡ true → slice_get rs i ≡ Some r → (nat_lt r.map 4 && nat_lt r.opcode 256) ≡ true
unfolding ranged
ranged-at [] i r h g = absurd cc
ranged-at (q ∷ rs) zero r h g = subst (λ x. (nat_lt x.map 4 && nat_lt x.opcode 256) ≡ true) (some_same q r g) (and_parts _ (ranged rs) h).0
ranged-at (q ∷ rs) (suc i) r h g = ranged-at rs i r (and_parts _ (ranged rs) h).1 g

placed-below : (first i steps p : ℕ) (ends : List ℕ) → steps ≡ p → 0 + i < slice_index (first ∷ ends) (suc steps)
    → i < slice_index (first ∷ ends) (p + 1)
placed-below first i steps p ends e h =
    let n : suc steps ≡ p + 1 = omega arith in
    let w = subst (λ s. 0 + i < slice_index (first ∷ ends) s) n h in omega arith

pub placed-at : (starts : List ℕ) (rs : List Row) (i : ℕ) (r : Row) → index_fits starts rs ≡ true → ranged rs ≡ true
    → slice_get rs i ≡ Some r → Placed starts i r
unfolding index_fits
placed-at [] rs i r h k g = absurd cc
placed-at (first ∷ ends) rs i r h k g =
    let p = and_parts (first == 0) (indexed 0 0 rs ends) h in
    let e = eqb-true first 0 p.0 in
    let low : first ≤ 0 = omega arith in
    let a = indexed-at 0 first 0 i ends rs r low p.1 g in
    let w = a.place in
    let here : a.steps ≡ row_place r = omega arith in
    let n : 0 + i ≡ i = omega arith in
    let b = and_parts (nat_lt r.map 4) (nat_lt r.opcode 256) (ranged-at rs i r k g) in
    record {
      from = subst (λ s. slice_index (first ∷ ends) s ≤ i) here (subst (λ m. slice_index (first ∷ ends) a.steps ≤ m) n a.from);
      below = placed-below first i a.steps (row_place r) ends here a.below;
      map = ltb-true _ _ b.0;
      opcode = ltb-true _ _ b.1;
    }

-- the numbers rise, the first at least `from`
unfoldable pub rises : ℕ → List ℕ → Bool
rises from [] = true
rises from (s ∷ ss) = nat_le from s && rises s ss

rises-from : (from : ℕ) (ss : List ℕ) (j : ℕ) → rises from ss ≡ true → j < length ss → from ≤ slice_index ss j
unfolding rises
rises-from from [] j h lt = absurd (omega arith)
rises-from from (s ∷ ss) zero h lt = let p = and_parts (nat_le from s) (rises s ss) h in leb-true _ _ p.0
rises-from from (s ∷ ss) (suc j) h lt =
    let p = and_parts (nat_le from s) (rises s ss) h in
    let a : from ≤ s = leb-true _ _ p.0 in
    let b : s ≤ slice_index ss j = rises-from s ss j p.1 (omega arith) in
    let c : from ≤ slice_index ss j = omega arith in c

pub rises-at : (from : ℕ) (ss : List ℕ) (i j : ℕ) → rises from ss ≡ true → i ≤ j → j < length ss → slice_index ss i ≤ slice_index ss j
unfolding rises
rises-at from [] i j h le lt = absurd (omega arith)
rises-at from (s ∷ ss) zero zero h le lt = omega arith
rises-at from (s ∷ ss) zero (suc j) h le lt = let p = and_parts (nat_le from s) (rises s ss) h in rises-from s ss j p.1 (omega arith)
rises-at from (s ∷ ss) (suc i) zero h le lt = absurd (omega arith)
rises-at from (s ∷ ss) (suc i) (suc j) h le lt = let p = and_parts (nat_le from s) (rises s ss) h in rises-at s ss i j p.1 (omega arith) (omega arith)

-- each number is at most n
unfoldable pub at_most : ℕ → List ℕ → Bool
at_most n [] = true
at_most n (s ∷ ss) = nat_le s n && at_most n ss

pub at_most-at : (n : ℕ) (ss : List ℕ) (j : ℕ) → at_most n ss ≡ true → slice_index ss j ≤ n
unfolding at_most
at_most-at n [] j h = omega arith
at_most-at n (s ∷ ss) zero h = let p = and_parts (nat_le s n) (at_most n ss) h in leb-true _ _ p.0
at_most-at n (s ∷ ss) (suc j) h = let p = and_parts (nat_le s n) (at_most n ss) h in at_most-at n ss j p.1

-- ---- places
class_number-lt : (c : Class) → class_number c < 3
class_number-lt Legacy = omega arith
class_number-lt Vex = omega arith
class_number-lt Evex = omega arith

pub class_number-same : (a b : Class) → class_number a ≡ class_number b → a ≡ b
class_number-same Legacy Legacy e = refl
class_number-same Legacy Vex e = absurd (omega arith)
class_number-same Legacy Evex e = absurd (omega arith)
class_number-same Vex Legacy e = absurd (omega arith)
class_number-same Vex Vex e = refl
class_number-same Vex Evex e = absurd (omega arith)
class_number-same Evex Legacy e = absurd (omega arith)
class_number-same Evex Vex e = absurd (omega arith)
class_number-same Evex Evex e = refl

pub place-lt : (c : Class) (m o : ℕ) → m < 4 → o < 256 → place c m o + 1 < 3073
place-lt c m o hm ho = let h = class_number-lt c in omega arith

pub place-same : (r : Row) (d : Class) (n p : ℕ) → r.map < 4 → r.opcode < 256 → n < 4 → p < 256 → row_place r ≡ place d n p → IsAt r d n p
place-same r d n p hm ho hn hp e =
    let h = class_number-lt r.class in let g = class_number-lt d in
    let same : class_number r.class ≡ class_number d = omega arith in
    record { class = class_number-same r.class d same; map = omega arith; opcode = omega arith }

pub place-of : (r : Row) (c : Class) (m o : ℕ) → IsAt r c m o → row_place r ≡ place c m o
place-of r c m o h =
    let a : class_number r.class ≡ class_number c = ap class_number h.class in let b = h.map in let d = h.opcode in omega arith

-- a row that lies from the start of one place to below that of a later one is at a place between them
pub place-between : (starts : List ℕ) (p e i : ℕ) (r : Row) → rises 0 starts ≡ true → length starts ≡ 3073 → p < e → e < 3073 → row_place r < 3072 → Placed starts i r → slice_index starts p ≤ i → i < slice_index starts e → (p ≤ row_place r) × (row_place r < e)
place-between starts p e i r up len pe lt rlt at from below = (
  elim (cases_lt (row_place r) p) [
    | inl here ↦
        let le : slice_index starts (row_place r + 1) ≤ slice_index starts p = rises-at 0 starts (row_place r + 1) p up (omega arith) (omega arith) in
        let b = at.below in absurd (omega arith)
    | inr later ↦ later
  ],
  elim (cases_lt (row_place r) e) [
    | inl here ↦ here
    | inr later ↦
        let le : slice_index starts e ≤ slice_index starts (row_place r) = rises-at 0 starts e (row_place r) up (omega arith) (omega arith) in
        let a = at.from in absurd (omega arith)
  ],
)

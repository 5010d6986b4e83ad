-- The computed row of some fields is the one that they match.
use Rattle.std.proofs.Common.{◌≡◌, ℕ, zero, suc, ◌+◌, Bool, true, false, cond, List, [], ◌∷◌, slice_get, None, Option, IfSome, IfNone, refl, sym, ap, subst, ◌∙◌, inl, inr, eqb-true, eq-eqb, zero-add, arith}
use Rattle.std.proofs.Common.{Some as some}
use Rattle.std.specs.List.{position, position_from}
use Rattle.std.specs.Option.{option_or}
use Rattle.std.proofs.lemmas.Bool.{and_parts}
use Rattle.std.proofs.lemmas.Iterator.Adapters.{position_from-zero}
use Rattle.row_table.specs.declared.kinds.Row.{Row}
use Rattle.row_table.specs.declared.kinds.Fields.{Fields}
use Rattle.row_table.specs.declared.kinds.Prefix.{Prefix}
use Rattle.row_table.specs.declared.kinds.Prefix.TheVariants.{Unmarked, Np, P66, PF3, PF2}
use Rattle.row_table.specs.Rows.{rows}
use Rattle.row_table.specs.Matching.{Fits, FitsMarked, FitsUnmarked, Matches, by_mark, without_mark, is_at, fits, fits_at, same_prefix, prefix_number, mandatory, is_marked, is_unmarked, matched}
use Rattle.row_table.proofs.Pairs.{and_true, fits-parts, fits-whole}
use Rattle.row_table.proofs.Shaping.{split, is_at-parts, is_at-whole}

-- ---- the first index at which a test passes
pub data Search {X : Type 0} (p : X → Bool) (from : ℕ) (xs : List X) (o : Option ℕ) : Type 0 where
  hit : (j : ℕ) (x : X) → o ≡ some (from + j) → slice_get xs j ≡ some x → p x ≡ true → Search p from xs o
  missed : o ≡ None → ((j : ℕ) (x : X) → slice_get xs j ≡ some x → p x ≡ true → ⊥) → Search p from xs o

item_same : {X : Type 0} (x y : X) → some x ≡ some y → x ≡ y
item_same x y e = cc

true-false : (b : Bool) → b ≡ true → b ≡ false → ⊥
true-false b h e = cc

missed-more : {X : Type 0} (p : X → Bool) (y : X) (ys : List X) → p y ≡ false
    → ((j : ℕ) (x : X) → slice_get ys j ≡ some x → p x ≡ true → ⊥)
    → (j : ℕ) (x : X) → slice_get (y ∷ ys) j ≡ some x → p x ≡ true → ⊥
missed-more p y ys e none zero x g h = true-false (p y) (ap p (item_same y x g) ∙ h) e
missed-more p y ys e none (suc j) x g h = none j x g h

search-more : {X : Type 0} (p : X → Bool) (from : ℕ) (y : X) (ys : List X) → p y ≡ false
    → Search p (from + 1) ys (position_from p (from + 1) ys) → Search p from (y ∷ ys) (position_from p from (y ∷ ys))
search-more p from y ys e (hit j x o g h) =
    let n : (from + 1) + j ≡ from + suc j = omega arith in
    hit (suc j) x (ap (λ b. cond b (some from) (position_from p (from + 1) ys)) e ∙ o ∙ ap (λ k. some k) n) g h
search-more p from y ys e (missed o none) =
    missed (ap (λ b. cond b (some from) (position_from p (from + 1) ys)) e ∙ o) (missed-more p y ys e none)

search-from : {X : Type 0} (p : X → Bool) (from : ℕ) (xs : List X) → Search p from xs (position_from p from xs)
search-from p from [] = missed refl (λ j x g h. absurd cc)
search-from p from (y ∷ ys) = elim (split (p y)) [
  | inl e ↦
      let n : from ≡ from + 0 = omega arith in
      hit 0 y (ap (λ b. cond b (some from) (position_from p (from + 1) ys)) e ∙ ap (λ k. some k) n) refl e
  | inr e ↦ search-more p from y ys e (search-from p (from + 1) ys)
]

pub position-search : {X : Type 0} (p : X → Bool) (xs : List X) → Search p 0 xs (position p xs)
position-search p xs = subst (λ o. Search p 0 xs o) (sym (position_from-zero p xs)) (search-from p 0 xs)

-- ---- the tests of a row
prefix_of : ℕ → Prefix
prefix_of zero = Unmarked
prefix_of (suc zero) = Np
prefix_of (suc (suc zero)) = P66
prefix_of (suc (suc (suc zero))) = PF3
prefix_of (suc (suc (suc (suc n)))) = PF2

prefix_of-number : (p : Prefix) → prefix_of (prefix_number p) ≡ p
unfolding prefix_of
prefix_of-number Unmarked = refl
prefix_of-number Np = refl
prefix_of-number P66 = refl
prefix_of-number PF3 = refl
prefix_of-number PF2 = refl

prefix-same : (p q : Prefix) → same_prefix p q ≡ true → p ≡ q
prefix-same p q h = sym (prefix_of-number p) ∙ ap prefix_of (eqb-true _ _ h) ∙ prefix_of-number q

fits_at-parts : (f : Fields) (r : Row) → fits_at f r ≡ true → Fits r f
fits_at-parts f r h =
    let a = and_parts (is_at f.class f.map f.opcode r) (fits r f) h in
    fits-parts r f (is_at-parts f.class f.map f.opcode r a.0) a.1

fits_at-whole : (f : Fields) (r : Row) → Fits r f → fits_at f r ≡ true
fits_at-whole f r h = and_true _ _ (is_at-whole f.class f.map f.opcode r h.at) (fits-whole r f h)

marked-parts : (f : Fields) (r : Row) → is_marked f r ≡ true → FitsMarked r f
marked-parts f r h =
    let a = and_parts (fits_at f r) (same_prefix r.prefix (mandatory f)) h in
    record { fits = fits_at-parts f r a.0; prefix = prefix-same r.prefix (mandatory f) a.1 }

marked-whole : (f : Fields) (r : Row) → FitsMarked r f → is_marked f r ≡ true
marked-whole f r h = and_true _ _ (fits_at-whole f r h.fits) (eq-eqb _ _ (ap prefix_number h.prefix))

unmarked-parts : (f : Fields) (r : Row) → is_unmarked f r ≡ true → FitsUnmarked r f
unmarked-parts f r h =
    let a = and_parts (fits_at f r) (same_prefix r.prefix Unmarked) h in
    record { fits = fits_at-parts f r a.0; prefix = prefix-same r.prefix Unmarked a.1 }

unmarked-whole : (f : Fields) (r : Row) → FitsUnmarked r f → is_unmarked f r ≡ true
unmarked-whole f r h = and_true _ _ (fits_at-whole f r h.fits) (eq-eqb _ _ (ap prefix_number h.prefix))

-- ---- the row of a list that the fields match
abbrev matched_in : List Row → Fields → Option ℕ
matched_in rs f = option_or (position (is_marked f) rs) (position (is_unmarked f) rs)

data Answer (rs : List Row) (f : Fields) (o : Option ℕ) : Type 0 where
  matches : (i : ℕ) → o ≡ some i → Matches rs f i → Answer rs f o
  none : o ≡ None → ((i : ℕ) → Matches rs f i → ⊥) → Answer rs f o

no-match : (rs : List Row) (f : Fields)
    → ((j : ℕ) (r : Row) → slice_get rs j ≡ some r → is_marked f r ≡ true → ⊥)
    → ((j : ℕ) (r : Row) → slice_get rs j ≡ some r → is_unmarked f r ≡ true → ⊥)
    → (i : ℕ) → Matches rs f i → ⊥
no-match rs f a b i (by_mark r g m) = a i r g (marked-whole f r m)
no-match rs f a b i (without_mark r g m never) = b i r g (unmarked-whole f r m)

answer-of : (rs : List Row) (f : Fields) (a b : Option ℕ) → Search (is_marked f) 0 rs a → Search (is_unmarked f) 0 rs b → Answer rs f (option_or a b)
answer-of rs f a b (hit j r o g h) t = matches j (ap (λ x. option_or x b) (o ∙ ap (λ k. some k) (zero-add j))) (by_mark r g (marked-parts f r h))
answer-of rs f a b (missed o never) (hit j r p g h) =
    matches j (ap (λ x. option_or x b) o ∙ p ∙ ap (λ k. some k) (zero-add j)) (without_mark r g (unmarked-parts f r h) (λ i q e m. never i q e (marked-whole f q m)))
answer-of rs f a b (missed o never) (missed p nor) = none (ap (λ x. option_or x b) o ∙ p) (no-match rs f never nor)

answer : (rs : List Row) (f : Fields) → Answer rs f (matched_in rs f)
answer rs f = answer-of rs f _ _ (position-search (is_marked f) rs) (position-search (is_unmarked f) rs)

one-answer : (rs : List Row) (f : Fields) (i : ℕ) (o : Option ℕ) → Matches rs f i → ((j : ℕ) → Matches rs f j → j ≡ i) → Answer rs f o → some i ≡ o
one-answer rs f i o m only (matches j e n) = ap (λ k. some k) (sym (only j n)) ∙ sym e
one-answer rs f i o m only (none e never) = absurd (never i m)

no-answer : (rs : List Row) (f : Fields) (o : Option ℕ) → ((i : ℕ) → Matches rs f i → ⊥) → Answer rs f o → None ≡ o
no-answer rs f o never (matches j e n) = absurd (never j n)
no-answer rs f o never (none e nor) = sym e

pub matched-some : (f : Fields) (i : ℕ) → Matches rows f i → ((j : ℕ) → Matches rows f j → j ≡ i) → some i ≡ matched f
unfolding matched
matched-some f i m only = one-answer rows f i _ m only (answer rows f)

pub matched-is : (f : Fields) (u : Option ℕ) → IfSome u (Matches rows f) → IfSome u (λ i. (j : ℕ) → Matches rows f j → j ≡ i)
    → IfNone u ((i : ℕ) → Matches rows f i → ⊥) → u ≡ matched f
unfolding matched
matched-is f None m only never = no-answer rows f _ never (answer rows f)
matched-is f (some i) m only never = one-answer rows f i _ m only (answer rows f)

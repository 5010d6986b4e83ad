-- What holds of each two rows of the table.
use Rattle.std.proofs.Common.{◌≡◌, ℕ, ◌<◌, true, sym, ap, ◌∙◌, slice_get, Some, arith, ◌⊎◌, inl, inr}
use Rattle.std.proofs.lemmas.Bool.{cases_lt}
use Rattle.row_table.specs.declared.kinds.Row.{Row}
use Rattle.row_table.specs.declared.kinds.Fields.{Fields}
use Rattle.row_table.specs.declared.kinds.Prefix.TheVariants.{Unmarked, Np, P66}
use Rattle.row_table.specs.Rows.{rows, row_place}
use Rattle.row_table.specs.Shapes.{shape_of}
use Rattle.row_table.specs.Matching.{Fits, Matches, by_mark, without_mark, IsTable}
use Rattle.row_table.proofs.Index.{place-of, some_same}
use Rattle.row_table.proofs.Pairs.{near-at, together, together-parts, apart, agree, agree-same, shares, shares_none, shares-from, shares_none-first, shares_none-second, not-both}
use Rattle.row_table.proofs.Tupled.{has-tuple}
use Rattle.row_table.proofs.Computed.{rows-ordered, rows-together, rows-tupled}
use Rattle.row_table.proofs.Places.{placed-here}

-- two rows of one place, the second behind the first, pass the tests
pass : (i j : ℕ) (r q : Row) → i < j → slice_get rows i ≡ Some r → slice_get rows j ≡ Some q → row_place r ≡ row_place q → (apart r q ≡ true) × (agree r q ≡ true) × (shares_none r q ≡ true)
pass i j r q lt a b e = together-parts r q (near-at together 0 rows i j r q rows-together rows-ordered lt a b e)

apart-rows : (f : Fields) (i j : ℕ) (r q : Row) → i < j → slice_get rows i ≡ Some r → slice_get rows j ≡ Some q → r.prefix ≡ q.prefix → Fits r f → Fits q f → ⊥
apart-rows f i j r q lt g k e a b =
    let p = place-of r _ _ _ a.at ∙ sym (place-of q _ _ _ b.at) in not-both r q f (pass i j r q lt g k p).0 e a b

one-below : (f : Fields) (i j : ℕ) → i < j → Matches rows f i → Matches rows f j → ⊥
one-below f i j lt (by_mark r g a) (by_mark q k b) = apart-rows f i j r q lt g k (a.prefix ∙ sym b.prefix) a.fits b.fits
one-below f i j lt (by_mark r g a) (without_mark q k b none) = none i r g a
one-below f i j lt (without_mark r g a none) (by_mark q k b) = none j q k b
one-below f i j lt (without_mark r g a none) (without_mark q k b never) = apart-rows f i j r q lt g k (a.prefix ∙ sym b.prefix) a.fits b.fits

-- fields match at most one row
pub one-row : (f : Fields) (i j : ℕ) → Matches rows f i → Matches rows f j → i ≡ j
one-row f i j m n =
    elim (cases_lt i j) [
      | inl here ↦ absurd (one-below f i j here m n)
      | inr later ↦ elim (cases_lt j i) [ inl there ↦ absurd (one-below f j i there n m) | inr same ↦ omega arith ]
    ]

agree-below : (i j : ℕ) (r q : Row) → i < j → slice_get rows i ≡ Some r → slice_get rows j ≡ Some q → row_place r ≡ row_place q → shape_of r ≡ shape_of q
agree-below i j r q lt a b e = agree-same r q (pass i j r q lt a b e).1

-- the rows of a place have one shape
pub one-shape : (i j : ℕ) (r q : Row) → slice_get rows i ≡ Some r → slice_get rows j ≡ Some q → row_place r ≡ row_place q → shape_of r ≡ shape_of q
one-shape i j r q a b e =
    elim (cases_lt i j) [
      | inl here ↦ agree-below i j r q here a b e
      | inr later ↦ elim (cases_lt j i) [
        | inl there ↦ sym (agree-below j i q r there b a (sym e))
        | inr same ↦ let k : i ≡ j = omega arith in ap shape_of (some_same r q (sym a ∙ ap (slice_get rows) k ∙ b))
      ]
    ]

unmarked-not : (r : Row) → (r.prefix ≡ Np) ⊎ (r.prefix ≡ P66) → r.prefix ≡ Unmarked → ⊥
unmarked-not r (inl e) u = let h : Np ≡ Unmarked = sym e ∙ u in cc
unmarked-not r (inr e) u = let h : P66 ≡ Unmarked = sym e ∙ u in cc

-- no two rows of one place share a ModRM byte, the one marked NP or 66, the other unmarked
no-share : (i j : ℕ) (r q : Row) → slice_get rows i ≡ Some r → slice_get rows j ≡ Some q → row_place r ≡ row_place q → (r.prefix ≡ Np) ⊎ (r.prefix ≡ P66) → q.prefix ≡ Unmarked → shares r q ≡ true → ⊥
no-share i j r q a b e p u s =
    elim (cases_lt i j) [
      | inl here ↦ shares_none-first r q (pass i j r q here a b e).2 s
      | inr later ↦ elim (cases_lt j i) [
        | inl there ↦ shares_none-second q r (pass j i q r there b a (sym e)).2 s
        | inr same ↦ let k : i ≡ j = omega arith in unmarked-not r p (ap (λ x. x.prefix) (some_same r q (sym a ∙ ap (slice_get rows) k ∙ b)) ∙ u)
      ]
    ]

pub rows-sound : IsTable rows
rows-sound = record {
  ranges = λ i r g. let w = placed-here i r g in (w.map, w.opcode);
  one_row = one-row;
  one_shape = λ i j r q a b at. one-shape i j r q a b (place-of r _ _ _ at);
  marks_apart = λ i j r q m a b at l p u x y v w. no-share i j r q a b (place-of r _ _ _ at) p u (shares-from r q m l p u x y v w);
  tuples = has-tuple rows rows-tupled;
}

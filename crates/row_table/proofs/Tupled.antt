-- Which rows have a tuple, for any list of rows.
use Rattle.std.proofs.Common.{◌≡◌, ℕ, zero, suc, ◌==◌, ◌&&◌, not, Bool, true, false, List, [], ◌∷◌, slice_get, Some, ap, subst, eq-eqb}
use Rattle.std.proofs.lemmas.Bool.{and_parts}
use Rattle.row_table.specs.declared.kinds.Row.{Row}
use Rattle.row_table.specs.declared.kinds.Class.TheVariants.{Evex}
use Rattle.row_table.specs.declared.kinds.Tuple.{Tuple}
use Rattle.row_table.specs.declared.kinds.Tuple.TheVariants.{NoTuple}
use Rattle.row_table.specs.Rows.{class_number}
use Rattle.row_table.specs.Shapes.{form_of}
use Rattle.row_table.specs.Matching.{takes_memory}
use Rattle.row_table.proofs.Index.{some_same}
use Rattle.row_table.proofs.Pairs.{and_true, contradicts}

abbrev is_none : Tuple → Bool
is_none NoTuple = true
is_none _ = false

-- it is a row of EVEX that takes memory and has no tuple
abbrev lacks_tuple : Row → Bool
lacks_tuple r = (class_number r.class == 2) && (takes_memory (form_of r.operands) && is_none r.tuple)

-- no row is
unfoldable pub tupled : List Row → Bool
tupled [] = true
tupled (r ∷ rs) = not (lacks_tuple r) && tupled rs

tupled-at : (rs : List Row) (i : ℕ) (r : Row) → tupled rs ≡ true → slice_get rs i ≡ Some r → not (lacks_tuple r) ≡ true
unfolding tupled
tupled-at [] i r h e = cc
tupled-at (q ∷ rs) zero r h e = subst (λ x. not (lacks_tuple x) ≡ true) (some_same q r e) (and_parts (not (lacks_tuple q)) (tupled rs) h).0
tupled-at (q ∷ rs) (suc i) r h e = tupled-at rs i r (and_parts (not (lacks_tuple q)) (tupled rs) h).1 e

pub has-tuple : (rs : List Row) → tupled rs ≡ true → (i : ℕ) (r : Row) → slice_get rs i ≡ Some r → r.class ≡ Evex
    → takes_memory (form_of r.operands) ≡ true → r.tuple ≡ NoTuple → ⊥
has-tuple rs h i r e c m t =
    contradicts (lacks_tuple r) (tupled-at rs i r h e)
    (and_true _ _ (eq-eqb _ _ (ap class_number c)) (and_true _ _ m (ap is_none t)))

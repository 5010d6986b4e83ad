-- The form of each vector row fits.
use Rattle.std.proofs.Common.{le_trans, le_refl, Bool, true, false, cond, not, ◌&&◌, ◌/◌, ◌≤◌, ℕ, min, inl, inr, refl, ◌==◌}
use Rattle.std.proofs.Math.Nat.{div-mul-le_self, min-le_right}
use Rattle.row_table.specs.declared.kinds.Row.{Row}
use Rattle.row_table.specs.declared.kinds.Fields.{Fields}
use Rattle.row_table.specs.Spelling.{writes_rm}
use Rattle.row_table.specs.Tuples.{tuple_bytes}
use Rattle.num_lanes.specs.Lane.{IsLength}
use Rattle.vec_units.specs.Form.{vector_len, result_bytes, is_compressed, form_of, FormFits, IsVectorRow}

len-by : (any a b : Bool) → IsLength (cond any 16 (cond a 16 (cond b 32 64)))
len-by true a b = inl refl
len-by false true b = inl refl
len-by false false true = inr (inl refl)
len-by false false false = inr (inr refl)

pub vector_len-length : (row : Row) (l : ℕ) → IsLength (vector_len row l)
vector_len-length row l = len-by (row.lengths == 8) (l == 0) (l == 1)

by_case : (b : Bool) (len n : ℕ) → cond b (min n len) len ≤ len
by_case true len n = min-le_right n len
by_case false len n = le_refl len

result_bytes-most : (row : Row) (len : ℕ) → result_bytes row len ≤ len
result_bytes-most row len = by_case (writes_rm row.operands && not (is_compressed row.mask)) len (tuple_bytes row.tuple (row.width / 8) len)

pub form_fits : (row : Row) (f : Fields) → IsVectorRow row → FormFits (form_of row f)
unfolding form_of
form_fits row f is = record {
  op = is.op;
  width = is.width;
  len = vector_len-length row f.l;
  lanes = le_trans (div-mul-le_self (result_bytes row (vector_len row f.l)) (row.width / 8)) (result_bytes-most row (vector_len row f.l));
}

-- What of a row and its fields a vector result depends on.
use Rattle.std.specs.Prelude.{ℕ, ◌*◌, ◌/◌, ◌%◌, ◌≤◌, ◌==◌, min, Bool, true, false, not, ◌&&◌, if◌then◌else◌, IsTrue, Option, Some, None, slice_get}
use Rattle.gpr_flags.specs.Registers.{is_size}
use Rattle.row_table.specs.declared.kinds.Decoded.{Decoded}
use Rattle.row_table.specs.declared.kinds.Class.{Class}
use Rattle.row_table.specs.declared.kinds.Class.TheVariants.{Legacy, Vex, Evex}
use Rattle.row_table.specs.declared.kinds.MaskKind.{MaskKind}
use Rattle.row_table.specs.declared.kinds.MaskKind.TheVariants.{NoMask, MergeZero, ToMask, Blend, Compress, Expand, Required, Signs, SignsZero, Select}
use Rattle.row_table.specs.declared.kinds.Row.{Row}
use Rattle.row_table.specs.declared.kinds.Fields.{Fields}
use Rattle.row_table.specs.Rows.{rows}
use Rattle.row_table.specs.Spelling.{writes_rm}
use Rattle.row_table.specs.Tuples.{vector_bytes, tuple_bytes, source_width}
use Rattle.num_lanes.specs.Lane.{IsLength}
use Rattle.vec_units.specs.declared.forms.Form.{Form}
use Rattle.vec_units.specs.Compute.{is_vector}

-- a row whose vectors have 128 bits whatever L is takes no length from it (SDM volume 2, 3.1.1.2, LIG)
abbrev pub vector_len : Row → (l : ℕ) → ℕ
vector_len row l = if row.lengths == 8 then 16 else vector_bytes l

-- VPCOMPRESS, whose operand in memory has no fixed length
abbrev pub is_compressed : MaskKind → Bool
is_compressed Compress = true
is_compressed NoMask = false
is_compressed MergeZero = false
is_compressed ToMask = false
is_compressed Blend = false
is_compressed Expand = false
is_compressed Required = false
is_compressed Signs = false
is_compressed SignsZero = false
is_compressed Select = false

-- VPEXPAND likewise
abbrev pub is_expanded : MaskKind → Bool
is_expanded Expand = true
is_expanded NoMask = false
is_expanded MergeZero = false
is_expanded ToMask = false
is_expanded Blend = false
is_expanded Compress = false
is_expanded Required = false
is_expanded Signs = false
is_expanded SignsZero = false
is_expanded Select = false

-- a mask that chooses between the sources, and has no lane out
abbrev pub chooses : MaskKind → Bool
chooses Select = true
chooses NoMask = false
chooses MergeZero = false
chooses ToMask = false
chooses Blend = false
chooses Compress = false
chooses Expand = false
chooses Required = false
chooses Signs = false
chooses SignsZero = false

-- the bytes that the result has: those of the vectors, but where the destination is in ModRM.r/m, as a part that is extracted or lanes
-- that are narrowed, those of its tuple, if these are fewer
abbrev pub result_bytes : Row → (len : ℕ) → ℕ
result_bytes row len =
    if writes_rm row.operands && not (is_compressed row.mask) then min (tuple_bytes row.tuple (row.width / 8) len) len else len

-- the bytes of an element in memory
abbrev pub memory_width : Row → ℕ
memory_width row = if writes_rm row.operands then row.width / 8 else source_width row.tuple (row.width / 8)

-- legacy rows leave the bytes above the vectors as they were (SDM volume 1, 14.1.3)
abbrev pub is_legacy : Class → Bool
is_legacy Legacy = true
is_legacy Vex = false
is_legacy Evex = false

unfoldable pub form_of : Row → Fields → Form
form_of row f = record {
  op = row.op;
  width = row.width / 8;
  lanes = result_bytes row (vector_len row f.l) / (row.width / 8);
  len = vector_len row f.l;
  imm = f.imm % 256;
  masking = row.mask;
  zeroing = f.z;
  keeps = is_legacy row.class;
}

-- a row of a vector operation, whose lanes and elements in memory have a width
pub record IsVectorRow (row : Row) : Type 0 where
  pub op : IsTrue (is_vector row.op)
  pub width : IsTrue (is_size (row.width / 8))
  pub memory : IsTrue (is_size (memory_width row))

abbrev pub IsVectorAt : Option Row → Type 0
IsVectorAt None = ⊥
IsVectorAt (Some row) = IsVectorRow row

-- an instruction of such a row
abbrev pub IsVector : Decoded → Type 0
IsVector d = IsVectorAt (slice_get rows d.row)

-- what holds of the form of each vector row
pub record FormFits (f : Form) : Type 0 where
  pub op : IsTrue (is_vector f.op)
  pub width : IsTrue (is_size f.width)
  pub len : IsLength f.len
  pub lanes : f.lanes * f.width ≤ f.len

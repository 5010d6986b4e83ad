-- What a vector instruction gives (SDM volume 2, 2.7.6, and the pages of the instructions).
use Rattle.std.specs.Prelude.{ℕ, zero, suc, ◌+◌, ◌-◌, ◌*◌, ◌/◌, ◌%◌, ◌^◌, ◌==◌, Bool, true, false, ◌&&◌, ◌||◌, if◌then◌else◌, nat_lt, List, ◌++◌, take, drop, replicate, slice_range, slice_get, bit_and, Option}
use Rattle.std.specs.Option.{option_map}
use Rattle.row_table.specs.declared.kinds.Row.{Row}
use Rattle.row_table.specs.declared.kinds.Decoded.{Decoded}
use Rattle.row_table.specs.declared.kinds.MaskKind.{MaskKind}
use Rattle.row_table.specs.declared.kinds.MaskKind.TheVariants.{NoMask, MergeZero, ToMask, Blend, Compress, Expand, Required, Signs, SignsZero, Select}
use Rattle.row_table.specs.declared.operations.Op.{Op}
use Rattle.row_table.specs.declared.operations.Op.TheVariants.{Core, Gpr, Bit, String, Lane, Cross, Width, Mac, Mask, Vector, Gather, Xsave}
use Rattle.row_table.specs.declared.operations.VectorOp.TheVariants.{Ptest, Pmovmskb, Movmskp}
use Rattle.row_table.specs.Rows.{rows}
use Rattle.gpr_flags.specs.Numbers.{has_bit, is_negative}
use Rattle.num_lanes.specs.Lane.{lane_of, joined}
use Rattle.vec_units.specs.declared.forms.Form.{Form}
use Rattle.width_kernels.specs.WidthOps.{masked_below}
use Rattle.vec_units.specs.Compute.{lane_by}
use Rattle.vec_units.specs.Form.{form_of, is_compressed, chooses}

-- the bytes of a register that an instruction's vectors have
abbrev pub part : Form → List ℕ → List ℕ
part f register = slice_range register 0 f.len

-- lane i of the operation, whatever the mask
abbrev pub computed_lane : Form → (dest first second : List ℕ) → (mask i : ℕ) → ℕ
computed_lane f dest first second mask i = lane_by f.op f.width f.imm (part f dest) (part f first) (part f second) mask i

-- ---- the register
-- what stands in a lane that is masked out: what stood there, or 0
abbrev pub merged : (zeroing : Bool) → (old : ℕ) → ℕ
merged zeroing old = if zeroing then 0 else old

-- the same by the rule of the row: VPBLENDM takes the first operand's lane, and a load of VPMASKMOV or VMASKMOV gives 0
abbrev pub left_out : MaskKind → (zeroing : Bool) → (old first : ℕ) → ℕ
left_out Blend zeroing old first = merged zeroing first
left_out SignsZero zeroing old first = 0
left_out NoMask zeroing old first = merged zeroing old
left_out MergeZero zeroing old first = merged zeroing old
left_out ToMask zeroing old first = merged zeroing old
left_out Compress zeroing old first = merged zeroing old
left_out Expand zeroing old first = merged zeroing old
left_out Required zeroing old first = merged zeroing old
left_out Signs zeroing old first = merged zeroing old
left_out Select zeroing old first = merged zeroing old

-- the lowest lanes, as many as a mask has
abbrev pub packed : (lanes mask : ℕ) → ℕ
packed lanes mask = 2 ^ masked_below mask lanes - 1

-- which lanes are those that are computed: those that the mask has, but of VPCOMPRESS the lowest, as many as the mask has, and all where
-- the mask chooses between the sources
abbrev pub taken : MaskKind → (lanes mask : ℕ) → ℕ
taken kind lanes mask = if is_compressed kind then packed lanes mask else if chooses kind then 2 ^ 64 - 1 else mask

abbrev pub taken_by : Form → (mask : ℕ) → ℕ
taken_by f mask = taken f.masking f.lanes mask

-- lane i of a register of lanes of w bytes, by the lanes that are computed and those of the destination and of the first operand:
-- above the result's lanes are zeros, but above the vectors of a legacy row what stood there
unfoldable pub placed_lane : (w : ℕ) → Form → (computed dest first : ℕ → ℕ) → (mask i : ℕ) → ℕ
placed_lane w f computed dest first mask i =
    if nat_lt i f.lanes then (if has_bit mask i then computed i else left_out f.masking f.zeroing (dest i) (first i))
    else if nat_lt i (f.len / w) then 0
    else if f.keeps then dest i else 0

-- whether a mask has each of the lowest lanes
abbrev pub has_all : (lanes mask : ℕ) → Bool
has_all lanes mask = mask % 2 ^ lanes == 2 ^ lanes - 1

-- the bytes that stand above the lanes of the result: zeros, but above the vectors of a legacy row what stood there
abbrev pub above : Form → (dest : List ℕ) → List ℕ
above f dest = if f.keeps then take f.len (replicate 64 0) ++ drop f.len dest else replicate 64 0

-- the register
unfoldable pub vector_result : Form → (dest first second : List ℕ) → (mask : ℕ) → List ℕ
vector_result f dest first second mask =
    joined f.width (64 / f.width)
    (placed_lane f.width f (computed_lane f dest first second mask) (lane_of f.width dest) (lane_of f.width first) (taken_by f mask))

-- ---- masks of bits
-- bit i says whether i passes a test, for each i below n
unfoldable pub bits_where : (ℕ → Bool) → (n : ℕ) → ℕ
bits_where test zero = 0
bits_where test (suc n) = bits_where test n + (if test n then 2 ^ n else 0)

-- bit i is the sign of lane i, of lanes of w bytes, where the mask has the lane, and else 0
unfoldable pub signs_in : (w : ℕ) → (lane : ℕ → ℕ) → (mask n : ℕ) → ℕ
signs_in w lane mask n = bits_where (λ i. has_bit mask i && is_negative (8 * w) (lane i)) n

-- of a register's lanes, of which a form has so many; a register whose signs are a mask (SDM volume 2, VPMASKMOV) has this one
abbrev pub sign_mask : Form → (register : List ℕ) → ℕ
sign_mask f register = signs_in f.width (lane_of f.width register) (2 ^ 64 - 1) f.lanes

-- of the lanes that are computed; where lanes are compared, the sign says whether the comparison holds
unfoldable pub mask_of : Form → (dest first second : List ℕ) → (mask : ℕ) → ℕ
mask_of f dest first second mask = signs_in f.width (computed_lane f dest first second mask) mask f.lanes

-- ---- which elements of a source feed lanes
-- whether one of the first n numbers passes a test
unfoldable pub any_below : (ℕ → Bool) → (n : ℕ) → Bool
any_below test zero = false
any_below test (suc n) = any_below test n || test n

-- of n elements, element j is that of the lanes j, j + n, j + 2 n and so on: whether one of them is masked in
abbrev pub is_fed : (n lanes mask j : ℕ) → Bool
is_fed n lanes mask j = any_below (λ i. i % n == j && has_bit mask i) lanes

-- the elements that feed lanes that are masked in, a bit an element; where each lane has its own, the mask says it
unfoldable pub fed : (n lanes mask : ℕ) → ℕ
fed n lanes mask = if n == lanes then mask else bits_where (is_fed n lanes mask) n

-- ---- PTEST (SDM volume 2, PTEST)
-- whether the bits of lanes of 64 bits have none in common with the register's, or none beyond them
abbrev pub has_none : (beyond : Bool) → (register second : ℕ) → Bool
has_none beyond register second = bit_and second (if beyond then 2 ^ 64 - 1 - register else register) == 0

unfoldable pub have_none : (beyond : Bool) → (register second : List ℕ) → (n : ℕ) → Bool
have_none beyond register second zero = true
have_none beyond register second (suc n) =
    have_none beyond register second n && has_none beyond (lane_of 8 register n) (lane_of 8 second n)

-- ZF, and twice CF
unfoldable pub test_of : Form → (register second : List ℕ) → ℕ
test_of f register second =
    (if have_none false register second (f.len / 8) then 1 else 0) + (if have_none true register second (f.len / 8) then 2 else 0)

-- the bits of an operation
unfoldable pub bits_by : Op → Form → (dest first second : List ℕ) → (mask : ℕ) → ℕ
bits_by (Vector Ptest) f dest first second mask = test_of f dest second
bits_by (Vector Pmovmskb) f dest first second mask = mask_of f dest first second mask
bits_by (Vector Movmskp) f dest first second mask = mask_of f dest first second mask
bits_by (Lane op) f dest first second mask = mask_of f dest first second mask
bits_by (Core op) f dest first second mask = mask_of f dest first second mask
bits_by (Gpr op) f dest first second mask = mask_of f dest first second mask
bits_by (Bit op) f dest first second mask = mask_of f dest first second mask
bits_by (String op) f dest first second mask = mask_of f dest first second mask
bits_by (Cross op) f dest first second mask = mask_of f dest first second mask
bits_by (Width op) f dest first second mask = mask_of f dest first second mask
bits_by (Mac op) f dest first second mask = mask_of f dest first second mask
bits_by (Mask op) f dest first second mask = mask_of f dest first second mask
bits_by (Gather op) f dest first second mask = mask_of f dest first second mask
bits_by (Xsave op) f dest first second mask = mask_of f dest first second mask

abbrev pub bits_of : Form → (dest first second : List ℕ) → (mask : ℕ) → ℕ
bits_of f dest first second mask = bits_by f.op f dest first second mask

-- ---- the same by an instruction's row and fields
abbrev pub result_of : Decoded → (dest first second : List ℕ) → (mask : ℕ) → Option (List ℕ)
result_of d dest first second mask =
    option_map (λ (row : Row). vector_result (form_of row d.fields) dest first second mask) (slice_get rows d.row)

abbrev pub mask_result_of : Decoded → (dest first second : List ℕ) → (mask : ℕ) → Option ℕ
mask_result_of d dest first second mask =
    option_map (λ (row : Row). bits_of (form_of row d.fields) dest first second mask) (slice_get rows d.row)

-- What the operations that change the width of lanes, close lanes up or spread them out give (SDM volume 2: PMOVSX, PMOVZX,
-- VPMOVWB and its kin, VPCOMPRESS, VPEXPAND; volume 1, 9.3.2 for saturation).
use Rattle.std.specs.Prelude.{ℕ, zero, suc, ◌+◌, ◌*◌, ◌/◌, ◌%◌, ◌^◌, ◌==◌, nat_le, Bool, true, false, ◌&&◌, if◌then◌else◌, List, length, pos, count_ones}
use Rattle.row_table.specs.declared.operations.Op.{Op}
use Rattle.row_table.specs.declared.operations.Op.TheVariants.{Core, Gpr, Bit, String, Lane, Cross, Width, Mac, Mask, Vector, Gather, Xsave}
use Rattle.row_table.specs.declared.operations.WidthOp.{WidthOp}
use Rattle.row_table.specs.declared.operations.WidthOp.TheVariants.{Pmovsxb, Pmovsxw, Pmovsxd, Pmovzxb, Pmovzxw, Pmovzxd, Vpmovusw, Vpmovusd, Vpmovusq, Vpmovsw, Vpmovsd, Vpmovsq, Vpmovw, Vpmovd, Vpmovq, Vpcompress, Vpexpand}
use Rattle.gpr_flags.specs.Numbers.{has_bit, signed_of, low_of}
use Rattle.num_lanes.specs.Lane.{lane_of}
use Rattle.num_lanes.specs.Ranges.{clamp_signed_of, clamp_unsigned_of}

-- the operations of this crate: those on widths, all of them
unfoldable pub is_handled : Op → Bool
is_handled (Width op) = true
is_handled (Core op) = false
is_handled (Gpr op) = false
is_handled (Bit op) = false
is_handled (String op) = false
is_handled (Lane op) = false
is_handled (Cross op) = false
is_handled (Mac op) = false
is_handled (Mask op) = false
is_handled (Vector op) = false
is_handled (Gather op) = false
is_handled (Xsave op) = false

-- ---- words of the operations
-- lane i of lanes of v bytes, or 0 where these bytes have no such lane
abbrev pub lane_or_zero : (v : ℕ) → (bytes : List ℕ) → (i : ℕ) → ℕ
lane_or_zero v bytes i = if nat_le (i * v + v) (length bytes) then lane_of v bytes i else 0

-- such a lane in n bits: in two's complement, as the nearest signed number, and as the nearest unsigned one
abbrev pub signed_lane : (n v : ℕ) → (bytes : List ℕ) → (i : ℕ) → ℕ
signed_lane n v bytes i = low_of n (signed_of (8 * v) (lane_or_zero v bytes i))

abbrev pub nearest_signed : (n v : ℕ) → (bytes : List ℕ) → (i : ℕ) → ℕ
nearest_signed n v bytes i = clamp_signed_of n (signed_of (8 * v) (lane_or_zero v bytes i))

abbrev pub nearest_unsigned : (n v : ℕ) → (bytes : List ℕ) → (i : ℕ) → ℕ
nearest_unsigned n v bytes i = clamp_unsigned_of n (pos (lane_or_zero v bytes i))

-- how many lanes below lane i a mask has
abbrev pub masked_below : (mask i : ℕ) → ℕ
masked_below mask i = count_ones (mask % 2 ^ i)

-- of the lanes below n, by f, that one which the mask has and below which it has i lanes; 0 where there is none
unfoldable pub masked_lane : (n mask : ℕ) → (f : ℕ → ℕ) → (i : ℕ) → ℕ
masked_lane zero mask f i = 0
masked_lane (suc n) mask f i = if has_bit mask n && masked_below mask n == i then f n else masked_lane n mask f i

-- ---- by operation
-- lane i of the result, of lanes of w bytes with n bits, of which the low n bits count: by the source and the mask
unfoldable pub lane_raw : WidthOp → (w n : ℕ) → (source : List ℕ) → (mask i : ℕ) → ℕ
lane_raw Pmovsxb w n source mask i = signed_lane n 1 source i
lane_raw Pmovsxw w n source mask i = signed_lane n 2 source i
lane_raw Pmovsxd w n source mask i = signed_lane n 4 source i
lane_raw Pmovzxb w n source mask i = lane_or_zero 1 source i
lane_raw Pmovzxw w n source mask i = lane_or_zero 2 source i
lane_raw Pmovzxd w n source mask i = lane_or_zero 4 source i
lane_raw Vpmovusw w n source mask i = nearest_unsigned n 2 source i
lane_raw Vpmovusd w n source mask i = nearest_unsigned n 4 source i
lane_raw Vpmovusq w n source mask i = nearest_unsigned n 8 source i
lane_raw Vpmovsw w n source mask i = nearest_signed n 2 source i
lane_raw Vpmovsd w n source mask i = nearest_signed n 4 source i
lane_raw Vpmovsq w n source mask i = nearest_signed n 8 source i
lane_raw Vpmovw w n source mask i = lane_or_zero 2 source i
lane_raw Vpmovd w n source mask i = lane_or_zero 4 source i
lane_raw Vpmovq w n source mask i = lane_or_zero 8 source i
lane_raw Vpcompress w n source mask i = masked_lane (length source / w) mask (lane_of w source) i
lane_raw Vpexpand w n source mask i = lane_of w source (masked_below mask i)

-- lane i of an operation on lanes of w bytes
abbrev pub lane_op : WidthOp → (w : ℕ) → (source : List ℕ) → (mask i : ℕ) → ℕ
lane_op op w source mask i = lane_raw op w (8 * w) source mask i % 2 ^ (8 * w)

-- the same of an operation of this crate; none of them looks at the immediate, the destination or the first operand
unfoldable pub op_lane : Op → (w imm : ℕ) → (dest first second : List ℕ) → (mask i : ℕ) → ℕ
op_lane (Width op) w imm dest first second mask i = lane_op op w second mask i
op_lane (Core op) w imm dest first second mask i = 0
op_lane (Gpr op) w imm dest first second mask i = 0
op_lane (Bit op) w imm dest first second mask i = 0
op_lane (String op) w imm dest first second mask i = 0
op_lane (Lane op) w imm dest first second mask i = 0
op_lane (Cross op) w imm dest first second mask i = 0
op_lane (Mac op) w imm dest first second mask i = 0
op_lane (Mask op) w imm dest first second mask i = 0
op_lane (Vector op) w imm dest first second mask i = 0
op_lane (Gather op) w imm dest first second mask i = 0
op_lane (Xsave op) w imm dest first second mask i = 0

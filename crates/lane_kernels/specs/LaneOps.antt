-- What the operations on each lane by itself give, and which lanes the moves take (SDM volume 2, on the page of each
-- operation, and volume 1, 9.3.2 for saturation).
use Rattle.std.specs.Prelude.{ℕ, ◌+◌, ◌-◌, ◌*◌, ◌/◌, ◌%◌, ◌^◌, ◌==◌, nat_lt, Bool, true, false, not, ◌||◌, if◌then◌else◌, List, zero, suc, min, max}
use Rattle.std.specs.Prelude.{pos, ◌+ℤ◌, ◌-ℤ◌, int_lt, bit_and, bit_or, bit_xor}
use Rattle.std.specs.Int.{bit_at}
use Rattle.row_table.specs.declared.operations.Op.{Op}
use Rattle.row_table.specs.declared.operations.Op.TheVariants.{Core, Gpr, Bit, String, Lane, Cross, Width, Mac, Mask, Vector, Gather, Xsave}
use Rattle.row_table.specs.declared.operations.LaneOp.{LaneOp}
use Rattle.row_table.specs.declared.operations.LaneOp.TheVariants.{Padd, Psub, Padds, Paddus, Psubs, Psubus, Pavg, Pminu, Pmaxu, Pmins, Pmaxs, Pand, Pandn, Por, Pxor, Psign, Pabs, Pcmpeq, Pcmpgt, Vpcmpu, Vpcmp, Vptestm, Vptestnm, Psrl, Psra, Psll, Vpsrlv, Vpsrav, Vpsllv, Vpror, Vprol, Vprorv, Vprolv, Vpternlog, Andp, Andnp, Orp, Xorp, Movdqa, Movdqu, Movap, Movup, Movntp, Movntdq, Movntdqa, Lddqu, Movd, Movq, Movss, MovssLoad, Movsd, MovsdLoad, Movlp, Movhp, MovhpStore, Movhlps, Movlhps, Movddup, Movsldup, Movshdup, Vpmaskmov, Vmaskmov}
use Rattle.gpr_flags.specs.Numbers.{is_negative, signed_of}
use Rattle.gpr_flags.specs.Shifts.{sar_value, rotated}
use Rattle.num_lanes.specs.Lane.{lane_of}
use Rattle.num_lanes.specs.Ranges.{clamp_signed_of, clamp_unsigned_of, ones_where}

-- the operations of this crate: the lane operations, all of them
unfoldable pub is_handled : Op → Bool
is_handled (Lane op) = true
is_handled (Core op) = false
is_handled (Gpr op) = false
is_handled (Bit op) = false
is_handled (String op) = false
is_handled (Cross op) = false
is_handled (Width op) = false
is_handled (Mac op) = false
is_handled (Mask op) = false
is_handled (Vector op) = false
is_handled (Gather op) = false
is_handled (Xsave op) = false

-- ---- words of the operations, over lanes of n bits
-- a number with the sign turned
abbrev pub negated : (n a : ℕ) → ℕ
negated n a = 2 ^ n - a

-- less, in two's complement
abbrev pub is_below : (n a b : ℕ) → Bool
is_below n a b = int_lt (signed_of n a) (signed_of n b)

-- a by the sign of b
abbrev pub with_sign_of : (n a b : ℕ) → ℕ
with_sign_of n a b = if b == 0 then 0 else if is_negative n b then negated n a else a

-- the relation that the low three bits of an immediate name: equal, less, not above, never, and the four opposites
abbrev pub relates : (imm : ℕ) → (equal less : Bool) → Bool
relates imm equal less =
    let k = imm % 8 in
    if k == 0 then equal else if k == 1 then less else if k == 2 then less || equal else if k == 3 then false
    else if k == 4 then not equal else if k == 5 then not less else if k == 6 then not (less || equal) else true

-- a count not below the width leaves 0, or where the sign comes in, the sign
abbrev pub left : (n a count : ℕ) → ℕ
left n a count = if nat_lt count n then a * 2 ^ count else 0

abbrev pub right : (n a count : ℕ) → ℕ
right n a count = if nat_lt count n then a / 2 ^ count else 0

abbrev pub right_signed : (n a count : ℕ) → ℕ
right_signed n a count = if nat_lt count n then sar_value n a count else ones_where n (is_negative n a)

abbrev pub rotated_right : (n a count : ℕ) → ℕ
rotated_right n a count = rotated n a (count % n)

abbrev pub rotated_left : (n a count : ℕ) → ℕ
rotated_left n a count = rotated n a (n - count % n)

-- the number of n bits whose bit i is f i
unfoldable pub number_of_bits : (n : ℕ) → (ℕ → ℕ) → ℕ
number_of_bits zero f = 0
number_of_bits (suc n) f = f n * 2 ^ n + number_of_bits n f

-- each bit is the immediate's bit at 4 times d's, 2 times a's and once b's
abbrev pub ternary : (n imm d a b : ℕ) → ℕ
ternary n imm d a b = number_of_bits n (λ i. bit_at imm (4 * bit_at d i + 2 * bit_at a i + bit_at b i))

-- lane i is in the lower half of 128 bits
abbrev pub is_lower : (n i : ℕ) → Bool
is_lower n i = nat_lt (i * n) 64

-- how many lanes a half has
abbrev pub half_lanes : (n : ℕ) → ℕ
half_lanes n = 64 / n

-- ---- by operation
-- lane i of the result, of which the low n bits count: by the lanes of n bits of the destination d, the first operand a and the
-- second b, each by its number, the immediate, and the count, which is the low 64 bits of the second operand
unfoldable pub lane_raw : LaneOp → (n imm : ℕ) → (d a b : ℕ → ℕ) → (count i : ℕ) → ℕ
lane_raw Padd n imm d a b count i = a i + b i
lane_raw Psub n imm d a b count i = a i + negated n (b i)
lane_raw Padds n imm d a b count i = clamp_signed_of n (signed_of n (a i) +ℤ signed_of n (b i))
lane_raw Paddus n imm d a b count i = clamp_unsigned_of n (pos (a i) +ℤ pos (b i))
lane_raw Psubs n imm d a b count i = clamp_signed_of n (signed_of n (a i) -ℤ signed_of n (b i))
lane_raw Psubus n imm d a b count i = clamp_unsigned_of n (pos (a i) -ℤ pos (b i))
lane_raw Pavg n imm d a b count i = (a i + b i + 1) / 2
lane_raw Pminu n imm d a b count i = min (a i) (b i)
lane_raw Pmaxu n imm d a b count i = max (a i) (b i)
lane_raw Pmins n imm d a b count i = if is_below n (b i) (a i) then b i else a i
lane_raw Pmaxs n imm d a b count i = if is_below n (b i) (a i) then a i else b i
lane_raw Pand n imm d a b count i = bit_and (a i) (b i)
lane_raw Pandn n imm d a b count i = bit_and (2 ^ 64 - 1 - a i) (b i)
lane_raw Por n imm d a b count i = bit_or (a i) (b i)
lane_raw Pxor n imm d a b count i = bit_xor (a i) (b i)
lane_raw Psign n imm d a b count i = with_sign_of n (a i) (b i)
lane_raw Pabs n imm d a b count i = with_sign_of n (b i) (b i)
lane_raw Pcmpeq n imm d a b count i = ones_where n (a i == b i)
lane_raw Pcmpgt n imm d a b count i = ones_where n (is_below n (b i) (a i))
lane_raw Vpcmpu n imm d a b count i = ones_where n (relates imm (a i == b i) (nat_lt (a i) (b i)))
lane_raw Vpcmp n imm d a b count i = ones_where n (relates imm (a i == b i) (is_below n (a i) (b i)))
lane_raw Vptestm n imm d a b count i = ones_where n (not (bit_and (a i) (b i) == 0))
lane_raw Vptestnm n imm d a b count i = ones_where n (bit_and (a i) (b i) == 0)
lane_raw Psrl n imm d a b count i = right n (a i) count
lane_raw Psra n imm d a b count i = right_signed n (a i) count
lane_raw Psll n imm d a b count i = left n (a i) count
lane_raw Vpsrlv n imm d a b count i = right n (a i) (b i)
lane_raw Vpsrav n imm d a b count i = right_signed n (a i) (b i)
lane_raw Vpsllv n imm d a b count i = left n (a i) (b i)
lane_raw Vpror n imm d a b count i = rotated_right n (a i) count
lane_raw Vprol n imm d a b count i = rotated_left n (a i) count
lane_raw Vprorv n imm d a b count i = rotated_right n (a i) (b i)
lane_raw Vprolv n imm d a b count i = rotated_left n (a i) (b i)
lane_raw Vpternlog n imm d a b count i = ternary n imm (d i) (a i) (b i)
lane_raw Andp n imm d a b count i = bit_and (a i) (b i)
lane_raw Andnp n imm d a b count i = bit_and (2 ^ 64 - 1 - a i) (b i)
lane_raw Orp n imm d a b count i = bit_or (a i) (b i)
lane_raw Xorp n imm d a b count i = bit_xor (a i) (b i)
lane_raw Movdqa n imm d a b count i = b i
lane_raw Movdqu n imm d a b count i = b i
lane_raw Movap n imm d a b count i = b i
lane_raw Movup n imm d a b count i = b i
lane_raw Movntp n imm d a b count i = b i
lane_raw Movntdq n imm d a b count i = b i
lane_raw Movntdqa n imm d a b count i = b i
lane_raw Lddqu n imm d a b count i = b i
lane_raw Movd n imm d a b count i = if i == 0 then b i else 0
lane_raw Movq n imm d a b count i = if i == 0 then b i else 0
lane_raw Movss n imm d a b count i = if i == 0 then b i else a i
lane_raw MovssLoad n imm d a b count i = if i == 0 then b i else 0
lane_raw Movsd n imm d a b count i = if i == 0 then b i else a i
lane_raw MovsdLoad n imm d a b count i = if i == 0 then b i else 0
lane_raw Movlp n imm d a b count i = if is_lower n i then b i else a i
lane_raw Movhp n imm d a b count i = if is_lower n i then a i else b (i - half_lanes n)
lane_raw MovhpStore n imm d a b count i = if is_lower n i then b (i + half_lanes n) else 0
lane_raw Movhlps n imm d a b count i = if i == 0 then b 1 else a i
lane_raw Movlhps n imm d a b count i = if i == 0 then a i else b (i - 1)
lane_raw Movddup n imm d a b count i = b (i / 2 * 2)
lane_raw Movsldup n imm d a b count i = b (i / 2 * 2)
lane_raw Movshdup n imm d a b count i = b (i / 2 * 2 + 1)
lane_raw Vpmaskmov n imm d a b count i = b i
lane_raw Vmaskmov n imm d a b count i = b i

-- lane i of an operation on lanes of w bytes
abbrev pub lane_op : LaneOp → (w imm : ℕ) → (dest first second : List ℕ) → (i : ℕ) → ℕ
lane_op op w imm dest first second i =
    lane_raw op (8 * w) imm (lane_of w dest) (lane_of w first) (lane_of w second) (lane_of 8 second 0) i % 2 ^ (8 * w)

-- the same of an operation of this crate; no lane operation looks at a mask
unfoldable pub op_lane : Op → (w imm : ℕ) → (dest first second : List ℕ) → (mask i : ℕ) → ℕ
op_lane (Lane op) w imm dest first second mask i = lane_op op w imm dest first second i
op_lane (Core op) w imm dest first second mask i = 0
op_lane (Gpr op) w imm dest first second mask i = 0
op_lane (Bit op) w imm dest first second mask i = 0
op_lane (String op) w imm dest first second mask i = 0
op_lane (Cross op) w imm dest first second mask i = 0
op_lane (Width op) w imm dest first second mask i = 0
op_lane (Mac op) w imm dest first second mask i = 0
op_lane (Mask op) w imm dest first second mask i = 0
op_lane (Vector op) w imm dest first second mask i = 0
op_lane (Gather op) w imm dest first second mask i = 0
op_lane (Xsave op) w imm dest first second mask i = 0

-- Which lanes of which operand the operations that move lanes take to each lane of the result (SDM volume 2, on the pages named at
-- the operations).
use Rattle.std.specs.Prelude.{ℕ, ◌+◌, ◌-◌, ◌*◌, ◌/◌, ◌%◌, ◌^◌, ◌==◌, nat_lt, ℤ, Bool, true, false, if◌then◌else◌, List, length}
use Rattle.std.specs.Int.{bit_at}
use Rattle.row_table.specs.declared.operations.Op.{Op}
use Rattle.row_table.specs.declared.operations.Op.TheVariants.{Core, Gpr, Bit, String, Lane, Cross, Width, Mac, Mask, Vector, Gather, Xsave}
use Rattle.row_table.specs.declared.operations.CrossOp.{CrossOp}
use Rattle.row_table.specs.declared.operations.CrossOp.TheVariants.{Punpckl, Punpckh, Packss, Packus, Pshufb, Pshufd, Pshufhw, Pshuflw, Palignr, Valign, Vperm, Vpermp, Vpermq, Vpermpd, Vpermi2, Vpermt2, Vpermilp, VpermilpIb, Shuf, Unpckl, Unpckh, Vshuf, Vperm2f128, Vperm2i128, Pblend, Blendp, Vpblend, Pblendv, Blendvp, Vpblendm, Broadcast, Broadcast2, Broadcast4, Broadcast8, Vpbroadcastm, Vpmovm2, Vpmov2m, Insert128, Insert256, Extract128, Extract256, Pinsr, Pextr, Insertps, InsertpsLoad, Extractps, Psrldq, Pslldq}
use Rattle.gpr_flags.specs.Numbers.{has_bit, is_negative, signed_of}
use Rattle.num_lanes.specs.Lane.{lane_of}
use Rattle.num_lanes.specs.Ranges.{clamp_signed_of, clamp_unsigned_of, ones_where}

-- the operations of this crate: those that move lanes to other places, all of them
unfoldable pub is_handled : Op → Bool
is_handled (Cross op) = true
is_handled (Core op) = false
is_handled (Gpr op) = false
is_handled (Bit op) = false
is_handled (String op) = false
is_handled (Lane op) = false
is_handled (Width op) = false
is_handled (Mac op) = false
is_handled (Mask op) = false
is_handled (Vector op) = false
is_handled (Gather op) = false
is_handled (Xsave op) = false

-- ---- words of the operations, over lanes of w bytes; a and b are operands, as the number in each lane
-- how many lanes a block of 128 bits has
abbrev pub per_block : (w : ℕ) → ℕ
per_block w = 16 / w

-- the number of the block that lane i is in, its first lane, and the place of lane i in it
abbrev pub block_of : (w i : ℕ) → ℕ
block_of w i = i / per_block w

abbrev pub block_start : (w i : ℕ) → ℕ
block_start w i = block_of w i * per_block w

abbrev pub place_of : (w i : ℕ) → ℕ
place_of w i = i % per_block w

-- two bits of an immediate, the field of that number
abbrev pub two_bits : (imm field : ℕ) → ℕ
two_bits imm field = imm / 2 ^ (2 * field) % 4

-- the lanes of a and of b in turn, those of the block from a place of it on
abbrev pub in_turn : (w from : ℕ) → (a b : ℕ → ℕ) → (i : ℕ) → ℕ
in_turn w from a b i =
    let k = block_start w i + from + place_of w i / 2 in
    if place_of w i % 2 == 0 then a k else b k

-- the number in two's complement in two lanes, of which lane k is the lower
abbrev pub signed_pair : (w : ℕ) → (a : ℕ → ℕ) → (k : ℕ) → ℤ
signed_pair w a k = signed_of (2 * (8 * w)) (a k + 2 ^ (8 * w) * a (k + 1))

-- the numbers of twice the width, one a lane: those of a's block, and then those of b's
abbrev pub wide_in_row : (w : ℕ) → (a b : ℕ → ℕ) → (i : ℕ) → ℤ
wide_in_row w a b i =
    let half = per_block w / 2 in
    let k = block_start w i + 2 * (place_of w i % half) in
    if nat_lt (place_of w i) half then signed_pair w a k else signed_pair w b k

-- lane k of n lanes of low and n lanes of high above them
abbrev pub of_both : (n : ℕ) → (low high : ℕ → ℕ) → (k : ℕ) → ℕ
of_both n low high k = if nat_lt k n then low k else high (k - n)

-- the same of the block of lane i, and 0 above both
abbrev pub of_blocks : (w i : ℕ) → (low high : ℕ → ℕ) → (k : ℕ) → ℕ
of_blocks w i low high k =
    if nat_lt k (per_block w) then low (block_start w i + k)
    else if nat_lt k (2 * per_block w) then high (block_start w i + (k - per_block w)) else 0

-- the place in the block that an immediate names for lane i: by bit i where lanes have 8 bytes, else by two bits for each place
abbrev pub named_place : (w imm i : ℕ) → ℕ
named_place w imm i = if w == 8 then bit_at imm i else two_bits imm (place_of w i)

-- the block that an immediate names for the block of lane i, of n lanes: by two bits where there are four, else by one
abbrev pub named_block : (w n imm i : ℕ) → ℕ
named_block w n imm i =
    let block = block_of w i in
    if n == 4 * per_block w then two_bits imm block else bit_at imm block

-- the blocks of so many lanes of a, of which one is replaced by the lowest of b
abbrev pub inserted : (size number : ℕ) → (a b : ℕ → ℕ) → (i : ℕ) → ℕ
inserted size number a b i = if i / size == number then b (i % size) else a i

-- a block of so many lanes of b, and 0 above it
abbrev pub extracted : (size number : ℕ) → (b : ℕ → ℕ) → (i : ℕ) → ℕ
extracted size number b i = if nat_lt i size then b (number * size + i) else 0

-- a with a number in the lane of bits 5:4, and 0 where bits 3:0 are set
abbrev pub with_single : (imm number : ℕ) → (a : ℕ → ℕ) → (i : ℕ) → ℕ
with_single imm number a i = if has_bit imm i then 0 else if i == two_bits imm 2 then number else a i

-- ---- by operation
-- lane i of the result, of which the low 8 * w bits count: by the n lanes of w bytes of the destination d, of the first operand a
-- and of the second b, each by its number, the immediate, the mask, and the number in the low 64 bits of the second operand
unfoldable pub lane_raw : CrossOp → (w n imm mask : ℕ) → (d a b : ℕ → ℕ) → (low i : ℕ) → ℕ
-- PUNPCKLBW/WD/DQ/QDQ, PUNPCKHBW/WD/DQ/QDQ, UNPCKLPS, UNPCKLPD, UNPCKHPS, UNPCKHPD
lane_raw Punpckl w n imm mask d a b low i = in_turn w 0 a b i
lane_raw Punpckh w n imm mask d a b low i = in_turn w (per_block w / 2) a b i
lane_raw Unpckl w n imm mask d a b low i = in_turn w 0 a b i
lane_raw Unpckh w n imm mask d a b low i = in_turn w (per_block w / 2) a b i
-- PACKSSWB/PACKSSDW, PACKUSWB, PACKUSDW
lane_raw Packss w n imm mask d a b low i = clamp_signed_of (8 * w) (wide_in_row w a b i)
lane_raw Packus w n imm mask d a b low i = clamp_unsigned_of (8 * w) (wide_in_row w a b i)
-- PSHUFB, PSHUFD, PSHUFHW, PSHUFLW
lane_raw Pshufb w n imm mask d a b low i = if is_negative (8 * w) (b i) then 0 else a (block_start w i + b i % per_block w)
lane_raw Pshufd w n imm mask d a b low i = b (block_start w i + two_bits imm (place_of w i))
lane_raw Pshufhw w n imm mask d a b low i =
    if nat_lt (place_of w i) 4 then b i else b (block_start w i + 4 + two_bits imm (place_of w i - 4))
lane_raw Pshuflw w n imm mask d a b low i =
    if nat_lt (place_of w i) 4 then b (block_start w i + two_bits imm (place_of w i)) else b i
-- PALIGNR, VALIGND/VALIGNQ
lane_raw Palignr w n imm mask d a b low i = of_blocks w i b a (place_of w i + imm)
lane_raw Valign w n imm mask d a b low i = of_both n b a (i + imm % n)
-- VPERMB, VPERMD/VPERMW, VPERMPS; VPERMQ and VPERMPD, which have a form by index and one by immediate
lane_raw Vperm w n imm mask d a b low i = b (a i % n)
lane_raw Vpermp w n imm mask d a b low i = b (a i % n)
lane_raw Vpermq w n imm mask d a b low i = b (i / 4 * 4 + two_bits imm (i % 4))
lane_raw Vpermpd w n imm mask d a b low i = b (i / 4 * 4 + two_bits imm (i % 4))
-- VPERMI2B, VPERMI2W/D/Q/PS/PD, VPERMT2B, VPERMT2W/D/Q/PS/PD
lane_raw Vpermi2 w n imm mask d a b low i = of_both n a b (d i % (2 * n))
lane_raw Vpermt2 w n imm mask d a b low i = of_both n d b (a i % (2 * n))
-- VPERMILPS, VPERMILPD: bit 1 of a lane of 8 bytes, the low two bits of one of 4
lane_raw Vpermilp w n imm mask d a b low i = a (block_start w i + (if w == 8 then b i / 2 % 2 else b i % 4))
lane_raw VpermilpIb w n imm mask d a b low i = b (block_start w i + named_place w imm i)
-- SHUFPS, SHUFPD
lane_raw Shuf w n imm mask d a b low i =
    let k = block_start w i + named_place w imm i in
    if nat_lt (place_of w i) (per_block w / 2) then a k else b k
-- VSHUFF32x4/VSHUFF64x2/VSHUFI32x4/VSHUFI64x2, VPERM2F128, VPERM2I128
lane_raw Vshuf w n imm mask d a b low i =
    let k = named_block w n imm i * per_block w + place_of w i in
    if nat_lt i (n / 2) then a k else b k
lane_raw Vperm2f128 w n imm mask d a b low i =
    let half = block_of w i in
    if has_bit imm (4 * half + 3) then 0 else of_both n a b (two_bits imm (2 * half) * per_block w + place_of w i)
lane_raw Vperm2i128 w n imm mask d a b low i =
    let half = block_of w i in
    if has_bit imm (4 * half + 3) then 0 else of_both n a b (two_bits imm (2 * half) * per_block w + place_of w i)
-- PBLENDW, BLENDPS, BLENDPD, VPBLENDD, PBLENDVB, BLENDVPS, BLENDVPD, VPBLENDMB/VPBLENDMW, VPBLENDMD/VPBLENDMQ; of the last two
-- these are the lanes that are masked in
lane_raw Pblend w n imm mask d a b low i = if has_bit imm (place_of w i) then b i else a i
lane_raw Blendp w n imm mask d a b low i = if has_bit imm i then b i else a i
lane_raw Vpblend w n imm mask d a b low i = if has_bit imm i then b i else a i
lane_raw Pblendv w n imm mask d a b low i = if has_bit mask i then b i else a i
lane_raw Blendvp w n imm mask d a b low i = if has_bit mask i then b i else a i
lane_raw Vpblendm w n imm mask d a b low i = b i
-- VPBROADCAST, VBROADCAST, and VPBROADCASTB/W/D/Q from a general register
lane_raw Broadcast w n imm mask d a b low i = b 0
lane_raw Broadcast2 w n imm mask d a b low i = b (i % 2)
lane_raw Broadcast4 w n imm mask d a b low i = b (i % 4)
lane_raw Broadcast8 w n imm mask d a b low i = b (i % 8)
-- VPBROADCASTM, VPMOVM2B/VPMOVM2W/VPMOVM2D/VPMOVM2Q, VPMOVB2M/VPMOVW2M/VPMOVD2M/VPMOVQ2M; the bits of the last are the signs of
-- these lanes
lane_raw Vpbroadcastm w n imm mask d a b low i = if w == 8 then low % 2 ^ 8 else low % 2 ^ 16
lane_raw Vpmovm2 w n imm mask d a b low i = ones_where (8 * w) (has_bit low i)
lane_raw Vpmov2m w n imm mask d a b low i = b i
-- VINSERTF128/VINSERTF32x4/VINSERTF64x2/VINSERTF32x8/VINSERTF64x4 and VINSERTI128/.., VEXTRACTF128/.. and VEXTRACTI128/..
lane_raw Insert128 w n imm mask d a b low i = inserted (per_block w) (imm % (n / per_block w)) a b i
lane_raw Insert256 w n imm mask d a b low i = inserted (2 * per_block w) (imm % 2) a b i
lane_raw Extract128 w n imm mask d a b low i = extracted (per_block w) (imm % (n / per_block w)) b i
lane_raw Extract256 w n imm mask d a b low i = extracted (2 * per_block w) (imm % 2) b i
-- PINSRB/PINSRD/PINSRQ, PINSRW, PEXTRB/PEXTRD/PEXTRQ, PEXTRW
lane_raw Pinsr w n imm mask d a b low i = if i == imm % per_block w then b 0 else a i
lane_raw Pextr w n imm mask d a b low i = if i == 0 then b (imm % per_block w) else 0
-- INSERTPS, EXTRACTPS
lane_raw Insertps w n imm mask d a b low i = with_single imm (b (two_bits imm 3)) a i
lane_raw InsertpsLoad w n imm mask d a b low i = with_single imm (b 0) a i
lane_raw Extractps w n imm mask d a b low i = if i == 0 then b (imm % 4) else 0
-- PSRLDQ, PSLLDQ
lane_raw Psrldq w n imm mask d a b low i = if nat_lt (place_of w i + imm) (per_block w) then a (i + imm) else 0
lane_raw Pslldq w n imm mask d a b low i = if nat_lt (place_of w i) imm then 0 else a (i - imm)

-- lane i of an operation on lanes of w bytes
abbrev pub lane_op : CrossOp → (w imm : ℕ) → (dest first second : List ℕ) → (mask i : ℕ) → ℕ
lane_op op w imm dest first second mask i =
    lane_raw op w (length second / w) imm mask (lane_of w dest) (lane_of w first) (lane_of w second) (lane_of 8 second 0) i
    % 2 ^ (8 * w)

-- the same of an operation of this crate
unfoldable pub op_lane : Op → (w imm : ℕ) → (dest first second : List ℕ) → (mask i : ℕ) → ℕ
op_lane (Cross op) w imm dest first second mask i = lane_op op w imm dest first second mask i
op_lane (Core op) w imm dest first second mask i = 0
op_lane (Gpr op) w imm dest first second mask i = 0
op_lane (Bit op) w imm dest first second mask i = 0
op_lane (String op) w imm dest first second mask i = 0
op_lane (Lane op) w imm dest first second mask i = 0
op_lane (Width op) w imm dest first second mask i = 0
op_lane (Mac op) w imm dest first second mask i = 0
op_lane (Mask op) w imm dest first second mask i = 0
op_lane (Vector op) w imm dest first second mask i = 0
op_lane (Gather op) w imm dest first second mask i = 0
op_lane (Xsave op) w imm dest first second mask i = 0

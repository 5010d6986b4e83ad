-- What products, sums, counts and double shifts of lanes give (SDM volume 2, on the page of each operation, and volume 1, 9.3.2 for
-- saturation).
use Rattle.std.specs.Prelude.{ℕ, zero, suc, ◌+◌, ◌*◌, ◌/◌, ◌-◌, ◌%◌, ◌^◌, ◌==◌, nat_lt, Bool, true, false, if◌then◌else◌, List, count_ones}
use Rattle.std.specs.Prelude.{ℤ, pos, ◌+ℤ◌, ◌-ℤ◌, ◌*ℤ◌}
use Rattle.std.specs.Int.{abs_diff}
use Rattle.std.specs.Int.Count.{count_leading_zeros}
use Rattle.row_table.specs.declared.operations.Op.{Op}
use Rattle.row_table.specs.declared.operations.Op.TheVariants.{Core, Gpr, Bit, String, Lane, Cross, Width, Mac, Mask, Vector, Gather, Xsave}
use Rattle.row_table.specs.declared.operations.MacOp.{MacOp}
use Rattle.row_table.specs.declared.operations.MacOp.TheVariants.{Pmull, Pmulh, Pmulhu, Pmuludq, Pmuldq, Pmulhrs, Phadd, Phadds, Phsub, Phsubs, Vplzcnt, Vpconflict, Vpopcnt, Phminposu, Vpshufbitqmb, Vpshld, Vpshrd, Vpshldv, Vpshrdv, Pmaddwd, Psadbw, Pmaddubsw, Vpdpbusd, Vpdpbusds, Vpdpwssd, Vpdpwssds, Vpmadd52lu, Vpmadd52hu, Vpmultishiftqb, Mpsadbw, Vdbpsadbw}
use Rattle.gpr_flags.specs.Numbers.{has_bit, signed_of, low_of, high_half}
use Rattle.gpr_flags.specs.Shifts.{rotated}
use Rattle.num_lanes.specs.Lane.{lane_of}
use Rattle.num_lanes.specs.Ranges.{clamp_signed_of, ones_where}

-- the operations of this crate: products, sums, counts and double shifts, all of them
unfoldable pub is_handled : Op → Bool
is_handled (Mac op) = true
is_handled (Core op) = false
is_handled (Gpr op) = false
is_handled (Bit op) = false
is_handled (String op) = false
is_handled (Lane op) = false
is_handled (Cross op) = false
is_handled (Width op) = false
is_handled (Mask op) = false
is_handled (Vector op) = false
is_handled (Gather op) = false
is_handled (Xsave op) = false

-- ---- words of the operations
-- the sum of f 0 to f (n - 1)
unfoldable pub sum_of : (n : ℕ) → (f : ℕ → ℕ) → ℕ
sum_of zero f = 0
sum_of (suc n) f = sum_of n f + f n

-- part k of a number, of parts of n bits, the lowest first
abbrev pub part : (n number k : ℕ) → ℕ
part n number k = number / 2 ^ (n * k) % 2 ^ n

-- the product of two numbers of n bits in two's complement
abbrev pub product : (n a b : ℕ) → ℤ
product n a b = signed_of n a *ℤ signed_of n b

-- the same of word k of each, and of byte k, where that of a is unsigned
abbrev pub word_product : (a b k : ℕ) → ℤ
word_product a b k = product 16 (part 16 a k) (part 16 b k)

abbrev pub byte_product : (a b k : ℕ) → ℤ
byte_product a b k = pos (part 8 a k) *ℤ signed_of 8 (part 8 b k)

-- two products of words, and four of bytes
abbrev pub words_sum : (a b : ℕ) → ℤ
words_sum a b = word_product a b 0 +ℤ word_product a b 1

abbrev pub bytes_sum : (a b : ℕ) → ℤ
bytes_sum a b = byte_product a b 0 +ℤ byte_product a b 1 +ℤ byte_product a b 2 +ℤ byte_product a b 3

-- the product of the low 52 bits of each
abbrev pub product52 : (a b : ℕ) → ℕ
product52 a b = a % 2 ^ 52 * (b % 2 ^ 52)

-- the bits of two numbers of n bits, those of `high` above those of `low`, shifted by a count modulo n: to the left, of which the
-- high n bits are taken, and to the right, of which the low n bits are
abbrev pub double_left : (n high low count : ℕ) → ℕ
double_left n high low count = (high * 2 ^ n + low) * 2 ^ (count % n) / 2 ^ n

abbrev pub double_right : (n high low count : ℕ) → ℕ
double_right n high low count = (high * 2 ^ n + low) / 2 ^ (count % n)

-- the quadword that has the bytes of lane i of lanes of w bytes
abbrev pub quadword : (w : ℕ) → (bytes : List ℕ) → (i : ℕ) → ℕ
quadword w bytes i = lane_of 8 bytes (i * w / 8)

-- the lower lane (k is 0) and the upper one (1) of the pair that lane i is of: in each 128 bits the pairs of the first operand, then
-- those of the second
abbrev pub of_pair : (w : ℕ) → (first second : List ℕ) → (i k : ℕ) → ℕ
of_pair w first second i k =
    let lanes = 16 / w in
    let from = if nat_lt (i % lanes) (lanes / 2) then first else second in
    lane_of w from (i / lanes * lanes + 2 * (i % (lanes / 2)) + k)

-- the first place below n at which f is least
unfoldable pub least_place : (n : ℕ) → (f : ℕ → ℕ) → ℕ
least_place zero f = 0
least_place (suc n) f = let place = least_place n f in if nat_lt (f n) (f place) then n else place

-- the least lane of the low 128 bits in lane 0, its place in lane 1, and zeros
abbrev pub least_and_place : (w : ℕ) → (bytes : List ℕ) → (i : ℕ) → ℕ
least_and_place w bytes i =
    let place = least_place (16 / w) (lane_of w bytes) in
    if i == 0 then lane_of w bytes place else if i == 1 then place else 0

-- how far the bytes that f gives at p and the three places above are from those that g gives at q and above, in sum
abbrev pub four_differences : (f g : ℕ → ℕ) → (p q : ℕ) → ℕ
four_differences f g p q = sum_of 4 (λ k. abs_diff (f (p + k)) (g (q + k)))

-- MPSADBW, of the word at that place among the bytes: within its 128 bits, bit 2 chooses the first operand's doubleword from which the
-- words count, and bits 1 and 0 choose the second's; the upper 128 bits of each 256 have bits 5 to 3 in place of them
abbrev pub word_of_differences : (imm : ℕ) → (first second : List ℕ) → (place : ℕ) → ℕ
word_of_differences imm first second place =
    let start = place / 16 * 16 in
    let bits = imm / 8 ^ (place / 16 % 2) in
    four_differences (lane_of 1 first) (lane_of 1 second) (start + 4 * (bits / 4 % 2) + place % 16 / 2) (start + 4 * (bits % 4))

-- byte p where doubleword k of each 128 bits is that which bits 2k + 1 and 2k of an immediate name
abbrev pub chosen : (imm : ℕ) → (bytes : List ℕ) → (p : ℕ) → ℕ
chosen imm bytes p = lane_of 1 bytes (p / 16 * 16 + 4 * part 2 imm (p % 16 / 4) + p % 4)

-- VDBPSADBW, of the word at that place among the bytes: word k of 64 bits has the bytes chosen from byte k on, and words 0 and 1 the
-- first operand's from byte 0 on, words 2 and 3 from byte 4 on
abbrev pub word_of_chosen : (imm : ℕ) → (first second : List ℕ) → (place : ℕ) → ℕ
word_of_chosen imm first second place =
    let start = place / 8 * 8 in
    let k = place % 8 / 2 in
    four_differences (lane_of 1 first) (chosen imm second) (start + 4 * (k / 2)) (start + k)

-- ---- by operation
-- lane i of the result, of which the low n bits count, n being the bits of w bytes: by the lanes i of the destination d, the first
-- operand a and the second b, by the operands where other lanes count, and by the immediate
unfoldable pub lane_raw : MacOp → (w n imm : ℕ) → (first second : List ℕ) → (i d a b : ℕ) → ℕ
lane_raw Pmull w n imm first second i d a b = a * b
lane_raw Pmulh w n imm first second i d a b = high_half n (product n a b)
lane_raw Pmulhu w n imm first second i d a b = high_half n (pos (a * b))
lane_raw Pmuludq w n imm first second i d a b = a % 2 ^ 32 * (b % 2 ^ 32)
lane_raw Pmuldq w n imm first second i d a b = low_of 64 (product 32 (a % 2 ^ 32) (b % 2 ^ 32))
lane_raw Pmulhrs w n imm first second i d a b = (low_of (2 * n) (product n a b) / 2 ^ (n - 2) + 1) / 2
lane_raw Phadd w n imm first second i d a b = of_pair w first second i 0 + of_pair w first second i 1
lane_raw Phadds w n imm first second i d a b =
    clamp_signed_of n (signed_of n (of_pair w first second i 0) +ℤ signed_of n (of_pair w first second i 1))
lane_raw Phsub w n imm first second i d a b = low_of n (pos (of_pair w first second i 0) -ℤ pos (of_pair w first second i 1))
lane_raw Phsubs w n imm first second i d a b =
    clamp_signed_of n (signed_of n (of_pair w first second i 0) -ℤ signed_of n (of_pair w first second i 1))
lane_raw Vplzcnt w n imm first second i d a b = count_leading_zeros n b
lane_raw Vpconflict w n imm first second i d a b = sum_of i (λ j. if lane_of w second j == b then 2 ^ j else 0)
lane_raw Vpopcnt w n imm first second i d a b = count_ones b
lane_raw Phminposu w n imm first second i d a b = least_and_place w second i
lane_raw Vpshufbitqmb w n imm first second i d a b = ones_where n (has_bit (quadword w first i) (b % 64))
lane_raw Vpshld w n imm first second i d a b = double_left n a b imm
lane_raw Vpshrd w n imm first second i d a b = double_right n b a imm
lane_raw Vpshldv w n imm first second i d a b = double_left n d a b
lane_raw Vpshrdv w n imm first second i d a b = double_right n a d b
lane_raw Pmaddwd w n imm first second i d a b = low_of n (words_sum a b)
lane_raw Psadbw w n imm first second i d a b = sum_of 8 (λ k. abs_diff (part 8 a k) (part 8 b k))
lane_raw Pmaddubsw w n imm first second i d a b = clamp_signed_of n (byte_product a b 0 +ℤ byte_product a b 1)
lane_raw Vpdpbusd w n imm first second i d a b = low_of n (signed_of n d +ℤ bytes_sum a b)
lane_raw Vpdpbusds w n imm first second i d a b = clamp_signed_of n (signed_of n d +ℤ bytes_sum a b)
lane_raw Vpdpwssd w n imm first second i d a b = low_of n (signed_of n d +ℤ words_sum a b)
lane_raw Vpdpwssds w n imm first second i d a b = clamp_signed_of n (signed_of n d +ℤ words_sum a b)
lane_raw Vpmadd52lu w n imm first second i d a b = d + product52 a b % 2 ^ 52
lane_raw Vpmadd52hu w n imm first second i d a b = d + product52 a b / 2 ^ 52
lane_raw Vpmultishiftqb w n imm first second i d a b = rotated 64 (quadword w second i) (a % 64)
lane_raw Mpsadbw w n imm first second i d a b = word_of_differences imm first second (i * w)
lane_raw Vdbpsadbw w n imm first second i d a b = word_of_chosen imm first second (i * w)

-- lane i of an operation on lanes of w bytes
abbrev pub lane_op : MacOp → (w imm : ℕ) → (dest first second : List ℕ) → (i : ℕ) → ℕ
lane_op op w imm dest first second i =
    lane_raw op w (8 * w) imm first second i (lane_of w dest i) (lane_of w first i) (lane_of w second i) % 2 ^ (8 * w)

-- the same of an operation of this crate; none of them looks at a mask
unfoldable pub op_lane : Op → (w imm : ℕ) → (dest first second : List ℕ) → (mask i : ℕ) → ℕ
op_lane (Mac op) w imm dest first second mask i = lane_op op w imm dest first second i
op_lane (Core op) w imm dest first second mask i = 0
op_lane (Gpr op) w imm dest first second mask i = 0
op_lane (Bit op) w imm dest first second mask i = 0
op_lane (String op) w imm dest first second mask i = 0
op_lane (Lane op) w imm dest first second mask i = 0
op_lane (Cross op) w imm dest first second mask i = 0
op_lane (Width op) w imm dest first second mask i = 0
op_lane (Mask op) w imm dest first second mask i = 0
op_lane (Vector op) w imm dest first second mask i = 0
op_lane (Gather op) w imm dest first second mask i = 0
op_lane (Xsave op) w imm dest first second mask i = 0

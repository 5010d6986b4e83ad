-- Operations on opmasks, as numbers of n bits (SDM volume 2, the pages of the instructions whose names begin with K).
use Rattle.std.specs.Prelude.{ℕ, ◌+◌, ◌-◌, ◌*◌, ◌/◌, ◌%◌, ◌^◌, ◌==◌, Bool, true, false, ◌||◌, nat_lt, if◌then◌else◌, bit_and, bit_or, bit_xor}
use Rattle.row_table.specs.declared.operations.Op.{Op}
use Rattle.row_table.specs.declared.operations.Op.TheVariants.{Core, Gpr, Bit, String, Lane, Cross, Width, Mac, Mask, Vector, Gather, Xsave}
use Rattle.row_table.specs.declared.operations.MaskOp.{MaskOp}
use Rattle.row_table.specs.declared.operations.MaskOp.TheVariants.{Kand, Kandn, Kor, Kxnor, Kxor, Kadd, Kunpck, Knot, Kmov, Kortest, Ktest, Kshiftr, Kshiftl}

-- how many bits of its opmasks an operation takes
abbrev pub is_width : ℕ → Bool
is_width n = n == 8 || (n == 16 || (n == 32 || n == 64))

-- what a function gives for an operation on opmasks; any other operation is none of this crate
abbrev pub on_opmasks : {A : Type 0} → (MaskOp → A) → (other : A) → Op → A
on_opmasks f other (Mask op) = f op
on_opmasks f other (Core op) = other
on_opmasks f other (Gpr op) = other
on_opmasks f other (Bit op) = other
on_opmasks f other (String op) = other
on_opmasks f other (Lane op) = other
on_opmasks f other (Cross op) = other
on_opmasks f other (Width op) = other
on_opmasks f other (Mac op) = other
on_opmasks f other (Vector op) = other
on_opmasks f other (Gather op) = other
on_opmasks f other (Xsave op) = other

-- each of n bits inverted
abbrev pub inverted : (n a : ℕ) → ℕ
inverted n a = 2 ^ n - 1 - a

-- ---- logic, sums and moves
-- two halves as one number (SDM volume 2, KUNPCKBW/KUNPCKWD/KUNPCKDQ)
abbrev pub unpacked : (half upper lower : ℕ) → ℕ
unpacked half upper lower = upper % 2 ^ half * 2 ^ half + lower % 2 ^ half

-- at the numbers a of the first source and b of the second, of n bits; an operation of one source takes a
unfoldable pub combined : MaskOp → (n a b : ℕ) → ℕ
combined Kand n a b = bit_and a b
combined Kandn n a b = bit_and (inverted n a) b
combined Kor n a b = bit_or a b
combined Kxnor n a b = inverted n (bit_xor a b)
combined Kxor n a b = bit_xor a b
combined Kadd n a b = (a + b) % 2 ^ n
combined Kunpck n a b = unpacked (n / 2) a b
combined Knot n a b = inverted n a
combined Kmov n a b = a
combined Kortest n a b = 0
combined Ktest n a b = 0
combined Kshiftr n a b = 0
combined Kshiftl n a b = 0

-- whether it is one of these
abbrev pub is_combining : MaskOp → Bool
is_combining Kand = true
is_combining Kandn = true
is_combining Kor = true
is_combining Kxnor = true
is_combining Kxor = true
is_combining Kadd = true
is_combining Kunpck = true
is_combining Knot = true
is_combining Kmov = true
is_combining Kortest = false
is_combining Ktest = false
is_combining Kshiftr = false
is_combining Kshiftl = false

abbrev pub is_logic : Op → Bool
is_logic op = on_opmasks is_combining false op

-- the same of any two opmasks, whose bits from bit n up don't count
unfoldable pub logic_of : Op → (n a b : ℕ) → ℕ
logic_of op n a b = on_opmasks (λ (m : MaskOp). combined m n (a % 2 ^ n) (b % 2 ^ n)) 0 op

-- ---- shifts
-- a count that isn't below n leaves 0 (SDM volume 2, KSHIFTLW/KSHIFTLB/KSHIFTLQ/KSHIFTLD and KSHIFTRW/..)
unfoldable pub shift_of : (left : Bool) → (n a count : ℕ) → ℕ
shift_of left n a count =
    if nat_lt count n then (if left then a % 2 ^ n * 2 ^ count % 2 ^ n else a % 2 ^ n / 2 ^ count) else 0

-- ---- tests
-- ZF and CF at the numbers a of the opmask in ModRM.reg and b of that in ModRM.r/m, of n bits (SDM volume 2, KORTESTW/.. and
-- KTESTW/..)
unfoldable pub is_zero : MaskOp → (n a b : ℕ) → Bool
is_zero Kortest n a b = bit_or a b == 0
is_zero Ktest n a b = bit_and b a == 0
is_zero Kand n a b = false
is_zero Kandn n a b = false
is_zero Kor n a b = false
is_zero Kxnor n a b = false
is_zero Kxor n a b = false
is_zero Kadd n a b = false
is_zero Kunpck n a b = false
is_zero Knot n a b = false
is_zero Kmov n a b = false
is_zero Kshiftr n a b = false
is_zero Kshiftl n a b = false

unfoldable pub is_carried : MaskOp → (n a b : ℕ) → Bool
is_carried Kortest n a b = bit_or a b == 2 ^ n - 1
is_carried Ktest n a b = bit_and b (inverted n a) == 0
is_carried Kand n a b = false
is_carried Kandn n a b = false
is_carried Kor n a b = false
is_carried Kxnor n a b = false
is_carried Kxor n a b = false
is_carried Kadd n a b = false
is_carried Kunpck n a b = false
is_carried Knot n a b = false
is_carried Kmov n a b = false
is_carried Kshiftr n a b = false
is_carried Kshiftl n a b = false

-- whether it is one of these
abbrev pub is_testing : MaskOp → Bool
is_testing Kortest = true
is_testing Ktest = true
is_testing Kand = false
is_testing Kandn = false
is_testing Kor = false
is_testing Kxnor = false
is_testing Kxor = false
is_testing Kadd = false
is_testing Kunpck = false
is_testing Knot = false
is_testing Kmov = false
is_testing Kshiftr = false
is_testing Kshiftl = false

abbrev pub is_test : Op → Bool
is_test op = on_opmasks is_testing false op

-- the same of any two opmasks, whose bits from bit n up don't count
unfoldable pub zero_of : Op → (n a b : ℕ) → Bool
zero_of op n a b = on_opmasks (λ (m : MaskOp). is_zero m n (a % 2 ^ n) (b % 2 ^ n)) false op

unfoldable pub carry_of : Op → (n a b : ℕ) → Bool
carry_of op n a b = on_opmasks (λ (m : MaskOp). is_carried m n (a % 2 ^ n) (b % 2 ^ n)) false op

-- Shifts and rotates of general registers, over numbers below 2 ^ width and a masked count: the value, and the flags by
-- that value. The SDM leaves AF open, OF at other counts than 1, and CF and the value at some counts: what stands here is
-- this program's own choice there.
use Rattle.std.specs.Prelude.{ℕ, ◌+◌, ◌-◌, ◌*◌, ◌/◌, ◌%◌, ◌^◌, ◌==◌, Bool, false, nat_lt, if◌then◌else◌}
use Rattle.gpr_flags.specs.declared.kinds.Flags.{Flags}
use Rattle.gpr_flags.specs.Numbers.{has_bit, is_negative}
use Rattle.gpr_flags.specs.Flags.{value_flags}
use Rattle.gpr_flags.specs.Shifts.{sar_value, rotated}
use Rattle.row_table.specs.declared.operations.Op.{Op}
use Rattle.row_table.specs.declared.operations.Op.TheVariants.{Bit}
use Rattle.row_table.specs.declared.operations.BitOp.{BitOp}
use Rattle.row_table.specs.declared.operations.BitOp.TheVariants.{Rol, Ror, Rcl, Rcr, Shl, Shr, Sar, Shld, Shrd}
use Rattle.bit_units.specs.Numbers.{differ, masked}

-- ---- shifts (SDM volume 2, SAL/SAR/SHL/SHR)
abbrev pub shl_value : (width a count : ℕ) → ℕ
shl_value width a count = a * 2 ^ count % 2 ^ width

abbrev pub shr_value : (a count : ℕ) → ℕ
shr_value a count = a / 2 ^ count

-- OF where the count is 1
abbrev pub overflow_at_one : (count : ℕ) → (overflow : Bool) → Flags → Bool
overflow_at_one count overflow f = if count == 1 then overflow else f.ovf

-- CF is the last bit shifted out, and stays where that was none of the number's; OF at 1: the highest bit changed
abbrev pub shl_flags : (width a count value : ℕ) → Flags → Flags
shl_flags width a count value f = value_flags width value (record f {
  cf = if nat_lt count width then has_bit a (width - count) else f.cf;
  ovf = overflow_at_one count (differ (is_negative width value) (is_negative width a)) f;
})

-- OF at 1: the old highest bit
abbrev pub shr_flags : (width a count value : ℕ) → Flags → Flags
shr_flags width a count value f = value_flags width value (record f {
  cf = if nat_lt count width then has_bit a (count - 1) else f.cf;
  ovf = overflow_at_one count (is_negative width a) f;
})

-- from the width on the last bit shifted out is the sign; OF at 1: cleared
abbrev pub sar_flags : (width a count value : ℕ) → Flags → Flags
sar_flags width a count value f = value_flags width value (record f {
  cf = if nat_lt count width then has_bit a (count - 1) else is_negative width a;
  ovf = overflow_at_one count false f;
})

-- ---- double shifts: nothing changes at a count above the width; OF at 1: the highest bit changed
-- a moves to the left, and b's high bits come in (SDM volume 2, SHLD)
abbrev pub shld_value : (width a b count : ℕ) → ℕ
shld_value width a b count = if nat_lt width count then a else (a * 2 ^ count + b / 2 ^ (width - count)) % 2 ^ width

abbrev pub shld_flags : (width a count value : ℕ) → Flags → Flags
shld_flags width a count value f = if nat_lt width count then f else value_flags width value (record f {
  cf = has_bit a (width - count);
  ovf = overflow_at_one count (differ (is_negative width value) (is_negative width a)) f;
})

-- a moves to the right, and b's low bits come in (SDM volume 2, SHRD)
abbrev pub shrd_value : (width a b count : ℕ) → ℕ
shrd_value width a b count = if nat_lt width count then a else (b * 2 ^ width + a) / 2 ^ count % 2 ^ width

abbrev pub shrd_flags : (width a count value : ℕ) → Flags → Flags
shrd_flags width a count value f = if nat_lt width count then f else value_flags width value (record f {
  cf = has_bit a (count - 1);
  ovf = overflow_at_one count (differ (is_negative width value) (is_negative width a)) f;
})

-- ---- rotates (SDM volume 2, RCL/RCR/ROL/ROR)
abbrev pub rol_value : (width a count : ℕ) → ℕ
rol_value width a count = rotated width a (width - count % width)

abbrev pub ror_value : (width a count : ℕ) → ℕ
ror_value width a count = rotated width a (count % width)

-- the number with CF above it as a further bit
abbrev pub with_carry : (width a : ℕ) → (carry : Bool) → ℕ
with_carry width a carry = (if carry then 2 ^ width else 0) + a

-- RCL and RCR with the carry, which is the bit above the value's
abbrev pub rcl_wide : (width a count : ℕ) → (carry : Bool) → ℕ
rcl_wide width a count carry = rotated (width + 1) (with_carry width a carry) (width + 1 - count % (width + 1))

abbrev pub rcr_wide : (width a count : ℕ) → (carry : Bool) → ℕ
rcr_wide width a count carry = rotated (width + 1) (with_carry width a carry) (count % (width + 1))

-- OF at 1 of a rotate to the left: the value's highest bit and CF differ
abbrev pub left_flags : (width count value : ℕ) → (carry : Bool) → Flags → Flags
left_flags width count value carry f =
    record f { cf = carry; ovf = overflow_at_one count (differ (is_negative width value) carry) f }

-- OF at 1 of a rotate to the right: the value's two highest bits differ
abbrev pub right_flags : (width count value : ℕ) → (carry : Bool) → Flags → Flags
right_flags width count value carry f = record f {
  cf = carry;
  ovf = overflow_at_one count (differ (is_negative width value) (has_bit value (width - 2))) f;
}

-- ---- by operation
-- a and b below 2 ^ width, the count masked
unfoldable pub shifted_value : BitOp → (width a b count : ℕ) → (carry : Bool) → ℕ
shifted_value Rol width a b count carry = rol_value width a count
shifted_value Ror width a b count carry = ror_value width a count
shifted_value Rcl width a b count carry = rcl_wide width a count carry % 2 ^ width
shifted_value Rcr width a b count carry = rcr_wide width a count carry % 2 ^ width
shifted_value Shl width a b count carry = shl_value width a count
shifted_value Shr width a b count carry = shr_value a count
shifted_value Sar width a b count carry = sar_value width a count
shifted_value Shld width a b count carry = shld_value width a b count
shifted_value Shrd width a b count carry = shrd_value width a b count
shifted_value _ width a b count carry = a

-- the same, at a count above 0
unfoldable pub shifted_flags : BitOp → (width a count value : ℕ) → Flags → Flags
shifted_flags Rol width a count value f = left_flags width count value (has_bit value 0) f
shifted_flags Ror width a count value f = right_flags width count value (is_negative width value) f
shifted_flags Rcl width a count value f = left_flags width count value (has_bit (rcl_wide width a count f.cf) width) f
shifted_flags Rcr width a count value f = right_flags width count value (has_bit (rcr_wide width a count f.cf) width) f
shifted_flags Shl width a count value f = shl_flags width a count value f
shifted_flags Shr width a count value f = shr_flags width a count value f
shifted_flags Sar width a count value f = sar_flags width a count value f
shifted_flags Shld width a count value f = shld_flags width a count value f
shifted_flags Shrd width a count value f = shrd_flags width a count value f
shifted_flags _ width a count value f = f

-- the value of a shift or a rotate, where another operation gives a
abbrev pub value_of_shift : Op → (width a b count : ℕ) → (carry : Bool) → ℕ
value_of_shift (Bit op) width a b count carry = shifted_value op width a b count carry
value_of_shift _ width a b count carry = a

-- its flags, by that value; at a count of 0 they stay
abbrev pub flags_of_shift : Op → (width a count value : ℕ) → Flags → Flags
flags_of_shift (Bit op) width a count value f = if count == 0 then f else shifted_flags op width a count value f
flags_of_shift _ width a count value f = f

-- a shift or a rotate of a by a count, where b is the second operand of a double shift; bits of a and b above the width
-- and bits of the count above the mask don't count
unfoldable pub shift_value : Op → (width a b count : ℕ) → Flags → ℕ
shift_value op width a b count f = value_of_shift op width (a % 2 ^ width) (b % 2 ^ width) (masked width count) f.cf

unfoldable pub shift_flags : Op → (width a b count : ℕ) → Flags → Flags
shift_flags op width a b count f =
    flags_of_shift op width (a % 2 ^ width) (masked width count) (shift_value op width a b count f) f

-- Quotients and remainders of a number of 2n bits by one of n bits (SDM volume 2, DIV and IDIV). No flag changes, since the SDM
-- leaves them open (this program's own).
use Rattle.std.specs.Prelude.{ℕ, ℤ, ◌+◌, ◌*◌, ◌%◌, ◌^◌, ◌==◌, Bool, ◌||◌, int_div, int_rem}
use Rattle.gpr_units.specs.Numbers.{number_of, is_outside}

-- the dividend, whose upper half is the low n bits of high, and its lower half those of low
unfoldable pub dividend_of : (signed : Bool) (n high low : ℕ) → ℤ
dividend_of signed n high low = number_of signed (2 * n) (high % 2 ^ n * 2 ^ n + low % 2 ^ n)

-- the divisor is the low n bits of by
unfoldable pub divisor_of : (signed : Bool) (n by : ℕ) → ℤ
divisor_of signed n by = number_of signed n (by % 2 ^ n)

-- the quotient rounds toward zero, and the remainder has the dividend's sign
abbrev pub quotient_of : (signed : Bool) (n high low by : ℕ) → ℤ
quotient_of signed n high low by = int_div (dividend_of signed n high low) (divisor_of signed n by)

abbrev pub remainder_of : (signed : Bool) (n high low by : ℕ) → ℤ
remainder_of signed n high low by = int_rem (dividend_of signed n high low) (divisor_of signed n by)

-- a division is refused where the divisor is 0, or the quotient is none of n bits
abbrev pub is_refused : (signed : Bool) (n high low by : ℕ) → Bool
is_refused signed n high low by = by % 2 ^ n == 0 || is_outside signed n (quotient_of signed n high low by)

-- Products of numbers of n bits, in twice as many (SDM volume 2, MUL and IMUL).
use Rattle.std.specs.Prelude.{ℕ, ℤ, ◌%◌, ◌^◌, ◌*ℤ◌, Bool}
use Rattle.gpr_flags.specs.declared.kinds.Flags.{Flags}
use Rattle.gpr_units.specs.Numbers.{number_of, is_outside}

-- the product of the low n bits of a and of b
unfoldable pub product_of : (signed : Bool) (n a b : ℕ) → ℤ
product_of signed n a b = number_of signed n (a % 2 ^ n) *ℤ number_of signed n (b % 2 ^ n)

-- CF and OF say that n bits don't hold the product; the other flags, which the SDM leaves open, stay (this program's own)
abbrev pub product_flags : (signed : Bool) (n : ℕ) → ℤ → Flags → Flags
product_flags signed n product f = record f { cf = is_outside signed n product; ovf = is_outside signed n product }

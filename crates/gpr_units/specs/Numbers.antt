-- Whole numbers as n bits, unsigned or in two's complement.
use Rattle.std.specs.Prelude.{ℕ, ℤ, pos, negsuc, ◌-◌, ◌^◌, Bool, true, false, nat_le}
use Rattle.gpr_flags.specs.Numbers.{signed_of}

-- n bits as a number, in two's complement or unsigned
abbrev pub number_of : (signed : Bool) (n : ℕ) → ℕ → ℤ
number_of false n bits = pos bits
number_of true n bits = signed_of n bits

-- whether a number is none of n bits, in two's complement or unsigned
abbrev pub is_outside : (signed : Bool) (n : ℕ) → ℤ → Bool
is_outside false n (pos m) = nat_le (2 ^ n) m
is_outside false n (negsuc m) = true
is_outside true n (pos m) = nat_le (2 ^ (n - 1)) m
is_outside true n (negsuc m) = nat_le (2 ^ (n - 1)) m

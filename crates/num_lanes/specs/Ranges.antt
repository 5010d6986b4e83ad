-- The nearest numbers of a range, and the numbers that say whether something holds.
use Rattle.std.specs.Prelude.{ℕ, ℤ, pos, ◌-◌, ◌^◌, neg_ℤ, Bool, if◌then◌else◌}
use Rattle.std.specs.Int.{int_min, int_max}
use Rattle.gpr_flags.specs.Numbers.{low_of}

-- the nearest number that n bits are in two's complement, as these bits (SDM volume 1, 9.3.2, signed saturation)
abbrev pub clamp_signed_of : (n : ℕ) → ℤ → ℕ
clamp_signed_of n value = low_of n (int_max (neg_ℤ (pos (2 ^ (n - 1)))) (int_min value (pos (2 ^ (n - 1) - 1))))

-- the nearest number of n bits without a sign (SDM volume 1, 9.3.2, unsigned saturation)
abbrev pub clamp_unsigned_of : (n : ℕ) → ℤ → ℕ
clamp_unsigned_of n value = low_of n (int_max (pos 0) (int_min value (pos (2 ^ n - 1))))

-- all bits 1, or all 0
abbrev pub ones_where : (n : ℕ) → Bool → ℕ
ones_where n holds = if holds then 2 ^ n - 1 else 0

-- Shifts and rotates of numbers of so many bits.
use Rattle.std.specs.Prelude.{ℕ, ◌+◌, ◌-◌, ◌*◌, ◌/◌, ◌%◌, ◌^◌, if◌then◌else◌}
use Rattle.gpr_flags.specs.Numbers.{is_negative}

-- to the right, with the sign (SDM volume 2, SAL/SAR/SHL/SHR); the quotient is rounded down, so for a negative number the
-- complement is shifted
abbrev pub sar_value : (width a count : ℕ) → ℕ
sar_value width a count =
    if is_negative width a then 2 ^ width - 1 - (2 ^ width - 1 - a) / 2 ^ count else a / 2 ^ count

-- the low bits, as many as `low`, go to the top, and the others down to bit 0 (SDM volume 2, RCL/RCR/ROL/ROR)
abbrev pub rotated : (width number low : ℕ) → ℕ
rotated width number low = number % 2 ^ low * 2 ^ (width - low) + number / 2 ^ low

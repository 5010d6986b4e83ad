-- Bits that differ, and the low bits of a count.
use Rattle.std.specs.Prelude.{ℕ, ◌%◌, ◌==◌, Bool, not, if◌then◌else◌}
use Rattle.std.specs.Bool.{beq}

-- one of two, and not both
abbrev pub differ : Bool → Bool → Bool
differ one other = not (beq one other)

-- a count's low five bits count, and its low six for 64 bits (SDM volume 2, SAL/SAR/SHL/SHR)
abbrev pub masked : (width count : ℕ) → ℕ
masked width count = if width == 64 then count % 64 else count % 32

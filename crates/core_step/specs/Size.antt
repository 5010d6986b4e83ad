-- Numbers of an operand's size, and the parts of general registers.
use Rattle.std.specs.Prelude.{ℕ, ◌+◌, ◌-◌, ◌*◌, ◌/◌, ◌%◌, ◌^◌, if◌then◌else◌}
use Rattle.gpr_flags.specs.Numbers.{is_negative}
use Rattle.core_step.specs.declared.sizes.Size.{Size}
use Rattle.core_step.specs.declared.sizes.Size.TheVariants.{Byte, Word, Double, Quad}

abbrev pub bytes_in : Size → ℕ
bytes_in Byte = 1
bytes_in Word = 2
bytes_in Double = 4
bytes_in Quad = 8

abbrev pub bits_in : Size → ℕ
bits_in size = 8 * bytes_in size

-- the low bits of a number, as many as the size has
abbrev pub cut : Size → ℕ → ℕ
cut size number = number % 2 ^ bits_in size

-- a number of that size at 64 bits, with its sign (SDM volume 1, 7.3.1.5)
abbrev pub sign_extended : Size → ℕ → ℕ
sign_extended size number = if is_negative (bits_in size) number then 2 ^ 64 - 2 ^ bits_in size + number else number

-- the size that has half as many bits; a byte has none
abbrev pub half_of : Size → Size
half_of Byte = Byte
half_of Word = Byte
half_of Double = Word
half_of Quad = Double

-- a register with other bits 8 to 15
abbrev pub with_high_byte : ℕ → ℕ → ℕ
with_high_byte old number = old / 2 ^ 16 * 2 ^ 16 + number % 2 ^ 8 * 2 ^ 8 + old % 2 ^ 8

-- The bits of a number, its sign, and whole numbers as n bits.
use Rattle.std.specs.Prelude.{ℕ, ℤ, pos, negsuc, ◌-◌, ◌*◌, ◌/◌, ◌%◌, ◌^◌, ◌-ℤ◌, ◌==◌, Bool, if◌then◌else◌}
use Rattle.std.specs.Int.{bit_at}

-- whether a bit of a number is 1; the lowest has the place 0 (SDM volume 1, 1.3.1)
abbrev pub has_bit : (number place : ℕ) → Bool
has_bit number place = bit_at number place == 1

-- whether the highest bit of a number of that width is 1, its sign (SDM volume 1, 4.2.1.2)
abbrev pub is_negative : (width number : ℕ) → Bool
is_negative width number = has_bit number (width - 1)

-- n bits as a number in two's complement (SDM volume 1, 4.2.1.2)
abbrev pub signed_of : (n : ℕ) → ℕ → ℤ
signed_of n bits = if is_negative n bits then pos bits -ℤ pos (2 ^ n) else pos bits

-- the low n bits of a number, in two's complement; negsuc m is -(m + 1), whose bits are those of m, inverted
abbrev pub low_of : (n : ℕ) → ℤ → ℕ
low_of n (pos m) = m % 2 ^ n
low_of n (negsuc m) = 2 ^ n - 1 - m % 2 ^ n

-- the halves of a number of 2n bits, as a product of two numbers of n bits is (SDM volume 2, MUL and IMUL)
abbrev pub low_half : (n : ℕ) → ℤ → ℕ
low_half n product = low_of (2 * n) product % 2 ^ n

abbrev pub high_half : (n : ℕ) → ℤ → ℕ
high_half n product = low_of (2 * n) product / 2 ^ n

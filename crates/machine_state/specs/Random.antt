-- The random stream, from which a program's first random bytes and those of getrandom come.
use Rattle.std.specs.Prelude.{ℕ, ◌+◌, ◌*◌, ◌^◌, ◌%◌}

-- the number of the stream behind a number; each such number is a draw of 8 bytes, the lowest first (a linear congruence with the
-- multiplier and increment of Knuth's MMIX; that a stream from a seed stands for random bytes is this program's own)
abbrev pub next_random : ℕ → ℕ
next_random number = (number * 6364136223846793005 + 1442695040888963407) % 2 ^ 64

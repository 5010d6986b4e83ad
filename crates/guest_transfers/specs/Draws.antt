-- What a transfer draws from the random stream (Linux, getrandom(2); the stream is this program's own).
use Rattle.std.specs.Prelude.{ℕ, zero, suc, ◌+◌, ◌/◌, ◌%◌, List, slice_index}
use Rattle.byteorder.specs.Endian.{little_bytes}
use Rattle.machine_state.specs.Memory.{bytes_at}
use Rattle.machine_state.specs.Random.{next_random}

-- the number of the stream behind so many draws
unfoldable pub number_after : ℕ → ℕ → ℕ
number_after number zero = number
number_after number (suc draws) = number_after (next_random number) draws

-- a byte of successive draws behind a number, of which each has 8 bytes, the lowest first
abbrev pub drawn_byte : ℕ → ℕ → ℕ
drawn_byte number at = slice_index (little_bytes 8 (number_after number (at / 8 + 1))) (at % 8)

-- so many bytes of successive draws behind a number, from one of them on
abbrev pub drawn : ℕ → (from count : ℕ) → List ℕ
drawn number from count = bytes_at (drawn_byte number) from count

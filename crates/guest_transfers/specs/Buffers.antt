-- A list of buffers in guest memory (struct iovec of x86-64 Linux: address and length, 8 bytes each).
use Rattle.std.specs.Prelude.{ℕ, zero, suc, ◌+◌, List, [], ◌∷◌}
use Rattle.machine_state.specs.Memory.{number_at}
use Rattle.guest_transfers.specs.declared.kinds.Piece.{Piece}

-- the bytes of a record, and the most records of a list (UIO_MAXIOV of Linux)
abbrev pub record_size : ℕ
record_size = 16

abbrev pub most_buffers : ℕ
most_buffers = 1024

abbrev pub buffer_at : (ℕ → ℕ) → ℕ → Piece
buffer_at byte addr = record { addr = number_at byte addr 8; len = number_at byte (addr + 8) 8 }

-- so many buffers, whose records stand one behind the other
unfoldable pub buffers_at : (ℕ → ℕ) → (addr count : ℕ) → List Piece
buffers_at byte addr zero = []
buffers_at byte addr (suc count) = buffer_at byte addr ∷ buffers_at byte (addr + record_size) count

-- Pieces of guest memory, one behind the other, as the buffers of readv and writev are (Linux, readv(2)).
use Rattle.std.specs.Prelude.{ℕ, ◌+◌, ◌-◌, ◌%◌, Bool, if◌then◌else◌, List, [], ◌∷◌, ◌++◌, take, drop, min, nat_lt, is_none, sum_by, slice_range}
use Rattle.std.specs.List.{list_all}
use Rattle.machine_state.specs.Memory.{Permissions, page_size, first_miss, bytes_at, written}
use Rattle.machine_state.specs.declared.kinds.Access.{Access}
use Rattle.machine_state.specs.declared.kinds.Kind.{Kind}
use Rattle.guest_transfers.specs.declared.kinds.Piece.{Piece}

-- the most bytes of a transfer (MAX_RW_COUNT of Linux)
abbrev pub most_asked : ℕ
most_asked = 0x7FFFF000

-- how many bytes pieces have
abbrev pub asked : List Piece → ℕ
asked pieces = sum_by (λ piece. piece.len) pieces

-- whether each byte of each piece may be accessed
abbrev pub are_allowed : Permissions → Kind → List Piece → Bool
are_allowed perms kind pieces = list_all (λ piece. is_none (first_miss perms kind piece.addr piece.len)) pieces

-- the bytes of pieces, joined
unfoldable pub pieces_bytes : (ℕ → ℕ) → List Piece → List ℕ
pieces_bytes byte [] = []
pieces_bytes byte (piece ∷ pieces) = bytes_at byte piece.addr piece.len ++ pieces_bytes byte pieces

-- the bytes of memory after these are written along pieces, in order, so that a later piece overwrites an earlier one
unfoldable pub spread : (ℕ → ℕ) → List Piece → List ℕ → ℕ → ℕ
spread byte [] bytes = byte
spread byte (piece ∷ pieces) bytes = spread (written byte piece.addr (take piece.len bytes)) pieces (drop piece.len bytes)

-- what is left of pieces behind so many of their bytes
unfoldable pub pieces_from : List Piece → ℕ → List Piece
pieces_from [] done = []
pieces_from (piece ∷ pieces) done =
    if nat_lt done piece.len then record { addr = piece.addr + done; len = piece.len - done } ∷ pieces
    else pieces_from pieces (done - piece.len)

-- the bytes of pieces from one up to another
abbrev pub bytes_between : (ℕ → ℕ) → List Piece → (from to : ℕ) → List ℕ
bytes_between byte pieces from to = slice_range (pieces_bytes byte pieces) from to

-- the bytes of the first piece that lie on the page of its first byte
abbrev pub first_part : Kind → List Piece → Access
first_part kind [] = record { kind = kind; addr = 0; len = 0 }
first_part kind (piece ∷ pieces) =
    record { kind = kind; addr = piece.addr; len = min piece.len (page_size - piece.addr % page_size) }

-- the part of a transfer with its next byte, behind so many: as far as that byte's piece and page go
abbrev pub part_at : Kind → List Piece → (done : ℕ) → Access
part_at kind pieces done = first_part kind (pieces_from pieces done)

-- one piece
abbrev pub single : (addr len : ℕ) → List Piece
single addr len = record { addr = addr; len = len } ∷ []

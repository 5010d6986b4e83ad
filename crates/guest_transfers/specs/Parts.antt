-- The parts of transfers, as the calls on one page move them. No public clause cites this module.
use Rattle.std.specs.Prelude.{ℕ, ◌≡◌, ◌≤◌, ◌<◌, ◌+◌, ◌^◌, ◌-◌, ◌%◌, ◌⊎◌, ◌++◌, ⊤, min, Some, None, List, [], length, Option, IsSome, All}
use Rattle.machine_state.specs.declared.kinds.Miss.{Miss}
use Rattle.machine_state.specs.declared.kinds.Miss.TheVariants.{Unmapped, Denied, NonCanonical, Away}
use Rattle.host_edge.specs.Streams.{told}
use Rattle.machine_state.specs.Memory.{page_size}
use Rattle.machine_state.specs.declared.kinds.Kind.TheVariants.{Read}
use Rattle.guest_pages.specs.Table.{Table, blocked}
use Rattle.guest_transfers.specs.Buffers.{record_size}
use Rattle.guest_pages.specs.Pages.{PagesValue}
use Rattle.guest_pages.specs.Changes.{IsWritten}
use Rattle.guest_transfers.specs.declared.kinds.Piece.{Piece}

-- an access is allowed, but on a page that is away
abbrev pub IsAway : Miss → Type 0
IsAway (Away slot) = ⊤
IsAway (Unmapped addr) = ⊥
IsAway (Denied addr) = ⊥
IsAway (NonCanonical addr) = ⊥

-- an access isn't allowed
abbrev pub IsDenied : Miss → Type 0
IsDenied (Away slot) = ⊥
IsDenied (Unmapped addr) = ⊤
IsDenied (Denied addr) = ⊤
IsDenied (NonCanonical addr) = ⊤

-- pieces end in the lower half of the address space
abbrev pub AreLow : List Piece → Type 0
AreLow pieces = All (λ piece. 0 < piece.len → piece.addr + piece.len ≤ 2 ^ 47) pieces

-- at most so many bytes came from a source to memory
pub record TookPart (old new : PagesValue) (addr most count : ℕ) (left left' : Option (List ℕ)) : Type 0 where
  pub bytes : List ℕ
  pub count_is : length bytes ≡ count
  pub within : count ≤ most
  pub written : IsWritten old new addr bytes
  pub taken : IsSome left → told left ≡ bytes ++ told left'
  pub ended : IsSome left → count ≡ 0 → told left' ≡ []

-- a record can't be read now: the bytes before some part of it can, and this keeps the part from it
pub record RecordStops (table : Table) (addr : ℕ) (miss : Miss) : Type 0 where
  pub skip : ℕ
  pub within : skip < record_size
  pub begins : (skip ≡ 0) ⊎ ((addr + skip) % page_size ≡ 0)
  pub low : addr + skip < 2 ^ 64
  pub before : blocked table Read addr skip ≡ None
  pub stopped : blocked table Read (addr + skip) (min (record_size - skip) (page_size - (addr + skip) % page_size)) ≡ Some miss

-- The path that a call names, in guest memory (Linux, open(2)).
use Rattle.std.specs.Prelude.{ℕ, ◌==◌, if◌then◌else◌, List, length, take, Option, Some, None}
use Rattle.std.specs.List.{position}
use Rattle.machine_state.specs.Memory.{Memory, allowed_run}
use Rattle.machine_state.specs.declared.kinds.Kind.TheVariants.{Read}

-- the most bytes of a path, with its final 0 (this program's own)
abbrev pub path_max : ℕ
path_max = 256

-- what comes of a path: its bytes, or that it has too many or one that can't be read
pub data Path : Type 0 where
  Text : List ℕ → Path
  TooLong : Path
  Fault : Path

-- the place of the first 0
abbrev pub end_of : List ℕ → Option ℕ
end_of bytes = position (λ byte. byte == 0) bytes

-- the path that some bytes hold, of which those from the first that can't be read on are left out
abbrev pub ended_path : List ℕ → Option ℕ → Path
ended_path bytes (Some end) = Text (take end bytes)
ended_path bytes None = if length bytes == path_max then TooLong else Fault

abbrev pub path_in : List ℕ → Path
path_in bytes = ended_path bytes (end_of bytes)

-- the path at an address: up to its first 0, and no further than so many bytes
abbrev pub path_at : Memory → ℕ → Path
path_at memory addr = path_in (allowed_run memory Read addr path_max)

-- What stands on the outside of a guest, and how far it is told.
use Rattle.std.specs.Prelude.{◌≡◌, ℕ, List, Option, Some, None, IfSome}
use Rattle.machine_state.specs.World.{World}
use Rattle.host_edge.specs.Files.{Held}
use Rattle.linux_calls.specs.Outside.{Standing, Streams, AreTold}

-- a host's files, by path
abbrev pub Files : Type 0
Files = List ℕ → Option (List ℕ)

-- what stands on the outside: the host's files, the input that is left, output and error output
pub record Outside : Type 0 where
  pub files : Files
  pub left : List ℕ
  pub out : List ℕ
  pub err : List ℕ

-- what stands there beside a world: its streams, and files of which it knows nothing
abbrev pub outside : Files → World → Outside
outside files w = record { files = files; left = w.left; out = w.out; err = w.err }

-- what stands on the streams
abbrev pub standing_on : Outside → Standing
standing_on on = record { left = on.left; out = on.out; err = on.err }

-- the same files, and this on the streams
abbrev pub outside_with : Files → Standing → Outside
outside_with files on = record { files = files; left = on.left; out = on.out; err = on.err }

-- the files of a host, where it tells them
abbrev pub files_of : Option Held → Files
files_of None = λ path. None
files_of (Some held) = held.file

-- what stands on the outside, as far as a host tells its files, and three streams what they have
pub record IsOutside (held : Option Held) (s : Streams) (on : Outside) : Type 0 where
  pub files_are : IfSome held (λ held. on.files ≡ held.file)
  pub streams_are : AreTold s (standing_on on)

-- something of this kind stands on the outside
pub record Leaves (Stands May : Outside → Type 0) : Type 0 where
  pub now : Outside
  pub stands : Stands now
  pub may : May now

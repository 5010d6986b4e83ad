-- What the files of a host in memory are: this program's own.
use Rattle.std.specs.Prelude.{ℕ, List}
use Rattle.host_edge.specs.NamedFiles.{NamedFile}

-- the files, and how many bytes their paths and contents may have
pub record FilesState : Type 0 where
  pub files : List NamedFile
  pub room : ℕ

-- A host's files as one list: this program's own.
use Rattle.std.specs.Prelude.{ℕ, ◌+◌, Bool, ◌&&◌, List, [], ◌∷◌, length, Option, Some, None, if◌then◌else◌, nat_le, sum_by, String, Vec, string_bytes}
use Rattle.std.specs.Str.{bytes_eq}

-- a file's path and its bytes
pub record NamedFile : Type 0 where
  pub path : List ℕ
  pub bytes : List ℕ

-- the bytes of the first file with this path
abbrev pub file_in : List NamedFile → List ℕ → Option (List ℕ)
file_in [] path = None
file_in (file ∷ files) path = if bytes_eq file.path path then Some file.bytes else file_in files path

-- the files but for the first with this path
abbrev pub without : List ℕ → List NamedFile → List NamedFile
without path [] = []
without path (file ∷ files) = if bytes_eq file.path path then files else file ∷ without path files

-- the files once these bytes are stored under this path
abbrev pub stored : List NamedFile → List ℕ → List ℕ → List NamedFile
stored files path bytes = record { path = path; bytes = bytes } ∷ without path files

-- how many bytes the path and the content of a file have
abbrev pub file_size : NamedFile → ℕ
file_size file = length file.path + length file.bytes

-- how many bytes the paths and contents of files have
abbrev pub total_size : List NamedFile → ℕ
total_size files = sum_by file_size files

-- whether there is room for these files, of which a host has at most 64
abbrev pub fits_in : ℕ → List NamedFile → Bool
fits_in room files = nat_le (total_size files) room && nat_le (length files) 64

-- a text and bytes as a file
abbrev pub named : {Y Z : Type 0} → String Y × Vec ℕ Z → NamedFile
named file = record { path = string_bytes file.0; bytes = file.1.items }

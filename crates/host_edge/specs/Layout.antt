-- How the files lie one behind the other in a buffer: this program's own.
use Rattle.std.specs.Prelude.{◌≡◌, ℕ, ◌+◌, ◌≤◌, ◌<◌, List, [], ◌∷◌, ◌++◌, length, take, drop, remove, sum_by, Some}
use Rattle.host_edge.specs.NamedFiles.{NamedFile, file_in, without}
use Rattle.host_edge.specs.declared.mem_files.Entry.{Entry}
use Rattle.host_edge.specs.declared.mem_files.Place.{Place}

-- how many bytes of the buffer a file takes
abbrev pub entry_size : Entry → ℕ
entry_size entry = entry.path + entry.content

-- the files that entries name, each with its path in front of its content
abbrev pub files_at : List Entry → List ℕ → List NamedFile
files_at [] buffer = []
files_at (entry ∷ entries) buffer =
    record { path = take entry.path buffer; bytes = take entry.content (drop entry.path buffer) }
    ∷ files_at entries (drop (entry_size entry) buffer)

-- the place of the first file with this path, by which it is read and taken away
pub record IsPlaced (entries : List Entry) (buffer path : List ℕ) (place : Place) : Type 0 where
  pub index : place.index < length entries
  pub inside : place.at + entry_size place.entry ≤ length buffer
  pub sizes : sum_by entry_size (remove entries place.index) + entry_size place.entry ≡ sum_by entry_size entries
  pub content : file_in (files_at entries buffer) path
      ≡ Some (take place.entry.content (drop (place.at + place.entry.path) buffer))
  pub others : files_at (remove entries place.index)
      (take place.at buffer ++ drop (place.at + entry_size place.entry) buffer)
      ≡ without path (files_at entries buffer)

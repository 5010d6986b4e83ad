-- The guest's files and its descriptors.
use Rattle.std.specs.Prelude.{◌≡◌, ◌≢◌, ℕ, ◌≤◌, false, true, List, [], length, slice_index_or, slice_set, All, Option, Some, None, IfSome}
use Rattle.std.specs.List.{AllPairs}
use Rattle.machine_state.specs.World.{GuestFile, IsGuestFile, IsOpened, IsPlace, descriptor_count, no_file, place_at}
use Rattle.machine_state.specs.declared.kinds.Place.{Place}

-- the files, what the descriptors stand for by their numbers, and the most bytes that a file may have
pub record FilesValue : Type 0 where
  pub files : List GuestFile
  pub places : List (Option Place)
  pub cap : ℕ

-- how many files there may be, and the most bytes of a name (this program's own; Linux, NAME_MAX)
abbrev pub file_count : ℕ
file_count = 16

abbrev pub name_max : ℕ
name_max = 255

-- a file that may be given at the start: its name has 1 to 255 bytes, it is no longer than the cap, and one that doesn't
-- exist is empty
pub record IsFit (cap : ℕ) (file : GuestFile) : Type 0 where
  pub named : 1 ≤ length file.name
  pub short : length file.name ≤ name_max
  pub most : length file.content ≤ cap
  pub absent : file.exists ≡ false → length file.content ≡ 0

-- the files that there may be at the start: at most 16, of different names
pub record AreEntries (cap : ℕ) (files : List GuestFile) : Type 0 where
  pub count : length files ≤ file_count
  pub fit : All (IsFit cap) files
  pub distinct : AllPairs (λ a b. a.name ≢ b.name) files

-- the file that a place is of
abbrev pub file_of : List GuestFile → Option ℕ → GuestFile
file_of files None = no_file
file_of files (Some number) = slice_index_or files number no_file

-- the files with one of them changed
abbrev pub with_file : List GuestFile → Option ℕ → GuestFile → List GuestFile
with_file files None file = files
with_file files (Some number) file = slice_set files number file

-- files and descriptors as they can be
pub record AreFiles (value : FilesValue) : Type 0 where
  pub count : length value.files ≤ file_count
  pub files : All (IsGuestFile value.cap) value.files
  pub descriptors : length value.places ≡ descriptor_count
  pub place : (number : ℕ) → IfSome (place_at value.places number) (IsPlace (length value.files) number)
  pub opened : (number : ℕ) → IfSome (place_at value.places number) (IsOpened value.files)

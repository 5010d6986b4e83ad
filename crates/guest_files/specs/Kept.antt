-- What the files keep inside.
use Rattle.std.specs.Prelude.{◌≡◌, ℕ, ◌≤◌, true, List, map, All, Option}
use Rattle.std.specs.Vec.{vec_capacity}
use Rattle.machine_state.specs.Memory.{AreBytes}
use Rattle.machine_state.specs.World.{GuestFile}
use Rattle.machine_state.specs.declared.kinds.Place.{Place}
use Rattle.guest_files.specs.Entries.{guest_file}
use Rattle.guest_files.specs.Files.{AreFiles, FilesValue}
use Rattle.guest_files.specs.declared.entries.Entry.{Entry}

-- an entry that can be written has room for a file of the cap's length
abbrev pub HasRoom : ℕ → Entry → Type 0
HasRoom cap entry = entry.writable ≡ true → cap ≤ vec_capacity entry.bytes

-- the bytes of a name and of a content are bytes
pub record HasBytes (file : GuestFile) : Type 0 where
  pub name : AreBytes file.name
  pub content : AreBytes file.content

-- what entries and places stand for
abbrev pub value_of : List Entry → List (Option Place) → ℕ → FilesValue
value_of entries places cap = record { files = map guest_file entries; places = places; cap = cap }

-- what they stand for is as it can be, and each file that can be written has its room
pub record AreKept (entries : List Entry) (places : List (Option Place)) (cap : ℕ) : Type 0 where
  pub files : AreFiles (value_of entries places cap)
  pub room : All (HasRoom cap) entries

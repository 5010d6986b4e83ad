-- The guest's files of a command: those that there are before the first step, and what is stored of them after the last (this
-- program's own).
use Rattle.std.specs.Prelude.{ℕ, true, false, nat_lt, if◌then◌else◌, List, [], length, map, is_some, Option, Some, None, Result, Ok, Err}
use Rattle.host_edge.specs.declared.outside.HostCall.TheVariants.{Load}
use Rattle.machine_state.specs.World.{GuestFile}
use Rattle.guest_files.specs.Files.{file_of}
use Rattle.guest_files.specs.Open.{number_of}
use Rattle.command_words.specs.declared.kinds.Command.{Command}
use Rattle.command_words.specs.Texts.{word_at}
use Rattle.command_words.specs.Pairs.{name_at, path_in, place_naming}
use Rattle.command_words.specs.Files.{only_out}
use Rattle.xemu_top.specs.declared.ends.End.{End}
use Rattle.xemu_top.specs.declared.ends.End.TheVariants.{Words, Host}

-- the path of the pair at a place
abbrev pub path_at : List (List ℕ) → ℕ → List ℕ
path_at words place = path_in (word_at words place)

-- ---- before the first step
-- the file of a pair of `--in` whose path has these bytes; the guest may write it where `--out` names it too
abbrev pub in_file : List (List ℕ) → Command → ℕ → List ℕ → GuestFile
in_file words command place bytes = record {
  name = name_at words place;
  content = bytes;
  exists = true;
  writable = is_some (place_naming words (name_at words place) command.outs.items);
}

-- a file that is longer than may be refuses the word that names it
abbrev pub in_refusal : ℕ → End
in_refusal place = Words (record { word = place; kind = 10 })

-- what comes of a pair of `--in` by what the host has at its path: its file, or an end
abbrev pub in_loaded : List (List ℕ) → Command → ℕ → Option (List ℕ) → Result GuestFile End
in_loaded words command place None = Err (Host (Load place))
in_loaded words command place (Some bytes) =
    if nat_lt command.cap (length bytes) then Err (in_refusal place) else Ok (in_file words command place bytes)

-- the file of a pair of `--out`: it isn't there yet, and the guest may make it
abbrev pub out_file : List (List ℕ) → ℕ → GuestFile
out_file words place = record { name = name_at words place; content = []; exists = false; writable = true }

-- those that `--out` alone names
abbrev pub out_files : List (List ℕ) → Command → List GuestFile
out_files words command = map (out_file words) (only_out words command.ins.items command.outs.items)

-- ---- after the last step
-- the file with a name; one that isn't there, where there is none
abbrev pub file_named : List GuestFile → List ℕ → GuestFile
file_named files name = file_of files (number_of files name)

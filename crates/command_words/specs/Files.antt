-- The guest's files that pairs of `--in` and of `--out` name.
use Rattle.std.specs.Prelude.{ℕ, List, ◌++◌, map, Option, Some, None, is_none}
use Rattle.std.specs.List.{filter}
use Rattle.command_words.specs.declared.kinds.Command.{Command}
use Rattle.command_words.specs.Pairs.{name_at, place_naming}

-- a file: its name, and the places of the pair of `--in` and of that of `--out` that name it
pub record NamedFile : Type 0 where
  pub name : List ℕ
  pub source : Option ℕ
  pub target : Option ℕ

-- the file of a pair of `--in`, and that of a pair of `--out` alone
abbrev pub file_in : List (List ℕ) → (outs : List ℕ) → ℕ → NamedFile
file_in words outs place =
    record { name = name_at words place; source = Some place; target = place_naming words (name_at words place) outs }

abbrev pub file_out : List (List ℕ) → ℕ → NamedFile
file_out words place = record { name = name_at words place; source = None; target = Some place }

-- the pairs of `--out` whose names no pair of `--in` has
unfoldable pub only_out : List (List ℕ) → (ins outs : List ℕ) → List ℕ
only_out words ins outs = filter (λ place. is_none (place_naming words (name_at words place) ins)) outs

-- the files: first those of `--in`, then those of `--out` alone, each in the order of their words
abbrev pub named_files : List (List ℕ) → (ins outs : List ℕ) → List NamedFile
named_files words ins outs = map (file_in words outs) ins ++ map (file_out words) (only_out words ins outs)

-- those of a command
abbrev pub files_named : List (List ℕ) → Command → List NamedFile
files_named words command = named_files words command.ins.items command.outs.items

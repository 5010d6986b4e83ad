-- Pairs and their names.
use Rattle.std.proofs.Common.{◌≡◌, ℕ, Bool, List}
use Rattle.std.specs.Str.{bytes_eq}
use Rattle.command_words.specs.Pairs.{name_at}

-- whether the pair at a place has a name
abbrev pub has_name : List (List ℕ) → List ℕ → ℕ → Bool
has_name words name place = bytes_eq (name_at words place) name

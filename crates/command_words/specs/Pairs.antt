-- Pairs NAME=PATH: a file's name in the guest, and its path on the host.
use Rattle.std.specs.Prelude.{ℕ, Bool, ◌&&◌, nat_lt, nat_le, nat_eq, List, length, map, Option, find}
use Rattle.std.specs.List.{before_first, after_first}
use Rattle.std.specs.Str.{bytes_eq}
use Rattle.command_words.specs.Texts.{word_at}

-- what stands before the first `=` and behind it; a text without one has no path
abbrev pub name_in : List ℕ → List ℕ
name_in text = before_first (λ byte. nat_eq byte 61) text

abbrev pub path_in : List ℕ → List ℕ
path_in text = after_first (λ byte. nat_eq byte 61) text

-- whether a text is a pair: its name has 1 to 255 bytes, and its path at least one
unfoldable pub is_pair : List ℕ → Bool
is_pair text = nat_lt 0 (length (name_in text)) && nat_le (length (name_in text)) 255 && nat_lt 0 (length (path_in text))

-- the name of the pair at a place, and the names of those at some places
abbrev pub name_at : List (List ℕ) → ℕ → List ℕ
name_at words place = name_in (word_at words place)

abbrev pub names_at : List (List ℕ) → List ℕ → List (List ℕ)
names_at words places = map (name_at words) places

-- the first of some places whose pair has a name
unfoldable pub place_naming : List (List ℕ) → List ℕ → (places : List ℕ) → Option ℕ
place_naming words name places = find (λ place. bytes_eq (name_at words place) name) places

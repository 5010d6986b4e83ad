-- What a command is: its arguments and environment, and what holds of them.
use Rattle.std.specs.Prelude.{ℕ, ◌≡◌, ◌≢◌, ◌≤◌, ◌<◌, ◌^◌, true, false, List, length, drop, map, All, Option, IfSome, IsSome}
use Rattle.std.specs.List.{AllPairs}
use Rattle.command_words.specs.declared.kinds.Command.{Command}
use Rattle.command_words.specs.Texts.{word_at, has_zero, begins_as_option}
use Rattle.command_words.specs.Pairs.{names_at, is_pair}
use Rattle.command_words.specs.Files.{files_named}

-- the guest's arguments: the words from the program's path on
abbrev pub arguments : List (List ℕ) → Command → List (List ℕ)
arguments words command = drop command.program words

-- the guest's environment texts
abbrev pub environment : List (List ℕ) → Command → List (List ℕ)
environment words command = map (word_at words) command.env.items

-- a text without the byte 0
abbrev pub IsText : List ℕ → Type 0
IsText text = has_zero text ≡ false

-- the word at a place before another is a pair without the byte 0
pub record IsPairAt (words : List (List ℕ)) (end place : ℕ) : Type 0 where
  pub before : place < end
  pub pair : is_pair (word_at words place) ≡ true
  pub text : IsText (word_at words place)

-- pairs of one option: no two have the same name
pub record ArePairs (words : List (List ℕ)) (end : ℕ) (places : List ℕ) : Type 0 where
  pub pairs : All (IsPairAt words end) places
  pub distinct : AllPairs (λ a b. a ≢ b) (names_at words places)

-- it is a path that isn't empty
pub record IsPathAt (words : List (List ℕ)) (end place : ℕ) : Type 0 where
  pub before : place < end
  pub some : 0 < length (word_at words place)

-- a command that some words say
pub record IsCommand (words : List (List ℕ)) (command : Command) : Type 0 where
  pub budget : command.budget < 2 ^ 64
  pub pages : (512 ≤ command.pages) × (command.pages ≤ 262144)
  pub resident : (8 ≤ command.resident) × (command.resident ≤ command.pages)
  pub swapped : command.resident < command.pages → IsSome command.swap
  pub swap : IfSome command.swap (IsPathAt words command.program)
  pub cap : (1 ≤ command.cap) × (command.cap ≤ 67108864)
  pub seed : command.seed < 2 ^ 64
  pub program : command.program < length words
  pub path : 0 < length (word_at words command.program)
  pub no_option : begins_as_option (word_at words command.program) ≡ false
  pub arguments : All IsText (arguments words command)
  pub few : length command.env.items ≤ 64
  pub places : All (λ place. place < command.program) command.env.items
  pub environment : All IsText (environment words command)
  pub ins : ArePairs words command.program command.ins.items
  pub outs : ArePairs words command.program command.outs.items
  pub few_files : length (files_named words command) ≤ 16

-- The reading of the words, from left to right (this program's own, as are all words and kinds of refusal).
use Rattle.std.specs.Prelude.{ℕ, ◌+◌, ◌-◌, ◌^◌, Bool, true, false, not, ◌&&◌, ◌||◌, nat_lt, nat_le, nat_eq, if◌then◌else◌, List, [], ◌∷◌, ◌++◌, length, drop, Option, Some, None, is_some, unwrap_or, Result, Ok, Err}
use Rattle.std.specs.Cmp.Lexicographic.{pointwise}
use Rattle.command_words.specs.declared.options.OptionName.{OptionName}
use Rattle.command_words.specs.declared.options.OptionName.TheVariants.{Budget, Pages, Resident, Swap, Seed, Cap, In, Out, Env, Report}
use Rattle.command_words.specs.declared.kinds.Frames.{Frames}
use Rattle.command_words.specs.declared.kinds.Given.{Given}
use Rattle.command_words.specs.declared.kinds.Command.{Command}
use Rattle.command_words.specs.declared.kinds.WordFault.{WordFault}
use Rattle.command_words.specs.Texts.{word_at, has_zero, begins_as_option, number_of, is_number_within}
use Rattle.command_words.specs.Pairs.{name_in, is_pair, place_naming}
use Rattle.command_words.specs.Options.{takes_value, option_named}
use Rattle.command_words.specs.Files.{named_files}

-- a check: the place and the kind of the refusal, and whether it is passed
pub record Check : Type 0 where
  pub word : ℕ
  pub kind : ℕ
  pub passes : Bool

abbrev pub check : (word kind : ℕ) → Bool → Check
check word kind passes = record { word = word; kind = kind; passes = passes }

-- the refusal by the first check that isn't passed, if there is one
abbrev pub first_fault : List Check → Option WordFault
first_fault [] = None
first_fault (check ∷ rest) = if check.passes then first_fault rest else Some (record { word = check.word; kind = check.kind })

-- before the first option: none was given
abbrev pub no_options : Given
no_options = record {
  budget = None;
  pages = None;
  resident = None;
  swap = None;
  cap = None;
  seed = None;
  report = false;
  env = record { items = [] };
  ins = record { items = [] };
  outs = record { items = [] };
}

-- the command `run`
abbrev pub is_run : List ℕ → Bool
is_run word = pointwise nat_eq word (114 ∷ 117 ∷ 110 ∷ [])

-- ---- an option
-- whether one of the pairs at some places has the name of a text; a text that is no pair names none
abbrev pub is_name_again : List (List ℕ) → (text : List ℕ) → (places : List ℕ) → Bool
is_name_again words text places = is_pair text && is_some (place_naming words (name_in text) places)

-- whether what an option brings was given and mustn't come again: the option itself, or, of `--in` and of `--out`, the name in the
-- word behind it
abbrev pub is_repeated : List (List ℕ) → Given → OptionName → (behind : List ℕ) → Bool
is_repeated words given Budget behind = is_some given.budget
is_repeated words given Pages behind = is_some given.pages
is_repeated words given Resident behind = is_some given.resident
is_repeated words given Swap behind = is_some given.swap
is_repeated words given Seed behind = is_some given.seed
is_repeated words given Cap behind = is_some given.cap
is_repeated words given In behind = is_name_again words behind given.ins.items
is_repeated words given Out behind = is_name_again words behind given.outs.items
is_repeated words given Env behind = false
is_repeated words given Report behind = given.report

-- whether there is room for the name of a text: it is none, or isn't new, or fewer than 16 names came
abbrev pub has_name_room : List (List ℕ) → Given → (text : List ℕ) → Bool
has_name_room words given text =
    not (is_pair text)
    || is_name_again words text given.ins.items
    || is_name_again words text given.outs.items
    || nat_lt (length (named_files words given.ins.items given.outs.items)) 16

-- whether there is room for what an option brings: of environment texts there are 64 at most
abbrev pub has_room : List (List ℕ) → Given → OptionName → (behind : List ℕ) → Bool
has_room words given Budget behind = true
has_room words given Pages behind = true
has_room words given Resident behind = true
has_room words given Swap behind = true
has_room words given Seed behind = true
has_room words given Cap behind = true
has_room words given In behind = has_name_room words given behind
has_room words given Out behind = has_name_room words given behind
has_room words given Env behind = nat_lt (length given.env.items) 64
has_room words given Report behind = true

-- the checks of the word at a place, which stands for an option or for none
abbrev pub option_checks : List (List ℕ) → Given → (place : ℕ) → Option OptionName → List Check
option_checks words given place None = check place 2 false ∷ []
option_checks words given place (Some name) =
    let behind = word_at words (place + 1) in
    check place 5 (not (is_repeated words given name behind)) ∷ check place 8 (has_room words given name behind) ∷ []

-- ---- its value
abbrev pub pair_checks : (place : ℕ) → List ℕ → List Check
pair_checks place value = check place 12 (not (has_zero value)) ∷ check place 6 (is_pair value) ∷ []

-- the checks of an option's value. The number of frames is compared with that of pages once all options are read
unfoldable pub value_checks : OptionName → (place : ℕ) → List ℕ → List Check
value_checks Budget place value = check place 4 (is_number_within 0 (2 ^ 64 - 1) value) ∷ []
value_checks Pages place value = check place 4 (is_number_within 512 262144 value) ∷ []
value_checks Resident place value = check place 4 (is_number_within 8 (2 ^ 64 - 1) value) ∷ []
value_checks Swap place value = check place 6 (nat_lt 0 (length value)) ∷ []
value_checks Seed place value = check place 4 (is_number_within 0 (2 ^ 64 - 1) value) ∷ []
value_checks Cap place value = check place 4 (is_number_within 1 67108864 value) ∷ []
value_checks In place value = pair_checks place value
value_checks Out place value = pair_checks place value
value_checks Env place value = check place 12 (not (has_zero value)) ∷ []
value_checks Report place value = []

-- ---- any word
-- those of the program's path
abbrev pub path_checks : (place : ℕ) → List ℕ → List Check
path_checks place path = check place 12 (not (has_zero path)) ∷ check place 6 (nat_lt 0 (length path)) ∷ []

-- what a word is read as: the first word; one in an option's place, which is an option or the program's path; the value of an
-- option; one for the guest, behind the program at a place
pub data Role : Type 0 where
  First : Role
  Place : Role
  Value : OptionName → Role
  Guest : ℕ → Role

-- the checks of the word at a place, in the order in which they go
unfoldable pub checks : List (List ℕ) → Given → Role → (place : ℕ) → List ℕ → List Check
checks words given First place word = check place 1 (is_run word) ∷ []
checks words given Place place word =
    if begins_as_option word then option_checks words given place (option_named word) else path_checks place word
checks words given (Value name) place word = value_checks name place word
checks words given (Guest program) place word = check place 12 (not (has_zero word)) ∷ []

-- what the word behind an option is read as
abbrev pub role_behind : Option OptionName → Role
role_behind None = Place
role_behind (Some name) = if takes_value name then Value name else Place

-- what the word behind the one at a place is read as
unfoldable pub next_role : Role → ℕ → List ℕ → Role
next_role First place word = Place
next_role Place place word = if begins_as_option word then role_behind (option_named word) else Guest place
next_role (Value name) place word = Place
next_role (Guest program) place word = Guest program

-- what was given, once an option came
abbrev pub with_option : Option OptionName → Given → Given
with_option None given = given
with_option (Some Budget) given = given
with_option (Some Pages) given = given
with_option (Some Resident) given = given
with_option (Some Swap) given = given
with_option (Some Seed) given = given
with_option (Some Cap) given = given
with_option (Some In) given = given
with_option (Some Out) given = given
with_option (Some Env) given = given
with_option (Some Report) given = record given { report = true }

-- what was given, once the value of an option came at a place
abbrev pub with_value : Given → OptionName → ℕ → List ℕ → Given
with_value given Budget place value = record given { budget = Some (number_of value) }
with_value given Pages place value = record given { pages = Some (number_of value) }
with_value given Resident place value = record given { resident = Some (record { count = number_of value; word = place }) }
with_value given Swap place value = record given { swap = Some place }
with_value given Seed place value = record given { seed = Some (number_of value) }
with_value given Cap place value = record given { cap = Some (number_of value) }
with_value given In place value = record given { ins = record { items = given.ins.items ++ place ∷ [] } }
with_value given Out place value = record given { outs = record { items = given.outs.items ++ place ∷ [] } }
with_value given Env place value = record given { env = record { items = given.env.items ++ place ∷ [] } }
with_value given Report place value = given

-- what was given, once a word was read
unfoldable pub taken : Given → Role → ℕ → List ℕ → Given
taken given First place word = given
taken given Place place word = if begins_as_option word then with_option (option_named word) given else given
taken given (Value name) place word = with_value given name place word
taken given (Guest program) place word = given

-- ---- the command
-- how many pages there are, and how many frames: as many as pages, where no option says it
abbrev pub pages_of : Given → ℕ
pages_of given = unwrap_or given.pages 16384

abbrev pub frames_in : Option Frames → (pages : ℕ) → ℕ
frames_in None pages = pages
frames_in (Some frames) pages = frames.count

abbrev pub frames_of : Given → ℕ
frames_of given = frames_in given.resident (pages_of given)

-- the command, with the defaults of what wasn't given
abbrev pub command_of : Given → ℕ → Command
command_of given program = record {
  budget = unwrap_or given.budget 1000000000000;
  pages = pages_of given;
  resident = frames_of given;
  swap = given.swap;
  cap = unwrap_or given.cap 16777216;
  seed = unwrap_or given.seed 0;
  report = given.report;
  env = given.env;
  ins = given.ins;
  outs = given.outs;
  program = program;
}

-- the checks behind the last word: there are no more frames than pages, and a swap where there are fewer
abbrev pub resident_checks : Option Frames → (pages : ℕ) → List Check
resident_checks None pages = []
resident_checks (Some frames) pages = check frames.word 4 (nat_le frames.count pages) ∷ []

unfoldable pub last_checks : Given → List Check
last_checks given =
    resident_checks given.resident (pages_of given)
    ++ check 0 9 (nat_le (pages_of given) (frames_of given) || is_some given.swap) ∷ []

abbrev pub fault_or : Option WordFault → Result Command WordFault → Result Command WordFault
fault_or None read = read
fault_or (Some fault) read = Err fault

-- behind the last word, at the number of words: the refusal for the word that is missing, or the last checks and the command
unfoldable pub ended : Given → Role → ℕ → Result Command WordFault
ended given First count = Err (record { word = count; kind = 1 })
ended given Place count = Err (record { word = count; kind = 7 })
ended given (Value name) count = Err (record { word = count; kind = 3 })
ended given (Guest program) count = fault_or (first_fault (last_checks given)) (Ok (command_of given program))

-- the words from a place on, of all words, read with what was given before it
unfoldable pub read_from : List (List ℕ) → Given → Role → (place : ℕ) → List (List ℕ) → Result Command WordFault
read_from words given role place [] = ended given role place
read_from words given role place (word ∷ rest) =
    fault_or (first_fault (checks words given role place word))
    (read_from words (taken given role place word) (next_role role place word) (place + 1) rest)

abbrev pub read_at : List (List ℕ) → Given → Role → (place : ℕ) → Result Command WordFault
read_at words given role place = read_from words given role place (drop place words)

-- all words
abbrev pub words_read : List (List ℕ) → Result Command WordFault
words_read words = read_at words no_options First 0

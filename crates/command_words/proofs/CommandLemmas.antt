-- What holds of a command that is read.
use Rattle.std.proofs.Common.{◌≡◌, ◌∙◌, ℕ, zero, suc, ◌+◌, ◌<◌, ◌≤◌, ◌^◌, ◌⊎◌, inl, inr, ⊎_elim, Bool, true, false, not, ◌&&◌, ◌||◌, cond, nat_lt, nat_le, List, [], ◌∷◌, length, drop, All, Option, Some, None, is_some, Result, Ok, Err, IfOk, refl, sym, ap, subst, arith, unwrap_or, length-append}
use Rattle.std.specs.Option.{IfSome, IsSome}
use Rattle.std.proofs.lemmas.Bool.{and_parts, leb-true, ltb-true, not-true, cases_lt}
use Rattle.std.proofs.lemmas.List.{length-drop, get_or-drop}
use Rattle.std.proofs.lemmas.List.Elements.{All-nil, All-push, All-weaker, All-map, All-from_get_or}
use Rattle.command_words.specs.declared.options.OptionName.{OptionName}
use Rattle.command_words.specs.declared.options.OptionName.TheVariants.{Budget, Pages, Resident, Swap, Seed, Cap, In, Out, Env, Report}
use Rattle.command_words.specs.declared.kinds.Frames.{Frames}
use Rattle.command_words.specs.declared.kinds.Given.{Given}
use Rattle.command_words.specs.declared.kinds.Command.{Command}
use Rattle.command_words.specs.declared.kinds.WordFault.{WordFault}
use Rattle.command_words.specs.Texts.{word_at, has_zero, begins_as_option, number_of, is_number_within}
use Rattle.command_words.specs.Pairs.{name_in, is_pair, place_naming}
use Rattle.command_words.specs.Options.{takes_value, option_named}
use Rattle.command_words.specs.Files.{named_files}
use Rattle.command_words.specs.Reading.{Role, Check, first_fault, no_options, is_repeated, has_room, option_checks, value_checks, path_checks, checks, role_behind, next_role, with_option, with_value, taken, pages_of, frames_in, frames_of, command_of, resident_checks, last_checks, fault_or, ended, read_at, words_read}
use Rattle.command_words.specs.Reading.Role.{First, Place, Value, Guest}
use Rattle.command_words.specs.Command.{IsText, IsPathAt, IsPairAt, ArePairs, IsCommand}
use Rattle.command_words.specs.Holding.{AreNumbers, AreTexts, AreFiles, Holds, HasPlace}
use Rattle.command_words.proofs.FileLemmas.{pairs-push, pairs-later, few-in, few-out, place-in, place-out, none-named}
use Rattle.command_words.proofs.ReadLemmas.{read-on, read-stop, read-end}
use Rattle.command_words.proofs.EndLemmas.{last-pass}

pub record IsProgram (ws : List (List ℕ)) (program place : ℕ) : Type 0 where
  pub within : program < length ws
  pub some : 0 < length (word_at ws program)
  pub no_option : begins_as_option (word_at ws program) ≡ false
  pub before : program < place
  pub texts : (k : ℕ) → program ≤ k → k < place → IsText (word_at ws k)

-- what an option brings is new, and there is room for it
pub record IsFree (ws : List (List ℕ)) (given : Given) (name : OptionName) (value : List ℕ) : Type 0 where
  pub new : is_repeated ws given name value ≡ false
  pub room : has_room ws given name value ≡ true

abbrev pub Fits : List (List ℕ) → Given → Role → ℕ → Type 0
Fits ws given First place = Holds ws given place
Fits ws given Place place = Holds ws given place
Fits ws given (Value name) place = Holds ws given place × IsFree ws given name (word_at ws place)
Fits ws given (Guest program) place = Holds ws given program × IsProgram ws program place

-- ---- at the next place
swap-later : (ws : List (List ℕ)) (swap : Option ℕ) (place : ℕ) → IfSome swap (IsPathAt ws place) → IfSome swap (IsPathAt ws (place + 1))
swap-later ws None place h = tt
swap-later ws (Some p) place h = record { before = omega (arith, h.before); some = h.some }

texts-later : (ws : List (List ℕ)) (places : List ℕ) (place : ℕ) → AreTexts ws place places → AreTexts ws (place + 1) places
texts-later ws places place h = record {
  few = h.few;
  before = All-weaker (λ (p : ℕ). p < place) (λ (p : ℕ). p < place + 1) (λ p lt. omega arith) places h.before;
  texts = h.texts;
}

files-later : (ws : List (List ℕ)) (ins outs : List ℕ) (place : ℕ) → AreFiles ws place ins outs → AreFiles ws (place + 1) ins outs
files-later ws ins outs place h =
    record { loaded = pairs-later ws ins place h.loaded; stored = pairs-later ws outs place h.stored; few = h.few }

pub holds-later : (ws : List (List ℕ)) (given : Given) (place : ℕ) → Holds ws given place → Holds ws given (place + 1)
holds-later ws given place h = record {
  numbers = h.numbers;
  swap = swap-later ws given.swap place h.swap;
  texts = texts-later ws given.env.items place h.texts;
  files = files-later ws given.ins.items given.outs.items place h.files;
}

-- ---- what checks show
passes : (b : Bool) (f : WordFault) → cond b None (Some f) ≡ None → b ≡ true
passes true f e = refl
passes false f e = cc

both-pass : (a b : Bool) (f g : WordFault) → cond a (cond b None (Some g)) (Some f) ≡ None → (a ≡ true) × (b ≡ true)
both-pass true b f g e = (refl, passes b g e)
both-pass false b f g e = cc

-- a name that is new, and room for it
new-is : (pair again : Bool) → pair ≡ true → (pair && again) ≡ false → again ≡ false
new-is true again p e = e
new-is false again p e = cc

room-is : (pair in_one in_other less : Bool) → pair ≡ true → (((not pair || (pair && in_one)) || (pair && in_other)) || less) ≡ true
    → ((in_one || in_other) ≡ true) ⊎ (less ≡ true)
room-is true true other less p e = inl refl
room-is true false true less p e = inl refl
room-is true false false less p e = inr e
room-is false one other less p e = cc

module _ (ws : List (List ℕ)) (given : Given) (place : ℕ) where
  abbrev ins : List ℕ
  ins = given.ins.items

  abbrev outs : List ℕ
  outs = given.outs.items

  abbrev HasRoom : Type 0
  HasRoom =
      ((is_some (place_naming ws (name_in (word_at ws place)) ins) || is_some (place_naming ws (name_in (word_at ws place)) outs)) ≡ true)
      ⊎ (length (named_files ws ins outs) < 16)

  name-room : is_pair (word_at ws place) ≡ true → has_room ws given In (word_at ws place) ≡ true → HasRoom
  name-room pair e =
      ⊎_elim inl (λ less. inr (ltb-true (length (named_files ws ins outs)) 16 less))
      (room-is (is_pair (word_at ws place)) (is_some (place_naming ws (name_in (word_at ws place)) ins))
      (is_some (place_naming ws (name_in (word_at ws place)) outs)) (nat_lt (length (named_files ws ins outs)) 16) pair e)

  -- the list that a value goes to has a place for it
  pub place-is : (name : OptionName) → Holds ws given place → is_repeated ws given name (word_at ws place) ≡ false
      → has_room ws given name (word_at ws place) ≡ true → HasPlace given name (word_at ws place)
  place-is Budget h n r = tt
  place-is Pages h n r = tt
  place-is Resident h n r = tt
  place-is Swap h n r = tt
  place-is Seed h n r = tt
  place-is Cap h n r = tt
  place-is In h n r = λ pair. place-in ws ins outs place place h.files (new-is _ _ pair n) (name-room pair r)
  place-is Out h n r = λ pair. place-out ws ins outs place place h.files (new-is _ _ pair n) (name-room pair r)
  place-is Env h n r = ltb-true (length given.env.items) 64 r
  place-is Report h n r = tt

-- ---- an option
named-fits : (ws : List (List ℕ)) (given : Given) (place : ℕ) (name : OptionName) → Holds ws given place → IsFree ws given name (word_at ws place)
    → Fits ws (with_option (Some name) given) (cond (takes_value name) (Value name) Place) place
named-fits ws given place Budget h f = (h, f)
named-fits ws given place Pages h f = (h, f)
named-fits ws given place Resident h f = (h, f)
named-fits ws given place Swap h f = (h, f)
named-fits ws given place Seed h f = (h, f)
named-fits ws given place Cap h f = (h, f)
named-fits ws given place In h f = (h, f)
named-fits ws given place Out h f = (h, f)
named-fits ws given place Env h f = (h, f)
named-fits ws given place Report h f = record { numbers = h.numbers; swap = h.swap; texts = h.texts; files = h.files }

-- an option that passes its checks
pub option-free : (ws : List (List ℕ)) (given : Given) (place : ℕ) (o : Option OptionName) (name : OptionName)
    → first_fault (option_checks ws given place o) ≡ None → o ≡ Some name → IsFree ws given name (word_at ws (place + 1))
option-free ws given place None name e n = cc
option-free ws given place (Some other) name e n =
    let both = both-pass (not (is_repeated ws given other (word_at ws (place + 1)))) (has_room ws given other (word_at ws (place + 1))) _ _ e in
    let same : other ≡ name = cc in
    subst (λ (name : OptionName). IsFree ws given name (word_at ws (place + 1))) same
    (record { new = not-true (is_repeated ws given other (word_at ws (place + 1))) both.0; room = both.1 })

pub option-fits : (ws : List (List ℕ)) (given : Given) (place : ℕ) (o : Option OptionName) → Holds ws given place
    → first_fault (option_checks ws given place o) ≡ None → Fits ws (with_option o given) (role_behind o) (place + 1)
option-fits ws given place None h e = cc
option-fits ws given place (Some name) h e =
    named-fits ws given (place + 1) name (holds-later ws given place h) (option-free ws given place (Some name) name e refl)

path-fits : (ws : List (List ℕ)) (given : Given) (place : ℕ) → place < length ws → Holds ws given place → begins_as_option (word_at ws place) ≡ false
    → first_fault (path_checks place (word_at ws place)) ≡ None → Fits ws given (Guest place) (place + 1)
path-fits ws given place lt h b e =
    let both = both-pass (not (has_zero (word_at ws place))) (nat_lt 0 (length (word_at ws place))) _ _ e in (
      h,
      record {
        within = lt;
        some = ltb-true 0 (length (word_at ws place)) both.1;
        no_option = b;
        before = omega arith;
        texts = λ k low high. (let same : place ≡ k = omega arith in subst (λ (n : ℕ). IsText (word_at ws n)) same (not-true (has_zero (word_at ws place)) both.0));
      },
    )

place-fits : (ws : List (List ℕ)) (given : Given) (place : ℕ) (b : Bool) → place < length ws → Holds ws given place
    → begins_as_option (word_at ws place) ≡ b
    → first_fault (cond b (option_checks ws given place (option_named (word_at ws place))) (path_checks place (word_at ws place))) ≡ None
    → Fits ws (cond b (with_option (option_named (word_at ws place)) given) given) (cond b (role_behind (option_named (word_at ws place))) (Guest place)) (place + 1)
place-fits ws given place true lt h b e = option-fits ws given place (option_named (word_at ws place)) h e
place-fits ws given place false lt h b e = path-fits ws given place lt h b e

-- ---- a value
number-range : (least most : ℕ) (text : List ℕ) → is_number_within least most text ≡ true → (least ≤ number_of text) × (number_of text ≤ most)
unfolding is_number_within
number-range least most text e =
    let out = and_parts _ _ e in
    let front = and_parts _ _ out.0 in
    (leb-true least (number_of text) front.1, leb-true (number_of text) most out.1)

pair-at : (ws : List (List ℕ)) (place : ℕ) (f g : WordFault)
    → cond (not (has_zero (word_at ws place))) (cond (is_pair (word_at ws place)) None (Some g)) (Some f) ≡ None → IsPairAt ws (place + 1) place
pair-at ws place f g e =
    let both = both-pass (not (has_zero (word_at ws place))) (is_pair (word_at ws place)) f g e in
    record { before = omega arith; pair = both.1; text = not-true (has_zero (word_at ws place)) both.0 }

pub value-fits : (ws : List (List ℕ)) (given : Given) (place : ℕ) (name : OptionName) → Holds ws given place
    → IsFree ws given name (word_at ws place) → first_fault (value_checks name place (word_at ws place)) ≡ None
    → Holds ws (with_value given name place (word_at ws place)) (place + 1)
unfolding value_checks
value-fits ws given place Budget h f e =
    let later = holds-later ws given place h in
    let range = number-range 0 18446744073709551615 (word_at ws place) (passes _ _ e) in
    let n = h.numbers in
    record {
      numbers =
          record { budget_fits = omega (arith, range.1); pages_fits = n.pages_fits; resident_fits = n.resident_fits; cap_fits = n.cap_fits; seed_fits = n.seed_fits };
      swap = later.swap;
      texts = later.texts;
      files = later.files;
    }
value-fits ws given place Pages h f e =
    let later = holds-later ws given place h in
    let range = number-range 512 262144 (word_at ws place) (passes _ _ e) in
    let n = h.numbers in
    record {
      numbers = record { budget_fits = n.budget_fits; pages_fits = range; resident_fits = n.resident_fits; cap_fits = n.cap_fits; seed_fits = n.seed_fits };
      swap = later.swap;
      texts = later.texts;
      files = later.files;
    }
value-fits ws given place Resident h f e =
    let later = holds-later ws given place h in
    let range = number-range 8 18446744073709551615 (word_at ws place) (passes _ _ e) in
    let n = h.numbers in
    record {
      numbers = record { budget_fits = n.budget_fits; pages_fits = n.pages_fits; resident_fits = range.0; cap_fits = n.cap_fits; seed_fits = n.seed_fits };
      swap = later.swap;
      texts = later.texts;
      files = later.files;
    }
value-fits ws given place Swap h f e =
    let later = holds-later ws given place h in
    record {
      numbers = h.numbers;
      swap = record { before = omega arith; some = ltb-true 0 (length (word_at ws place)) (passes _ _ e) };
      texts = later.texts;
      files = later.files;
    }
value-fits ws given place Seed h f e =
    let later = holds-later ws given place h in
    let range = number-range 0 18446744073709551615 (word_at ws place) (passes _ _ e) in
    let n = h.numbers in
    record {
      numbers =
          record { budget_fits = n.budget_fits; pages_fits = n.pages_fits; resident_fits = n.resident_fits; cap_fits = n.cap_fits; seed_fits = omega (arith, range.1) };
      swap = later.swap;
      texts = later.texts;
      files = later.files;
    }
value-fits ws given place Cap h f e =
    let later = holds-later ws given place h in
    let range = number-range 1 67108864 (word_at ws place) (passes _ _ e) in
    let n = h.numbers in
    record {
      numbers = record { budget_fits = n.budget_fits; pages_fits = n.pages_fits; resident_fits = n.resident_fits; cap_fits = range; seed_fits = n.seed_fits };
      swap = later.swap;
      texts = later.texts;
      files = later.files;
    }
value-fits ws given place In h f e =
    let later = holds-later ws given place h in
    let is = pair-at ws place _ _ e in
    let new = new-is _ _ is.pair f.new in
    record {
      numbers = h.numbers;
      swap = later.swap;
      texts = later.texts;
      files = record {
        loaded = pairs-push ws given.ins.items place h.files.loaded is new;
        stored = later.files.stored;
        few = few-in ws given.ins.items given.outs.items place place h.files new (name-room ws given place is.pair f.room);
      };
    }
value-fits ws given place Out h f e =
    let later = holds-later ws given place h in
    let is = pair-at ws place _ _ e in
    let new = new-is _ _ is.pair f.new in
    record {
      numbers = h.numbers;
      swap = later.swap;
      texts = later.texts;
      files = record {
        loaded = later.files.loaded;
        stored = pairs-push ws given.outs.items place h.files.stored is new;
        few = few-out ws given.ins.items given.outs.items place place h.files new (name-room ws given place is.pair f.room);
      };
    }
value-fits ws given place Env h f e =
    let later = holds-later ws given place h in
    record {
      numbers = h.numbers;
      swap = later.swap;
      texts = record {
        few = omega (arith, ltb-true (length given.env.items) 64 f.room, length-append given.env.items (place ∷ []));
        before = All-push (λ (p : ℕ). p < place + 1) given.env.items place later.texts.before (omega arith);
        texts = All-push (λ (p : ℕ). IsText (word_at ws p)) given.env.items place later.texts.texts (not-true (has_zero (word_at ws place)) (passes _ _ e));
      };
      files = later.files;
    }
value-fits ws given place Report h f e = holds-later ws given place h

-- ---- any word
word-fits : (ws : List (List ℕ)) (given : Given) (role : Role) (place : ℕ) → place < length ws → Fits ws given role place
    → first_fault (checks ws given role place (word_at ws place)) ≡ None
    → Fits ws (taken given role place (word_at ws place)) (next_role role place (word_at ws place)) (place + 1)
unfolding checks taken next_role
word-fits ws given First place lt f e = holds-later ws given place f
word-fits ws given Place place lt f e = place-fits ws given place (begins_as_option (word_at ws place)) lt f refl e
word-fits ws given (Value name) place lt f e = value-fits ws given place name f.0 f.1 e
word-fits ws given (Guest program) place lt f e = (
  f.0,
  record {
    within = f.1.within;
    some = f.1.some;
    no_option = f.1.no_option;
    before = le_more f.1.before;
    texts = λ k low high. ⊎_elim
        (λ less. f.1.texts k low less)
        (λ more. (let same : place ≡ k = omega arith in
        subst (λ (n : ℕ). IsText (word_at ws n)) same (not-true (has_zero (word_at ws place)) (passes _ _ e))))
        (cases_lt k place);
  },
)
  where
    le_more : {a b : ℕ} → a < b → a < b + 1
    le_more h = omega arith

-- ---- the end
given-or : (o : Option ℕ) (P : ℕ → Type 0) (d : ℕ) → IfSome o P → P d → P (unwrap_or o d)
given-or None P d h p = p
given-or (Some n) P d h p = h

-- the number of frames
record AreFrames (frames pages : ℕ) (swap : Option ℕ) : Type 0 where
  within : (8 ≤ frames) × (frames ≤ pages)
  swapped : frames < pages → IsSome swap

enough : (a b : ℕ) (swapped : Bool) → (nat_le a b || swapped) ≡ true → b < a → swapped ≡ true
enough a b swapped e less = step (nat_le a b) (leb-true a b) e
  where
    step : (t : Bool) → (t ≡ true → a ≤ b) → (t || swapped) ≡ true → swapped ≡ true
    step true le e = absurd (omega (arith, le refl, less))
    step false le e = e

frames-are : (resident : Option Frames) (pages : ℕ) (swap : Option ℕ) → 512 ≤ pages → IfSome resident (λ frames. 8 ≤ frames.count)
    → first_fault (resident_checks resident pages) ≡ None → (nat_le pages (frames_in resident pages) || is_some swap) ≡ true
    → AreFrames (frames_in resident pages) pages swap
frames-are None pages swap p h e s = record { within = (omega arith, omega arith); swapped = λ less. absurd (omega arith) }
frames-are (Some frames) pages swap p h e s =
    record { within = (h, leb-true frames.count pages (passes _ _ e)); swapped = enough pages frames.count (is_some swap) s }

command-is : (ws : List (List ℕ)) (given : Given) (program place : ℕ) → length ws ≤ place → Holds ws given program → IsProgram ws program place
    → first_fault (last_checks given) ≡ None → IsCommand ws (command_of given program)
command-is ws given program place end h p e =
    let n = h.numbers in
    let pages = given-or given.pages (λ n. (512 ≤ n) × (n ≤ 262144)) 16384 n.pages_fits (omega arith, omega arith) in
    let last = last-pass given e in
    let frames = frames-are given.resident (pages_of given) given.swap pages.0 n.resident_fits last.0 last.1 in
    record {
      budget = given-or given.budget (λ n. n < 2 ^ 64) 1000000000000 n.budget_fits (omega arith);
      pages = pages;
      resident = frames.within;
      swapped = frames.swapped;
      swap = h.swap;
      cap = given-or given.cap (λ n. (1 ≤ n) × (n ≤ 67108864)) 16777216 n.cap_fits (omega arith, omega arith);
      seed = given-or given.seed (λ n. n < 2 ^ 64) 0 n.seed_fits (omega arith);
      program = p.within;
      path = p.some;
      no_option = p.no_option;
      arguments = All-from_get_or IsText (drop program ws) [] (λ i lt.
          subst IsText (sym (get_or-drop program ws i [])) (p.texts (program + i) (omega arith) (omega (arith, length-drop program ws))));
      few = h.texts.few;
      places = h.texts.before;
      environment = All-map IsText (word_at ws) given.env.items h.texts.texts;
      ins = h.files.loaded;
      outs = h.files.stored;
      few_files = h.files.few;
    }

-- an end without a refusal
none-left : (o : Option WordFault) (read : Result Command WordFault) (command : Command) → fault_or o read ≡ Ok command
    → (o ≡ None) × (read ≡ Ok command)
none-left None read command e = (refl, e)
none-left (Some fault) read command e = cc

ended-is : (ws : List (List ℕ)) (given : Given) (role : Role) (place : ℕ) (command : Command) → length ws ≤ place → Fits ws given role place
    → ended given role place ≡ Ok command → IsCommand ws command
unfolding ended
ended-is ws given First place command end f e = cc
ended-is ws given Place place command end f e = cc
ended-is ws given (Value name) place command end f e = cc
ended-is ws given (Guest program) place command end f e =
    let both = none-left (first_fault (last_checks given)) (Ok (command_of given program)) command e in
    let same : command_of given program ≡ command = cc in
    subst (IsCommand ws) same (command-is ws given program place end f.0 f.1 both.0)

-- a word is read that passes its checks
stepped : (ws : List (List ℕ)) (given : Given) (role : Role) (place : ℕ) (command : Command) (o : Option WordFault)
    → first_fault (checks ws given role place (word_at ws place)) ≡ o → place < length ws → read_at ws given role place ≡ Ok command
    → (first_fault (checks ws given role place (word_at ws place)) ≡ None → IsCommand ws command) → IsCommand ws command
stepped ws given role place command None e lt r behind = behind e
stepped ws given role place command (Some fault) e lt r behind = let refused = read-stop ws given role place fault lt e in cc

-- from a place on, with so many words left at most
read-is : (ws : List (List ℕ)) (left : ℕ) (given : Given) (role : Role) (place : ℕ) (command : Command) → length ws ≤ place + left
    → Fits ws given role place → read_at ws given role place ≡ Ok command → IsCommand ws command
read-is ws zero given role place command l f e =
    ended-is ws given role place command (omega arith) f (sym (read-end ws given role place (omega arith)) ∙ e)
read-is ws (suc left) given role place command l f e =
    ⊎_elim
    (λ lt. stepped ws given role place command (first_fault (checks ws given role place (word_at ws place))) refl lt e
    (λ none. read-is ws left (taken given role place (word_at ws place)) (next_role role place (word_at ws place)) (place + 1) command (omega arith)
    (word-fits ws given role place lt f none) (sym (read-on ws given role place lt none) ∙ e)))
    (λ end. ended-is ws given role place command end f (sym (read-end ws given role place end) ∙ e))
    (cases_lt place (length ws))

-- before the first option nothing was given
pub none-holds : (ws : List (List ℕ)) (place : ℕ) → Holds ws no_options place
none-holds ws place = record {
  numbers = record { budget_fits = tt; pages_fits = tt; resident_fits = tt; cap_fits = tt; seed_fits = tt };
  swap = tt;
  texts = record { few = omega arith; before = All-nil (λ (p : ℕ). p < place); texts = All-nil (λ (p : ℕ). IsText (word_at ws p)) };
  files = none-named ws place;
}

pub words-are : (ws : List (List ℕ)) (read : Result Command WordFault) → words_read ws ≡ read → IfOk read (IsCommand ws)
words-are ws (Ok command) e = read-is ws (length ws) no_options First 0 command (omega arith) (none-holds ws 0) e
words-are ws (Err fault) e = tt

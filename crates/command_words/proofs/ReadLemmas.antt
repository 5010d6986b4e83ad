-- The reading, word by word.
use Rattle.std.proofs.Common.{◌≡◌, ℕ, zero, suc, ◌+◌, ◌<◌, ◌≤◌, Bool, true, false, not, cond, nat_lt, List, [], ◌∷◌, length, drop, Option, Some, None, Result, Ok, Err, refl, sym, ◌∙◌, ap, arith, MatchResult, ◌==◌}
use Rattle.std.proofs.lemmas.Bool.{true≢false, not-true, not-false, eqb-true}
use Rattle.std.proofs.lemmas.List.{at_drop_more, at_drop_all}
use Rattle.command_words.specs.declared.options.OptionName.{OptionName}
use Rattle.command_words.specs.declared.options.OptionName.TheVariants.{Budget, Pages, Resident, Swap, Seed, Cap, In, Out, Env, Report}
use Rattle.command_words.specs.declared.kinds.Given.{Given}
use Rattle.command_words.specs.declared.kinds.Command.{Command}
use Rattle.command_words.specs.declared.kinds.WordFault.{WordFault}
use Rattle.command_words.specs.Texts.{word_at, has_zero, begins_as_option}
use Rattle.command_words.specs.Options.{takes_value, option_named}
use Rattle.command_words.specs.Reading.{Role, first_fault, no_options, is_run, option_checks, value_checks, checks, role_behind, next_role, with_option, with_value, taken, ended, fault_or, read_from, read_at, words_read}
use Rattle.command_words.specs.Reading.Role.{First, Place, Value, Guest}

-- a word that passes its checks; one that is refused; the end of the words
pub read-on : (ws : List (List ℕ)) (given : Given) (role : Role) (place : ℕ) → place < length ws
    → first_fault (checks ws given role place (word_at ws place)) ≡ None
    → read_at ws given role place ≡ read_at ws (taken given role place (word_at ws place)) (next_role role place (word_at ws place)) (place + 1)
unfolding read_from
read-on ws given role place h e =
    at_drop_more (read_from ws given role place) ws place [] h
    ∙ ap (λ (o : Option WordFault). fault_or o (read_at ws (taken given role place (word_at ws place)) (next_role role place (word_at ws place)) (place + 1))) e

pub read-stop : (ws : List (List ℕ)) (given : Given) (role : Role) (place : ℕ) (fault : WordFault) → place < length ws
    → first_fault (checks ws given role place (word_at ws place)) ≡ Some fault → read_at ws given role place ≡ Err fault
unfolding read_from
read-stop ws given role place fault h e =
    at_drop_more (read_from ws given role place) ws place [] h
    ∙ ap (λ (o : Option WordFault). fault_or o (read_at ws (taken given role place (word_at ws place)) (next_role role place (word_at ws place)) (place + 1))) e

pub read-end : (ws : List (List ℕ)) (given : Given) (role : Role) (place : ℕ) → length ws ≤ place
    → read_at ws given role place ≡ ended given role place
unfolding read_from
read-end ws given role place h = at_drop_all (read_from ws given role place) ws place h

-- a choice by a test
choose : {A : Type 0} (f : A → Option WordFault) (b : Bool) (x y : A) (o : Option WordFault) → b ≡ true → f x ≡ o → f (cond b x y) ≡ o
choose f true x y o e h = h
choose f false x y o e h = cc

other : {A : Type 0} (f : A → Option WordFault) (b : Bool) (x y : A) (o : Option WordFault) → b ≡ false → f y ≡ o → f (cond b x y) ≡ o
other f true x y o e h = cc
other f false x y o e h = h

-- what a test of a length shows
pub is-some : (n : ℕ) (b : Bool) → b ≡ (n == 0) → not b ≡ true → 0 < n
is-some zero b e h = absurd (true≢false (sym e ∙ not-true b h))
is-some (suc n) b e h = omega arith

pub is-none : (n : ℕ) (b : Bool) → b ≡ (n == 0) → not b ≡ false → n ≡ 0
is-none n b e h = eqb-true n 0 (sym e ∙ not-false b h)

-- ---- the first word
pub first-missing : (ws : List (List ℕ)) → length ws ≡ 0 → words_read ws ≡ Err (record { word = 0; kind = 1 })
unfolding read_from ended
first-missing [] e = refl
first-missing (w ∷ ws) e = absurd (omega arith)

pub first-wrong : (ws : List (List ℕ)) → 0 < length ws → is_run (word_at ws 0) ≡ false → words_read ws ≡ Err (record { word = 0; kind = 1 })
unfolding checks
first-wrong ws h e =
    read-stop ws no_options First 0 (record { word = 0; kind = 1 }) h
    (ap (λ (b : Bool). cond b None (Some (record { word = 0; kind = 1 }))) e)

pub first-run : (ws : List (List ℕ)) → 0 < length ws → is_run (word_at ws 0) ≡ true → words_read ws ≡ read_at ws no_options Place 1
unfolding checks next_role taken
first-run ws h e =
    read-on ws no_options First 0 h (ap (λ (b : Bool). cond b None (Some (record { word = 0; kind = 1 }))) e)

-- ---- the program's path
module _ (ws : List (List ℕ)) (given : Given) (place : ℕ) where
  pub path-missing : length ws ≤ place → read_at ws given Place place ≡ Err (record { word = place; kind = 7 })
  unfolding ended
  path-missing h = read-end ws given Place place h

  pub path-zero : place < length ws → begins_as_option (word_at ws place) ≡ false → has_zero (word_at ws place) ≡ true
      → read_at ws given Place place ≡ Err (record { word = place; kind = 12 })
  unfolding checks
  path-zero h b z =
      read-stop ws given Place place (record { word = place; kind = 12 }) h
      (other first_fault (begins_as_option (word_at ws place)) _ _ _ b
      (ap (λ (x : Bool). cond (not x) (cond (nat_lt 0 (length (word_at ws place))) None (Some (record { word = place; kind = 6 }))) (Some (record { word = place; kind = 12 }))) z))

  pub path-empty : place < length ws → begins_as_option (word_at ws place) ≡ false → has_zero (word_at ws place) ≡ false
      → nat_lt 0 (length (word_at ws place)) ≡ false → read_at ws given Place place ≡ Err (record { word = place; kind = 6 })
  unfolding checks
  path-empty h b z e =
      read-stop ws given Place place (record { word = place; kind = 6 }) h
      (other first_fault (begins_as_option (word_at ws place)) _ _ _ b
      (ap (λ (x : Bool). cond (not x) (cond (nat_lt 0 (length (word_at ws place))) None (Some (record { word = place; kind = 6 }))) (Some (record { word = place; kind = 12 }))) z
      ∙ ap (λ (x : Bool). cond x None (Some (record { word = place; kind = 6 }))) e))

  pub path-on : place < length ws → begins_as_option (word_at ws place) ≡ false → has_zero (word_at ws place) ≡ false
      → nat_lt 0 (length (word_at ws place)) ≡ true → read_at ws given Place place ≡ read_at ws given (Guest place) (place + 1)
  unfolding checks next_role taken
  path-on h b z e =
      read-on ws given Place place h
      (other first_fault (begins_as_option (word_at ws place)) _ _ _ b
      (ap (λ (x : Bool). cond (not x) (cond (nat_lt 0 (length (word_at ws place))) None (Some (record { word = place; kind = 6 }))) (Some (record { word = place; kind = 12 }))) z
      ∙ ap (λ (x : Bool). cond x None (Some (record { word = place; kind = 6 }))) e))
      ∙ ap (λ (x : Bool). read_at ws (cond x (with_option (option_named (word_at ws place)) given) given) (cond x (role_behind (option_named (word_at ws place))) (Guest place)) (place + 1)) b

  -- ---- the guest's words
  pub guest-zero : (program : ℕ) → place < length ws → has_zero (word_at ws place) ≡ true
      → read_at ws given (Guest program) place ≡ Err (record { word = place; kind = 12 })
  unfolding checks
  guest-zero program h z =
      read-stop ws given (Guest program) place (record { word = place; kind = 12 }) h
      (ap (λ (x : Bool). cond (not x) None (Some (record { word = place; kind = 12 }))) z)

  pub guest-on : (program : ℕ) → place < length ws → has_zero (word_at ws place) ≡ false
      → read_at ws given (Guest program) place ≡ read_at ws given (Guest program) (place + 1)
  unfolding checks next_role taken
  guest-on program h z =
      read-on ws given (Guest program) place h (ap (λ (x : Bool). cond (not x) None (Some (record { word = place; kind = 12 }))) z)

  pub guest-end : (program : ℕ) → length ws ≤ place → read_at ws given (Guest program) place ≡ ended given (Guest program) (length ws)
  unfolding ended
  guest-end program h = read-end ws given (Guest program) place h

  -- ---- options and their values
  pub option-stop : (fault : WordFault) → place < length ws → begins_as_option (word_at ws place) ≡ true
      → first_fault (option_checks ws given place (option_named (word_at ws place))) ≡ Some fault → read_at ws given Place place ≡ Err fault
  unfolding checks
  option-stop fault h b e = read-stop ws given Place place fault h (choose first_fault (begins_as_option (word_at ws place)) _ _ _ b e)

  -- an option that passes, and what is read behind it
  option-on : (name : OptionName) → place < length ws → begins_as_option (word_at ws place) ≡ true
      → first_fault (option_checks ws given place (option_named (word_at ws place))) ≡ None → option_named (word_at ws place) ≡ Some name
      → read_at ws given Place place ≡ read_at ws (with_option (Some name) given) (cond (takes_value name) (Value name) Place) (place + 1)
  unfolding checks next_role taken
  option-on name h b e n =
      read-on ws given Place place h (choose first_fault (begins_as_option (word_at ws place)) _ _ _ b e)
      ∙ ap (λ (x : Bool). read_at ws (cond x (with_option (option_named (word_at ws place)) given) given) (cond x (role_behind (option_named (word_at ws place))) (Guest place)) (place + 1)) b
      ∙ ap (λ (o : Option OptionName). read_at ws (with_option o given) (role_behind o) (place + 1)) n

  pub option-switch : (name : OptionName) → place < length ws → begins_as_option (word_at ws place) ≡ true
      → first_fault (option_checks ws given place (option_named (word_at ws place))) ≡ None → option_named (word_at ws place) ≡ Some name
      → takes_value name ≡ false → read_at ws given Place place ≡ read_at ws (with_option (Some name) given) Place (place + 1)
  option-switch name h b e n t =
      option-on name h b e n
      ∙ ap (λ (x : Bool). read_at ws (with_option (Some name) given) (cond x (Value name) Place) (place + 1)) t

  -- an option with a value leaves what was given
  keeps : (name : OptionName) → takes_value name ≡ true → with_option (Some name) given ≡ given
  keeps Budget t = refl
  keeps Pages t = refl
  keeps Resident t = refl
  keeps Swap t = refl
  keeps Seed t = refl
  keeps Cap t = refl
  keeps In t = refl
  keeps Out t = refl
  keeps Env t = refl
  keeps Report t = cc

  pub option-value : (name : OptionName) → place < length ws → begins_as_option (word_at ws place) ≡ true
      → first_fault (option_checks ws given place (option_named (word_at ws place))) ≡ None → option_named (word_at ws place) ≡ Some name
      → takes_value name ≡ true → read_at ws given Place place ≡ read_at ws given (Value name) (place + 1)
  option-value name h b e n t =
      option-on name h b e n
      ∙ ap (λ (x : Bool). read_at ws (with_option (Some name) given) (cond x (Value name) Place) (place + 1)) t
      ∙ ap (λ (g : Given). read_at ws g (Value name) (place + 1)) (keeps name t)

  pub value-missing : (name : OptionName) → length ws ≤ place → read_at ws given (Value name) place ≡ Err (record { word = place; kind = 3 })
  unfolding ended
  value-missing name h = read-end ws given (Value name) place h

  pub value-stop : (name : OptionName) (fault : WordFault) → place < length ws
      → first_fault (value_checks name place (word_at ws place)) ≡ Some fault → read_at ws given (Value name) place ≡ Err fault
  unfolding checks
  value-stop name fault h e = read-stop ws given (Value name) place fault h e

  pub value-on : (name : OptionName) (after : Given) → place < length ws → first_fault (value_checks name place (word_at ws place)) ≡ None
      → after ≡ with_value given name place (word_at ws place) → read_at ws given (Value name) place ≡ read_at ws after Place (place + 1)
  unfolding checks next_role taken
  value-on name after h e w =
      read-on ws given (Value name) place h e ∙ ap (λ (g : Given). read_at ws g Place (place + 1)) (sym w)

-- ---- the end of a piece of the reading by a check
pub checked : {A : Type 0} (r : Result A WordFault) (b : Bool) (f : WordFault) (x y : Result Command WordFault)
    → MatchResult r (λ _. b ≡ true) (λ fault. (b ≡ false) × (fault ≡ f)) → (b ≡ true → x ≡ y) → (b ≡ false → x ≡ Err f)
    → MatchResult r (λ _. x ≡ y) (λ fault. x ≡ Err fault)
checked (Ok v) b f x y m on off = on m
checked (Err fault) b f x y m on off = off m.0 ∙ ap (λ (f : WordFault). let r : Result Command WordFault = Err f in r) (sym m.1)

-- the guest's words up to a place, and all of them
pub guest-refused : (ws : List (List ℕ)) (first place : ℕ)
    → ((given : Given) (program : ℕ) → read_at ws given (Guest program) first ≡ read_at ws given (Guest program) place)
    → place < length ws → has_zero (word_at ws place) ≡ true
    → (given : Given) (program : ℕ) → read_at ws given (Guest program) first ≡ Err (record { word = place; kind = 12 })
guest-refused ws first place before h z given program = before given program ∙ guest-zero ws given place program h z

pub guest-more : (ws : List (List ℕ)) (first place : ℕ)
    → ((given : Given) (program : ℕ) → read_at ws given (Guest program) first ≡ read_at ws given (Guest program) place)
    → place < length ws → has_zero (word_at ws place) ≡ false
    → (given : Given) (program : ℕ) → read_at ws given (Guest program) first ≡ read_at ws given (Guest program) (place + 1)
guest-more ws first place before h z given program = before given program ∙ guest-on ws given place program h z

pub guest-all : (ws : List (List ℕ)) (first place : ℕ)
    → ((given : Given) (program : ℕ) → read_at ws given (Guest program) first ≡ read_at ws given (Guest program) place)
    → length ws ≤ place → (given : Given) (program : ℕ) → read_at ws given (Guest program) first ≡ ended given (Guest program) (length ws)
guest-all ws first place before h given program = before given program ∙ guest-end ws given place program h

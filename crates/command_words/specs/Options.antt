-- The options of the command `run`.
use Rattle.std.specs.Prelude.{ℕ, Bool, true, false, nat_eq, List, [], ◌∷◌, Option, find}
use Rattle.std.specs.Cmp.Lexicographic.{pointwise}
use Rattle.command_words.specs.declared.options.OptionName.{OptionName}
use Rattle.command_words.specs.declared.options.OptionName.TheVariants.{Budget, Pages, Resident, Swap, Seed, Cap, In, Out, Env, Report}

abbrev pub every_option : List OptionName
every_option = Budget ∷ Pages ∷ Resident ∷ Swap ∷ Seed ∷ Cap ∷ In ∷ Out ∷ Env ∷ Report ∷ []

-- the text of each: `--budget`, `--pages`, `--resident`, `--swap`, `--seed`, `--cap`, `--in`, `--out`, `--env`, `--report`
abbrev pub text_of : OptionName → List ℕ
text_of Budget = 45 ∷ 45 ∷ 98 ∷ 117 ∷ 100 ∷ 103 ∷ 101 ∷ 116 ∷ []
text_of Pages = 45 ∷ 45 ∷ 112 ∷ 97 ∷ 103 ∷ 101 ∷ 115 ∷ []
text_of Resident = 45 ∷ 45 ∷ 114 ∷ 101 ∷ 115 ∷ 105 ∷ 100 ∷ 101 ∷ 110 ∷ 116 ∷ []
text_of Swap = 45 ∷ 45 ∷ 115 ∷ 119 ∷ 97 ∷ 112 ∷ []
text_of Seed = 45 ∷ 45 ∷ 115 ∷ 101 ∷ 101 ∷ 100 ∷ []
text_of Cap = 45 ∷ 45 ∷ 99 ∷ 97 ∷ 112 ∷ []
text_of In = 45 ∷ 45 ∷ 105 ∷ 110 ∷ []
text_of Out = 45 ∷ 45 ∷ 111 ∷ 117 ∷ 116 ∷ []
text_of Env = 45 ∷ 45 ∷ 101 ∷ 110 ∷ 118 ∷ []
text_of Report = 45 ∷ 45 ∷ 114 ∷ 101 ∷ 112 ∷ 111 ∷ 114 ∷ 116 ∷ []

-- whether the word behind an option is its value
abbrev pub takes_value : OptionName → Bool
takes_value Budget = true
takes_value Pages = true
takes_value Resident = true
takes_value Swap = true
takes_value Seed = true
takes_value Cap = true
takes_value In = true
takes_value Out = true
takes_value Env = true
takes_value Report = false

-- the option that a word stands for
unfoldable pub option_named : List ℕ → Option OptionName
option_named word = find (λ name. pointwise nat_eq (text_of name) word) every_option

-- What holds of what was given, while the words are read.
use Rattle.std.specs.Prelude.{ℕ, ◌≡◌, ◌≤◌, ◌<◌, ◌^◌, true, List, length, All, ⊤, Option, IfSome}
use Rattle.command_words.specs.declared.options.OptionName.{OptionName}
use Rattle.command_words.specs.declared.options.OptionName.TheVariants.{Budget, Pages, Resident, Swap, Seed, Cap, In, Out, Env, Report}
use Rattle.command_words.specs.declared.kinds.Frames.{Frames}
use Rattle.command_words.specs.declared.kinds.Given.{Given}
use Rattle.command_words.specs.Texts.{word_at}
use Rattle.command_words.specs.Pairs.{is_pair}
use Rattle.command_words.specs.Files.{named_files}
use Rattle.command_words.specs.Command.{IsText, IsPathAt, ArePairs}

-- numbers that were given are in their ranges
pub record AreNumbers (budget pages : Option ℕ) (resident : Option Frames) (cap seed : Option ℕ) : Type 0 where
  pub budget_fits : IfSome budget (λ number. number < 2 ^ 64)
  pub pages_fits : IfSome pages (λ number. (512 ≤ number) × (number ≤ 262144))
  pub resident_fits : IfSome resident (λ frames. 8 ≤ frames.count)
  pub cap_fits : IfSome cap (λ number. (1 ≤ number) × (number ≤ 67108864))
  pub seed_fits : IfSome seed (λ number. number < 2 ^ 64)

-- environment texts before a place
pub record AreTexts (words : List (List ℕ)) (end : ℕ) (places : List ℕ) : Type 0 where
  pub few : length places ≤ 64
  pub before : All (λ place. place < end) places
  pub texts : All (λ place. IsText (word_at words place)) places

-- pairs of `--in` and of `--out` before a place
pub record AreFiles (words : List (List ℕ)) (end : ℕ) (ins outs : List ℕ) : Type 0 where
  pub loaded : ArePairs words end ins
  pub stored : ArePairs words end outs
  pub few : length (named_files words ins outs) ≤ 16

-- what the words before a place gave
pub record Holds (words : List (List ℕ)) (given : Given) (place : ℕ) : Type 0 where
  pub numbers : AreNumbers given.budget given.pages given.resident given.cap given.seed
  pub swap : IfSome given.swap (IsPathAt words place)
  pub texts : AreTexts words place given.env.items
  pub files : AreFiles words place given.ins.items given.outs.items

-- the list that an option's value goes to has a place for it
abbrev pub HasPlace : Given → OptionName → (value : List ℕ) → Type 0
HasPlace given Budget value = ⊤
HasPlace given Pages value = ⊤
HasPlace given Resident value = ⊤
HasPlace given Swap value = ⊤
HasPlace given Seed value = ⊤
HasPlace given Cap value = ⊤
HasPlace given In value = is_pair value ≡ true → length given.ins.items < 16
HasPlace given Out value = is_pair value ≡ true → length given.outs.items < 16
HasPlace given Env value = length given.env.items < 64
HasPlace given Report value = ⊤

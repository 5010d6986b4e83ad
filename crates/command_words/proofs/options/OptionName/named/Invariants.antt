use Rattle.std.proofs.Common.{◌≡◌, drop, find, nat_eq}
use Rattle.std.specs.Cmp.Lexicographic.{pointwise}
use Rattle.command_words.specs.Options.{text_of, every_option, option_named}
use Rattle.command_words.proofs.options.OptionName.named.Given as goal

abbrev pub invariant-loop-name : goal.invariant-loop-name
invariant-loop-name l = find (λ name. pointwise nat_eq (text_of name) l.word) (drop l.name-index every_option) ≡ option_named l.word

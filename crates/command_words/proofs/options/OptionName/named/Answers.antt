use Rattle.std.proofs.Common.{◌∙◌, sym, ap, nat_eq, List, ℕ, Bool, refl, arith}
use Rattle.std.specs.Cmp.Lexicographic.{pointwise}
use Rattle.command_words.specs.declared.options.OptionName.{OptionName}
use Rattle.command_words.specs.declared.options.OptionName.TheVariants.{Budget}
use Rattle.command_words.specs.Options.{text_of, every_option, option_named}
use Rattle.command_words.proofs.SearchLemmas.{find-here, find-behind, find-none}
use Rattle.command_words.proofs.options.OptionName.named.Goals as goal

abbrev stands_for : List ℕ → OptionName → Bool
stands_for word name = pointwise nat_eq (text_of name) word

pub loop-name-init : goal.loop-name-init
unfolding option_named
loop-name-init c = refl

pub returns-then-eq : goal.returns-then-eq
returns-then-eq c =
    let word = c.args.word.now in
    sym (find-here (stands_for word) every_option c.loop-name.name-index Budget c.loop-name-test.true
    (ap (λ (text : List ℕ). pointwise nat_eq text word) (sym c.text.ensures) ∙ sym c.eq.ensures ∙ c.if-eq.true))
    ∙ c.loop-name.invariant

pub loop-name-preserved : goal.loop-name-preserved
loop-name-preserved c =
    let word = c.args.word.now in
    sym (find-behind (stands_for word) every_option c.loop-name.name-index Budget c.loop-name-test.true
    (ap (λ (text : List ℕ). pointwise nat_eq text word) (sym c.text.ensures) ∙ sym c.eq.ensures ∙ c.if-eq.false))
    ∙ c.loop-name.invariant

pub returns : goal.returns
returns c =
    sym (find-none (stands_for c.args.word.now) every_option c.loop-name.name-index (omega arith)) ∙ c.loop-name.invariant

use Rattle.std.proofs.Common.{◌∙◌, ℕ, ◌+◌, List, map, string_bytes, sym, ap, arith, subst}
use Rattle.std.proofs.lemmas.Result.{err_from_is_err_and}
use Rattle.std.proofs.lemmas.List.{length-map}
use Rattle.std.proofs.lemmas.Bool.{ltb-true, ltb-false}
use Rattle.command_words.specs.declared.kinds.Given.{Given}
use Rattle.command_words.specs.Texts.{word_at}
use Rattle.command_words.specs.Holding.{Holds}
use Rattle.command_words.specs.Options.{option_named}
use Rattle.command_words.specs.Reading.{first_fault, option_checks, value_checks, with_value}
use Rattle.command_words.specs.Reading.Role.{Place}
use Rattle.command_words.specs.Reading.{read_at}
use Rattle.command_words.proofs.ReadLemmas.{option-stop, option-switch, option-value, value-missing, value-stop, value-on}
use Rattle.command_words.proofs.CommandLemmas.{holds-later, option-free, value-fits}
use Rattle.command_words.proofs.reading.read_option.Goals as goal

pub returns-in_err-name-clause-answer : goal.returns-in_err-name-clause-answer
returns-in_err-name-clause-answer c =
    let p = err_from_is_err_and c.from_residual.result c.from_residual.ensures.1 in
    rw (p.1, p.2)
    (option-stop (map string_bytes c.args.words.now) c.args.given c.args.place _ (omega (arith, length-map c.args.words.now string_bytes)) c.requires.option c.in_err-name.ensures.answer)

pub returns-then-not-takes_value-clause-answer : goal.returns-then-not-takes_value-clause-answer
returns-then-not-takes_value-clause-answer c =
    let ws = map string_bytes c.args.words.now in
    option-switch ws c.args.given c.args.place c.in_ok-name.name (omega (arith, length-map c.args.words.now string_bytes)) c.requires.option
    c.in_ok-name.ensures.answer c.in_ok-name.ensures.name
    (sym c.takes_value.ensures ∙ c.if-not-takes_value.true)
    ∙ ap (λ (g : Given). read_at ws g Place (c.args.place + 1)) (sym c.with_option.ensures)

pub returns-in_err-check-clause-answer : goal.returns-in_err-check-clause-answer
returns-in_err-check-clause-answer c =
    let ws = map string_bytes c.args.words.now in
    let p = err_from_is_err_and c.from_residual-in_err-check.result c.from_residual-in_err-check.ensures.1 in
    rw (p.1, p.2, c.in_err-check.ensures.1)
    (option-value ws c.args.given c.args.place c.in_ok-name.name (omega (arith, length-map c.args.words.now string_bytes)) c.requires.option
    c.in_ok-name.ensures.answer c.in_ok-name.ensures.name
    (sym c.takes_value.ensures ∙ c.if-not-takes_value.false)
    ∙ value-missing ws c.args.given (c.args.place + 1) c.in_ok-name.name
    (omega (arith, length-map c.args.words.now string_bytes, ltb-false _ _ c.in_err-check.ensures.0)))

pub returns-in_err-given-clause-answer : goal.returns-in_err-given-clause-answer
returns-in_err-given-clause-answer c =
    let ws = map string_bytes c.args.words.now in
    let p = err_from_is_err_and c.from_residual-in_err-given.result c.from_residual-in_err-given.ensures.1 in
    rw (p.1, p.2)
    (option-value ws c.args.given c.args.place c.in_ok-name.name (omega (arith, length-map c.args.words.now string_bytes)) c.requires.option
    c.in_ok-name.ensures.answer c.in_ok-name.ensures.name
    (sym c.takes_value.ensures ∙ c.if-not-takes_value.false)
    ∙ value-stop ws c.args.given (c.args.place + 1) c.in_ok-name.name _
    (omega (arith, length-map c.args.words.now string_bytes, ltb-true _ _ c.in_ok-check.ensures))
    (ap (λ (w : List ℕ). first_fault (value_checks c.in_ok-name.name (c.args.place + 1) w)) (sym c.text_at.ensures)
    ∙ c.in_err-given.ensures.answer))

pub returns-clause-answer : goal.returns-clause-answer
returns-clause-answer c =
    let ws = map string_bytes c.args.words.now in
    option-value ws c.args.given c.args.place c.in_ok-name.name (omega (arith, length-map c.args.words.now string_bytes)) c.requires.option
    c.in_ok-name.ensures.answer c.in_ok-name.ensures.name
    (sym c.takes_value.ensures ∙ c.if-not-takes_value.false)
    ∙ value-on ws c.args.given (c.args.place + 1) c.in_ok-name.name c.in_ok-given.given
    (omega (arith, length-map c.args.words.now string_bytes, ltb-true _ _ c.in_ok-check.ensures))
    (ap (λ (w : List ℕ). first_fault (value_checks c.in_ok-name.name (c.args.place + 1) w)) (sym c.text_at.ensures)
    ∙ c.in_ok-given.ensures.answer)
    (c.in_ok-given.ensures.given ∙ ap (λ (w : List ℕ). with_value c.args.given c.in_ok-name.name (c.args.place + 1) w) c.text_at.ensures)
    ∙ ap (λ (n : ℕ). read_at ws c.in_ok-given.given Place n) (omega arith)

pub returns-clause-given : goal.returns-clause-given
returns-clause-given c =
    let ws = map string_bytes c.args.words.now in
    subst (λ (given : Given). Holds ws given (c.args.place + 2))
    (sym (c.in_ok-given.ensures.given ∙ ap (λ (w : List ℕ). with_value c.args.given c.in_ok-name.name (c.args.place + 1) w) c.text_at.ensures))
    (subst (λ (place : ℕ). Holds ws (with_value c.args.given c.in_ok-name.name (c.args.place + 1) (word_at ws (c.args.place + 1))) place) (omega arith)
    (value-fits ws c.args.given (c.args.place + 1) c.in_ok-name.name (holds-later ws c.args.given c.args.place c.requires.given)
    (option-free ws c.args.given c.args.place (option_named (word_at ws c.args.place)) c.in_ok-name.name c.in_ok-name.ensures.answer c.in_ok-name.ensures.name)
    (ap (λ (w : List ℕ). first_fault (value_checks c.in_ok-name.name (c.args.place + 1) w)) (sym c.text_at.ensures)
    ∙ c.in_ok-given.ensures.answer)))

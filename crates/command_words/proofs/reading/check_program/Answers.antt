use Rattle.std.proofs.Common.{◌∙◌, ℕ, ◌+◌, List, length, map, string_bytes, sym, ap, arith, not, nat_lt}
use Rattle.std.proofs.lemmas.Result.{err_from_is_err_and}
use Rattle.std.proofs.lemmas.List.{length-map}
use Rattle.std.proofs.lemmas.Bool.{lt-ltb, ltb-true, ltb-false}
use Rattle.command_words.specs.Texts.{has_zero}
use Rattle.command_words.specs.Reading.{read_at}
use Rattle.command_words.specs.Reading.Role.{Place, Guest}
use Rattle.command_words.proofs.ReadLemmas.{is-some, is-none, checked, path-missing, path-zero, path-empty, path-on}
use Rattle.command_words.proofs.reading.check_program.Goals as goal

pub returns-in_err-check-clause-answer : goal.returns-in_err-check-clause-answer
returns-in_err-check-clause-answer c = λ given.
    let p = err_from_is_err_and c.from_residual.result c.from_residual.ensures.1 in
    rw (p.1, p.2, c.in_err-check.ensures.1)
    (path-missing (map string_bytes c.args.words.now) given c.args.place
    (omega (arith, length-map c.args.words.now string_bytes, ltb-false _ _ c.in_err-check.ensures.0)))

pub returns-in_err-check_text-clause-answer : goal.returns-in_err-check_text-clause-answer
returns-in_err-check_text-clause-answer c = λ given.
    let within = ltb-true _ _ c.in_ok-check.ensures in
    let p = err_from_is_err_and c.from_residual-in_err-check_text.result c.from_residual-in_err-check_text.ensures.1 in
    rw (p.1, p.2, c.in_err-check_text.ensures.1)
    (path-zero (map string_bytes c.args.words.now) given c.args.place (omega (arith, within, length-map c.args.words.now string_bytes))
    (c.requires.behind within) (ap has_zero (sym c.text_at-path.ensures) ∙ c.in_err-check_text.ensures.0))

pub returns-clause-answer : goal.returns-clause-answer
returns-clause-answer c = λ given.
    let ws = map string_bytes c.args.words.now in
    let within = ltb-true _ _ c.in_ok-check.ensures in
    checked c.check-2.result (not c.is_empty.result) (record { word = c.args.place; kind = 6 })
    (read_at ws given Place c.args.place) (read_at ws given (Guest c.args.place) (c.args.place + 1))
    c.check-2.ensures
    (λ e. path-on ws given c.args.place (omega (arith, within, length-map c.args.words.now string_bytes)) (c.requires.behind within)
    (ap has_zero (sym c.text_at-path.ensures) ∙ c.in_ok-check_text.ensures) (ap (λ (w : List ℕ). nat_lt 0 (length w)) (sym c.text_at-path.ensures)
    ∙ lt-ltb 0 _ (is-some (length c.text_at-path.result.now) c.is_empty.result c.is_empty.ensures e)))
    (λ e. path-empty ws given c.args.place (omega (arith, within, length-map c.args.words.now string_bytes)) (c.requires.behind within)
    (ap has_zero (sym c.text_at-path.ensures) ∙ c.in_ok-check_text.ensures) (ap (λ (w : List ℕ). nat_lt 0 (length w)) (sym c.text_at-path.ensures)
    ∙ ap (nat_lt 0) (is-none (length c.text_at-path.result.now) c.is_empty.result c.is_empty.ensures e)))

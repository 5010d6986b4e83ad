use Rattle.std.proofs.Common.{◌∙◌, length, map, string_bytes, sym, ap, arith}
use Rattle.std.proofs.lemmas.Result.{err_from_is_err_and}
use Rattle.std.proofs.lemmas.List.{length-map}
use Rattle.command_words.specs.Reading.Role.{Place}
use Rattle.command_words.specs.Reading.{is_run, words_read, no_options}
use Rattle.command_words.specs.Reading.{read_at}
use Rattle.command_words.proofs.ReadLemmas.{checked, is-some, is-none, first-missing, first-wrong, first-run}
use Rattle.command_words.proofs.reading.check_first.Goals as goal

pub returns-in_err-check-clause-answer : goal.returns-in_err-check-clause-answer
returns-in_err-check-clause-answer c =
    let p = err_from_is_err_and c.from_residual.result c.from_residual.ensures.1 in
    rw (p.1, p.2, c.in_err-check.ensures.1)
    (first-missing (map string_bytes c.args.words.now)
    (length-map c.args.words.now string_bytes ∙ is-none (length c.args.words.now) c.is_empty.result c.is_empty.ensures c.in_err-check.ensures.0))

pub returns-clause-answer : goal.returns-clause-answer
returns-clause-answer c =
    let ws = map string_bytes c.args.words.now in
    let some = is-some (length c.args.words.now) c.is_empty.result c.is_empty.ensures c.in_ok-check.ensures in
    checked c.check-2.result c.eq.result (record { word = 0; kind = 1 }) (words_read ws) (read_at ws no_options Place 1)
    c.check-2.ensures
    (λ e. first-run ws (omega (arith, some, length-map c.args.words.now string_bytes)) (ap is_run (sym c.text_at.ensures) ∙ sym c.eq.ensures ∙ e))
    (λ e. first-wrong ws (omega (arith, some, length-map c.args.words.now string_bytes)) (ap is_run (sym c.text_at.ensures) ∙ sym c.eq.ensures ∙ e))

use Rattle.std.proofs.Common.{◌∙◌, map, string_bytes, sym, ap, arith}
use Rattle.std.proofs.lemmas.Result.{err_from_is_err_and}
use Rattle.std.proofs.lemmas.List.{length-map}
use Rattle.command_words.specs.Texts.{has_zero}
use Rattle.command_words.proofs.ReadLemmas.{guest-refused, guest-more, guest-all}
use Rattle.command_words.proofs.reading.check_guest_words.Goals as goal

pub returns-in_err-check_text : goal.returns-in_err-check_text
returns-in_err-check_text c =
    let p = err_from_is_err_and c.from_residual.result c.from_residual.ensures.1 in
    rw (p.1, p.2, c.in_err-check_text.ensures.1)
    (guest-refused (map string_bytes c.args.words.now) c.args.first c.loop-place.place c.loop-place.invariant
    (omega (arith, length-map c.args.words.now string_bytes))
    (ap has_zero (sym c.text_at.ensures) ∙ c.in_err-check_text.ensures.0))

pub loop-place-preserved : goal.loop-place-preserved
loop-place-preserved c =
    guest-more (map string_bytes c.args.words.now) c.args.first c.loop-place.place c.loop-place.invariant
    (omega (arith, length-map c.args.words.now string_bytes))
    (ap has_zero (sym c.text_at.ensures) ∙ c.in_ok-check_text.ensures)

pub returns : goal.returns
returns c =
    guest-all (map string_bytes c.args.words.now) c.args.first c.loop-place.place c.loop-place.invariant
    (omega (arith, length-map c.args.words.now string_bytes))

use Rattle.std.proofs.Common.{sym, ap, ◌∙◌, List, ℕ, [], ◌∷◌, nat_eq}
use Rattle.std.specs.List.{starts_with}
use Rattle.command_words.proofs.NumberLemmas.{parsed-ok, parsed-err, refused-plus, refused-zero}
use Rattle.command_words.proofs.numbers.number.Goals as goal

pub returns-then-starts_with : goal.returns-then-starts_with
returns-then-starts_with c =
    refused-plus c.args.text.now
    (ap (λ (bytes : List ℕ). starts_with nat_eq bytes (43 ∷ [])) (sym c.as_bytes.ensures.value) ∙ sym c.starts_with.ensures.value ∙ c.if-starts_with.true)

pub returns-then-has_leading_zero : goal.returns-then-has_leading_zero
returns-then-has_leading_zero c = refused-zero c.args.text.now (sym c.has_leading_zero.ensures ∙ c.if-has_leading_zero.true)

pub returns-in-Ok : goal.returns-in-Ok
returns-in-Ok c =
    parsed-ok c.args.text.now c.parse.result c.in-Ok.number c.parse.ensures.value.0
    (ap (λ (bytes : List ℕ). starts_with nat_eq bytes (43 ∷ [])) (sym c.as_bytes.ensures.value) ∙ sym c.starts_with.ensures.value ∙ c.if-starts_with.false)
    (sym c.has_leading_zero.ensures ∙ c.if-has_leading_zero.false) c.in-Ok.is

pub returns-in-Err : goal.returns-in-Err
returns-in-Err c =
    parsed-err c.args.text.now c.parse.result c.in-Err.field-0 c.parse.ensures.value.0
    (ap (λ (bytes : List ℕ). starts_with nat_eq bytes (43 ∷ [])) (sym c.as_bytes.ensures.value) ∙ sym c.starts_with.ensures.value ∙ c.if-starts_with.false)
    c.in-Err.is

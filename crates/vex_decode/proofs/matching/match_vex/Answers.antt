use Rattle.std.proofs.Common.{sym, ◌∙◌, w64, rules}
use mir.Val.{SFits}
use Rattle.std.proofs.lemmas.Int.{to_z-of_z}
use Rattle.row_table.proofs.Spelled.{unmatched, refused, allowed}
use Rattle.vex_decode.specs.Spelling.{vex_encoding}
use Rattle.vex_decode.proofs.matching.match_vex.Goals as goal

pub returns-in_err-index : goal.returns-in_err-index
returns-in_err-index c =
    rw c.from_residual.ensures (unmatched vex_encoding c.args.fields.now c.in_err-index.ensures.value c.in_err-index.ensures.none)

pub returns-then-not-is_allowed : goal.returns-then-not-is_allowed
returns-then-not-is_allowed c =
    refused vex_encoding c.args.fields.now c.in_ok-index.index c.row.result c.row.ensures c.in_ok-index.ensures.value
    c.in_ok-index.ensures.only (sym c.is_allowed.ensures ∙ c.if-not-is_allowed.true)

pub returns : goal.returns
returns c =
    let in_range : SFits w64 c.args.fields.now.disp = search rules in
    allowed vex_encoding c.args.fields.now c.in_ok-index.index c.row.result c.row.ensures c.in_ok-index.ensures.value
    c.in_ok-index.ensures.only _ (to_z-of_z w64 c.args.fields.now.disp in_range) c.in_ok-index.ensures.some
    (sym c.is_allowed.ensures ∙ c.if-not-is_allowed.false)

use Rattle.std.proofs.Common.{◌≡◌, true, sym, ◌∙◌, w64, rules}
use mir.Val.{SFits}
use Rattle.std.proofs.lemmas.Bool.{and_parts}
use Rattle.std.proofs.lemmas.Int.{to_z-of_z}
use Rattle.row_table.specs.declared.kinds.Row.{Row}
use Rattle.row_table.specs.declared.kinds.Fields.{Fields}
use Rattle.row_table.specs.Spelling.{without_prefixes, bytes_fit}
use Rattle.row_table.proofs.Spelled.{unmatched, refused, allowed as spelling-allowed}
use Rattle.evex_decode.specs.Spelling.{bits_fit, byte_fits, form_allowed, allowed, evex_encoding}
use Rattle.evex_decode.proofs.matching.match_evex.Goals as goal

-- a displacement of one byte that is allowed is a number of one byte
byte-fits : (r : Row) (f : Fields) → allowed r f ≡ true → byte_fits f ≡ true
byte-fits r f h =
    let a = and_parts (form_allowed f) _ h in
    let b = and_parts (without_prefixes f) _ a.0 in
    let d = and_parts (bits_fit f) _ b.1 in
    (and_parts (byte_fits f) (bytes_fit f) d.1).0

pub returns-in_err-index : goal.returns-in_err-index
returns-in_err-index c =
    rw c.from_residual.ensures (unmatched evex_encoding c.args.fields.now c.in_err-index.ensures.value c.in_err-index.ensures.none)

pub returns-then-not-is_allowed : goal.returns-then-not-is_allowed
returns-then-not-is_allowed c =
    refused evex_encoding c.args.fields.now c.in_ok-index.index c.row-found.result c.row-found.ensures c.in_ok-index.ensures.value
    c.in_ok-index.ensures.only (sym c.is_allowed.ensures ∙ c.if-not-is_allowed.true)

pub displacement-requires : goal.displacement-requires
displacement-requires c = byte-fits c.row-found.result c.args.fields.now (sym c.is_allowed.ensures ∙ c.if-not-is_allowed.false)

pub returns : goal.returns
returns c =
    let in_range : SFits w64 c.displacement.result = search rules in
    spelling-allowed evex_encoding c.args.fields.now c.in_ok-index.index c.row-found.result c.row-found.ensures
    c.in_ok-index.ensures.value c.in_ok-index.ensures.only _
    (to_z-of_z w64 c.displacement.result in_range ∙ c.displacement.ensures) c.in_ok-index.ensures.some
    (sym c.is_allowed.ensures ∙ c.if-not-is_allowed.false)

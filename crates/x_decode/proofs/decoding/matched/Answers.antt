use Rattle.std.proofs.Common.{sym, subst}
use Rattle.row_table.specs.declared.kinds.Class.{Class}
use Rattle.row_table.specs.Spelling.{IsSpelling}
use Rattle.x_decode.specs.Seeing.{encoding_of}
use Rattle.x_decode.proofs.decoding.matched.Goals as goal

pub returns-in-Legacy : goal.returns-in-Legacy
unfolding encoding_of
returns-in-Legacy c =
    subst (λ (k : Class). IsSpelling (encoding_of k) c.args.fields.now c.match_legacy.result) (sym c.in-Legacy.is) c.match_legacy.ensures

pub returns-in-Vex : goal.returns-in-Vex
unfolding encoding_of
returns-in-Vex c =
    subst (λ (k : Class). IsSpelling (encoding_of k) c.args.fields.now c.match_vex.result) (sym c.in-Vex.is) c.match_vex.ensures

pub returns-in-Evex : goal.returns-in-Evex
unfolding encoding_of
returns-in-Evex c =
    subst (λ (k : Class). IsSpelling (encoding_of k) c.args.fields.now c.match_evex.result) (sym c.in-Evex.is) c.match_evex.ensures

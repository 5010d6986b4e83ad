use Rattle.std.proofs.Common.{◌∙◌, ◌+◌, ◌-◌, ◌*◌, ◌^◌, ap}
use Rattle.gpr_units.proofs.Bits.{ones-joined}
use Rattle.gpr_units.proofs.quotients.ones.Goals as goal

pub returns : goal.returns
returns c =
    ap (λ k. k + 1) c.join.ensures.value ∙ ap (λ p. (p - 1) * 2 ^ c.args.bits + (p - 1) + 1) c.full.ensures.value ∙ ones-joined c.args.bits

use Rattle.std.proofs.Common.{◌∙◌, ◌/◌, ◌%◌, ◌^◌, sym, ap}
use Rattle.gpr_flags.proofs.Widths.{low-half, high-half}
use Rattle.gpr_flags.proofs.products.halves.Goals as goal

pub returns-clause-low : goal.returns-clause-low
returns-clause-low c = c.low.ensures.value ∙ sym (low-half c.args.bits c.args.product)

pub returns-clause-high : goal.returns-clause-high
returns-clause-high c = c.low-2.ensures.value ∙ ap (λ p. c.args.product / p % 2 ^ c.args.bits) c.power.ensures ∙ sym (high-half c.args.bits c.args.product)

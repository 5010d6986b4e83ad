use Rattle.std.proofs.Common.{arith}
use Rattle.gpr_flags.proofs.Widths.{joined-small}
use Rattle.gpr_flags.proofs.products.join.Goals as goal

pub returns-clause-small : goal.returns-clause-small
returns-clause-small c = grind (arith, joined-small c.args.bits c.args.high c.args.low c.requires.high c.requires.low)

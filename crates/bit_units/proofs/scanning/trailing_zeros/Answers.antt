use Rattle.std.proofs.Common.{arith}
use Rattle.gpr_flags.proofs.Widths.{within_power}
use Rattle.bit_units.proofs.Widths.{trailing_within}
use Rattle.bit_units.proofs.scanning.trailing_zeros.Goals as goal

pub returns-clause-value : goal.returns-clause-value
returns-clause-value c = omega (arith, trailing_within c.args.width 64 c.args.b c.requires.most)

pub returns-clause-fits : goal.returns-clause-fits
returns-clause-fits c = within_power _ c.args.width (omega arith)

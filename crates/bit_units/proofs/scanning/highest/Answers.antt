use Rattle.std.proofs.Common.{arith}
use Rattle.gpr_flags.proofs.Widths.{within_power}
use Rattle.bit_units.proofs.scanning.highest.Goals as goal

pub returns-clause-fits : goal.returns-clause-fits
returns-clause-fits c = within_power _ c.args.width (omega arith)

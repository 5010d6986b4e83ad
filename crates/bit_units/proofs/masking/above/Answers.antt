use Rattle.bit_units.proofs.Widths.{none_above}
use Rattle.bit_units.proofs.masking.above.Goals as goal

pub returns-else-start-lt64-clause-value : goal.returns-else-start-lt64-clause-value
returns-else-start-lt64-clause-value c = none_above c.args.a 64 c.args.start c.ranges.a.fits c.if-start-lt64.false

use Rattle.bit_units.proofs.Widths.{whole_field}
use Rattle.bit_units.proofs.masking.field.Goals as goal

pub returns-else-len-lt64-clause-value : goal.returns-else-len-lt64-clause-value
returns-else-len-lt64-clause-value c = whole_field c.args.a 64 c.args.len c.ranges.a.fits c.if-len-lt64.false

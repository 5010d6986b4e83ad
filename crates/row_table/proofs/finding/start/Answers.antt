use Rattle.std.proofs.Common.{refl}
use Rattle.row_table.specs.Rows.{starts}
use Rattle.row_table.proofs.finding.start.Goals as goal

pub returns : goal.returns
unfolding starts
returns c = refl

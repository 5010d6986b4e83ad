use Rattle.std.proofs.Common.{sym, ap, length}
use Rattle.row_table.specs.Rows.{table}
use Rattle.row_table.proofs.Computed.{rows-table}
use Rattle.row_table.proofs.Unique.{rows-sound}
use Rattle.row_table.proofs.finding.row_count.Goals as goal

pub returns-clause-count : goal.returns-clause-count
unfolding table
returns-clause-count c = ap length (sym rows-table)

pub returns-clause-sound : goal.returns-clause-sound
returns-clause-sound c = rows-sound

use Rattle.row_table.specs.Rows.{rows}
use Rattle.row_table.proofs.Search.{Kept}
use Rattle.row_table.proofs.finding.find.Given as goal

abbrev pub invariant-loop-i : goal.invariant-loop-i
invariant-loop-i l = Kept rows l.fields l.start l.i l.unmarked

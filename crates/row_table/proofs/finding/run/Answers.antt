use Rattle.std.proofs.Common.{◌≤◌, length, subst, sym, arith}
use Rattle.row_table.specs.Rows.{rows, starts}
use Rattle.row_table.proofs.Index.{at_most-at}
use Rattle.row_table.proofs.Computed.{starts-within}
use Rattle.row_table.proofs.Places.{run-holds, run-only, no-row-above}
use Rattle.row_table.proofs.finding.run.Goals as goal

pub returns-then-map-gt3-clause-holds : goal.returns-then-map-gt3-clause-holds
returns-then-map-gt3-clause-holds c = λ i r g h. absurd (no-row-above _ _ _ i r c.if-map-gt3.true g h)

pub returns-clause-within : goal.returns-clause-within
returns-clause-within c = subst (λ n. n ≤ length rows) (sym c.start-2.ensures) (at_most-at (length rows) starts _ starts-within)

pub returns-clause-holds : goal.returns-clause-holds
returns-clause-holds c = run-holds c.args.class c.args.map c.args.opcode _ _ _ c.place_of-place.ensures c.start.ensures c.start-2.ensures

pub returns-clause-only : goal.returns-clause-only
returns-clause-only c = run-only c.args.class c.args.map c.args.opcode _ _ _ (omega arith) c.ranges.opcode.fits c.place_of-place.ensures c.start.ensures c.start-2.ensures

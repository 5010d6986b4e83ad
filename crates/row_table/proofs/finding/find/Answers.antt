use Rattle.std.proofs.Common.{Option, sym, subst, ℕ, ◌+◌}
use Rattle.row_table.specs.Rows.{rows}
use Rattle.row_table.specs.Matching.{by_mark}
use Rattle.row_table.proofs.Pairs.{unmarked-not-marked}
use Rattle.row_table.proofs.Search.{Kept, kept-unmarked, kept-skip, found, found-absent, found-only}
use Rattle.row_table.proofs.Unique.{one-row}
use Rattle.row_table.proofs.Computing.{matched-some, matched-is}
use Rattle.row_table.proofs.finding.find.Goals.{in-Unmarked, in-Apart}
use Rattle.row_table.proofs.finding.find.Goals as goal

pub returns-in-Marked-clause-some : goal.returns-in-Marked-clause-some
returns-in-Marked-clause-some c = by_mark c.row.result c.row.ensures c.in-Marked.ensures

pub returns-in-Marked-clause-only : goal.returns-in-Marked-clause-only
returns-in-Marked-clause-only c = λ j m. one-row c.args.fields.now j c.loop-i.i m (by_mark c.row.result c.row.ensures c.in-Marked.ensures)

pub loop-i-preserved : goal.loop-i-preserved
loop-i-preserved c =
    let K = λ (u : Option ℕ). Kept rows c.args.fields.now c.run-start.result.0 (c.loop-i.i + 1) u in
    elim c.match-standing.branch [
      | in-Unmarked w ↦
          let fit = w.in-Unmarked.ensures in
          subst K (sym w.unmarked-is) (kept-unmarked rows _ _ _ _ c.row.result c.row.ensures (unmarked-not-marked _ _ fit) fit c.loop-i.invariant)
      | in-Apart w ↦
          let apart = w.in-Apart.ensures in
          subst K (sym w.unmarked-is) (kept-skip rows _ _ _ _ c.row.result c.row.ensures apart.0 apart.1 c.loop-i.invariant)
    ]

pub returns-clause-some : goal.returns-clause-some
returns-clause-some c = found rows c.args.fields.now _ _ _ c.loop-i.unmarked c.run-start.ensures.holds c.loop-i-test.false c.loop-i.invariant

pub returns-clause-only : goal.returns-clause-only
returns-clause-only c =
    found-only rows c.args.fields.now c.loop-i.unmarked (one-row c.args.fields.now) (found rows c.args.fields.now _ _ _ c.loop-i.unmarked c.run-start.ensures.holds c.loop-i-test.false c.loop-i.invariant)

pub returns-in-Marked-clause-value : goal.returns-in-Marked-clause-value
returns-in-Marked-clause-value c =
    matched-some c.args.fields.now c.loop-i.i (by_mark c.row.result c.row.ensures c.in-Marked.ensures) (returns-in-Marked-clause-only c)

pub returns-clause-value : goal.returns-clause-value
returns-clause-value c = matched-is c.args.fields.now c.loop-i.unmarked (returns-clause-some c) (returns-clause-only c)
    (found-absent rows c.args.fields.now _ _ _ c.loop-i.unmarked c.run-start.ensures.holds c.loop-i-test.false c.loop-i.invariant)

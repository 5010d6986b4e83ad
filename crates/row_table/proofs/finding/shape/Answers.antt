use Rattle.std.proofs.Common.{sym, ap, ◌∙◌, arith}
use Rattle.std.proofs.Common.{Some as some}
use Rattle.row_table.proofs.Shaping.{shape_at-some, shape_at-none}
use Rattle.row_table.proofs.finding.shape.Goals as goal

pub returns-then-start-end-clause-value : goal.returns-then-start-end-clause-value
returns-then-start-end-clause-value c =
    ap (λ s. some s) c.shape_for.ensures ∙ sym (shape_at-some c.args.class c.args.map c.args.opcode _ c.row-first.result c.row-first.ensures (c.run-start.ensures.only _ _ c.row-first.ensures (omega arith) c.if-start-end.true))

pub returns-then-start-end-clause-common : goal.returns-then-start-end-clause-common
returns-then-start-end-clause-common c = λ i r g h. returns-then-start-end-clause-value c ∙ shape_at-some c.args.class c.args.map c.args.opcode i r g h

pub returns-else-start-end-clause-value : goal.returns-else-start-end-clause-value
returns-else-start-end-clause-value c =
    sym (shape_at-none c.args.class c.args.map c.args.opcode (λ i r g h. let w = c.run-start.ensures.holds i r g h in let a = w.0 in let b = w.1 in let e = c.if-start-end.false in omega arith))

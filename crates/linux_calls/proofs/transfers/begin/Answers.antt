use Rattle.std.proofs.Common.{◌∙◌, sym, refl, rules, IsSome, Err}
use Rattle.linux_calls.specs.declared.kinds.Halt.TheVariants.{Refused}
use Rattle.linux_calls.specs.Errnos.{efault}
use Rattle.linux_calls.specs.Transfers.{transferred, transfer_rest}
use Rattle.linux_calls.specs.Outside.{streams}
use Rattle.linux_calls.specs.View.{view_of}
use Rattle.linux_calls.specs.Units.{moving_from}
use Rattle.linux_calls.specs.Following.{TakesInput, faults}
use Rattle.linux_calls.proofs.WorkLemmas.{comes_of_part, works_as}
use Rattle.linux_calls.proofs.StartLemmas.{transferred_refused, transferred_fault, transferred_moves}
use Rattle.linux_calls.proofs.transfers.begin.Goals as goal

pub returns-in-Err-clause-works : goal.returns-in-Err-clause-works
returns-in-Err-clause-works g c = record {
  kept = search rules;
  comes = comes_of_part (transferred c.args.transfer c.args.w.now.progress.now.pieces) (TakesInput (view_of c.args.w.now) → IsSome (g.S.Source.left c.args.input.now)) (view_of c.args.w.now) (view_of c.args.w.now)
      (streams (g.S.Source.left c.args.input.now) (g.O.Sink.taken c.args.out.now) (g.E.Sink.taken c.args.err.now)) (Err (Refused c.in-Err.errno))
      (transferred_refused c.args.transfer c.args.w.now.progress.now.pieces (view_of c.args.w.now) c.total_len-count.result c.requires.most (rw c.pieces.ensures at c.total_len-count.ensures) c.in-Err.errno (sym c.in-Err.ensures.answer));
  tells = search rules;
  needs = tt;
  waits = tt;
  cause = refl;
}

pub returns-else-allowed_pieces-clause-works : goal.returns-else-allowed_pieces-clause-works
returns-else-allowed_pieces-clause-works g c = record {
  kept = search rules;
  comes = comes_of_part (transferred c.args.transfer c.args.w.now.progress.now.pieces) (TakesInput (view_of c.args.w.now) → IsSome (g.S.Source.left c.args.input.now)) (view_of c.args.w.now) (view_of c.args.w.now)
      (streams (g.S.Source.left c.args.input.now) (g.O.Sink.taken c.args.out.now) (g.E.Sink.taken c.args.err.now)) (Err (Refused efault))
      (transferred_fault c.args.transfer c.args.w.now.progress.now.pieces (view_of c.args.w.now) c.total_len-count.result c.requires.most (rw c.pieces.ensures at c.total_len-count.ensures) (sym c.in-Ok.ensures.answer) (rw c.kind_of-kind.ensures at (rw c.pieces-2.ensures at (sym c.allowed_pieces.ensures ∙ c.if-allowed_pieces.false))));
  tells = search rules;
  needs = tt;
  waits = tt;
  cause = refl;
}

pub returns-then-allowed_pieces-clause-works : goal.returns-then-allowed_pieces-clause-works
returns-then-allowed_pieces-clause-works g c =
    works_as (moving_from c.args.w.now.progress.now.pieces 0) (transferred c.args.transfer c.args.w.now.progress.now.pieces) (transfer_rest c.args.transfer c.args.w.now.progress.now.pieces 0) c.args.w.now c.move_on.new.w
    (streams (g.S.Source.left c.args.input.now) (g.O.Sink.taken c.args.out.now) (g.E.Sink.taken c.args.err.now))
    (streams (g.S.Source.left c.move_on.new.input) (g.O.Sink.taken c.move_on.new.out) (g.E.Sink.taken c.move_on.new.err))
    (faults (g.S.Source.faults c.args.input.now) (g.O.Sink.faults c.args.out.now) (g.E.Sink.faults c.args.err.now))
    (faults (g.S.Source.faults c.move_on.new.input) (g.O.Sink.faults c.move_on.new.out) (g.E.Sink.faults c.move_on.new.err)) c.move_on.result
    (transferred_moves c.args.transfer c.args.w.now.progress.now.pieces (view_of c.args.w.now) c.total_len-count.result c.requires.most (rw c.pieces.ensures at c.total_len-count.ensures) (sym c.in-Ok.ensures.answer) (rw c.kind_of-kind.ensures at (rw c.pieces-2.ensures at (sym c.allowed_pieces.ensures ∙ c.if-allowed_pieces.true)))) c.move_on.ensures.works

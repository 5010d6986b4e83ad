use Rattle.std.proofs.Common.{refl, IsSome}
use Rattle.linux_calls.specs.declared.kinds.Transfer.TheVariants.{Takes, PutsOut, PutsErr, Reads, Draws}
use Rattle.linux_calls.specs.Transfers.{takes_rest, out_rest, err_rest}
use Rattle.linux_calls.specs.Outside.{streams}
use Rattle.linux_calls.specs.View.{view_of}
use Rattle.linux_calls.specs.Following.{TakesInput}
use Rattle.linux_calls.proofs.AppendLemmas.{steady}
use Rattle.linux_calls.proofs.WorkLemmas.{comes_under, works_part}
use Rattle.linux_calls.proofs.transfers.move_on.Goals as goal

pub take_on-requires-clause-is : goal.take_on-requires-clause-is
take_on-requires-clause-is g c = λ done. steady c.args.w.now.gprs.now c.args.w.now.files.now c.args.from done Takes tt (rw c.in-Takes.is at c.requires.is)

pub out_on-requires-clause-is : goal.out_on-requires-clause-is
out_on-requires-clause-is g c = λ done. steady c.args.w.now.gprs.now c.args.w.now.files.now c.args.from done PutsOut tt (rw c.in-PutsOut.is at c.requires.is)

pub err_on-requires-clause-is : goal.err_on-requires-clause-is
err_on-requires-clause-is g c = λ done. steady c.args.w.now.gprs.now c.args.w.now.files.now c.args.from done PutsErr tt (rw c.in-PutsErr.is at c.requires.is)

pub read_on-requires-clause-is : goal.read_on-requires-clause-is
read_on-requires-clause-is g c = λ done. steady c.args.w.now.gprs.now c.args.w.now.files.now c.args.from done (Reads c.in-Reads.fd c.in-Reads.at c.in-Reads.moves) tt (rw c.in-Reads.is at c.requires.is)

pub draw_on-requires-clause-is : goal.draw_on-requires-clause-is
draw_on-requires-clause-is g c = λ done. steady c.args.w.now.gprs.now c.args.w.now.files.now c.args.from done Draws tt (rw c.in-Draws.is at c.requires.is)

pub returns-in-Takes-clause-works : goal.returns-in-Takes-clause-works
returns-in-Takes-clause-works g c = rw c.in-Takes.is (record {
  kept = c.take_on.ensures.kept;
  comes = comes_under (takes_rest c.args.w.now.progress.now.pieces c.args.from) (IsSome (g.S.Source.left c.args.input.now)) (TakesInput (view_of c.args.w.now) → IsSome (g.S.Source.left c.args.input.now))
      (view_of c.args.w.now) (view_of c.take_on.new.w) (streams (g.S.Source.left c.args.input.now) (g.O.Sink.taken c.args.out.now) (g.E.Sink.taken c.args.err.now))
      (streams (g.S.Source.left c.take_on.new.input) (g.O.Sink.taken c.args.out.now) (g.E.Sink.taken c.args.err.now)) c.take_on.result
      (λ told. told (steady c.args.w.now.gprs.now c.args.w.now.files.now c.args.from 0 Takes tt (rw c.in-Takes.is at c.requires.is)))
      (c.take_on.ensures.comes (g.O.Sink.taken c.args.out.now) (g.E.Sink.taken c.args.err.now));
  tells = record { left = c.take_on.ensures.tells; out = refl; err = refl };
  needs = c.take_on.ensures.needs;
  waits = c.take_on.ensures.waits;
  cause = c.take_on.ensures.cause (g.O.Sink.faults c.args.out.now) (g.E.Sink.faults c.args.err.now);
})

pub returns-in-PutsOut-clause-works : goal.returns-in-PutsOut-clause-works
returns-in-PutsOut-clause-works g c = rw c.in-PutsOut.is (record {
  kept = c.out_on.ensures.kept;
  comes = comes_under (out_rest c.args.w.now.progress.now.pieces c.args.from) (Unit {0}) (TakesInput (view_of c.args.w.now) → IsSome (g.S.Source.left c.args.input.now))
      (view_of c.args.w.now) (view_of c.out_on.new.w) (streams (g.S.Source.left c.args.input.now) (g.O.Sink.taken c.args.out.now) (g.E.Sink.taken c.args.err.now))
      (streams (g.S.Source.left c.args.input.now) (g.O.Sink.taken c.out_on.new.out) (g.E.Sink.taken c.args.err.now)) c.out_on.result
      (λ told. tt) (c.out_on.ensures.comes (g.S.Source.left c.args.input.now) (g.E.Sink.taken c.args.err.now));
  tells = record { left = refl; out = c.out_on.ensures.tells; err = refl };
  needs = c.out_on.ensures.needs;
  waits = c.out_on.ensures.waits;
  cause = c.out_on.ensures.cause (g.S.Source.faults c.args.input.now) (g.E.Sink.faults c.args.err.now);
})

pub returns-in-PutsErr-clause-works : goal.returns-in-PutsErr-clause-works
returns-in-PutsErr-clause-works g c = rw c.in-PutsErr.is (record {
  kept = c.err_on.ensures.kept;
  comes = comes_under (err_rest c.args.w.now.progress.now.pieces c.args.from) (Unit {0}) (TakesInput (view_of c.args.w.now) → IsSome (g.S.Source.left c.args.input.now))
      (view_of c.args.w.now) (view_of c.err_on.new.w) (streams (g.S.Source.left c.args.input.now) (g.O.Sink.taken c.args.out.now) (g.E.Sink.taken c.args.err.now))
      (streams (g.S.Source.left c.args.input.now) (g.O.Sink.taken c.args.out.now) (g.E.Sink.taken c.err_on.new.err)) c.err_on.result
      (λ told. tt) (c.err_on.ensures.comes (g.S.Source.left c.args.input.now) (g.O.Sink.taken c.args.out.now));
  tells = record { left = refl; out = refl; err = c.err_on.ensures.tells };
  needs = c.err_on.ensures.needs;
  waits = c.err_on.ensures.waits;
  cause = c.err_on.ensures.cause (g.S.Source.faults c.args.input.now) (g.O.Sink.faults c.args.out.now);
})

pub returns-in-Reads-clause-works : goal.returns-in-Reads-clause-works
returns-in-Reads-clause-works g c = rw c.in-Reads.is (works_part c.read_on.ensures.kept c.read_on.ensures.does c.read_on.ensures.needs c.read_on.ensures.waits)

pub returns-in-Writes-clause-works : goal.returns-in-Writes-clause-works
returns-in-Writes-clause-works g c = rw c.in-Writes.is (works_part c.write_on.ensures.kept c.write_on.ensures.does c.write_on.ensures.needs c.write_on.ensures.waits)

pub returns-in-Draws-clause-works : goal.returns-in-Draws-clause-works
returns-in-Draws-clause-works g c = rw c.in-Draws.is (works_part c.draw_on.ensures.kept c.draw_on.ensures.does c.draw_on.ensures.needs c.draw_on.ensures.waits)

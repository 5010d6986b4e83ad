use Rattle.xemu_top.specs.Parts.{with_err}
use Rattle.xemu_top.proofs.LineLemmas.{ends-said, ends-not_said, ends-silent}
use Rattle.xemu_top.proofs.answers.finish.Goals as goal

pub returns-in-Ok : goal.returns-in-Ok
returns-in-Ok g c a =
    rw (c.in-Some.is, c.answer.ensures) (ends-said c.args.end c.args.machine _ _ c.in-Some.line (c.in-Ok.ensures a))

pub returns-in-Err : goal.returns-in-Err
returns-in-Err g c a =
    rw (c.in-Some.is, c.lost.ensures) (ends-not_said c.args.end c.args.machine _ _ c.in-Some.line c.in-Err.call (c.in-Err.ensures a))

pub returns-in-None : goal.returns-in-None
returns-in-None g c a =
    rw (c.in-None.is, c.answer-in-None.ensures) (ends-silent c.args.end c.args.machine
    (with_err a (g.E.Sink.taken c.args.err.now) (g.E.Sink.faults c.args.err.now)))

use Rattle.std.proofs.Common.{Ok}
use Rattle.guest_run.specs.declared.running.Tried.TheVariants.{Again}
use Rattle.guest_run.specs.Guests.{Around, around}
use Rattle.guest_run.specs.Following.{Tries}
use Rattle.guest_run.specs.Units.{tries_left}
use Rattle.guest_run.proofs.running.step.Given as goal

abbrev pub invariant-tries : goal.invariant-tries
invariant-tries g l =
    let before : Around = around (g.H.Host.holds l.initial.host) (g.H.Host.opened l.initial.host) (g.H.Host.faults l.initial.host)
    (g.S.Source.left l.initial.input) (g.S.Source.faults l.initial.input) (g.O.Sink.taken l.initial.out) (g.O.Sink.faults l.initial.out)
    (g.E.Sink.taken l.initial.err) (g.E.Sink.faults l.initial.err) in
    let now : Around = around (g.H.Host.holds l.host) (g.H.Host.opened l.host) (g.H.Host.faults l.host)
    (g.S.Source.left l.input) (g.S.Source.faults l.input) (g.O.Sink.taken l.out) (g.O.Sink.faults l.out)
    (g.E.Sink.taken l.err) (g.E.Sink.faults l.err) in
    record {
      so_far : Tries l.initial.guest l.guest before now (Ok Again);
    }

abbrev pub decreases-tries : goal.decreases-tries
decreases-tries g l = tries_left l.guest

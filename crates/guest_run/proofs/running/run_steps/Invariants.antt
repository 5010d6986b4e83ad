use Rattle.std.proofs.Common.{◌≡◌, ◌≤◌, ◌-◌, None}
use Rattle.guest_run.specs.Guests.{Around, around}
use Rattle.guest_run.specs.Following.{Course, IsGuest}
use Rattle.guest_run.proofs.GuestLemmas.{RanSoFar}
use Rattle.guest_run.proofs.RunLemmas.{no_end}
use Rattle.guest_run.proofs.running.run_steps.Given as goal

abbrev pub invariant-steps : goal.invariant-steps
invariant-steps g l =
    let before : Around = around (g.H.Host.holds l.initial.host) (g.H.Host.opened l.initial.host) (g.H.Host.faults l.initial.host)
    (g.S.Source.left l.initial.input) (g.S.Source.faults l.initial.input) (g.O.Sink.taken l.initial.out) (g.O.Sink.faults l.initial.out)
    (g.E.Sink.taken l.initial.err) (g.E.Sink.faults l.initial.err) in
    let now : Around = around (g.H.Host.holds l.host) (g.H.Host.opened l.host) (g.H.Host.faults l.host)
    (g.S.Source.left l.input) (g.S.Source.faults l.input) (g.O.Sink.taken l.out) (g.O.Sink.faults l.out)
    (g.E.Sink.taken l.err) (g.E.Sink.faults l.err) in
    record {
      within : l.guest.machine.steps ≤ l.upto;
      later : l.initial.guest.machine.steps ≤ l.guest.machine.steps;
      goes : l.guest.end ≡ no_end;
      guest : IsGuest l.guest now;
      so_far : RanSoFar l.initial.guest l.guest before now (l.upto - l.initial.guest.machine.steps) (l.upto - l.guest.machine.steps);
      course : Course before now None;
    }

abbrev pub decreases-steps : goal.decreases-steps
decreases-steps g l = l.upto - l.guest.machine.steps

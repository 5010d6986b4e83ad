use Rattle.std.proofs.Common.{◌≤◌, Some}
use Rattle.host_edge.specs.MemHost.{held_by}
use Rattle.guest_run.specs.Guests.{around}
use Rattle.guest_run.specs.Following.{IsGuest}
use Rattle.guest_run.proofs.tests.a_run_in_parts_is_one_run.Given as goal

abbrev pub invariant-loop-upto : goal.invariant-loop-upto
invariant-loop-upto g l =
    let seat = l.seat in
    record {
      guest : IsGuest seat.guest (around (Some (held_by seat.host)) seat.host.opened seat.host.faults (Some seat.input.left) seat.input.faults
          (Some seat.out.taken) seat.out.faults (Some seat.err.taken) seat.err.faults);
      steps : seat.guest.machine.steps ≤ l.upto-counter;
    }

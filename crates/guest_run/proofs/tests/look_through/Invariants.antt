use Rattle.std.proofs.Common.{Some}
use Rattle.host_edge.specs.MemHost.{held_by}
use Rattle.guest_run.specs.Guests.{around}
use Rattle.guest_run.specs.Following.{IsGuest}
use Rattle.guest_run.proofs.tests.look_through.Given as goal

abbrev pub invariant-loop-page : goal.invariant-loop-page
invariant-loop-page g l =
    let seat = l.seat in
    IsGuest seat.guest (around (Some (held_by seat.host)) seat.host.opened seat.host.faults (Some seat.input.left) seat.input.faults
    (Some seat.out.taken) seat.out.faults (Some seat.err.taken) seat.err.faults)

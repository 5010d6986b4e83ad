use Rattle.std.proofs.Common.{Some}
use Rattle.guest_run.proofs.tests.look_through.Goals as goal

pub loop-page-preserved : goal.loop-page-preserved
loop-page-preserved g c =
    let seat = c.loop-page.seat in
    (c.in-Ok.ensures (Some seat.input.left) (Some seat.out.taken) (Some seat.err.taken) seat.input.faults seat.out.faults seat.err.faults).guest
    c.loop-page.invariant

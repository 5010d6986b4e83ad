use Rattle.std.proofs.Common.{ap, Some}
use Rattle.guest_run.specs.declared.guest.Guest.{Guest}
use Rattle.guest_run.proofs.tests.look.Goals as goal

pub returns-clause-guest : goal.returns-clause-guest
returns-clause-guest g c =
    let seat = c.args.seat.now in
    (c.in-Ok.ensures (Some seat.input.left) (Some seat.out.taken) (Some seat.err.taken) seat.input.faults seat.out.faults seat.err.faults).guest c.requires.guest

pub returns-clause-steps : goal.returns-clause-steps
returns-clause-steps g c =
    let seat = c.args.seat.now in
    ap (λ (guest : Guest). guest.machine.steps)
    (c.in-Ok.ensures (Some seat.input.left) (Some seat.out.taken) (Some seat.err.taken) seat.input.faults seat.out.faults seat.err.faults).keeps

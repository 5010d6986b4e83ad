use Rattle.std.proofs.Common.{Some}
use Rattle.guest_run.proofs.tests.new_seat.Goals as goal

pub returns-clause-guest : goal.returns-clause-guest
returns-clause-guest g c =
    let input = c.in_ok-new.field-0 in
    let out = c.in_ok-new-2.field-0 in
    let err = c.in_ok-new-3.field-0 in
    (rw c.in-Ok.is at c.in_ok-made.ensures.guest) (Some input.left) (Some out.taken) (Some err.taken) input.faults out.faults err.faults

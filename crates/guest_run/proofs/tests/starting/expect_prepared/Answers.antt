use Rattle.std.proofs.Common.{None}
use Rattle.guest_run.proofs.tests.starting.expect_prepared.Goals as goal

pub expect_hello-requires : goal.expect_hello-requires
expect_hello-requires g c = (rw c.in-Ok.is at c.in_ok-made.ensures.guest) None None None 0 0 0

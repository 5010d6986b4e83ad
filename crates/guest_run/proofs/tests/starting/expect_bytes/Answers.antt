use Rattle.std.proofs.Common.{None}
use Rattle.guest_run.proofs.tests.starting.expect_bytes.Goals as goal

pub loop-i-preserved : goal.loop-i-preserved
loop-i-preserved g c = (c.in-Ok.ensures None None None 0 0 0).guest c.loop-i.invariant

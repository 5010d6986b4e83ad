use Rattle.std.proofs.Common.{Some, None}
use Rattle.host_edge.specs.MemHost.{held_by}
use Rattle.guest_run.specs.Guests.{around}
use Rattle.guest_run.specs.Following.{IsGuest}
use Rattle.guest_run.proofs.tests.starting.expect_bytes.Given as goal

abbrev pub invariant-loop-i : goal.invariant-loop-i
invariant-loop-i g l = IsGuest l.made.guest (around (Some (held_by l.made.host)) l.made.host.opened l.made.host.faults None 0 None 0 None 0)

use Rattle.std.proofs.Common.{◌≤◌, length}
use Rattle.host_edge.specs.MemHost.{held_by}
use Rattle.guest_pages.specs.Together.{AreClean}
use Rattle.swap_pager.proofs.tests.read_all.Given as goal

abbrev pub invariant-loop-i : goal.invariant-loop-i
invariant-loop-i g l = (length l.guest.pages.slots ≤ l.guest.host.opened) × AreClean l.guest.pages (held_by l.guest.host).page

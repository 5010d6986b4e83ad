use Rattle.std.proofs.Common.{◌≤◌, length}
use Rattle.host_edge.specs.MemHost.{held_by}
use Rattle.guest_pages.specs.Together.{AreClean}
use Rattle.swap_pager.proofs.tests.use_pages.Given as goal

abbrev pub invariant-loop-page : goal.invariant-loop-page
invariant-loop-page l = (length l.guest.pages.slots ≤ l.guest.host.opened) × AreClean l.guest.pages (held_by l.guest.host).page

use Rattle.std.proofs.Common.{◌≤◌, length}
use Rattle.host_edge.specs.MemHost.{held_by}
use Rattle.guest_pages.specs.Together.{AreClean}
use Rattle.program_load.proofs.tests.hello_stands_with_its_stack.Given as goal

abbrev pub invariant-loop-addr : goal.invariant-loop-addr
invariant-loop-addr g l = (length l.trial.loaded.pages.slots ≤ l.trial.host.opened) × AreClean l.trial.loaded.pages (held_by l.trial.host).page

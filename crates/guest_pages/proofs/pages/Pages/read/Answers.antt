use Rattle.std.proofs.Common.{arith}
use Rattle.guest_pages.proofs.Shows.{shown_none}
use Rattle.guest_pages.proofs.pages.Pages.read.Goals as goal

pub loop-done-init : goal.loop-done-init
loop-done-init c = (omega arith, shown_none c.args.self.now c.args.addr c.args.into.now)

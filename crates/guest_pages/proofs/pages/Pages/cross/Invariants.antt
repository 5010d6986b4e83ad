use Rattle.guest_pages.proofs.Walks.{WalksOn}
use Rattle.guest_pages.proofs.pages.Pages.cross.Given as goal

abbrev pub invariant-loop-left : goal.invariant-loop-left
invariant-loop-left l = WalksOn l.self l.kind l.addr l.len l.at l.left l.away

abbrev pub decreases-loop-left : goal.decreases-loop-left
decreases-loop-left l = l.left

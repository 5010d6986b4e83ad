use Rattle.std.proofs.Common.{length}
use Rattle.guest_pages.proofs.Chains.{chain_len}
use Rattle.guest_pages.proofs.Files.{LooksFor}
use Rattle.guest_pages.proofs.pages.Pages.seat.Given as goal

abbrev pub invariant-loop-at : goal.invariant-loop-at
invariant-loop-at l = LooksFor l.self-inside.slots.items l.self-inside.lists.nexts.items l.page l.at

abbrev pub decreases-loop-at : goal.decreases-loop-at
decreases-loop-at l = chain_len (length l.self-inside.lists.nexts.items) l.self-inside.lists.nexts.items l.at

use Rattle.std.proofs.Common.{length, get_or, None}
use Rattle.guest_pages.proofs.Chains.{SeeksIn, chain_len}
use Rattle.guest_pages.proofs.lists.Lists.before.Given as goal

abbrev pub invariant-loop-at : goal.invariant-loop-at
invariant-loop-at l = SeeksIn l.self.nexts.items (get_or l.self.heads.items l.list None) l.number l.before l.at

abbrev pub decreases-loop-at : goal.decreases-loop-at
decreases-loop-at l = chain_len (length l.self.nexts.items) l.self.nexts.items l.at

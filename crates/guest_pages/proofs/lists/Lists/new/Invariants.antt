use Rattle.std.proofs.Common.{◌≡◌, vec_len}
use Rattle.guest_pages.proofs.Chains.{Fills}
use Rattle.guest_pages.proofs.lists.Lists.new.Given as goal

abbrev pub invariant-loop-number : goal.invariant-loop-number
invariant-loop-number l = (vec_len l.new.heads ≡ l.lists) × (vec_len l.new.nexts ≡ l.numbers) × Fills l.new l.home l.number

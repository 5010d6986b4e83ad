use Rattle.std.proofs.Common.{◌≡◌, ◌≤◌, ℕ, get_or, vec_len, None}
use Rattle.std.specs.Vec.{vec_capacity}
use Rattle.guest_pages.proofs.lists.vacant.Given as goal

abbrev pub invariant-loop : goal.invariant-loop
invariant-loop g l = (vec_len l.v ≡ l.counter) × (l.count ≤ vec_capacity l.v) × ((i : ℕ) → get_or l.v.items i None ≡ None)

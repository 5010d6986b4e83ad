use Rattle.std.proofs.Common.{◌≡◌, ◌≤◌, vec_len}
use Rattle.std.specs.Vec.{vec_capacity}
use Rattle.guest_pages.proofs.pages.Pages.new.Given as goal

abbrev pub invariant-loop : goal.invariant-loop
invariant-loop l = (vec_len l.free ≡ l.counter) × (l.fn.frames ≤ vec_capacity l.free)

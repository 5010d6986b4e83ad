use Rattle.std.proofs.Common.{◌≡◌, ℕ, ◌≤◌, ◌<◌, false}
use Rattle.linux_calls.specs.Mapping.{is_hole}
use Rattle.linux_calls.proofs.mapping.has_hole.Given as goal

abbrev pub invariant-loop-page : goal.invariant-loop-page
invariant-loop-page l = (k : ℕ) → l.first ≤ k → k < l.page → is_hole l.regions.regions k ≡ false

use Rattle.std.proofs.Common.{◌≡◌, ℕ, ◌≤◌, ◌<◌, false}
use Rattle.linux_calls.specs.Mapping.{is_file_page}
use Rattle.linux_calls.proofs.mapping.has_file_page.Given as goal

abbrev pub invariant-loop-page : goal.invariant-loop-page
invariant-loop-page l = (k : ℕ) → l.first ≤ k → k < l.page → is_file_page l.regions.regions k ≡ false

use Rattle.std.proofs.Common.{◌≡◌, ◌+◌, drop}
use Rattle.machine_state.specs.Regions.{page_sum}
use Rattle.region_map.proofs.lists.page_sum.Given as goal

abbrev pub invariant-loop-region : goal.invariant-loop-region
invariant-loop-region l = l.sum + page_sum (drop l.region-index l.regions) ≡ page_sum l.regions

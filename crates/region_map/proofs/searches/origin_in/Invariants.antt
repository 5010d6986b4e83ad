use Rattle.std.proofs.Common.{◌≡◌, drop}
use Rattle.machine_state.specs.Regions.{nature_at}
use Rattle.region_map.proofs.searches.origin_in.Given as goal

abbrev pub invariant-loop-region : goal.invariant-loop-region
invariant-loop-region l = nature_at (drop l.region-index l.regions) l.page ≡ nature_at l.regions l.page

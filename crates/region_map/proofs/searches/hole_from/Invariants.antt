use Rattle.std.proofs.Common.{◌≡◌, ℕ, ◌≤◌, ◌<◌, true, drop}
use Rattle.region_map.specs.Calls.{is_mapped}
use Rattle.region_map.proofs.Left.{AreLeft}
use Rattle.region_map.proofs.searches.hole_from.Given as goal

abbrev pub invariant-loop-region : goal.invariant-loop-region
invariant-loop-region l = record {
  left : AreLeft l.regions (drop l.region-index l.regions) l.at;
  above : l.fn.from ≤ l.at;
  before : (page : ℕ) → l.fn.from ≤ page → page < l.at → is_mapped l.regions page ≡ true;
}

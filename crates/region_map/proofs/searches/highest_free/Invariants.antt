use Rattle.std.proofs.Common.{drop, min}
use Rattle.region_map.proofs.Left.{AreLeft, IsBest, IsReached}
use Rattle.region_map.proofs.searches.highest_free.Given as goal

abbrev pub invariant-loop-region : goal.invariant-loop-region
invariant-loop-region l = record {
  left : AreLeft l.regions (drop l.region-index l.regions) l.low;
  reached : IsReached l.regions l.low;
  best : IsBest l.regions (min l.low l.end) l.count l.found;
}

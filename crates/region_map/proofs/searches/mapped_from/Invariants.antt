use Rattle.std.proofs.Common.{drop}
use Rattle.region_map.proofs.Left.{AreLeft}
use Rattle.region_map.proofs.searches.mapped_from.Given as goal

abbrev pub invariant-loop-region : goal.invariant-loop-region
invariant-loop-region l = AreLeft l.regions (drop l.region-index l.regions) l.from

use Rattle.std.proofs.Common.{take, drop}
use Rattle.machine_state.specs.Regions.{AreRegions}
use Rattle.region_map.specs.Changes.{AreChanged}
use Rattle.region_map.specs.Lists.{AreTallied}
use Rattle.region_map.proofs.Covers.{covered}
use Rattle.region_map.proofs.ranges.change_mapped.Given as goal

abbrev pub invariant-loop-region : goal.invariant-loop-region
invariant-loop-region l = record {
  left : AreRegions (drop l.region-index l.regions);
  changed : AreChanged l.change (covered l.from l.to (take l.region-index l.regions)) l.fn.pages l.pages;
  tallied : AreTallied l.fn.pages → AreTallied l.pages;
}

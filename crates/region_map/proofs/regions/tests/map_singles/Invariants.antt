use Rattle.region_map.specs.Calls.{FitPages}
use Rattle.region_map.proofs.regions.tests.map_singles.Given as goal

abbrev pub invariant-loop-i : goal.invariant-loop-i
invariant-loop-i g l = FitPages l.pages l.regions.regions

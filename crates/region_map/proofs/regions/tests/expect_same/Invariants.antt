use Rattle.region_map.specs.Calls.{FitPages}
use Rattle.region_map.proofs.regions.tests.expect_same.Given as goal

abbrev pub invariant-loop-n : goal.invariant-loop-n
invariant-loop-n g l = FitPages l.pages l.regions.regions

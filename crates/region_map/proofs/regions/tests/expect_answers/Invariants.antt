use Rattle.region_map.specs.Calls.{FitPages}
use Rattle.region_map.proofs.regions.tests.expect_answers.Given as goal

abbrev pub invariant-loop-step : goal.invariant-loop-step
invariant-loop-step g l = FitPages l.pages l.regions.regions

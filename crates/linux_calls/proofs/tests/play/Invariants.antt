use Rattle.std.proofs.Common.{◌≡◌}
use Rattle.region_map.specs.Calls.{FitPages}
use Rattle.linux_calls.specs.declared.kinds.Stage.TheVariants.{Start}
use Rattle.linux_calls.proofs.tests.play.Given as goal

-- the guest stands before a call
abbrev pub invariant-loop-index : goal.invariant-loop-index
invariant-loop-index l = record {
  fit : FitPages l.guest.pages l.guest.regions.regions;
  begins : l.guest.progress.stage ≡ Start;
}

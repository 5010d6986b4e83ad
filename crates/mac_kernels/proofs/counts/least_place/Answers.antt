use Rattle.std.proofs.Common.{refl, arith, rules}
use Rattle.mac_kernels.proofs.Steps.{least_next}
use Rattle.mac_kernels.specs.MacOps.{least_place}
use Rattle.mac_kernels.proofs.counts.least_place.Goals as goal

pub loop-place-init : goal.loop-place-init
unfolding least_place
loop-place-init g c = record { value = refl; within = search rules }

pub loop-place-preserved : goal.loop-place-preserved
loop-place-preserved g c = record {
  value = rw (least_next, ← c.loop-place.invariant.value) c.lesser-least.ensures;
  within = grind arith;
}

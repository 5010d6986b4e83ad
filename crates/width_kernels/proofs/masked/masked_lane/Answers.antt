use Rattle.std.proofs.Common.{refl}
use Rattle.width_kernels.specs.WidthOps.{masked_lane}
use Rattle.width_kernels.proofs.Steps.{masked_next}
use Rattle.width_kernels.proofs.masked.masked_lane.Goals as goal

pub loop-lane-init : goal.loop-lane-init
unfolding masked_lane
loop-lane-init g c = refl

pub loop-lane-preserved : goal.loop-lane-preserved
loop-lane-preserved g c = rw (masked_next, ← c.loop-lane.invariant) c.lane_if_counted-value.ensures

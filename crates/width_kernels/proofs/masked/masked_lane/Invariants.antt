use Rattle.std.proofs.Common.{◌≡◌}
use Rattle.num_lanes.specs.Lane.{lane_of}
use Rattle.width_kernels.specs.WidthOps.{masked_lane}
use Rattle.width_kernels.proofs.masked.masked_lane.Given as goal

abbrev pub invariant-loop-lane : goal.invariant-loop-lane
invariant-loop-lane g l = l.value ≡ masked_lane l.lane l.mask (lane_of g.row.W l.source) l.wanted

use Rattle.std.proofs.Common.{◌≡◌, ◌<◌, ◌/◌}
use Rattle.num_lanes.specs.Lane.{lane_of}
use Rattle.mac_kernels.specs.MacOps.{least_place}
use Rattle.mac_kernels.proofs.counts.least_place.Given as goal

abbrev pub invariant-loop-place : goal.invariant-loop-place
invariant-loop-place g l = record {
  value : l.least ≡ least_place l.place (lane_of g.row.W l.bytes);
  within : l.least < 16 / g.row.W;
}

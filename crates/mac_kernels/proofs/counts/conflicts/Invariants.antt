use Rattle.std.proofs.Common.{◌≡◌, ◌==◌, ◌<◌, ◌^◌, if◌then◌else◌}
use Rattle.num_lanes.specs.Lane.{lane_of}
use Rattle.mac_kernels.specs.MacOps.{sum_of}
use Rattle.mac_kernels.proofs.counts.conflicts.Given as goal

abbrev pub invariant-loop-j : goal.invariant-loop-j
invariant-loop-j g l = record {
  value : l.value ≡ sum_of l.j (λ j. if lane_of g.row.W l.second j == l.b then 2 ^ j else 0);
  small : l.value < 2 ^ l.j;
}

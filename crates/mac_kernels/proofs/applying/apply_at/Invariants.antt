use Rattle.std.proofs.Common.{◌≡◌, ◌<◌, ℕ}
use Rattle.num_lanes.specs.Lane.{lane_of}
use Rattle.mac_kernels.specs.MacOps.{lane_op}
use Rattle.mac_kernels.proofs.applying.apply_at.Given as goal

abbrev pub invariant-loop-lane : goal.invariant-loop-lane
invariant-loop-lane g l = (i : ℕ) → i < l.lane → lane_of g.row.W l.into i ≡ lane_op l.op g.row.W l.imm l.dest l.first l.second i

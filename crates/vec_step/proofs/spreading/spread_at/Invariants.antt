use Rattle.num_lanes.specs.Lane.{lane_of}
use Rattle.num_lanes.proofs.Fill.{Filled}
use Rattle.vec_step.proofs.spreading.spread_at.Given as goal

abbrev pub invariant-loop-lane : goal.invariant-loop-lane
invariant-loop-lane g l = Filled g.row.W l.lane (λ i. lane_of g.row.W l.lanes 0) l.out

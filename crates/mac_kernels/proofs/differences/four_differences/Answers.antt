use Rattle.num_lanes.specs.Lane.{lane_of}
use Rattle.mac_kernels.proofs.Steps.{four_terms}
use Rattle.mac_kernels.proofs.differences.four_differences.Goals as goal

pub returns : goal.returns
returns c =
    rw (c.difference.ensures.value, c.difference-2.ensures.value, c.difference-3.ensures.value, c.difference-4.ensures.value)
    (four_terms (lane_of 1 c.args.first.now) (lane_of 1 c.args.second.now) c.args.p c.args.q)

use Rattle.num_lanes.specs.Lane.{lane_of}
use Rattle.mac_kernels.specs.MacOps.{chosen}
use Rattle.mac_kernels.proofs.Steps.{four_terms}
use Rattle.mac_kernels.proofs.differences.four_chosen.Goals as goal

pub returns : goal.returns
returns c =
    rw (c.chosen_difference.ensures.value, c.chosen_difference-2.ensures.value, c.chosen_difference-3.ensures.value, c.chosen_difference-4.ensures.value)
    (four_terms (lane_of 1 c.args.first.now) (chosen c.args.imm c.args.second.now) c.args.p c.args.q)

use Rattle.std.proofs.Common.{◌≡◌, ◌<◌, ◌^◌, ◌*◌, ◌&&◌}
use Rattle.gpr_flags.specs.Numbers.{has_bit, is_negative}
use Rattle.num_lanes.specs.Lane.{lane_of}
use Rattle.vec_units.specs.Results.{bits_where}
use Rattle.vec_units.proofs.bit_masks.mask_bits.Given as goal

abbrev pub invariant-loop-lane : goal.invariant-loop-lane
invariant-loop-lane g l = record {
  is : l.value ≡ bits_where (λ i. has_bit l.mask i && is_negative (8 * g.row.W) (lane_of g.row.W l.computed i)) l.lane;
  small : l.value < 2 ^ l.lane;
}

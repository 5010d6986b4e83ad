use Rattle.std.proofs.Common.{rules, ◌&&◌, ◌∙◌, ap, cond, ◌+◌, ◌*◌, ◌^◌}
use Rattle.gpr_flags.specs.Numbers.{has_bit, is_negative}
use Rattle.num_lanes.specs.Lane.{lane_of}
use Rattle.vec_units.proofs.BitLemmas.{bits-none, bits-more, bit-small}
use Rattle.vec_units.proofs.bit_masks.mask_bits.Goals as goal

pub loop-lane-init : goal.loop-lane-init
loop-lane-init g c = record {
  is = bits-none _;
  small = search rules;
}

pub loop-lane-preserved : goal.loop-lane-preserved
loop-lane-preserved g c = record {
  is = bits-more (λ i. has_bit c.args.mask i && is_negative (8 * g.row.W) (lane_of g.row.W c.args.computed.now i)) c.loop-lane.lane c.loop-lane.value _ c.loop-lane.invariant.is
      (c.with_bit-value.ensures ∙ ap (λ b. c.loop-lane.value + cond b (2 ^ c.loop-lane.lane) 0) c.is_set.ensures);
  small = bit-small c.is_set.result c.loop-lane.lane c.loop-lane.value _ c.loop-lane.invariant.small c.with_bit-value.ensures;
}

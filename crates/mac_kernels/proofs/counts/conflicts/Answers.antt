use Rattle.std.proofs.Common.{refl, arith}
use Rattle.mac_kernels.proofs.Steps.{sum_next, bits_next}
use Rattle.mac_kernels.specs.MacOps.{sum_of}
use Rattle.mac_kernels.proofs.counts.conflicts.Goals as goal

pub loop-j-init : goal.loop-j-init
unfolding sum_of
loop-j-init g c = record { value = refl; small = omega arith }

pub loop-j-preserved : goal.loop-j-preserved
loop-j-preserved g c = record {
  value = rw (sum_next, c.loop-j.invariant.value, c.bit_where-value.ensures.value, c.get_lane.ensures.value) refl;
  small = bits_next c.loop-j.j c.loop-j.value c.bit_where-value.result c.loop-j.invariant.small c.bit_where-value.ensures.most;
}

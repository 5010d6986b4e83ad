use Rattle.std.proofs.Common.{arith}
use Rattle.lane_kernels.proofs.Wrap.{wrap64}
use Rattle.lane_kernels.proofs.shifts.left.Goals as goal

pub returns-then-count-from : goal.returns-then-count-from
returns-then-count-from c = grind (arith, wrap64)

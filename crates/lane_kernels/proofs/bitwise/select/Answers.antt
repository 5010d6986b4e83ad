use Rattle.std.proofs.Common.{arith}
use Rattle.lane_kernels.proofs.BitLogic.{bit_at-select}
use Rattle.lane_kernels.proofs.bitwise.select.Goals as goal

pub returns : goal.returns
returns c = λ i h. bit_at-select c.args.mask c.args.ones c.args.zeros i (omega arith) h

use Rattle.std.proofs.Common.{arith}
use Rattle.std.proofs.lemmas.Nat.{ones-le}
use Rattle.width_kernels.proofs.masked.masked_below.Goals as goal

pub returns-clause-within : goal.returns-clause-within
returns-clause-within c = omega (arith, ones-le c.args.lane c.low.result c.low.ensures.small)

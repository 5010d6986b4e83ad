use Rattle.lane_kernels.proofs.Wrap.{wrap64_sub}
use Rattle.lane_kernels.proofs.sums.subtract.Goals as goal

pub returns : goal.returns
returns c = wrap64_sub _ _ _ c.requires.most c.requires.b

use Rattle.std.proofs.Common.{◌≡◌}
use Rattle.num_lanes.specs.Setters.{with_cleared}
use Rattle.vec_file.proofs.file.VecFile.clear.Given as goal

abbrev pub invariant-loop-n : goal.invariant-loop-n
invariant-loop-n l = l.self ≡ with_cleared l.from l.n l.fn.self

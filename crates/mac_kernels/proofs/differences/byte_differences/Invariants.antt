use Rattle.std.proofs.Common.{◌≡◌, ◌≤◌, ◌*◌}
use Rattle.std.specs.Int.{abs_diff}
use Rattle.mac_kernels.specs.MacOps.{sum_of, part}
use Rattle.mac_kernels.proofs.differences.byte_differences.Given as goal

abbrev pub invariant-loop-k : goal.invariant-loop-k
invariant-loop-k l = record {
  value : l.sum ≡ sum_of l.k (λ k. abs_diff (part 8 l.a k) (part 8 l.b k));
  most : l.sum ≤ 255 * l.k;
}

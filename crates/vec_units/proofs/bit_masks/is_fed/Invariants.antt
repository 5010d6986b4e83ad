use Rattle.std.proofs.Common.{◌≡◌, ◌%◌, ◌==◌, ◌&&◌}
use Rattle.gpr_flags.specs.Numbers.{has_bit}
use Rattle.vec_units.specs.Results.{any_below}
use Rattle.vec_units.proofs.bit_masks.is_fed.Given as goal

abbrev pub invariant-loop-lane : goal.invariant-loop-lane
invariant-loop-lane l = l.any ≡ any_below (λ i. i % l.n == l.element && has_bit l.mask i) l.lane

use Rattle.std.proofs.Common.{◌≡◌}
use Rattle.vec_units.specs.Results.{have_none}
use Rattle.vec_units.proofs.bit_masks.have_none.Given as goal

abbrev pub invariant-loop-lane : goal.invariant-loop-lane
invariant-loop-lane l = l.none ≡ have_none l.beyond l.register l.second l.lane

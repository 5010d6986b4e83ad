use Rattle.std.proofs.Common.{◌≡◌, ◌<◌, ◌^◌}
use Rattle.vec_units.specs.Results.{bits_where, is_fed}
use Rattle.vec_units.proofs.bit_masks.fed.Given as goal

abbrev pub invariant-loop-element : goal.invariant-loop-element
invariant-loop-element l = record {
  is : l.value ≡ bits_where (is_fed l.n l.lanes l.mask) l.element;
  small : l.value < 2 ^ l.element;
}

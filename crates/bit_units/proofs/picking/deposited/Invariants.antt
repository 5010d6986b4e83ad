use Rattle.std.proofs.Common.{◌≡◌, ◌<◌, ◌≤◌, ◌^◌}
use Rattle.bit_units.specs.Picks.{deposited, picked}
use Rattle.bit_units.proofs.picking.deposited.Given as goal

abbrev pub invariant-loop-place : goal.invariant-loop-place
invariant-loop-place l = record {
  is : l.value ≡ deposited l.place l.number l.mask;
  count : l.count ≡ picked l.place l.mask;
  few : l.count ≤ l.place;
  small : l.value < 2 ^ l.place;
}

use Rattle.std.proofs.Common.{◌≡◌, ◌<◌, ◌≤◌, ◌^◌}
use Rattle.bit_units.specs.Picks.{extracted, picked}
use Rattle.bit_units.proofs.picking.extracted.Given as goal

abbrev pub invariant-loop-place : goal.invariant-loop-place
invariant-loop-place l = record {
  is : l.value ≡ extracted l.place l.number l.mask;
  count : l.count ≡ picked l.place l.mask;
  few : l.count ≤ l.place;
  small : l.value < 2 ^ l.count;
}

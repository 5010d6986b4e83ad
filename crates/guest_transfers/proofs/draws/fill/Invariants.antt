use Rattle.std.proofs.Common.{◌≡◌, ◌+◌, ◌/◌, length, take}
use Rattle.guest_transfers.specs.Draws.{drawn, number_after}
use Rattle.guest_transfers.proofs.draws.fill.Given as goal

abbrev pub invariant-loop-at : goal.invariant-loop-at
invariant-loop-at l = record {
  len : length l.into ≡ length l.initial.into;
  bytes : take l.at l.into ≡ drawn l.random l.skip l.at;
  number : l.number ≡ number_after l.random ((l.skip + l.at) / 8);
}

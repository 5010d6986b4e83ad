use Rattle.std.proofs.Common.{◌≡◌, ◌≤◌, drop}
use Rattle.guest_transfers.specs.Pieces.{pieces_from}
use Rattle.guest_transfers.proofs.pieces.part_of.Given as goal

-- what is left of the pieces, behind those that were passed
abbrev pub invariant-loop-piece : goal.invariant-loop-piece
invariant-loop-piece l = record {
  left : l.left ≤ l.done;
  same : pieces_from l.pieces l.done ≡ pieces_from (drop l.piece-index l.pieces) l.left;
}

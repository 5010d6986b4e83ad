use Rattle.std.proofs.Common.{◌≡◌, ◌^◌, ◌-◌, min, take}
use Rattle.guest_transfers.specs.Pieces.{asked}
use Rattle.guest_transfers.proofs.pieces.total_len.Given as goal

abbrev pub invariant-loop-piece : goal.invariant-loop-piece
invariant-loop-piece l = l.total ≡ min (asked (take l.piece-index l.pieces)) (2 ^ 64 - 1)

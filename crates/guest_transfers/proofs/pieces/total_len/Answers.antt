use Rattle.std.proofs.Common.{arith}
use Rattle.std.proofs.lemmas.List.{take_all}
use Rattle.std.proofs.lemmas.List.Sums.{sum_by_more}
use Rattle.guest_transfers.proofs.pieces.total_len.Goals as goal

pub loop-piece-preserved : goal.loop-piece-preserved
loop-piece-preserved c =
    let sum = sum_by_more (λ p. p.len) c.args.pieces.now c.loop-piece.piece-index (record { addr = 0; len = 0 }) c.loop-piece-test.true in
    omega (arith, sum, c.loop-piece.invariant)

pub returns : goal.returns
returns c =
    let all = take_all c.loop-piece.piece-index c.args.pieces.now (omega arith) in
    rw (← all) c.loop-piece.invariant

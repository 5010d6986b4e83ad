use Rattle.std.proofs.Common.{◌≡◌, ◌∙◌, ◌+◌, ◌-◌, ◌∷◌, [], drop, get_or, refl, arith}
use Rattle.std.proofs.lemmas.List.{drop_more, drop_all}
use Rattle.guest_transfers.specs.Pieces.{pieces_from}
use Rattle.guest_transfers.proofs.Along.{from_inside, from_behind, from_none}
use Rattle.guest_transfers.proofs.pieces.part_of.Goals as goal

pub returns-then-left-piece : goal.returns-then-left-piece
returns-then-left-piece c =
    let piece = get_or c.args.pieces.now c.loop-piece.piece-index (record { addr = 0; len = 0 }) in
    let more = drop_more c.args.pieces.now c.loop-piece.piece-index (record { addr = 0; len = 0 }) c.loop-piece-test.true in
    let is : pieces_from c.args.pieces.now c.args.done ≡ record { addr = piece.addr + c.loop-piece.left; len = piece.len - c.loop-piece.left } ∷ drop (c.loop-piece.piece-index + 1) c.args.pieces.now =
    c.loop-piece.invariant.same ∙ rw more (from_inside piece _ c.loop-piece.left c.if-left-piece.true) in
    rw (is, c.min-len.ensures) refl

pub loop-piece-preserved : goal.loop-piece-preserved
loop-piece-preserved c =
    let piece = get_or c.args.pieces.now c.loop-piece.piece-index (record { addr = 0; len = 0 }) in
    let more = drop_more c.args.pieces.now c.loop-piece.piece-index (record { addr = 0; len = 0 }) c.loop-piece-test.true in
    record {
      left = omega arith;
      same = c.loop-piece.invariant.same ∙ rw more (from_behind piece _ c.loop-piece.left (omega arith));
    }

pub returns : goal.returns
returns c =
    let all : drop c.loop-piece.piece-index c.args.pieces.now ≡ [] = drop_all c.loop-piece.piece-index c.args.pieces.now (omega arith) in
    rw (c.loop-piece.invariant.same, all, from_none c.loop-piece.left) refl

use Rattle.std.proofs.Common.{◌≡◌, ◌∙◌, ◌+◌, ◌/◌, ap, sym, refl, arith}
use Rattle.std.proofs.lemmas.List.{length-set, take_more_set}
use Rattle.machine_state.proofs.MemoryLemmas.{bytes_at-zero}
use Rattle.guest_transfers.specs.Draws.{drawn_byte, number_after}
use Rattle.guest_transfers.proofs.DrawLemmas.{drawn-next, number_after-next, number_after-zero}
use Rattle.guest_transfers.proofs.draws.fill.Goals.{then-place-eq7, else-place-eq7}
use Rattle.guest_transfers.proofs.draws.fill.Goals as goal

pub loop-at-init : goal.loop-at-init
loop-at-init c =
    let none : (c.args.skip + 0) / 8 ≡ 0 = omega (arith, c.requires.skip) in
    record {
      len = refl;
      bytes = sym (bytes_at-zero (drawn_byte c.args.random) c.args.skip);
      number = rw none (sym (number_after-zero c.args.random));
    }

pub loop-at-preserved : goal.loop-at-preserved
loop-at-preserved c =
    let at = c.args.skip + c.loop-at.at in
    let draw : c.next_random-draw.result ≡ number_after c.args.random (at / 8 + 1) =
    c.next_random-draw.ensures ∙ rw c.loop-at.invariant.number (sym (number_after-next c.args.random (at / 8))) in
    record {
      len = length-set c.loop-at.into c.loop-at.at c.draw_byte.result ∙ c.loop-at.invariant.len;
      bytes =
          take_more_set c.loop-at.into c.loop-at.at c.draw_byte.result (omega (arith, c.loop-at-test.true, c.loop-at.invariant.len, c.requires.room))
          ∙ rw (c.loop-at.invariant.bytes, c.draw_byte.ensures, draw) (sym (drawn-next c.args.random c.args.skip c.loop-at.at));
      number = elim c.if-place-eq7.branch [
        | then-place-eq7 w ↦
            let draws : (c.args.skip + (c.loop-at.at + 1)) / 8 ≡ (c.args.skip + c.loop-at.at) / 8 + 1 = omega (arith, w.if-place-eq7.true) in
            w.number-is ∙ draw ∙ ap (number_after c.args.random) (sym draws)
        | else-place-eq7 w ↦
            let draws : (c.args.skip + (c.loop-at.at + 1)) / 8 ≡ (c.args.skip + c.loop-at.at) / 8 = omega (arith, w.if-place-eq7.false) in
            w.number-is ∙ c.loop-at.invariant.number ∙ ap (number_after c.args.random) (sym draws)
      ];
    }

use Rattle.std.proofs.Common.{refl, arith, ◌∙◌, sym, ap, ◌+◌, ◌^◌, ◌*◌, add-one}
use Rattle.std.specs.Int.{bit_at}
use Rattle.std.proofs.Math.Nat.{pow-suc}
use Rattle.bit_units.specs.Picks.{picked, extracted}
use Rattle.gpr_flags.proofs.Widths.{wider}
use Rattle.bit_units.proofs.PickLaws.{extracted_in, extracted_out, picked_in, picked_out}
use Rattle.bit_units.proofs.picking.extracted.Goals as goal
use Rattle.bit_units.proofs.picking.extracted.Goals.{then-has_bit, else-has_bit}

pub loop-place-init : goal.loop-place-init
unfolding picked extracted
loop-place-init c = record { is = refl; count = refl; few = omega arith; small = omega arith }

pub loop-place-preserved : goal.loop-place-preserved
loop-place-preserved c = elim c.if-has_bit.branch [
  | then-has_bit w ↦
      let set = sym c.has_bit.ensures ∙ w.if-has_bit.true in
      record {
        is = w.value-is ∙ ap (λ x. x + w.bit_of-value.result) c.loop-place.invariant.is
            ∙ ap (λ x. extracted c.loop-place.place c.args.number c.args.mask + x)
            (w.bit_of-value.ensures.value ∙ ap (λ k. bit_at c.args.number c.loop-place.place * 2 ^ k) c.loop-place.invariant.count)
            ∙ sym (extracted_in c.loop-place.place c.args.number c.args.mask set);
        count = w.count-is ∙ ap (λ k. k + 1) c.loop-place.invariant.count ∙ sym (picked_in c.loop-place.place c.args.mask set);
        few = omega arith;
        small = rw (w.value-is, w.count-is, add-one, pow-suc) (omega (arith, w.bit_of-value.ensures.most));
      }
  | else-has_bit w ↦
      let unset = sym c.has_bit.ensures ∙ w.if-has_bit.false in
      record {
        is = w.value-is ∙ c.loop-place.invariant.is ∙ sym (extracted_out c.loop-place.place c.args.number c.args.mask unset);
        count = w.count-is ∙ c.loop-place.invariant.count ∙ sym (picked_out c.loop-place.place c.args.mask unset);
        few = omega arith;
        small = rw (w.value-is, w.count-is) c.loop-place.invariant.small;
      }
]

pub returns-clause-fits : goal.returns-clause-fits
returns-clause-fits c = wider c.loop-place.value c.loop-place.count c.args.width c.loop-place.invariant.small (omega arith)

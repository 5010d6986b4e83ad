use Rattle.std.proofs.Common.{rules, ◌∙◌, ap, cond, ◌+◌, ◌^◌}
use Rattle.vec_units.specs.Results.{is_fed}
use Rattle.vec_units.proofs.BitLemmas.{bits-none, bits-more, bit-small}
use Rattle.vec_units.proofs.bit_masks.fed.Goals as goal

pub loop-element-init : goal.loop-element-init
loop-element-init c = record {
  is = bits-none _;
  small = search rules;
}

pub loop-element-preserved : goal.loop-element-preserved
loop-element-preserved c =
    let one = c.with_bit-value.ensures ∙ ap (λ k. c.loop-element.value + cond c.is_fed.result (2 ^ k) 0) c.from.ensures in record {
      is = bits-more (is_fed c.args.n c.args.lanes c.args.mask) c.loop-element.element c.loop-element.value _ c.loop-element.invariant.is
          (one ∙ ap (λ b. c.loop-element.value + cond b (2 ^ c.loop-element.element) 0) c.is_fed.ensures);
      small = bit-small c.is_fed.result c.loop-element.element c.loop-element.value _ c.loop-element.invariant.small one;
    }

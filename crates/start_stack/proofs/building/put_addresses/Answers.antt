use Rattle.std.proofs.Common.{◌∙◌, ◌+◌, ◌++◌, List, ℕ, String, Global, string_bytes, length, ap, arith}
use Rattle.byteorder.specs.Endian.{little_bytes}
use Rattle.start_stack.proofs.StackLemmas.{addresses-none, addresses-more, size-more, size-within}
use Rattle.start_stack.proofs.building.put_addresses.Goals as goal

pub loop-text-init : goal.loop-text-init
loop-text-init c = record { items = addresses-none c.args.stack.now.items c.args.at; next = omega arith }

pub overflow_add-next-in-loop-text : goal.overflow_add-next-in-loop-text
overflow_add-next-in-loop-text c =
    omega (
      arith,
      size-more c.args.texts.now c.loop-text.text-index c.text-item.result c.loop-text-test.true,
      size-within c.args.texts.now (c.loop-text.text-index + 1),
      ap (λ (text : String Global). length (string_bytes text)) c.text-item.is,
    )

pub loop-text-preserved : goal.loop-text-preserved
loop-text-preserved c = record {
  items = c.in_ok-put_number.ensures
      ∙ ap (λ (xs : List ℕ). xs ++ little_bytes 8 c.loop-text.next) c.loop-text.invariant.items
      ∙ addresses-more c.args.stack.now.items c.args.at c.loop-text.next c.args.texts.now c.loop-text.text-index c.text-item.result
      c.loop-text-test.true c.loop-text.invariant.next;
  next = omega (
    arith,
    size-more c.args.texts.now c.loop-text.text-index c.text-item.result c.loop-text-test.true,
    ap (λ (text : String Global). length (string_bytes text)) c.text-item.is,
  );
}

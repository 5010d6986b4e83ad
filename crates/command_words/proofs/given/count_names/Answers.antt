use Rattle.std.proofs.Common.{◌∙◌, sym, ap, refl, arith, map, string_bytes, is_none, List, ℕ}
use Rattle.command_words.specs.Pairs.{name_in, place_naming}
use Rattle.command_words.specs.Files.{only_out}
use Rattle.command_words.proofs.FileLemmas.{none-is, only-here, only-behind}
use Rattle.command_words.proofs.given.count_names.Goals.{then-is_none, else-is_none}
use Rattle.command_words.proofs.given.count_names.Goals as goal

pub loop-place-init : goal.loop-place-init
unfolding only_out
loop-place-init c = record { counted = omega arith; within = omega arith }

pub loop-place-preserved : goal.loop-place-preserved
loop-place-preserved c =
    let words = map string_bytes c.args.words.now in
    let ins = c.args.ins.now in
    let outs = c.args.outs.now in
    let i = c.loop-place.place-index in
    let test = ap (λ (text : List ℕ). is_none (place_naming words (name_in text) ins)) (sym c.text_at.ensures)
    ∙ ap (λ (text : List ℕ). is_none (place_naming words text ins)) (sym c.pair_name.ensures)
    ∙ ap is_none (sym c.place_naming.ensures) ∙ none-is c.is_none.result c.place_naming.result c.is_none.ensures in
    elim c.if-is_none.branch [
      | then-is_none w ↦ record {
        counted = omega (arith, w.count-is, c.loop-place.invariant.counted, only-here words ins outs i c.loop-place-test.true (test ∙ w.if-is_none.true));
        within = omega (arith, w.count-is, c.loop-place.invariant.within);
      }
      | else-is_none w ↦ record {
        counted = omega (arith, w.count-is, c.loop-place.invariant.counted, only-behind words ins outs i c.loop-place-test.true (test ∙ w.if-is_none.false));
        within = omega (arith, w.count-is, c.loop-place.invariant.within);
      }
    ]

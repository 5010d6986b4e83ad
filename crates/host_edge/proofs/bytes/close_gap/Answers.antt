-- The part that is turned has the bytes in front of the gap, and the gap.
use Rattle.std.proofs.Common.{◌≡◌, ◌+◌, ◌-◌, ◌++◌, ◌∙◌, arith, drop, length, refl, take}
use Rattle.std.proofs.lemmas.Grind.{common_steps}
use Rattle.std.proofs.lemmas.List.{take_at}
use Rattle.host_edge.proofs.ByteLemmas.{gap_closed}
use Rattle.host_edge.proofs.bytes.close_gap.Goals as goal

pub returns-clause-moved : goal.returns-clause-moved
returns-clause-moved c =
    let turned = c.rotate_right.new.self in
    let held = drop c.args.start c.args.bytes.now.items in
    let part : c.slice_mut.result.now ≡ take (c.args.at + c.args.size) held = grind (arith, common_steps) in
    let front : length c.slice_mut.result.now - c.args.size ≡ c.args.at = grind (arith, common_steps) in
    let whole = take c.args.start c.args.bytes.now.items ++ (turned ++ drop (length turned) held) in
    let len : length whole ≡ c.args.bytes.now.len = grind (arith, common_steps) in
    rw (take_at whole (drop (length whole) c.args.bytes.now.items) c.args.bytes.now.len len)
    (gap_closed _ _ _ c.args.start c.args.at c.args.size (grind (arith, common_steps)) refl
    (c.rotate_right.ensures.after ∙ rw (front, part) refl))

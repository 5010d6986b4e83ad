-- What is filled up and written over is the content with the bytes.
use Rattle.std.proofs.Common.{◌≡◌, ◌<◌, ◌++◌, arith, drop, length, sym, take, ◌∙◌}
use Rattle.std.proofs.lemmas.Grind.{common_steps}
use Rattle.std.proofs.lemmas.List.{take_at}
use Rattle.guest_files.proofs.Bytes.{none_written, written_over}
use Rattle.guest_files.proofs.content.write.Goals as goal

pub returns-then-is_empty-clause-items : goal.returns-then-is_empty-clause-items
returns-then-is_empty-clause-items c =
    sym (none_written c.args.content.now.items c.args.at c.args.bytes.now (grind (arith, common_steps)))

pub returns-clause-items : goal.returns-clause-items
returns-clause-items c =
    let padded = c.pad.new.content.items in
    let put = c.copy_from_slice.new.self in
    let whole = take c.args.at padded ++ (put ++ drop (length put) (drop c.args.at padded)) in
    let some : 0 < length c.args.bytes.now = grind (arith, common_steps) in
    let is_whole : length whole ≡ c.pad.new.content.len = grind (arith, common_steps) in
    let len : c.args.content.now.len ≡ length c.args.content.now.items = grind (arith, common_steps) in
    take_at whole (drop (length whole) padded) c.pad.new.content.len is_whole
    ∙ rw (c.copy_from_slice.ensures.after, c.pad.ensures.items, len) (written_over c.args.content.now.items c.args.at c.args.bytes.now some)

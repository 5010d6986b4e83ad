use Rattle.std.proofs.Common.{arith}
use Rattle.std.proofs.lemmas.List.{take_all}
use Rattle.command_words.specs.Files.{only_out}
use Rattle.xemu_top.proofs.files.with_outs.Goals as goal

pub returns : goal.returns
unfolding only_out
returns c =
    rw (take_all c.loop-place.place-index c.as_slice-place-items.result.now (omega arith), c.as_slice-place-items.ensures.value) at c.loop-place.invariant

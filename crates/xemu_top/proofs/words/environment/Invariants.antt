use Rattle.std.proofs.Common.{◌≡◌, map, take, string_bytes}
use Rattle.command_words.specs.Texts.{word_at}
use Rattle.xemu_top.proofs.words.environment.Given as goal

abbrev pub invariant-loop-place : goal.invariant-loop-place
invariant-loop-place l =
    map string_bytes l.texts.items ≡ map (word_at (map string_bytes l.words)) (take l.place-index l.place-items)

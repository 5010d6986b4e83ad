use Rattle.std.proofs.Common.{◌≡◌, ◌≤◌, ◌+◌, length, map, string_bytes, take}
use Rattle.command_words.specs.Files.{only_out}
use Rattle.command_words.proofs.given.count_names.Given as goal

abbrev pub invariant-loop-place : goal.invariant-loop-place
invariant-loop-place l = record {
  counted : l.count ≡ length l.ins + length (only_out (map string_bytes l.words) l.ins (take l.place-index l.outs));
  within : l.count ≤ length l.ins + l.place-index;
}

use Rattle.std.proofs.Common.{◌≡◌, ◌-◌, ◌^◌, min, map, take, string_bytes}
use Rattle.start_stack.specs.Stack.{text_size}
use Rattle.start_stack.proofs.sizes.text_size.Given as goal

abbrev pub invariant-loop-text : goal.invariant-loop-text
invariant-loop-text l = l.size ≡ min (text_size (map string_bytes (take l.text-index l.texts))) (2 ^ 64 - 1)

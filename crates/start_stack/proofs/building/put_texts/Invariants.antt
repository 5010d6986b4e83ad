use Rattle.std.proofs.Common.{◌≡◌, ◌++◌, map, take, string_bytes}
use Rattle.std.specs.List.{flat_map}
use Rattle.start_stack.specs.Stack.{with_zero}
use Rattle.start_stack.proofs.building.put_texts.Given as goal

abbrev pub invariant-loop-text : goal.invariant-loop-text
invariant-loop-text l =
    l.stack.items ≡ l.initial.stack.items ++ flat_map with_zero (map string_bytes (take l.text-index l.texts))

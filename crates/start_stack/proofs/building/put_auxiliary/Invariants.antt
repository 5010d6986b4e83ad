use Rattle.std.proofs.Common.{◌≡◌, ◌++◌, take}
use Rattle.std.specs.List.{flat_map}
use Rattle.byteorder.specs.Endian.{little_bytes}
use Rattle.start_stack.specs.Stack.{pair_of}
use Rattle.start_stack.proofs.building.put_auxiliary.Given as goal

abbrev pub invariant-loop-entry : goal.invariant-loop-entry
invariant-loop-entry l =
    l.stack.items ≡ l.initial.stack.items ++ flat_map (little_bytes 8) (flat_map pair_of (take l.entry-index l.entries))

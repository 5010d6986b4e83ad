use Rattle.std.proofs.Common.{◌≡◌, ◌+◌, ◌++◌, map, take, string_bytes}
use Rattle.std.specs.List.{flat_map}
use Rattle.byteorder.specs.Endian.{little_bytes}
use Rattle.start_stack.specs.Stack.{addresses, text_size}
use Rattle.start_stack.proofs.building.put_addresses.Given as goal

abbrev pub invariant-loop-text : goal.invariant-loop-text
invariant-loop-text l = record {
  items : l.stack.items
      ≡ l.initial.stack.items ++ flat_map (little_bytes 8) (addresses l.at (map string_bytes (take l.text-index l.texts)));
  next : l.next ≡ l.at + text_size (map string_bytes (take l.text-index l.texts));
}

use Rattle.std.proofs.Common.{◌≡◌, ◌++◌, replicate}
use Rattle.start_stack.proofs.building.put_zeros.Given as goal

abbrev pub invariant-loop : goal.invariant-loop
invariant-loop l = l.stack.items ≡ l.initial.stack.items ++ replicate l.counter 0

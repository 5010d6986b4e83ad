use Rattle.std.proofs.Common.{◌≡◌, ◌+◌, ◌++◌, length, replicate}
use Rattle.linux_calls.proofs.fields.Fields.zeros.Given as goal

abbrev pub invariant-loop : goal.invariant-loop
invariant-loop l = record {
  bytes : l.self ≡ l.initial.self ++ replicate l.counter 0;
  len : length l.self ≡ length l.initial.self + l.counter;
}

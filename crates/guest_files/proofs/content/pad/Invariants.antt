use Rattle.std.proofs.Common.{◌≡◌, ◌≤◌, ◌-◌, ◌++◌, replicate, vec_capacity, vec_len, max}
use Rattle.guest_files.proofs.content.pad.Given as goal

abbrev pub invariant-loop : goal.invariant-loop
invariant-loop l = record {
  items : l.content.items ≡ l.initial.content.items ++ replicate (l.counter - vec_len l.initial.content) 0;
  begun : vec_len l.initial.content ≤ l.counter;
  within : l.counter ≤ max l.len (vec_len l.initial.content);
  len : vec_len l.content ≡ l.counter;
  capacity : vec_capacity l.content ≡ vec_capacity l.initial.content;
}

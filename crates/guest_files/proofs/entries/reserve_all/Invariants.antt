use Rattle.std.proofs.Common.{◌≡◌, ℕ, ◌<◌, get_or, map}
use Rattle.machine_state.specs.World.{no_file}
use Rattle.guest_files.specs.declared.entries.Entry.{Entry}
use Rattle.guest_files.specs.Entries.{guest_file}
use Rattle.guest_files.specs.Kept.{HasBytes, HasRoom}
use Rattle.guest_files.proofs.entries.reserve_all.Given as goal

abbrev pub invariant-loop-entry : goal.invariant-loop-entry
invariant-loop-entry l = record {
  files : map guest_file l.entry-items ≡ map guest_file l.fn.entries.items;
  room : (k : ℕ) (d : Entry) → k < l.entry-index → HasRoom l.cap (get_or l.entry-items k d);
  bytes : (k : ℕ) → k < l.entry-index → HasBytes (get_or (map guest_file l.fn.entries.items) k no_file);
}

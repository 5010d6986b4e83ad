use Rattle.std.proofs.Common.{◌≡◌, ℕ, ◌<◌, false, get_or, map}
use Rattle.std.specs.Str.{bytes_eq}
use Rattle.machine_state.specs.World.{no_file}
use Rattle.guest_files.specs.Entries.{guest_file}
use Rattle.xemu_top.proofs.storing.find.Given as goal

abbrev pub invariant-loop-number : goal.invariant-loop-number
invariant-loop-number l = (k : ℕ) → k < l.number → bytes_eq (get_or (map guest_file l.entries) k no_file).name l.name ≡ false

use Rattle.std.proofs.Common.{◌≡◌, ℕ, ◌<◌, get_or, map, Some}
use Rattle.machine_state.specs.World.{no_file}
use Rattle.guest_files.specs.Entries.{guest_file}
use Rattle.guest_files.specs.Files.{IsFit}
use Rattle.guest_files.specs.Open.{number_of}
use Rattle.guest_files.proofs.tests.are_fit.Given as goal

abbrev pub invariant-loop-index : goal.invariant-loop-index
invariant-loop-index l =
    let files = map guest_file l.entries in
    record {
      fit : (k : ℕ) → k < l.index → IsFit l.cap (get_or files k no_file);
      own : (k : ℕ) → k < l.index → number_of files (get_or files k no_file).name ≡ Some k;
    }

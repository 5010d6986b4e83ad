use Rattle.std.proofs.Common.{◌-◌, ◌+◌, ◌≡◌, ◌≤◌}
use Rattle.machine_state.specs.Memory.{Swap}
use Rattle.machine_state.specs.declared.kinds.Kind.TheVariants.{Read}
use Rattle.guest_pages.specs.Pages.{byte_of, table_of}
use Rattle.guest_files.specs.Content.{count_below}
use Rattle.guest_files.specs.Moves.{written_at}
use Rattle.guest_transfers.specs.Pieces.{bytes_between}
use Rattle.guest_transfers.specs.Moves.{AreReady, WritesFile, blocked_access}
use Rattle.guest_transfers.proofs.file_moves.write_file.Given as goal

abbrev pub invariant-loop-done : goal.invariant-loop-done
invariant-loop-done l = record {
  after : l.from ≤ l.done;
  within : l.done ≤ l.count;
  file : WritesFile l.files l.fd;
  cap : l.files.cap ≡ l.initial.files.cap;
  fits : l.from + count_below l.initial.files.cap (l.at + l.from) (l.done - l.from) ≡ l.done;
  written : (w : Swap) → l.files ≡ written_at l.initial.files l.fd (l.at + l.from) (bytes_between (byte_of l.pages w) l.pieces l.from l.done);
  ready : AreReady (blocked_access (table_of l.pages)) Read l.pieces l.from l.done;
}

abbrev pub decreases-loop-done : goal.decreases-loop-done
decreases-loop-done l = l.count - l.done

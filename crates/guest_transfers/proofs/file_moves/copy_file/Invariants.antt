use Rattle.std.proofs.Common.{◌-◌, ◌+◌, ◌≡◌, ◌≤◌, length}
use Rattle.machine_state.specs.declared.kinds.Kind.TheVariants.{Write}
use Rattle.guest_pages.specs.Pages.{table_of}
use Rattle.guest_files.specs.Moves.{read_piece}
use Rattle.guest_transfers.specs.Pieces.{single}
use Rattle.guest_transfers.specs.Moves.{AreReady, Moved, away_access}
use Rattle.guest_transfers.proofs.file_moves.copy_file.Given as goal

abbrev pub invariant-loop-done : goal.invariant-loop-done
invariant-loop-done l = record {
  after : l.from ≤ l.done;
  within : l.done ≤ l.count;
  came : l.from + length (read_piece l.files l.fd (l.at + l.from) (l.done - l.from)) ≡ l.done;
  moved : Moved l.initial.pages l.pages (single l.addr l.count) l.from (read_piece l.files l.fd (l.at + l.from) (l.done - l.from));
  ready : AreReady (away_access (table_of l.initial.pages)) Write (single l.addr l.count) l.from l.done;
}

abbrev pub decreases-loop-done : goal.decreases-loop-done
decreases-loop-done l = l.count - l.done

use Rattle.std.proofs.Common.{◌-◌, ◌/◌, ◌%◌, ◌≡◌, ◌≤◌}
use Rattle.machine_state.specs.declared.kinds.Kind.TheVariants.{Write}
use Rattle.guest_pages.specs.Pages.{table_of}
use Rattle.guest_transfers.specs.Draws.{drawn, number_after}
use Rattle.guest_transfers.specs.Pieces.{single}
use Rattle.guest_transfers.specs.Moves.{AreReady, Moved, blocked_access}
use Rattle.guest_transfers.proofs.draws.draw_bytes.Given as goal

abbrev pub invariant-loop-done : goal.invariant-loop-done
invariant-loop-done l = record {
  after : l.from ≤ l.done;
  within : l.done ≤ l.piece.len;
  number : l.random ≡ number_after l.initial.random (l.done / 8 - l.from / 8);
  moved : Moved l.initial.pages l.pages (single l.piece.addr l.piece.len) l.from (drawn l.initial.random (l.from % 8) (l.done - l.from));
  ready : AreReady (blocked_access (table_of l.initial.pages)) Write (single l.piece.addr l.piece.len) l.from l.done;
}

abbrev pub decreases-loop-done : goal.decreases-loop-done
decreases-loop-done l = l.piece.len - l.done

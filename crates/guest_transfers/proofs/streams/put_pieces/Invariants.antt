use Rattle.std.proofs.Common.{◌-◌, ◌≡◌, ◌≤◌, is_some}
use Rattle.machine_state.specs.Memory.{Swap}
use Rattle.machine_state.specs.declared.kinds.Kind.TheVariants.{Read}
use Rattle.guest_pages.specs.Pages.{byte_of, table_of}
use Rattle.guest_transfers.specs.Moves.{AreReady, IsPut, blocked_access}
use Rattle.guest_transfers.proofs.streams.put_pieces.Given as goal

abbrev pub invariant-loop-done : goal.invariant-loop-done
invariant-loop-done g l = record {
  after : l.from ≤ l.done;
  within : l.done ≤ l.count;
  tells : is_some (g.K.Sink.taken l.sink) ≡ is_some (g.K.Sink.taken l.initial.sink);
  puts : (w : Swap) → IsPut (byte_of l.pages w) l.pieces l.from l.done (g.K.Sink.taken l.initial.sink) (g.K.Sink.taken l.sink);
  ready : AreReady (blocked_access (table_of l.pages)) Read l.pieces l.from l.done;
  kept : g.K.Sink.faults l.sink ≡ g.K.Sink.faults l.initial.sink;
}

abbrev pub decreases-loop-done : goal.decreases-loop-done
decreases-loop-done g l = l.count - l.done

use Rattle.std.proofs.Common.{◌-◌, ◌≡◌, ◌≤◌, is_some}
use Rattle.machine_state.specs.declared.kinds.Kind.TheVariants.{Write}
use Rattle.guest_pages.specs.Pages.{table_of}
use Rattle.guest_transfers.specs.Moves.{AreReady, Took, blocked_access}
use Rattle.guest_transfers.proofs.streams.take_pieces.Given as goal

abbrev pub invariant-loop-done : goal.invariant-loop-done
invariant-loop-done g l = record {
  after : l.from ≤ l.done;
  within : l.done ≤ l.count;
  tells : is_some (g.S.Source.left l.source) ≡ is_some (g.S.Source.left l.initial.source);
  took : Took l.initial.pages l.pages l.pieces l.from l.done (g.S.Source.left l.initial.source) (g.S.Source.left l.source);
  ready : AreReady (blocked_access (table_of l.initial.pages)) Write l.pieces l.from l.done;
  kept : g.S.Source.faults l.source ≡ g.S.Source.faults l.initial.source;
}

abbrev pub decreases-loop-done : goal.decreases-loop-done
decreases-loop-done g l = l.count - l.done

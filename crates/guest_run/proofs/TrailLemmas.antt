-- The pieces of a trail hang together.
use Rattle.std.proofs.Common.{◌≡◌, ℕ, zero, suc, List, [], ◌∷◌, ◌++◌, Option, Some, None, refl}
use Rattle.machine_state.specs.declared.kinds.GuestEnd.{GuestEnd}
use Rattle.machine_state.specs.World.{World}
use Rattle.guest_run.specs.Step.{step}
use Rattle.guest_run.specs.Run.{run, run_on}
use Rattle.guest_run.specs.Outside.{Files, Outside, outside}
use Rattle.guest_run.specs.Trail.{HangTogether, Piece, run_trail, trail_on}
use Rattle.guest_run.proofs.RunLemmas.{run-goes_on, run-ends, run-none, run_trail-goes_on, run_trail-ends, run_trail-none, step_piece}

pub hang-none : (on : Outside) → HangTogether on [] on
unfolding HangTogether
hang-none on = refl

pub hang-more : (from : Outside) (piece : Piece) (rest : List Piece) (to : Outside) → piece.before ≡ from → HangTogether piece.after rest to
    → HangTogether from (piece ∷ rest) to
unfolding HangTogether
hang-more from piece rest to first more = (first, more)

-- pieces that hang together, and more behind them
pub hang-append : (from : Outside) (pieces more : List Piece) (mid to : Outside) → HangTogether from pieces mid → HangTogether mid more to
    → HangTogether from (pieces ++ more) to
unfolding HangTogether
hang-append from [] more mid to first second = rw first at second
hang-append from (piece ∷ rest) more mid to first second = (first.0, hang-append piece.after rest more mid to first.1 second)

-- the steps of a run
pub run_hangs : (files : Files) (w : World) (steps : ℕ) → HangTogether (outside files w) (run_trail files w steps) (outside files (run w steps).world)
run_hangs files w zero = rw (run_trail-none files w, run-none w) (hang-none (outside files w))
run_hangs files w (suc steps) = by_end (step w).end refl (run_hangs files (step w).world steps)
  where
    by_end : (end : Option GuestEnd) → (step w).end ≡ end
        → HangTogether (outside files (step w).world) (run_trail files (step w).world steps) (outside files (run (step w).world steps).world)
        → HangTogether (outside files w) (run_trail files w (suc steps)) (outside files (run w (suc steps)).world)
    by_end None is later = rw (run_trail-goes_on files w steps is, run-goes_on w steps is)
        (hang-more (outside files w) (step_piece files w) _ _ refl later)
    by_end (Some end) is later = rw (run_trail-ends files w steps end is, run-ends w steps end is)
        (hang-more (outside files w) (step_piece files w) [] _ refl (hang-none _))

pub run_on_hangs : (files : Files) (w : World) (end : Option GuestEnd) (steps : ℕ)
    → HangTogether (outside files w) (trail_on files w end steps) (outside files (run_on w end steps).world)
run_on_hangs files w None steps = run_hangs files w steps
run_on_hangs files w (Some end) steps = hang-none (outside files w)

-- A run: steps until the guest ends or the budget is used.
use Rattle.std.specs.Prelude.{ℕ, zero, suc, Option, Some, None}
use Rattle.machine_state.specs.declared.kinds.GuestEnd.{GuestEnd}
use Rattle.machine_state.specs.World.{World}
use Rattle.guest_run.specs.Step.{Ran, goes_on, ends, step}

-- at most so many steps
unfoldable pub run : World → ℕ → Ran
run w zero = goes_on w
run w (suc steps) = elim (step w).end [ None ↦ run (step w).world steps | Some end ↦ step w ]

-- the same from an end that may already be there: a guest that has ended runs no more
abbrev pub run_on : World → Option GuestEnd → ℕ → Ran
run_on w None steps = run w steps
run_on w (Some end) steps = ends end w

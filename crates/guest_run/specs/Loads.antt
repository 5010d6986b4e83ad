-- How many units of work a step and a run have. For each of them at most four pages are brought.
use Rattle.std.specs.Prelude.{ℕ, zero, suc, ◌+◌, List, Option, Some, None}
use Rattle.machine_state.specs.declared.kinds.GuestEnd.{GuestEnd}
use Rattle.machine_state.specs.World.{World}
use Rattle.core_step.specs.declared.acted.Acted.{Acted}
use Rattle.core_step.specs.declared.acted.Acted.TheVariants.{Done, Call, Trap, Need}
use Rattle.core_step.specs.Act.{After, act}
use Rattle.linux_calls.specs.Call.{rax}
use Rattle.linux_calls.specs.Table.{call_numbered}
use Rattle.linux_calls.specs.Units.{start_rank}
use Rattle.guest_run.specs.Step.{step}

-- those of the system call that registers ask for: its paths, its records, and the parts of its transfer, each on one page. Where the
-- buffers of a transfer are listed in memory, the parts are as many as it may have
abbrev pub units_in_call : (gprs : List ℕ) → ℕ
units_in_call gprs = start_rank (call_numbered (rax gprs)) gprs

-- those that follow the instruction's own part
abbrev pub units_after_act : Acted → (gprs : List ℕ) → ℕ
units_after_act Done gprs = 0
units_after_act Call gprs = units_in_call gprs
units_after_act (Trap fault) gprs = 0
units_after_act (Need slot) gprs = 0

abbrev pub units_after : After → ℕ
units_after after = units_after_act after.acted after.state.gprs

-- a step: the fetch, the instruction, and its system call
unfoldable pub units_in_step : World → ℕ
units_in_step w = 2 + units_after (act w.state)

-- so many steps, unless one of them ends the guest
unfoldable pub units_in_run : World → ℕ → ℕ
units_in_run w zero = 0
units_in_run w (suc steps) = units_in_step w + elim (step w).end [ None ↦ units_in_run (step w).world steps | Some end ↦ 0 ]

-- and from an end that may already be there
abbrev pub units_on : World → Option GuestEnd → ℕ → ℕ
units_on w None steps = units_in_run w steps
units_on w (Some end) steps = 0

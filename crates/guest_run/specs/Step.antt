-- One step: an instruction, or an attempt that raised a fault, with the system call's answer or the fault's signal.
use Rattle.std.specs.Prelude.{ℕ, ◌+◌, ◌++◌, List, [], ◌∷◌, Option, Some, None}
use Rattle.gpr_flags.specs.declared.kinds.Fault.{Fault}
use Rattle.gpr_flags.specs.declared.kinds.Fault.TheVariants.{Divide, Breakpoint, Undefined, General, Page}
use Rattle.machine_state.specs.declared.kinds.GuestEnd.{GuestEnd}
use Rattle.machine_state.specs.declared.kinds.GuestEnd.TheVariants.{Exit, Killed}
use Rattle.host_edge.specs.declared.outside.HostCall.{HostCall}
use Rattle.host_edge.specs.declared.outside.HostCall.TheVariants.{SwapGet, SwapPut}
use Rattle.machine_state.specs.World.{World}
use Rattle.core_step.specs.declared.acted.Acted.{Acted}
use Rattle.core_step.specs.declared.acted.Acted.TheVariants.{Done, Call, Trap, Need}
use Rattle.core_step.specs.Act.{After, act}
use Rattle.linux_calls.specs.Call.{Called, Outcome, Gives, Exits}
use Rattle.linux_calls.specs.Table.{called}
use Rattle.linux_calls.specs.Rest.{calls_in_call}

-- the world after a piece of work, and the guest's end, where it has ended
pub record Ran : Type 0 where
  pub world : World
  pub end : Option GuestEnd

abbrev pub goes_on : World → Ran
goes_on w = record { world = w; end = None }

abbrev pub ends : GuestEnd → World → Ran
ends end w = record { world = w; end = Some end }

-- the signal of a fault: SIGFPE, SIGTRAP, SIGILL, SIGSEGV (signal(7) of Linux; SDM volume 3, 6.15)
abbrev pub signal_of : Fault → ℕ
signal_of Divide = 8
signal_of Breakpoint = 5
signal_of Undefined = 4
signal_of General = 11
signal_of (Page addr write fetch mapped) = 11

-- one more step is completed
abbrev pub counted_world : World → World
counted_world w = record w { state = record w.state { steps = w.state.steps + 1 } }

abbrev pub counted : Ran → Ran
counted ran = record ran { world = counted_world ran.world }

-- what a system call leads to
abbrev pub ended_by : Outcome → Option GuestEnd
ended_by (Gives value) = None
ended_by (Exits code) = Some (Exit code)

abbrev pub ran_by : Called → Ran
ran_by c = record { world = c.world; end = ended_by c.outcome }

-- what follows the instruction's own part: nothing more, the system call, or the end by the fault's signal, since no guest
-- has an action for a signal yet. The instruction's own part counts the step only where it is all of it. The written machine
-- has whole memory, so it needs no page
abbrev pub after_act : Acted → World → Ran
after_act Done w = goes_on w
after_act Call w = counted (ran_by (called w))
after_act (Trap fault) w = counted (ends (Killed (signal_of fault)) w)
after_act (Need slot) w = goes_on w

abbrev pub after_part : After → World → Ran
after_part after w = after_act after.acted (record w { state = after.state })

unfoldable pub step : World → Ran
step w = after_part (act w.state) w

-- ---- the calls on the outside in a step
-- those by which pages come and go, which any step may make
abbrev pub paging_calls : List HostCall
paging_calls = SwapGet ∷ SwapPut ∷ []

-- and those of its system call
abbrev pub calls_after_act : Acted → World → List HostCall
calls_after_act Done w = []
calls_after_act Call w = calls_in_call w
calls_after_act (Trap fault) w = []
calls_after_act (Need slot) w = []

abbrev pub calls_after_part : After → World → List HostCall
calls_after_part after w = calls_after_act after.acted (record w { state = after.state })

unfoldable pub calls_in_step : World → List HostCall
calls_in_step w = paging_calls ++ calls_after_part (act w.state) w

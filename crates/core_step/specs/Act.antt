-- A step of the machine, but for the answer of a system call and for the signal of a fault.
use Rattle.std.specs.Prelude.{ℕ, if◌then◌else◌, List, Option, Some, None, slice_get}
use Rattle.gpr_flags.specs.declared.kinds.Fault.{Fault}
use Rattle.gpr_flags.specs.declared.kinds.Fault.TheVariants.{Undefined, General}
use Rattle.machine_state.specs.declared.kinds.Access.{Access}
use Rattle.machine_state.specs.State.{State}
use Rattle.row_table.specs.declared.kinds.Row.{Row}
use Rattle.row_table.specs.declared.kinds.Decoded.{Decoded}
use Rattle.row_table.specs.Rows.{rows}
use Rattle.core_step.specs.declared.acted.Acted.TheVariants.{Trap, Need}
use Rattle.core_step.specs.declared.fetching.Fetched.{Fetched}
use Rattle.core_step.specs.declared.fetching.Fetched.TheVariants.{Instr, Trap as Faults, Need as Needs}
use Rattle.core_step.specs.declared.kinds.Plan.{Plan}
use Rattle.core_step.specs.Access.{first_fault}
use Rattle.core_step.specs.Effect.{processor_of, seen_in, after_effect}
use Rattle.core_step.specs.Plan.{plan_of, plan_accesses, effect_of}
use Rattle.core_step.specs.Alignment.{is_misaligned}
use Rattle.core_step.specs.Fetch.{fetched}
pub use Rattle.core_step.specs.Effect.{After}

-- a fault changes nothing
abbrev pub trapped : Fault → State → After
trapped fault s = record { acted = Trap fault; state = s }

-- ---- an instruction performed
-- where each access of this list is allowed: the effect, by what the instruction sees of memory
abbrev pub carried_out : List Access → Plan → State → After
carried_out accesses plan s = after_effect accesses (effect_of plan (processor_of s) (seen_in accesses s.memory.byte)) s.memory

-- the first fault of an access comes before all else
abbrev pub unless : Option Fault → List Access → Plan → State → After
unless (Some fault) accesses plan s = trapped fault s
unless None accesses plan s = carried_out accesses plan s

abbrev pub performed_along : List Access → Plan → State → After
performed_along accesses plan s = unless (first_fault s.memory.perms accesses) accesses plan s

unfoldable pub performed_as : Plan → State → After
performed_as plan s = performed_along (plan_accesses plan s) plan s

-- broken alignment comes before any access
abbrev pub performed_row : Option Row → Decoded → ℕ → State → After
performed_row (Some row) d len s = if is_misaligned row d len s then trapped General s else performed_as (plan_of row d len s) s
performed_row None d len s = trapped Undefined s

-- an instruction that has so many bytes, performed
unfoldable pub performed : Decoded → ℕ → State → After
performed d len s = performed_row (slice_get rows d.row) d len s

-- ---- a step
-- what comes of a fetch; from whole memory none needs a page
abbrev pub act_on : Fetched → State → After
act_on (Instr d len) s = performed d len s
act_on (Faults fault) s = trapped fault s
act_on (Needs slot) s = record { acted = Need slot; state = s }

-- a step: an instruction is fetched and performed
unfoldable pub act : State → After
act s = act_on (fetched s) s

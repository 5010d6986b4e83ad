-- The state that a machine stands for, and what the calls on it do with it.
use Rattle.std.specs.Prelude.{ℕ, ◌≡◌, ◌+◌, ◌/◌, ◌<◌, ◌≤◌, ◌⊎◌, if◌then◌else◌, Option, Some, None, List, [], slice_get}
use Rattle.std.specs.List.{All}
use Rattle.machine_state.specs.declared.kinds.Kind.TheVariants.{Write}
use Rattle.machine_state.specs.declared.kinds.Miss.{Miss}
use Rattle.machine_state.specs.declared.kinds.Miss.TheVariants.{Away}
use Rattle.machine_state.specs.Memory.{page_size, Memory, Swap}
use Rattle.machine_state.specs.State.{State}
use Rattle.guest_pages.specs.Pages.{table_of, byte_of, memory_of}
use Rattle.guest_pages.specs.Walk.{walk}
use Rattle.guest_pages.specs.Changes.{KeepsTable}
use Rattle.row_table.specs.declared.kinds.Row.{Row}
use Rattle.row_table.specs.declared.kinds.Decoded.{Decoded}
use Rattle.row_table.specs.Rows.{rows}
use Rattle.core_step.specs.declared.machine.Machine.{Machine}
use Rattle.core_step.specs.declared.acted.Acted.{Acted}
use Rattle.core_step.specs.declared.acted.Acted.TheVariants.{Need}
use Rattle.machine_state.specs.declared.kinds.Access.{Access}
use Rattle.machine_state.specs.declared.kinds.Stop.{Stop}
use Rattle.core_step.specs.Effect.{Processor, Effect, After, state_with, left_by}
use Rattle.core_step.specs.Plain.{steps_after}
use Rattle.core_step.specs.declared.kinds.Plan.{Plan}
use Rattle.core_step.specs.Fits.{PlanFits}
use Rattle.core_step.specs.Access.{acted_by}
use Rattle.core_step.specs.Plan.{plan_of, plan_accesses, effect_of}
use Rattle.core_step.specs.Alignment.{is_misaligned}
use Rattle.core_step.specs.Act.{performed}

-- the processor of a machine
abbrev pub processor_in : Machine → Processor
processor_in m = record {
  gprs = m.gprs;
  flags = m.flags;
  rip = m.rip;
  extended = m.vec;
  fs = m.fs;
  gs = m.gs;
  steps = m.steps;
}

-- the state that a machine and a swap stand for
abbrev pub state_of : Machine → Swap → State
state_of m w = state_with (processor_in m) (memory_of m.pages w)

-- an answer with the machine that it leaves, as a step has them
abbrev pub after_of : Acted → Machine → Swap → After
after_of acted m w = record { acted = acted; state = state_of m w }

-- an answer that isn't Need is that of the instruction on whole memory, and the machine has its state; where a page is needed,
-- the same instruction, performed from what was left, gives the same step
abbrev pub IsWhole : Decoded → ℕ → Machine → Machine → Acted → Type 0
IsWhole d len old new (Need slot) = (w : Swap) → performed d len (state_of new w) ≡ performed d len (state_of old w)
IsWhole d len old new acted = (w : Swap) → after_of acted new w ≡ performed d len (state_of old w)

-- what the code of one kind of instruction does where its accesses can be made: its effect, by the bytes that each swap gives
pub record IsLeft (old new : Machine) (acted : Acted) (effect : Processor → (ℕ → ℕ) → Effect) : Type 0 where
  pub after : (w : Swap) → after_of acted new w ≡ left_by (effect (processor_in old) (byte_of old.pages w)) (memory_of old.pages w)
  pub own : (slot : ℕ) → acted ≡ Need slot → ⊥
  pub table : KeepsTable old.pages new.pages
  pub counted : new.steps ≡ steps_after acted old.steps

-- ---- the access list of an instruction
-- where alignment is broken nothing is accessed
abbrev pub accesses_by : Option Row → Decoded → ℕ → State → List Access
accesses_by (Some row) d len s = if is_misaligned row d len s then [] else plan_accesses (plan_of row d len s) s
accesses_by None d len s = []

unfoldable pub accesses : Decoded → ℕ → State → List Access
accesses d len s = accesses_by (slice_get rows d.row) d len s

-- the slot of the page that a walk needs, where it stops at an access that is allowed
abbrev pub away_in : Miss → Option ℕ
away_in (Away slot) = Some slot
away_in miss = None

abbrev pub needed : Option Stop → Option ℕ
needed None = None
needed (Some stop) = away_in stop.miss

-- ---- an instruction carried out
-- its accesses can be made, and it leaves its effect
pub record IsFinished (plan : Plan) (old new : Machine) (acted : Acted) : Type 0 where
  pub ready : (w : Swap) → walk (table_of old.pages) (plan_accesses plan (state_of old w)) ≡ None
  pub left : IsLeft old new acted (effect_of plan)

-- the walk along its access list stops, and nothing changes
pub record IsStopped (plan : Plan) (old new : Machine) (acted : Acted) : Type 0 where
  pub stop : Stop
  pub stops : (w : Swap) → walk (table_of old.pages) (plan_accesses plan (state_of old w)) ≡ Some stop
  pub answer : acted ≡ acted_by stop
  pub same : new ≡ old

-- one of the two, of the instruction that is found in the state, whatever the swap
pub record IsCarriedOut (plan : Swap → Plan) (old new : Machine) (acted : Acted) : Type 0 where
  pub found : Plan
  pub is : (w : Swap) → found ≡ plan w
  pub fits : PlanFits found
  pub end : IsFinished found old new acted ⊎ IsStopped found old new acted

-- ---- an instruction depends on its accesses alone
-- two memories agree on the bytes of an access, and on the permissions of its pages
abbrev pub AgreeOn : Memory → Memory → Access → Type 0
AgreeOn memory other access =
    (at : ℕ) → access.addr ≤ at → at < access.addr + access.len
    → (memory.perms (at / page_size) ≡ other.perms (at / page_size)) × (memory.byte at ≡ other.byte at)

-- the same answer and the same state but for memory, where permissions stay, and the bytes are the same again at each address
-- where they were
pub record IsSame (memory other : Memory) (a b : After) : Type 0 where
  pub acted : a.acted ≡ b.acted
  pub state : record a.state { memory = b.state.memory } ≡ b.state
  pub perms_stay : (a.state.memory.perms ≡ memory.perms) × (b.state.memory.perms ≡ other.perms)
  pub byte_is : (at : ℕ) → memory.byte at ≡ other.byte at → a.state.memory.byte at ≡ b.state.memory.byte at

-- memories that agree in permissions and bytes on the access list give the same
abbrev pub IsLocal : Decoded → ℕ → State → Type 0
IsLocal d len s =
    (other : Memory) → All (AgreeOn s.memory other) (accesses d len s)
    → IsSame s.memory other (performed d len s) (performed d len (record s { memory = other }))

-- ---- an instruction writes within its accesses alone
-- an access doesn't write the byte at an address
abbrev pub SparesByte : ℕ → Access → Type 0
SparesByte at access = access.kind ≡ Write → (at < access.addr) ⊎ (access.addr + access.len ≤ at)

-- a byte that no access of kind write has stays
abbrev pub IsFramed : Decoded → ℕ → State → Type 0
IsFramed d len s = (at : ℕ) → All (SparesByte at) (accesses d len s) → (performed d len s).state.memory.byte at ≡ s.memory.byte at

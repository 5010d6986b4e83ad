-- What an instruction does, whatever its kind: from the state without memory and the bytes of its accesses to how it acts, the state
-- without memory afterwards, and the bytes that it writes.
use Rattle.std.specs.Prelude.{ℕ, ◌+◌, Bool, ◌&&◌, nat_le, nat_lt, if◌then◌else◌, List, [], ◌∷◌}
use Rattle.std.specs.List.{list_any}
use Rattle.gpr_flags.specs.declared.kinds.Flags.{Flags}
use Rattle.machine_state.specs.declared.kinds.Access.{Access}
use Rattle.machine_state.specs.Memory.{Memory, bytes_at, written}
use Rattle.machine_state.specs.State.{State, Extended}
use Rattle.core_step.specs.declared.acted.Acted.{Acted}
use Rattle.core_step.specs.Access.{is_write}

-- the machine state without memory
pub record Processor : Type 0 where
  pub gprs : List ℕ
  pub flags : Flags
  pub rip : ℕ
  pub extended : Extended
  pub fs : ℕ
  pub gs : ℕ
  pub steps : ℕ

abbrev pub processor_of : State → Processor
processor_of s = record {
  gprs = s.gprs;
  flags = s.flags;
  rip = s.rip;
  extended = s.extended;
  fs = s.fs;
  gs = s.gs;
  steps = s.steps;
}

abbrev pub state_with : Processor → Memory → State
state_with p memory = record {
  gprs = p.gprs;
  flags = p.flags;
  rip = p.rip;
  extended = p.extended;
  fs = p.fs;
  gs = p.gs;
  steps = p.steps;
  memory = memory;
}

-- how a step ends, and the state that it leaves
pub record After : Type 0 where
  pub acted : Acted
  pub state : State

-- how an instruction acts, the processor that it leaves, and what stands in memory afterwards, of which the bytes of its write
-- accesses count
pub record Effect : Type 0 where
  pub acted : Acted
  pub processor : Processor
  pub byte : ℕ → ℕ

-- ---- what an instruction sees of memory
abbrev pub covers : (at : ℕ) → Access → Bool
covers at access = nat_le access.addr at && nat_lt at (access.addr + access.len)

-- the bytes of its accesses; any other is 0 to it
abbrev pub seen_in : List Access → (ℕ → ℕ) → ℕ → ℕ
seen_in accesses byte at = if list_any (covers at) accesses then byte at else 0

-- ---- what it leaves
-- the bytes of memory where an access, if it is a write, has what stands there afterwards
abbrev pub put_by : Access → (new old : ℕ → ℕ) → ℕ → ℕ
put_by access new old = if is_write access.kind then written old access.addr (bytes_at new access.addr access.len) else old

-- the same of each access of a list; no other byte changes
abbrev pub put_in : List Access → (new old : ℕ → ℕ) → ℕ → ℕ
put_in [] new old = old
put_in (access ∷ rest) new old = put_in rest new (put_by access new old)

-- what an effect leaves, by the access list
abbrev pub after_effect : List Access → Effect → Memory → After
after_effect accesses e memory = record {
  acted = e.acted;
  state = state_with e.processor (record memory { byte = put_in accesses e.byte memory.byte });
}

-- the same where what stands in memory afterwards counts everywhere: so the code is proved, and then that it comes to the same
abbrev pub left_by : Effect → Memory → After
left_by e memory = record { acted = e.acted; state = state_with e.processor (record memory { byte = e.byte }) }

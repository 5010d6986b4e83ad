-- Instructions on vectors: where their operands are, and their effect.
use Rattle.std.specs.Prelude.{ℕ, ◌+◌, if◌then◌else◌, Option, Some, None}
use Rattle.machine_state.specs.State.{State}
use Rattle.row_table.specs.declared.kinds.Row.{Row}
use Rattle.row_table.specs.declared.kinds.Decoded.{Decoded}
use Rattle.vec_step.specs.declared.kinds.Places.{Places}
use Rattle.vec_step.specs.declared.kinds.VectorPlan.{VectorPlan}
use Rattle.vec_step.specs.Plan.{vector_plan}
use Rattle.vec_step.specs.Clear.{clearing_left}
use Rattle.vec_step.specs.Left.{gprs_left, flags_left, extended_left, byte_left}
use Rattle.core_step.specs.declared.acted.Acted.TheVariants.{Done}
use Rattle.core_step.specs.declared.kinds.ClearPlan.{ClearPlan}
use Rattle.core_step.specs.declared.kinds.StackUse.TheVariants.{Aside}
use Rattle.core_step.specs.Address.{is_memory, vector_reg, vector_rm, address_of}
use Rattle.core_step.specs.Operands.{row_size, bases_for}
use Rattle.core_step.specs.Effect.{Processor, Effect}

-- the address that ModRM names, in an instruction that leaves the stack alone
abbrev pub address_in : Row → Decoded → (next : ℕ) → State → ℕ
address_in row d next s = address_of d.fields d.disp s.gprs (bases_for Aside (row_size row d.fields) s next)

-- the same, if ModRM names memory
abbrev pub memory_in : Row → Decoded → (next : ℕ) → State → Option ℕ
memory_in row d next s = if is_memory d.fields then Some (address_in row d next s) else None

-- what ModRM and vvvv name (SDM volume 2, 2.1.3, 2.3.5.6 and 2.7.2); general registers and opmasks have the low bits of these numbers
abbrev pub places_of : Row → Decoded → (next : ℕ) → State → Places
places_of row d next s = record {
  reg = vector_reg d.fields;
  vvvv = d.fields.v;
  rm = vector_rm d.fields;
  memory = memory_in row d next s;
}

-- the instruction of a row and its fields
unfoldable pub vectors_of : Row → Decoded → (next : ℕ) → State → VectorPlan
vectors_of row d next s = vector_plan row d.fields (places_of row d next s) next s.extended

-- the effect, by the bytes of memory
abbrev pub vectors_effect : VectorPlan → Processor → (ℕ → ℕ) → Effect
vectors_effect i p byte = record {
  acted = Done;
  processor = record p {
    gprs = gprs_left i p.gprs p.extended byte;
    flags = flags_left i p.gprs p.extended byte p.flags;
    rip = i.next;
    extended = extended_left i p.gprs p.extended byte;
    steps = p.steps + 1;
  };
  byte = byte_left i p.gprs p.extended byte;
}

-- VZEROUPPER and VZEROALL access no memory (SDM volume 2, VZEROUPPER and VZEROALL)
abbrev pub clears_effect : ClearPlan → Processor → (ℕ → ℕ) → Effect
clears_effect i p byte = record {
  acted = Done;
  processor = record p { rip = i.next; extended = clearing_left i.clearing p.extended; steps = p.steps + 1 };
  byte = byte;
}

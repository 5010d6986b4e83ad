-- What holds of every instruction that is found, and of what comes of it.
use Rattle.std.specs.Prelude.{◌≡◌, ◌<◌, None, ⊤}
use Rattle.gpr_flags.specs.declared.kinds.Flags.{Flags}
use Rattle.row_table.specs.declared.kinds.Fields.{Fields}
use Rattle.vec_step.specs.Fits.{PlanFits as VectorPlanFits}
use Rattle.core_step.specs.declared.acted.Acted.{Acted}
use Rattle.core_step.specs.declared.acted.Acted.TheVariants.{Done, Call, Trap, Need}
use Rattle.core_step.specs.declared.kinds.Operand.{Operand}
use Rattle.core_step.specs.declared.kinds.Operand.TheVariants.{Absent, Register, HighByte, Memory, Number, Mxcsr, Opmask}
use Rattle.core_step.specs.declared.kinds.Instruction.{Instruction}
use Rattle.core_step.specs.declared.kinds.Plan.{Plan}
use Rattle.core_step.specs.declared.kinds.Plan.TheVariants.{Plain, OnStrings, OnPair, OnVectors, Clears, Identifies}
use Rattle.core_step.specs.declared.kinds.Outcome.{Outcome}

-- the numbers of registers have one bit above those in ModRM, SIB and the opcode, and that in ModRM.reg two with EVEX (SDM volume 2,
-- 2.2.1.2 and 2.7.2)
pub record RegistersFit (f : Fields) : Type 0 where
  pub r : f.r < 4
  pub x : f.x < 2
  pub b : f.b < 2

-- the numbers of registers are below 16, those of high bytes below 4, and those of opmasks below 8
abbrev pub OperandFits : Operand → Type 0
OperandFits Absent = ⊤
OperandFits (Register number) = number < 16
OperandFits (HighByte number) = number < 4
OperandFits (Memory addr) = ⊤
OperandFits (Number number) = ⊤
OperandFits Mxcsr = ⊤
OperandFits (Opmask number) = number < 8

-- and a condition has one of sixteen numbers
abbrev pub InstructionFits : Instruction → Type 0
InstructionFits i =
    OperandFits i.destination × OperandFits i.source × OperandFits i.beside × OperandFits i.also × (i.condition < 16)

abbrev pub PlanFits : Plan → Type 0
PlanFits (Plain i) = InstructionFits i
PlanFits (OnStrings i) = ⊤
PlanFits (OnPair i) = ⊤
PlanFits (OnVectors i) = VectorPlanFits i
PlanFits (Clears i) = ⊤
PlanFits (Identifies i) = ⊤

-- a fault leaves all but the instruction pointer as it was, and no page is needed any more
abbrev pub ActedFits : Acted → Outcome → Flags → Type 0
ActedFits Done o flags = ⊤
ActedFits Call o flags = ⊤
ActedFits (Trap fault) o flags = (o.destination ≡ None) × (o.also ≡ None) × (o.stack ≡ None) × (o.flags ≡ flags)
ActedFits (Need slot) o flags = ⊥

abbrev pub OutcomeFits : Outcome → Flags → Type 0
OutcomeFits o flags = ActedFits o.acted o flags

-- What holds of each access of an instruction holds of its source's and of its destination's.
use Rattle.std.specs.List.{All}
use Rattle.machine_state.specs.declared.kinds.Kind.TheVariants.{Read}
use Rattle.core_step.specs.declared.kinds.Instruction.{Instruction}
use Rattle.machine_state.specs.declared.kinds.Access.{Access}
use Rattle.core_step.specs.Access.{operand_access, kind_of, accesses_of}
use Rattle.vec_step.proofs.Accesses.{All_before, All_behind}

-- the accesses of an instruction's source
pub All-source : (P : Access → Type 0) (i : Instruction) → All P (accesses_of i) → All P (operand_access Read i.source i.source_size)
unfolding accesses_of
All-source P i all =
    All_before P (operand_access Read i.source i.source_size) (operand_access (kind_of i.usage) i.destination i.size) all

-- the accesses of an instruction's destination
pub All-destination : (P : Access → Type 0) (i : Instruction) → All P (accesses_of i)
    → All P (operand_access (kind_of i.usage) i.destination i.size)
unfolding accesses_of
All-destination P i all =
    All_behind P (operand_access Read i.source i.source_size) (operand_access (kind_of i.usage) i.destination i.size) all

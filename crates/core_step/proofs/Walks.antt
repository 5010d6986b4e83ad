-- The walk along the access list of an instruction.
use Rattle.std.proofs.Common.{◌≡◌, ℕ, [], Option, Some, None, refl, sym, ap, ◌∙◌}
use Rattle.machine_state.specs.declared.kinds.Kind.{Kind}
use Rattle.machine_state.specs.declared.kinds.Kind.TheVariants.{Read, Write}
use Rattle.machine_state.specs.declared.kinds.Miss.{Miss}
use Rattle.machine_state.specs.declared.kinds.Stop.{Stop}
use Rattle.guest_pages.specs.Table.{Table, blocked}
use Rattle.guest_pages.specs.Walk.{walk, stop_or}
use Rattle.guest_pages.proofs.WalkLemmas.{first-free, stop_then, stop_then-none, walk-append}
use Rattle.core_step.specs.declared.sizes.Size.{Size}
use Rattle.core_step.specs.declared.kinds.Operand.TheVariants.{Memory}
use Rattle.core_step.specs.declared.kinds.Use.{Use}
use Rattle.core_step.specs.declared.kinds.Use.TheVariants.{Read as Reads, Write as Writes, Update}
use Rattle.core_step.specs.declared.kinds.Instruction.{Instruction}
use Rattle.core_step.specs.declared.pair.PairPlan.{PairPlan}
use Rattle.core_step.specs.Size.{bytes_in}
use Rattle.core_step.specs.Access.{operand_access, kind_of, accesses_of}
use Rattle.core_step.specs.Pair.{pair_bytes, pair_write, pair_access}
use Rattle.core_step.specs.Plain.{number_for}

-- an operand in memory whose walk doesn't stop can be accessed
pub free-memory : (table : Table) (kind : Kind) (addr : ℕ) (size : Size) → walk table (operand_access kind (Memory addr) size) ≡ None
    → blocked table kind addr (bytes_in size) ≡ None
free-memory table kind addr size none = first-free table (record { kind = kind; addr = addr; len = bytes_in size }) [] none

-- and the walk along its access stops where that is blocked
pub operand-stops : (table : Table) (kind : Kind) (addr : ℕ) (size : Size) (miss : Miss) → blocked table kind addr (bytes_in size) ≡ Some miss
    → walk table (operand_access kind (Memory addr) size) ≡ Some (record { kind = kind; miss = miss })
unfolding walk
operand-stops table kind addr size miss e = ap (λ (first : Option Miss). stop_or kind first None) e

pub operand-passes : (table : Table) (kind : Kind) (addr : ℕ) (size : Size) → blocked table kind addr (bytes_in size) ≡ None
    → walk table (operand_access kind (Memory addr) size) ≡ None
unfolding walk
operand-passes table kind addr size e = ap (λ (first : Option Miss). stop_or kind first None) e

-- ---- the two operands of an instruction
abbrev pub source_walk : Table → Instruction → Option Stop
source_walk table i = walk table (operand_access Read i.source i.source_size)

abbrev pub destination_walk : Table → Instruction → Option Stop
destination_walk table i = walk table (operand_access (kind_of i.usage) i.destination i.size)

-- the source goes first
accesses-walk : (table : Table) (i : Instruction) → walk table (accesses_of i) ≡ stop_then (source_walk table i) (destination_walk table i)
unfolding accesses_of
accesses-walk table i = walk-append table (operand_access Read i.source i.source_size) (operand_access (kind_of i.usage) i.destination i.size)

-- where the walk of an instruction doesn't stop, that of its source and that of its destination don't
pub both-free : (table : Table) (i : Instruction) → walk table (accesses_of i) ≡ None
    → (source_walk table i ≡ None) × (destination_walk table i ≡ None)
both-free table i none = stop_then-none _ _ (sym (accesses-walk table i) ∙ none)

-- a source that stops the walk stops it first
pub source-stops : (table : Table) (i : Instruction) (stop : Stop) → source_walk table i ≡ Some stop → walk table (accesses_of i) ≡ Some stop
source-stops table i stop e = accesses-walk table i ∙ ap (λ (first : Option Stop). stop_then first (destination_walk table i)) e

-- and behind one that doesn't it goes on
pub source-passes : (table : Table) (i : Instruction) → source_walk table i ≡ None → walk table (accesses_of i) ≡ destination_walk table i
source-passes table i none = accesses-walk table i ∙ ap (λ (first : Option Stop). stop_then first (destination_walk table i)) none

-- a destination that a number goes to is accessed by a write
pub written-kind : (usage : Use) (number : Option ℕ) → (number_for usage number ≡ None → ⊥) → kind_of usage ≡ Write
written-kind Reads number some = absurd (some refl)
written-kind Writes number some = refl
written-kind Update number some = refl

-- the access of a pair
pub pair-free : (table : Table) (i : PairPlan) → walk table (pair_access i) ≡ None → blocked table Write i.addr (pair_bytes i) ≡ None
pair-free table i none = first-free table (pair_write i) [] none

-- Every row of the table is performed, and so its instructions aren't undefined.
use Rattle.std.proofs.Common.{◌≡◌, ◌==◌, ◌/◌, ℕ, zero, suc, Bool, true, false, ◌&&◌, cond, nat_lt, List, [], ◌∷◌, slice_get, refl, subst}
use Rattle.std.proofs.Common.{Some as some}
use Rattle.std.proofs.lemmas.Bool.{and_parts}
use Rattle.gpr_flags.specs.declared.kinds.Flags.{Flags}
use Rattle.gpr_flags.specs.declared.kinds.Fault.TheVariants.{Undefined, Divide, General}
use Rattle.gpr_units.specs.Divide.{is_refused}
use Rattle.machine_state.specs.declared.kinds.Kind.{Kind}
use Rattle.machine_state.specs.declared.kinds.Miss.{Miss}
use Rattle.machine_state.specs.declared.kinds.Miss.TheVariants.{Unmapped, Denied, NonCanonical, Away}
use Rattle.machine_state.specs.State.{State}
use Rattle.row_table.specs.declared.kinds.Row.{Row}
use Rattle.row_table.specs.declared.kinds.Decoded.{Decoded}
use Rattle.row_table.specs.declared.operations.Op.{Op}
use Rattle.row_table.specs.declared.operations.Op.TheVariants.{Core, Gpr, Bit, String, Lane, Cross, Width, Mac, Mask, Vector}
use Rattle.row_table.specs.declared.operations.CoreOp.{CoreOp}
use Rattle.row_table.specs.declared.operations.CoreOp.TheVariants.{Cmpxchg8b, Nop, Cpuid, Xgetbv, Ldmxcsr, Vzeroupper, Vzeroall}
use Rattle.row_table.specs.declared.operations.GprOp.{GprOp}
use Rattle.row_table.specs.declared.operations.GprOp.TheVariants.{Div, Idiv}
use Rattle.row_table.specs.declared.operations.BitOp.{BitOp}
use Rattle.row_table.specs.declared.operations.BitOp.TheVariants.{Rol}
use Rattle.row_table.specs.declared.operations.MaskOp.{MaskOp}
use Rattle.row_table.specs.declared.operations.MaskOp.TheVariants.{Kand}
use Rattle.row_table.specs.Letters.{layout_of, letters}
use Rattle.row_table.specs.Spelling.{writes_rm}
use Rattle.row_table.specs.Legacy.{legacy, one_byte, two_byte, three_byte}
use Rattle.row_table.specs.Vex.{vex_rows, vex_0f, vex_0f38, vex_0f3a}
use Rattle.row_table.specs.Evex.{evex_rows, evex_0f, evex_0f38, evex_0f3a}
use Rattle.row_table.specs.Rows.{rows}
use Rattle.core_step.specs.declared.acted.Acted.{Acted}
use Rattle.core_step.specs.declared.acted.Acted.TheVariants.{Trap}
use Rattle.core_step.specs.declared.ways.Way.{Way}
use Rattle.core_step.specs.declared.ways.Way.TheVariants.{Numbers, Strings, Pair, Vectors, Clears, Identifies}
use Rattle.core_step.specs.declared.kinds.Instruction.{Instruction}
use Rattle.core_step.specs.declared.kinds.Outcome.{Outcome}
use Rattle.core_step.specs.declared.strings.StringPlan.{StringPlan}
use Rattle.core_step.specs.Size.{bits_in}
use Rattle.core_step.specs.Roles.{roles_of, core_roles, gpr_roles, bit_roles, mask_roles}
use Rattle.core_step.specs.Operands.{instruction_of, instruction_by, op_of}
use Rattle.core_step.specs.Access.{acted_by_miss}
use Rattle.core_step.specs.Strings.{strings_of, is_over, passed_over, iterated}
use Rattle.core_step.specs.Plan.{core_way, way_of, plan_by, plan_of, next_of, effect_of}
use Rattle.core_step.specs.Result.{gives, counts, faults, core_outcome, gpr_outcome, bit_outcome, mask_outcome, outcome_by, outcome_of}
use Rattle.core_step.specs.SaveArea.{xcr0}
use Rattle.core_step.specs.Effect.{Processor}
use Rattle.core_step.specs.Plain.{outcome_in}
use Rattle.core_step.specs.Performed.{core_performed, is_performed, are_placed, are_vectors_placed, is_choice_placed, suits, IsPerformed}
use Rattle.vec_units.specs.Compute.{is_vector}
use Rattle.gpr_flags.specs.Registers.{is_size}
use Rattle.vec_units.specs.Form.{IsVectorRow, memory_width}
use Rattle.vec_step.specs.declared.kinds.Clearing.TheVariants.{Upper, All}
use Rattle.vec_step.specs.Plan.{spots_of}

-- ---- the table
abbrev is_row_performed : Row → Bool
is_row_performed row =
    is_performed row.op
    && (are_placed (layout_of row.operands) (roles_of row.op (layout_of row.operands)) && suits (way_of row.op) row)

unfoldable all_performed : List Row → Bool
all_performed [] = true
all_performed (row ∷ rest) = is_row_performed row && all_performed rest

rows-performed : all_performed rows ≡ true
unfolding all_performed is_performed core_performed core_way spots_of core_roles gpr_roles bit_roles mask_roles writes_rm layout_of letters rows legacy one_byte two_byte three_byte vex_rows vex_0f vex_0f38 vex_0f3a evex_rows evex_0f evex_0f38 evex_0f3a
rows-performed = refl

same_row : (row other : Row) → some row ≡ some other → row ≡ other
same_row row other e = cc

performed-at : (list : List Row) (i : ℕ) (row : Row) → all_performed list ≡ true → slice_get list i ≡ some row → is_row_performed row ≡ true
unfolding all_performed
performed-at [] i row h e = absurd cc
performed-at (first ∷ rest) zero row h e =
    subst (λ r. is_row_performed r ≡ true) (same_row first row e) (and_parts (is_row_performed first) (all_performed rest) h).0
performed-at (first ∷ rest) (suc i) row h e = performed-at rest i row (and_parts (is_row_performed first) (all_performed rest) h).1 e

pub row-performed : (i : ℕ) (row : Row) → slice_get rows i ≡ some row → IsPerformed row
row-performed i row e =
    let parts = and_parts (is_performed row.op) _ (performed-at rows i row rows-performed e) in
    let rest = and_parts _ (suits (way_of row.op) row) parts.1 in
    record { operation = parts.0; operands = rest.0; way = rest.1 }

-- an operation that is performed on vectors is one on vectors
core-away : (op : CoreOp) → core_way op ≡ Vectors → ⊥
unfolding core_way
core-away Cmpxchg8b is = cc
core-away Vzeroupper is = cc
core-away Vzeroall is = cc
core-away Cpuid is = cc
core-away op is = cc

vectors-op : (op : Op) → way_of op ≡ Vectors → is_vector op ≡ true
unfolding is_vector
vectors-op (Lane op) is = refl
vectors-op (Vector op) is = refl
vectors-op (Cross op) is = refl
vectors-op (Width op) is = refl
vectors-op (Mac op) is = refl
vectors-op (Core op) is = absurd (core-away op is)
vectors-op op is = cc

-- so the rows of such operations have lanes
pub row-vectors : (row : Row) → IsPerformed row → way_of row.op ≡ Vectors → IsVectorRow row
row-vectors row performed is =
    let fits : suits Vectors row ≡ true = subst (λ (way : Way). suits way row ≡ true) is performed.way in
    let placed = are_vectors_placed (layout_of row.operands) && is_choice_placed row.mask (layout_of row.operands) in
    let sizes = and_parts (is_size (row.width / 8)) (is_size (memory_width row)) (and_parts placed _ fits).1 in
    record { op = vectors-op row.op is; width = sizes.0; memory = sizes.1 }

-- ---- outcomes
abbrev pub IsDefined : Acted → Type 0
IsDefined acted = acted ≡ Trap Undefined → ⊥

-- an operation that is performed on numbers
abbrev IsPlain : Op → Type 0
IsPlain op = (is_performed op ≡ true) × (way_of op ≡ Numbers)

-- of two outcomes
chosen-defined : (first : Bool) (o other : Outcome) → IsDefined o.acted → IsDefined other.acted → IsDefined (cond first o other).acted
chosen-defined true o other h more = h
chosen-defined false o other h more = more

core-defined : (op : CoreOp) (i : Instruction) (a b c : ℕ) (flags : Flags) (steps : ℕ) → core_performed op ≡ true
    → core_way op ≡ Numbers → IsDefined (core_outcome op i a b c flags steps).acted
unfolding core_performed core_way core_outcome
core-defined Cmpxchg8b i a b c flags steps h plain e = absurd (let clash : Pair ≡ Numbers = plain in cc)
core-defined Vzeroupper i a b c flags steps h plain e = absurd (let clash : Clears Upper ≡ Numbers = plain in cc)
core-defined Vzeroall i a b c flags steps h plain e = absurd (let clash : Clears All ≡ Numbers = plain in cc)
core-defined Cpuid i a b c flags steps h plain e = absurd (let clash : Identifies ≡ Numbers = plain in cc)
core-defined Xgetbv i a b c flags steps h plain e =
    chosen-defined (b == 0) (counts xcr0 i flags) (faults General i flags) (λ done. cc) (λ fault. cc) e
core-defined Ldmxcsr i a b c flags steps h plain e =
    chosen-defined (nat_lt b 65536) (gives b i flags) (faults General i flags) (λ done. cc) (λ fault. cc) e
core-defined op i a b c flags steps h plain e = cc

gpr-defined : (op : GprOp) (i : Instruction) (a b c : ℕ) (flags : Flags) → IsDefined (gpr_outcome op i a b c flags).acted
unfolding gpr_outcome
gpr-defined Div i a b c flags = chosen-defined (is_refused false (bits_in i.size) c a b) (faults Divide i flags) _ (λ e. cc) (λ e. cc)
gpr-defined Idiv i a b c flags = chosen-defined (is_refused true (bits_in i.size) c a b) (faults Divide i flags) _ (λ e. cc) (λ e. cc)
gpr-defined op i a b c flags = λ e. cc

bit-defined : (op : BitOp) (i : Instruction) (a b c : ℕ) (flags : Flags) → IsDefined (bit_outcome op i a b c flags).acted
unfolding bit_outcome
bit-defined Rol i a b c flags e = cc
bit-defined op i a b c flags e = cc

mask-defined : (op : MaskOp) (i : Instruction) (a b c : ℕ) (flags : Flags) → IsDefined (mask_outcome op i a b c flags).acted
unfolding mask_outcome
mask-defined Kand i a b c flags e = cc
mask-defined op i a b c flags e = cc

outcome-defined : (op : Op) (i : Instruction) (a b c : ℕ) (flags : Flags) (steps : ℕ) → IsPlain op
    → IsDefined (outcome_by op i a b c flags steps).acted
unfolding is_performed
outcome-defined (Core op) i a b c flags steps h = core-defined op i a b c flags steps h.0 h.1
outcome-defined (Gpr op) i a b c flags steps h = gpr-defined op i a b c flags
outcome-defined (Bit op) i a b c flags steps h = bit-defined op i a b c flags
outcome-defined (Mask op) i a b c flags steps h = mask-defined op i a b c flags
outcome-defined (String op) i a b c flags steps h = absurd (let clash : Strings op ≡ Numbers = h.1 in cc)
outcome-defined (Lane op) i a b c flags steps h = absurd (let clash : Vectors ≡ Numbers = h.1 in cc)
outcome-defined (Vector op) i a b c flags steps h = absurd (let clash : Vectors ≡ Numbers = h.1 in cc)
outcome-defined (Cross op) i a b c flags steps h = absurd (let clash : Vectors ≡ Numbers = h.1 in cc)
outcome-defined (Width op) i a b c flags steps h = absurd (let clash : Vectors ≡ Numbers = h.1 in cc)
outcome-defined (Mac op) i a b c flags steps h = absurd (let clash : Vectors ≡ Numbers = h.1 in cc)
outcome-defined op i a b c flags steps h = absurd (let clash : false ≡ true = h.0 in cc)

-- XCHG of rAX with itself is the no-operation, which is performed
nop-plain : (itself : Bool) (op : Op) → IsPlain op → IsPlain (cond itself (Core Nop) op)
unfolding is_performed core_performed core_way
nop-plain true op h = (refl, refl)
nop-plain false op h = h

-- ---- instructions
instruction-defined : (row : Row) (d : Decoded) (next : ℕ) (s : State) (p : Processor) (byte : ℕ → ℕ) → IsPlain row.op
    → IsDefined (outcome_in (instruction_of row d next s) p byte).acted
unfolding instruction_of instruction_by outcome_of
instruction-defined row d next s p byte h =
    outcome-defined (op_of row (layout_of row.operands) d.fields) _ _ _ _ _ _ (nop-plain _ row.op h)

strings-defined : (over : Bool) (i : StringPlan) (p : Processor) (byte : ℕ → ℕ)
    → IsDefined (cond over (passed_over i p byte) (iterated i p byte)).acted
strings-defined true i p byte = λ e. cc
strings-defined false i p byte = λ e. cc

plan_by-defined : (way : Way) (row : Row) (d : Decoded) (next : ℕ) (s : State) (p : Processor) (byte : ℕ → ℕ) → way_of row.op ≡ way
    → is_performed row.op ≡ true → IsDefined (effect_of (plan_by way row d next s) p byte).acted
plan_by-defined Numbers row d next s p byte is h = instruction-defined row d next s p byte (h, is)
plan_by-defined (Strings op) row d next s p byte is h = strings-defined (is_over (strings_of op row d next s) p.gprs) _ p byte
plan_by-defined Pair row d next s p byte is h = λ e. cc
plan_by-defined Vectors row d next s p byte is h = λ e. cc
plan_by-defined (Clears clearing) row d next s p byte is h = λ e. cc
plan_by-defined Identifies row d next s p byte is h = λ e. cc

pub plan-defined : (row : Row) (d : Decoded) (len : ℕ) (s : State) (p : Processor) (byte : ℕ → ℕ) → IsPerformed row
    → IsDefined (effect_of (plan_of row d len s) p byte).acted
unfolding plan_of
plan-defined row d len s p byte h = plan_by-defined (way_of row.op) row d (next_of len s) s p byte refl h.operation

-- nor is an access that can't be made
pub miss-defined : (kind : Kind) (miss : Miss) → IsDefined (acted_by_miss kind miss)
miss-defined kind (Unmapped addr) e = cc
miss-defined kind (Denied addr) e = cc
miss-defined kind (NonCanonical addr) e = cc
miss-defined kind (Away slot) e = cc

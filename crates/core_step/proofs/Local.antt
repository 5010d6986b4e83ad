-- An instruction depends on its accesses alone.
use Rattle.std.proofs.Common.{◌≡◌, ℕ, ◌+◌, ◌*◌, ◌/◌, ◌<◌, ◌≤◌, Bool, true, false, List, [], ◌∷◌, Option, Some, None, cond, zero, suc, refl, sym, subst, ap, ◌∙◌, arith, slice_get, slice_index}
use Rattle.std.specs.List.{All}
use Rattle.std.proofs.lemmas.List.Elements.{All-head, All-tail, All-weaker}
use Rattle.byteorder.specs.Endian.{little_number}
use Rattle.machine_state.specs.declared.kinds.Kind.{Kind}
use Rattle.machine_state.specs.declared.kinds.Kind.TheVariants.{Read}
use Rattle.gpr_flags.specs.declared.kinds.Fault.{Fault}
use Rattle.gpr_flags.specs.declared.kinds.Fault.TheVariants.{Undefined, General}
use Rattle.gpr_flags.specs.declared.kinds.Flags.{Flags}
use Rattle.machine_state.specs.declared.kinds.Miss.{Miss}
use Rattle.machine_state.specs.declared.kinds.Miss.TheVariants.{NonCanonical}
use Rattle.machine_state.specs.Memory.{page_size, Permissions, Memory, is_noncanonical, miss_in, miss_at, or_else, first_miss, bytes_at, written, number_at, number_bytes}
use Rattle.machine_state.specs.State.{State}
use Rattle.gpr_flags.specs.Registers.{RAX, RSI, with_register}
use Rattle.machine_state.proofs.MemoryLemmas.{bytes_at_same}
use Rattle.row_table.specs.declared.kinds.Row.{Row}
use Rattle.row_table.specs.declared.kinds.Decoded.{Decoded}
use Rattle.row_table.specs.declared.operations.StringOp.{StringOp}
use Rattle.row_table.specs.declared.operations.StringOp.TheVariants.{Movs, Cmps, Stos, Lods, Scas}
use Rattle.row_table.specs.Rows.{rows}
use Rattle.string_unit.specs.Strings.{reads, writes, string_accesses, passed, compared, string_gprs, string_flags, string_byte}
use Rattle.core_step.specs.declared.sizes.Size.{Size}
use Rattle.core_step.specs.declared.kinds.Operand.{Operand}
use Rattle.core_step.specs.declared.kinds.Operand.TheVariants.{Absent, Register, HighByte, Memory as InMemory, Number, Mxcsr, Opmask}
use Rattle.core_step.specs.declared.kinds.Use.{Use}
use Rattle.core_step.specs.declared.kinds.Use.TheVariants.{Read as Reads, Write as Writes, Update}
use Rattle.core_step.specs.declared.kinds.Instruction.{Instruction}
use Rattle.core_step.specs.declared.kinds.Outcome.{Outcome}
use Rattle.core_step.specs.declared.strings.StringPlan.{StringPlan}
use Rattle.core_step.specs.declared.pair.PairPlan.{PairPlan}
use Rattle.core_step.specs.declared.ways.Way.{Way}
use Rattle.core_step.specs.declared.ways.Way.TheVariants.{Numbers, Strings, Pair, Vectors, Clears as ClearsBytes, Identifies as IdentifiesProcessor}
use Rattle.core_step.specs.declared.kinds.Plan.{Plan}
use Rattle.core_step.specs.declared.kinds.Plan.TheVariants.{Plain, OnStrings, OnPair, OnVectors, Clears, Identifies}
use Rattle.machine_state.specs.declared.kinds.Access.{Access}
use Rattle.core_step.specs.Size.{bytes_in}
use Rattle.core_step.specs.Operands.{instruction_of, instruction_by}
use Rattle.core_step.specs.Access.{operand_access, kind_of, accesses_of, first_fault, fault_or}
use Rattle.core_step.specs.Effect.{Processor, Effect, processor_of, seen_in, after_effect}
use Rattle.core_step.specs.Result.{outcome_of}
use Rattle.core_step.specs.Plain.{register_value, value_of, old_value, byte_after, byte_left, destination_number, effect_by, outcome_in, plain_effect}
use Rattle.core_step.specs.Strings.{strings_of, count_in, is_over, source_of, destination_of, strings_access, with_count, is_continued, gprs_iterated, flags_iterated, byte_iterated, iterated, passed_over}
use Rattle.core_step.specs.Pair.{pair_of, pair_write, is_equal, pair_at, pair_stored, byte_exchanged, exchanged, pair_effect}
use Rattle.core_step.specs.Plan.{way_of, next_of, plan_by, plan_of, plan_accesses, effect_of}
use Rattle.core_step.specs.Alignment.{is_misaligned}
use Rattle.core_step.specs.Act.{trapped, carried_out, unless, performed_along, performed_as, performed_row, performed}
use Rattle.core_step.specs.Machine.{accesses, accesses_by, AgreeOn, IsSame, IsLocal}
use Rattle.core_step.proofs.Parts.{All-source, All-destination}
use Rattle.core_step.proofs.Seeing.{seen_same, put_in-same}
use Rattle.core_step.specs.Vectors.{vectors_of, vectors_effect}
use Rattle.vec_step.specs.declared.kinds.VectorPlan.{VectorPlan}
use Rattle.vec_step.specs.Plan.{vector_access}
use Rattle.vec_step.proofs.Accesses.{written_same}
use Rattle.vec_step.proofs.Locality.{SameIn, gprs_same, flags_same, extended_same, byte_same}

-- ---- the fault
-- why a byte can't be had depends on its page's permissions alone
miss_at_same : (perms others : Permissions) (kind : Kind) (addr : ℕ) → perms (addr / page_size) ≡ others (addr / page_size)
    → miss_at perms kind addr ≡ miss_at others kind addr
miss_at_same perms others kind addr same =
    ap (λ (page : Option ℕ). cond (is_noncanonical addr) (Some (NonCanonical addr)) (miss_in page kind addr)) same

-- the first byte that isn't allowed depends on the permissions of the access's pages alone
first_miss_same : (perms others : Permissions) (kind : Kind) (addr len : ℕ)
    → ((at : ℕ) → addr ≤ at → at < addr + len → perms (at / page_size) ≡ others (at / page_size))
    → first_miss perms kind addr len ≡ first_miss others kind addr len
unfolding first_miss
first_miss_same perms others kind addr zero same = refl
first_miss_same perms others kind addr (suc len) same =
    ap (λ (miss : Option Miss). or_else miss (first_miss perms kind (addr + 1) len))
    (miss_at_same perms others kind addr (same addr (omega arith) (omega arith)))
    ∙ ap (or_else (miss_at others kind addr))
    (first_miss_same perms others kind (addr + 1) len (λ at low high. same at (omega arith) (omega arith)))

-- where memories agree on an access, so does the first of its bytes that isn't allowed
miss_same : (access : Access) (memory other : Memory) → AgreeOn memory other access
    → first_miss memory.perms access.kind access.addr access.len ≡ first_miss other.perms access.kind access.addr access.len
miss_same access memory other agree =
    first_miss_same memory.perms other.perms access.kind access.addr access.len (λ at low high. (agree at low high).0)

-- where memories agree along a list, its first fault is the same
first_fault_same : (xs : List Access) (memory other : Memory) → All (AgreeOn memory other) xs
    → first_fault memory.perms xs ≡ first_fault other.perms xs
unfolding first_fault
first_fault_same [] memory other agree = refl
first_fault_same (x ∷ xs) memory other agree =
    ap (λ (miss : Option Miss). fault_or x.kind miss (first_fault memory.perms xs))
    (miss_same x memory other (All-head (AgreeOn memory other) x xs agree))
    ∙ ap (fault_or x.kind (first_miss other.perms x.kind x.addr x.len))
    (first_fault_same xs memory other (All-tail (AgreeOn memory other) x xs agree))

-- ---- the numbers
-- where memories agree on an access, its bytes are the same
bytes_same : (access : Access) (memory other : Memory) → AgreeOn memory other access
    → bytes_at memory.byte access.addr access.len ≡ bytes_at other.byte access.addr access.len
bytes_same access memory other agree =
    bytes_at_same memory.byte other.byte access.addr access.len (λ i inside. (agree (access.addr + i) (omega arith) (omega arith)).1)

-- where memories agree on the access of an operand, its number is the same
value_of_same : (kind : Kind) (operand : Operand) (size : Size) (p : Processor) (memory other : Memory)
    → All (AgreeOn memory other) (operand_access kind operand size)
    → value_of operand size p memory.byte ≡ value_of operand size p other.byte
unfolding value_of
value_of_same kind Absent size p memory other agree = refl
value_of_same kind (Register number) size p memory other agree = refl
value_of_same kind (HighByte number) size p memory other agree = refl
value_of_same kind (InMemory addr) size p memory other agree =
    let access : Access = record { kind = kind; addr = addr; len = bytes_in size } in
    ap (little_number (bytes_in size)) (bytes_same access memory other (All-head (AgreeOn memory other) access [] agree))
value_of_same kind (Number number) size p memory other agree = refl
value_of_same kind Mxcsr size p memory other agree = refl
value_of_same kind (Opmask number) size p memory other agree = refl

-- where memories agree on the access of a destination, what stood there is the same; it counts only where it is read
old_value_same : (usage : Use) (operand : Operand) (size : Size) (p : Processor) (memory other : Memory)
    → All (AgreeOn memory other) (operand_access (kind_of usage) operand size)
    → old_value usage operand size p memory.byte ≡ old_value usage operand size p other.byte
old_value_same Reads operand size p memory other agree = value_of_same _ operand size p memory other agree
old_value_same Writes operand size p memory other agree = refl
old_value_same Update operand size p memory other agree = value_of_same _ operand size p memory other agree

-- ---- the bytes
-- a number that goes to an operand keeps each byte the same that was the same
byte_after_same : (operand : Operand) (size : Size) (number : Option ℕ) (byte other : ℕ → ℕ) (at : ℕ) → byte at ≡ other at
    → byte_after operand size number byte at ≡ byte_after operand size number other at
byte_after_same operand size None byte other at same = same
byte_after_same Absent size (Some number) byte other at same = same
byte_after_same (Register to) size (Some number) byte other at same = same
byte_after_same (HighByte to) size (Some number) byte other at same = same
byte_after_same (InMemory addr) size (Some number) byte other at same = written_same byte other addr (number_bytes (bytes_in size) number) at same
byte_after_same (Number to) size (Some number) byte other at same = same
byte_after_same Mxcsr size (Some number) byte other at same = same
byte_after_same (Opmask to) size (Some number) byte other at same = same

-- an outcome keeps each byte the same that was the same
byte_left_same : (i : Instruction) (o : Outcome) (byte other : ℕ → ℕ) (at : ℕ) → byte at ≡ other at
    → byte_left i o byte at ≡ byte_left i o other at
unfolding byte_left
byte_left_same i o byte other at same = byte_after_same i.destination i.size (destination_number i o) byte other at same

-- ---- effects by the bytes of two memories
-- an effect acts the same and leaves the same processor; a byte that was the same is the same afterwards
pub record Agrees (byte other : ℕ → ℕ) (e f : Effect) : Type 0 where
  pub acted : e.acted ≡ f.acted
  pub processor : e.processor ≡ f.processor
  pub byte_is : (at : ℕ) → byte at ≡ other at → e.byte at ≡ f.byte at

-- ---- plain instructions
-- where memories agree along the accesses of an instruction, the same comes of it
outcome_same : (i : Instruction) (p : Processor) (memory other : Memory) → All (AgreeOn memory other) (accesses_of i)
    → outcome_in i p memory.byte ≡ outcome_in i p other.byte
outcome_same i p memory other agree =
    ap (λ (a : ℕ). outcome_of i a (value_of i.source i.source_size p memory.byte) (register_value i.beside i.beside_size p) p.flags p.steps)
    (old_value_same i.usage i.destination i.size p memory other (All-destination (AgreeOn memory other) i agree))
    ∙ ap (λ (b : ℕ).
    outcome_of i (old_value i.usage i.destination i.size p other.byte) b (register_value i.beside i.beside_size p) p.flags p.steps)
    (value_of_same Read i.source i.source_size p memory other (All-source (AgreeOn memory other) i agree))

plain-agrees : (i : Instruction) (p : Processor) (memory other : Memory) → All (AgreeOn memory other) (accesses_of i)
    → Agrees memory.byte other.byte (plain_effect i p memory.byte) (plain_effect i p other.byte)
plain-agrees i p memory other agree =
    let o : Outcome = outcome_in i p memory.byte in
    subst (λ (x : Outcome). Agrees memory.byte other.byte (effect_by i o p memory.byte) (effect_by i x p other.byte))
    (outcome_same i p memory other agree)
    (record { acted = refl; processor = refl; byte_is = λ at same. byte_left_same i o memory.byte other.byte at same })

-- ---- strings
-- where memories agree on an access, so does its number
number_same : (access : Access) (rest : List Access) (memory other : Memory) → All (AgreeOn memory other) (access ∷ rest)
    → number_at memory.byte access.addr access.len ≡ number_at other.byte access.addr access.len
number_same access rest memory other agree =
    ap (little_number access.len) (bytes_same access memory other (All-head (AgreeOn memory other) access rest agree))

-- the registers after an iteration
string_gprs_same : (op : StringOp) (size : ℕ) (wrap32 down : Bool) (source destination : ℕ) (gprs : List ℕ) (memory other : Memory)
    → All (AgreeOn memory other) (string_accesses op size source destination)
    → string_gprs op size wrap32 down source memory.byte gprs ≡ string_gprs op size wrap32 down source other.byte gprs
unfolding string_gprs string_accesses
string_gprs_same Movs size wrap32 down source destination gprs memory other agree = refl
string_gprs_same Cmps size wrap32 down source destination gprs memory other agree = refl
string_gprs_same Stos size wrap32 down source destination gprs memory other agree = refl
string_gprs_same Lods size wrap32 down source destination gprs memory other agree =
    ap (λ (number : ℕ). passed RSI size wrap32 down (with_register RAX (8 * size) number gprs)) (number_same (reads source size) [] memory other agree)
string_gprs_same Scas size wrap32 down source destination gprs memory other agree = refl

-- the flags after an iteration
string_flags_same : (op : StringOp) (size source destination : ℕ) (gprs : List ℕ) (f : Flags) (memory other : Memory)
    → All (AgreeOn memory other) (string_accesses op size source destination)
    → string_flags op size source destination memory.byte gprs f ≡ string_flags op size source destination other.byte gprs f
unfolding string_flags string_accesses
string_flags_same Movs size source destination gprs f memory other agree = refl
string_flags_same Cmps size source destination gprs f memory other agree =
    ap (λ (a : ℕ). compared size a (number_at memory.byte destination size) f) (number_same (reads source size) (reads destination size ∷ []) memory other agree)
    ∙ ap (λ (b : ℕ). compared size (number_at other.byte source size) b f)
    (number_same (reads destination size) [] memory other (All-tail (AgreeOn memory other) (reads source size) (reads destination size ∷ []) agree))
string_flags_same Stos size source destination gprs f memory other agree = refl
string_flags_same Lods size source destination gprs f memory other agree = refl
string_flags_same Scas size source destination gprs f memory other agree =
    ap (λ (b : ℕ). compared size (slice_index gprs RAX) b f) (number_same (reads destination size) [] memory other agree)

-- a byte after an iteration
string_byte_same : (op : StringOp) (size source destination : ℕ) (gprs : List ℕ) (memory other : Memory)
    → All (AgreeOn memory other) (string_accesses op size source destination) → (at : ℕ) → memory.byte at ≡ other.byte at
    → string_byte op size source destination gprs memory.byte at ≡ string_byte op size source destination gprs other.byte at
unfolding string_byte string_accesses
string_byte_same Movs size source destination gprs memory other agree at same =
    ap (λ (bytes : List ℕ). written memory.byte destination bytes at)
    (bytes_same (reads source size) memory other (All-head (AgreeOn memory other) (reads source size) (writes destination size ∷ []) agree))
    ∙ written_same memory.byte other.byte destination (bytes_at other.byte source size) at same
string_byte_same Cmps size source destination gprs memory other agree at same = same
string_byte_same Stos size source destination gprs memory other agree at same =
    written_same memory.byte other.byte destination (number_bytes size (slice_index gprs RAX)) at same
string_byte_same Lods size source destination gprs memory other agree at same = same
string_byte_same Scas size source destination gprs memory other agree at same = same

-- the accesses of an iteration
abbrev iteration : StringPlan → Processor → List Access
iteration i p = string_accesses i.op (bytes_in i.size) (source_of i p.gprs) (destination_of i p.gprs)

iterated-agrees : (i : StringPlan) (p : Processor) (memory other : Memory) → All (AgreeOn memory other) (iteration i p)
    → Agrees memory.byte other.byte (iterated i p memory.byte) (iterated i p other.byte)
unfolding gprs_iterated flags_iterated byte_iterated
iterated-agrees i p memory other agree = record {
  acted = refl;
  processor = λ k. record p { gprs = gprs k; flags = flags k; rip = cond (is_continued i (count_in i p.gprs) (flags k)) p.rip i.next; steps = p.steps + 1 };
  byte_is = string_byte_same i.op (bytes_in i.size) (source_of i p.gprs) (destination_of i p.gprs) p.gprs memory other agree;
}
  where
    gprs : gprs_iterated i p memory.byte ≡ gprs_iterated i p other.byte
    gprs =
        ap (with_count i (count_in i p.gprs))
        (string_gprs_same i.op (bytes_in i.size) i.wrap32 p.flags.df (source_of i p.gprs) (destination_of i p.gprs) p.gprs memory other agree)

    flags : flags_iterated i p memory.byte ≡ flags_iterated i p other.byte
    flags = string_flags_same i.op (bytes_in i.size) (source_of i p.gprs) (destination_of i p.gprs) p.gprs p.flags memory other agree

-- and a step without one
strings-agrees : (over : Bool) (i : StringPlan) (p : Processor) (memory other : Memory) → All (AgreeOn memory other) (cond over [] (iteration i p))
    → Agrees memory.byte other.byte (cond over (passed_over i p memory.byte) (iterated i p memory.byte))
    (cond over (passed_over i p other.byte) (iterated i p other.byte))
strings-agrees true i p memory other agree = record { acted = refl; processor = refl; byte_is = λ at same. same }
strings-agrees false i p memory other agree = iterated-agrees i p memory other agree

-- ---- pairs
-- a byte after an exchange
pair_byte_same : (equal : Bool) (i : PairPlan) (gprs : List ℕ) (byte other : ℕ → ℕ) (at : ℕ) → byte at ≡ other at
    → cond equal (pair_stored i gprs byte) byte at ≡ cond equal (pair_stored i gprs other) other at
pair_byte_same true i gprs byte other at same = written_same byte other i.addr _ at same
pair_byte_same false i gprs byte other at same = same

exchanged-agrees : (i : PairPlan) (found : ℕ) (p : Processor) (byte other : ℕ → ℕ) → Agrees byte other (exchanged i found p byte) (exchanged i found p other)
unfolding byte_exchanged
exchanged-agrees i found p byte other = record {
  acted = refl;
  processor = refl;
  byte_is = λ at same. pair_byte_same (is_equal i.half found p.gprs) i p.gprs byte other at same;
}

pair-agrees : (i : PairPlan) (p : Processor) (memory other : Memory) → All (AgreeOn memory other) (pair_write i ∷ [])
    → Agrees memory.byte other.byte (pair_effect i p memory.byte) (pair_effect i p other.byte)
unfolding pair_at
pair-agrees i p memory other agree =
    rw (← number_same (pair_write i) [] memory other agree) (exchanged-agrees i (pair_at i memory.byte) p memory.byte other.byte)

-- ---- vectors
vectors-agrees : (i : VectorPlan) (p : Processor) (memory other : Memory) → All (AgreeOn memory other) (vector_access i)
    → Agrees memory.byte other.byte (vectors_effect i p memory.byte) (vectors_effect i p other.byte)
vectors-agrees i p memory other agree =
    let same : All (SameIn memory.byte other.byte) (vector_access i) =
    All-weaker (AgreeOn memory other) (SameIn memory.byte other.byte) (λ access agrees at low high. (agrees at low high).1) (vector_access i) agree in
    record {
      acted = refl;
      processor = λ k. record p {
        gprs = gprs_same i p.gprs p.extended memory.byte other.byte same k;
        flags = flags_same i p.gprs p.extended memory.byte other.byte same p.flags k;
        rip = i.next;
        extended = extended_same i p.gprs p.extended memory.byte other.byte same k;
        steps = p.steps + 1;
      };
      byte_is = byte_same i p.gprs p.extended memory.byte other.byte same;
    }

-- ---- any kind
-- where memories agree along the accesses of a plan, so do its effects
pub plan-agrees : (plan : Plan) (s : State) (other : Memory) → All (AgreeOn s.memory other) (plan_accesses plan s)
    → Agrees s.memory.byte other.byte (effect_of plan (processor_of s) s.memory.byte) (effect_of plan (processor_of s) other.byte)
unfolding strings_access
plan-agrees (Plain i) s other agree = plain-agrees i (processor_of s) s.memory other agree
plan-agrees (OnStrings i) s other agree = strings-agrees (is_over i s.gprs) i (processor_of s) s.memory other agree
plan-agrees (OnPair i) s other agree = pair-agrees i (processor_of s) s.memory other agree
plan-agrees (OnVectors i) s other agree = vectors-agrees i (processor_of s) s.memory other agree
plan-agrees (Clears i) s other agree = record { acted = refl; processor = refl; byte_is = λ at same. same }
plan-agrees (Identifies i) s other agree = record { acted = refl; processor = refl; byte_is = λ at same. same }

-- a state with another memory
abbrev with_memory : State → Memory → State
with_memory s other = record s { memory = other }

-- an effect is by what is seen, which is the same
carried-same : (xs : List Access) (plan : Plan) (s : State) (other : Memory) → All (AgreeOn s.memory other) xs
    → IsSame s.memory other (carried_out xs plan s) (carried_out xs plan (with_memory s other))
carried-same xs plan s other agree =
    let e : Effect = effect_of plan (processor_of s) (seen_in xs s.memory.byte) in
    subst (λ (seen : ℕ → ℕ). IsSame s.memory other (after_effect xs e s.memory) (after_effect xs (effect_of plan (processor_of s) seen) other))
    (seen_same xs s.memory other agree)
    (record {
      acted = refl;
      state = refl;
      perms_stay = (refl, refl);
      byte_is = λ at same. put_in-same xs e.byte s.memory.byte other.byte at same;
    })

-- a fault changes nothing
trapped-same : (fault : Fault) (s : State) (other : Memory) → IsSame s.memory other (trapped fault s) (trapped fault (with_memory s other))
trapped-same fault s other = record { acted = refl; state = refl; perms_stay = (refl, refl); byte_is = λ at same. same }

unless-same : (fault : Option Fault) (xs : List Access) (plan : Plan) (s : State) (other : Memory) → All (AgreeOn s.memory other) xs
    → IsSame s.memory other (unless fault xs plan s) (unless fault xs plan (with_memory s other))
unless-same (Some fault) xs plan s other agree = trapped-same fault s other
unless-same None xs plan s other agree = carried-same xs plan s other agree

along-same : (xs : List Access) (plan : Plan) (s : State) (other : Memory) → All (AgreeOn s.memory other) xs
    → IsSame s.memory other (performed_along xs plan s) (performed_along xs plan (with_memory s other))
along-same xs plan s other agree =
    subst (λ (fault : Option Fault). IsSame s.memory other (performed_along xs plan s) (unless fault xs plan (with_memory s other)))
    (first_fault_same xs s.memory other agree) (unless-same (first_fault s.memory.perms xs) xs plan s other agree)

-- ---- the plan of an instruction doesn't depend on memory
instruction_same : (row : Row) (d : Decoded) (next : ℕ) (s : State) (other : Memory)
    → instruction_of row d next (with_memory s other) ≡ instruction_of row d next s
unfolding instruction_of instruction_by
instruction_same row d next s other = refl

pair_of_same : (row : Row) (d : Decoded) (next : ℕ) (s : State) (other : Memory)
    → pair_of row d next (with_memory s other) ≡ pair_of row d next s
unfolding pair_of
pair_of_same row d next s other = refl

strings_of_same : (op : StringOp) (row : Row) (d : Decoded) (next : ℕ) (s : State) (other : Memory)
    → strings_of op row d next (with_memory s other) ≡ strings_of op row d next s
unfolding strings_of
strings_of_same op row d next s other = refl

vectors_of_same : (row : Row) (d : Decoded) (next : ℕ) (s : State) (other : Memory)
    → vectors_of row d next (with_memory s other) ≡ vectors_of row d next s
unfolding vectors_of
vectors_of_same row d next s other = refl

plan_by_same : (way : Way) (row : Row) (d : Decoded) (next : ℕ) (s : State) (other : Memory)
    → plan_by way row d next (with_memory s other) ≡ plan_by way row d next s
plan_by_same Numbers row d next s other = ap Plain (instruction_same row d next s other)
plan_by_same (Strings op) row d next s other = ap OnStrings (strings_of_same op row d next s other)
plan_by_same Pair row d next s other = ap OnPair (pair_of_same row d next s other)
plan_by_same Vectors row d next s other = ap OnVectors (vectors_of_same row d next s other)
plan_by_same (ClearsBytes clearing) row d next s other = refl
plan_by_same IdentifiesProcessor row d next s other = refl

plan_of_same : (row : Row) (d : Decoded) (len : ℕ) (s : State) (other : Memory)
    → plan_of row d len (with_memory s other) ≡ plan_of row d len s
unfolding plan_of
plan_of_same row d len s other = plan_by_same (way_of row.op) row d (next_of len s) s other

-- nor do its access list and its alignment
accesses-same : (plan : Plan) (s : State) (other : Memory) → plan_accesses plan (with_memory s other) ≡ plan_accesses plan s
accesses-same (Plain i) s other = refl
accesses-same (OnStrings i) s other = refl
accesses-same (OnPair i) s other = refl
accesses-same (OnVectors i) s other = refl
accesses-same (Clears i) s other = refl
accesses-same (Identifies i) s other = refl

misaligned-same : (row : Row) (d : Decoded) (len : ℕ) (s : State) (other : Memory)
    → is_misaligned row d len (with_memory s other) ≡ is_misaligned row d len s
unfolding is_misaligned
misaligned-same row d len s other = refl

-- ---- the whole
performed_as-same : (plan : Plan) (s : State) (other : Memory) → All (AgreeOn s.memory other) (plan_accesses plan s)
    → IsSame s.memory other (performed_as plan s) (performed_as plan (with_memory s other))
unfolding performed_as
performed_as-same plan s other agree =
    subst (λ (xs : List Access). IsSame s.memory other (performed_along (plan_accesses plan s) plan s) (performed_along xs plan (with_memory s other)))
    (sym (accesses-same plan s other)) (along-same (plan_accesses plan s) plan s other agree)

by_alignment-same : (misaligned : Bool) (plan : Plan) (s : State) (other : Memory)
    → All (AgreeOn s.memory other) (cond misaligned [] (plan_accesses plan s))
    → IsSame s.memory other (cond misaligned (trapped General s) (performed_as plan s))
    (cond misaligned (trapped General (with_memory s other)) (performed_as plan (with_memory s other)))
by_alignment-same true plan s other agree = trapped-same General s other
by_alignment-same false plan s other agree = performed_as-same plan s other agree

-- by the row, where there is one
local_row : (found : Option Row) (d : Decoded) (len : ℕ) (s : State) (other : Memory)
    → All (AgreeOn s.memory other) (accesses_by found d len s)
    → IsSame s.memory other (performed_row found d len s) (performed_row found d len (with_memory s other))
local_row (Some row) d len s other agree =
    rw (misaligned-same row d len s other, plan_of_same row d len s other)
    (by_alignment-same (is_misaligned row d len s) (plan_of row d len s) s other agree)
local_row None d len s other agree = trapped-same Undefined s other

-- an instruction over memories that agree along its accesses gives the same
pub local : (d : Decoded) (len : ℕ) (s : State) → IsLocal d len s
unfolding accesses performed
local d len s = λ other agree. local_row (slice_get rows d.row) d len s other agree

-- An instruction writes within its accesses alone.
use Rattle.std.proofs.Common.{◌≡◌, ℕ, ◌+◌, ◌*◌, ◌%◌, ◌^◌, ◌<◌, ◌≤◌, ◌⊎◌, Bool, true, false, cond, List, [], ◌∷◌, Option, Some, None, refl, sym, slice_get, length}
use Rattle.std.specs.List.{All}
use Rattle.std.proofs.lemmas.List.Elements.{All-head, All-tail, All-weaker}
use Rattle.byteorder.specs.Numbers.{length-bytes_low_first}
use Rattle.machine_state.specs.declared.kinds.Kind.TheVariants.{Write}
use Rattle.gpr_flags.specs.declared.kinds.Fault.{Fault}
use Rattle.gpr_flags.specs.declared.kinds.Fault.TheVariants.{General}
use Rattle.machine_state.specs.Memory.{bytes_at, number_bytes}
use Rattle.machine_state.specs.State.{State}
use Rattle.machine_state.proofs.MemoryLemmas.{length-bytes_at}
use Rattle.row_table.specs.declared.kinds.Row.{Row}
use Rattle.row_table.specs.declared.kinds.Decoded.{Decoded}
use Rattle.row_table.specs.declared.operations.StringOp.{StringOp}
use Rattle.row_table.specs.declared.operations.StringOp.TheVariants.{Movs, Cmps, Stos, Lods, Scas}
use Rattle.row_table.specs.Rows.{rows}
use Rattle.string_unit.specs.Strings.{reads, writes, string_accesses, string_byte}
use Rattle.core_step.specs.declared.sizes.Size.{Size}
use Rattle.core_step.specs.declared.kinds.Operand.{Operand}
use Rattle.core_step.specs.declared.kinds.Operand.TheVariants.{Absent, Register, HighByte, Memory as InMemory, Number, Mxcsr, Opmask}
use Rattle.core_step.specs.declared.kinds.Use.{Use}
use Rattle.core_step.specs.declared.kinds.Use.TheVariants.{Read as Reads, Write as Writes, Update}
use Rattle.core_step.specs.declared.kinds.Instruction.{Instruction}
use Rattle.core_step.specs.declared.kinds.Outcome.{Outcome}
use Rattle.core_step.specs.declared.strings.StringPlan.{StringPlan}
use Rattle.core_step.specs.declared.pair.PairPlan.{PairPlan}
use Rattle.core_step.specs.declared.kinds.Plan.{Plan}
use Rattle.core_step.specs.declared.kinds.Plan.TheVariants.{Plain, OnStrings, OnPair, OnVectors, Clears, Identifies}
use Rattle.machine_state.specs.declared.kinds.Access.{Access}
use Rattle.core_step.specs.Size.{bytes_in}
use Rattle.core_step.specs.Access.{operand_access, kind_of, accesses_of, first_fault}
use Rattle.core_step.specs.Effect.{Processor, Effect, processor_of, seen_in, put_in, left_by}
use Rattle.core_step.specs.Plain.{number_for, byte_after, byte_left, outcome_in}
use Rattle.core_step.specs.Strings.{is_over, source_of, destination_of, strings_access, passed_over, iterated, byte_iterated}
use Rattle.core_step.specs.Pair.{pair_bytes, pair_write, is_equal, pair_at, pair_stored, byte_exchanged, pair_effect}
use Rattle.core_step.specs.Plan.{plan_of, plan_accesses, effect_of}
use Rattle.core_step.specs.Alignment.{is_misaligned}
use Rattle.core_step.specs.Act.{trapped, carried_out, unless, performed_as, performed_row, performed}
use Rattle.core_step.specs.Machine.{accesses, accesses_by, AgreeOn, SparesByte, IsFramed}
use Rattle.core_step.proofs.Parts.{All-destination}
use Rattle.core_step.proofs.Seeing.{agree-seen, seen_memory, put_in-spared, put_in-is, HasAt}
use Rattle.core_step.proofs.Local.{Agrees, plan-agrees}
use Rattle.vec_step.proofs.Accesses.{written_outside}
use Rattle.vec_step.proofs.Locality.{byte_spared}

-- a number has as many bytes as its size says
length-number_bytes : (size number : ℕ) → length (number_bytes size number) ≡ size
length-number_bytes size number = length-bytes_low_first 0 size (number % 2 ^ (8 * size))

-- an access of kind write that spares a byte lies below it or above it
spared-write : (addr len at : ℕ) (rest : List Access) → All (SparesByte at) (record { kind = Write; addr = addr; len = len } ∷ rest)
    → (at < addr) ⊎ (addr + len ≤ at)
spared-write addr len at rest spared = All-head (SparesByte at) _ rest spared refl

-- a number that goes to an operand changes no byte but those of its access
byte_after-spared : (operand : Operand) (size : Size) (number : Option ℕ) (byte : ℕ → ℕ) (at : ℕ)
    → All (SparesByte at) (operand_access Write operand size) → byte_after operand size number byte at ≡ byte at
byte_after-spared operand size None byte at spared = refl
byte_after-spared Absent size (Some number) byte at spared = refl
byte_after-spared (Register to) size (Some number) byte at spared = refl
byte_after-spared (HighByte to) size (Some number) byte at spared = refl
byte_after-spared (InMemory addr) size (Some number) byte at spared =
    written_outside byte addr (bytes_in size) (number_bytes (bytes_in size) number) at (length-number_bytes (bytes_in size) number)
    (spared-write addr (bytes_in size) at [] spared)
byte_after-spared (Number to) size (Some number) byte at spared = refl
byte_after-spared Mxcsr size (Some number) byte at spared = refl
byte_after-spared (Opmask to) size (Some number) byte at spared = refl

-- a destination that is only read gets no number, and each other is accessed by a write
number_for-spared : (usage : Use) (operand : Operand) (size : Size) (number : Option ℕ) (byte : ℕ → ℕ) (at : ℕ)
    → All (SparesByte at) (operand_access (kind_of usage) operand size)
    → byte_after operand size (number_for usage number) byte at ≡ byte at
number_for-spared Reads operand size number byte at spared = refl
number_for-spared Writes operand size number byte at spared = byte_after-spared operand size number byte at spared
number_for-spared Update operand size number byte at spared = byte_after-spared operand size number byte at spared

-- an outcome changes no byte but those of the instruction's accesses
byte_left-spared : (i : Instruction) (o : Outcome) (byte : ℕ → ℕ) (at : ℕ) → All (SparesByte at) (accesses_of i)
    → byte_left i o byte at ≡ byte at
unfolding byte_left
byte_left-spared i o byte at spared =
    number_for-spared i.usage i.destination i.size o.destination byte at (All-destination (SparesByte at) i spared)

-- ---- strings
-- an iteration changes no byte but those of its accesses
string_byte-spared : (op : StringOp) (size source destination : ℕ) (gprs : List ℕ) (byte : ℕ → ℕ) (at : ℕ)
    → All (SparesByte at) (string_accesses op size source destination) → string_byte op size source destination gprs byte at ≡ byte at
unfolding string_byte string_accesses
string_byte-spared Movs size source destination gprs byte at spared =
    written_outside byte destination size (bytes_at byte source size) at (length-bytes_at byte source size)
    (spared-write destination size at [] (All-tail (SparesByte at) (reads source size) (writes destination size ∷ []) spared))
string_byte-spared Cmps size source destination gprs byte at spared = refl
string_byte-spared Stos size source destination gprs byte at spared =
    written_outside byte destination size _ at (length-bytes_low_first 0 size _) (spared-write destination size at [] spared)
string_byte-spared Lods size source destination gprs byte at spared = refl
string_byte-spared Scas size source destination gprs byte at spared = refl

-- nor does a step without one
strings-spared : (over : Bool) (i : StringPlan) (p : Processor) (byte : ℕ → ℕ) (at : ℕ)
    → All (SparesByte at) (cond over [] (string_accesses i.op (bytes_in i.size) (source_of i p.gprs) (destination_of i p.gprs)))
    → (cond over (passed_over i p byte) (iterated i p byte)).byte at ≡ byte at
unfolding byte_iterated
strings-spared true i p byte at spared = refl
strings-spared false i p byte at spared =
    string_byte-spared i.op (bytes_in i.size) (source_of i p.gprs) (destination_of i p.gprs) p.gprs byte at spared

-- ---- pairs
-- an exchange changes no byte but those of its access
pair_byte-spared : (equal : Bool) (i : PairPlan) (gprs : List ℕ) (byte : ℕ → ℕ) (at : ℕ)
    → All (SparesByte at) (pair_write i ∷ []) → cond equal (pair_stored i gprs byte) byte at ≡ byte at
pair_byte-spared true i gprs byte at spared =
    written_outside byte i.addr (pair_bytes i) _ at (length-bytes_low_first 0 (pair_bytes i) _) (spared-write i.addr (pair_bytes i) at [] spared)
pair_byte-spared false i gprs byte at spared = refl

pair-spared : (i : PairPlan) (p : Processor) (byte : ℕ → ℕ) (at : ℕ) → All (SparesByte at) (pair_write i ∷ [])
    → (pair_effect i p byte).byte at ≡ byte at
unfolding byte_exchanged
pair-spared i p byte at spared = pair_byte-spared (is_equal i.half (pair_at i byte) p.gprs) i p.gprs byte at spared

-- ---- any kind
-- what an effect has outside of the write accesses is what stood there
plan-spared : (plan : Plan) (s : State) (at : ℕ) → All (SparesByte at) (plan_accesses plan s)
    → (effect_of plan (processor_of s) s.memory.byte).byte at ≡ s.memory.byte at
unfolding strings_access
plan-spared (Plain i) s at spared = byte_left-spared i (outcome_in i (processor_of s) s.memory.byte) s.memory.byte at spared
plan-spared (OnStrings i) s at spared = strings-spared (is_over i s.gprs) i (processor_of s) s.memory.byte at spared
plan-spared (OnPair i) s at spared = pair-spared i (processor_of s) s.memory.byte at spared
plan-spared (OnVectors i) s at spared = byte_spared i s.gprs s.extended s.memory.byte at spared
plan-spared (Clears i) s at spared = refl
plan-spared (Identifies i) s at spared = refl

-- so an effect by what is seen of memory, put to the write accesses, is the one by all of memory
pub carried-is : (plan : Plan) (s : State)
    → carried_out (plan_accesses plan s) plan s ≡ left_by (effect_of plan (processor_of s) s.memory.byte) s.memory
carried-is plan s = λ k. record {
  acted = sym agrees.acted k;
  state = record {
    gprs = (sym agrees.processor k).gprs;
    flags = (sym agrees.processor k).flags;
    rip = (sym agrees.processor k).rip;
    extended = (sym agrees.processor k).extended;
    fs = (sym agrees.processor k).fs;
    gs = (sym agrees.processor k).gs;
    steps = (sym agrees.processor k).steps;
    memory = record s.memory { byte = λ at. byte at k };
  };
}
  where
    xs : List Access
    xs = plan_accesses plan s

    whole : Effect
    whole = effect_of plan (processor_of s) s.memory.byte

    part : Effect
    part = effect_of plan (processor_of s) (seen_in xs s.memory.byte)

    agrees : Agrees s.memory.byte (seen_in xs s.memory.byte) whole part
    agrees = plan-agrees plan s (seen_memory xs s.memory) (agree-seen xs s.memory)

    byte : (at : ℕ) → put_in xs part.byte s.memory.byte at ≡ whole.byte at
    byte at =
        put_in-is xs part.byte s.memory.byte at (whole.byte at)
        (All-weaker (AgreeOn s.memory (seen_memory xs s.memory)) (HasAt part.byte at (whole.byte at))
        (λ access agree is low high. sym (agrees.byte_is at (agree at low high).1)) xs (agree-seen xs s.memory))
        (λ spared. sym (plan-spared plan s at spared))

-- ---- the whole
unless-spared : (fault : Option Fault) (xs : List Access) (plan : Plan) (s : State) (at : ℕ) → All (SparesByte at) xs
    → (unless fault xs plan s).state.memory.byte at ≡ s.memory.byte at
unless-spared (Some fault) xs plan s at spared = refl
unless-spared None xs plan s at spared = put_in-spared xs (effect_of plan (processor_of s) (seen_in xs s.memory.byte)).byte s.memory.byte at spared

framed_as : (plan : Plan) (s : State) (at : ℕ) → All (SparesByte at) (plan_accesses plan s)
    → (performed_as plan s).state.memory.byte at ≡ s.memory.byte at
unfolding performed_as
framed_as plan s at spared = unless-spared (first_fault s.memory.perms (plan_accesses plan s)) (plan_accesses plan s) plan s at spared

by_alignment-spared : (misaligned : Bool) (plan : Plan) (s : State) (at : ℕ) → All (SparesByte at) (cond misaligned [] (plan_accesses plan s))
    → (cond misaligned (trapped General s) (performed_as plan s)).state.memory.byte at ≡ s.memory.byte at
by_alignment-spared true plan s at spared = refl
by_alignment-spared false plan s at spared = framed_as plan s at spared

-- by the row, where there is one
framed_row : (found : Option Row) (d : Decoded) (len : ℕ) (s : State) (at : ℕ) → All (SparesByte at) (accesses_by found d len s)
    → (performed_row found d len s).state.memory.byte at ≡ s.memory.byte at
framed_row (Some row) d len s at spared = by_alignment-spared (is_misaligned row d len s) (plan_of row d len s) s at spared
framed_row None d len s at spared = refl

-- an instruction writes within its accesses alone
pub framed : (d : Decoded) (len : ℕ) (s : State) → IsFramed d len s
unfolding accesses performed
framed d len s = λ at spared. framed_row (slice_get rows d.row) d len s at spared

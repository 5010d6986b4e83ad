-- Instructions that take numbers and put others to their places.
use Rattle.std.specs.Prelude.{ℕ, ◌+◌, ◌/◌, ◌%◌, ◌^◌, List, Option, Some, None, slice_index, slice_set}
use Rattle.machine_state.specs.Memory.{written, number_at, number_bytes}
use Rattle.machine_state.specs.State.{Extended}
use Rattle.gpr_flags.specs.Registers.{RSP, with_register}
use Rattle.num_lanes.specs.Setters.{with_mxcsr, with_k}
use Rattle.core_step.specs.declared.acted.Acted.{Acted}
use Rattle.core_step.specs.declared.acted.Acted.TheVariants.{Done}
use Rattle.core_step.specs.declared.sizes.Size.{Size}
use Rattle.core_step.specs.declared.kinds.Operand.{Operand}
use Rattle.core_step.specs.declared.kinds.Operand.TheVariants.{Absent, Register, HighByte, Memory, Number, Mxcsr, Opmask}
use Rattle.core_step.specs.declared.kinds.Use.{Use}
use Rattle.core_step.specs.declared.kinds.Use.TheVariants.{Read, Write, Update}
use Rattle.core_step.specs.declared.kinds.Instruction.{Instruction}
use Rattle.core_step.specs.declared.kinds.Outcome.{Outcome}
use Rattle.core_step.specs.Size.{bytes_in, bits_in, cut, with_high_byte}
use Rattle.core_step.specs.Effect.{Processor, Effect}
use Rattle.core_step.specs.Result.{outcome_of}

-- ---- the numbers of operands
-- the number of an operand that isn't in memory
abbrev pub register_value : Operand → Size → Processor → ℕ
register_value Absent size p = 0
register_value (Register number) size p = cut size (slice_index p.gprs number)
register_value (HighByte number) size p = cut size (slice_index p.gprs number / 2 ^ 8)
register_value (Memory addr) size p = 0
register_value (Number number) size p = cut size number
register_value Mxcsr size p = cut size p.extended.mxcsr
register_value (Opmask number) size p = cut size (slice_index p.extended.k number)

unfoldable pub value_of : Operand → Size → Processor → (ℕ → ℕ) → ℕ
value_of (Memory addr) size p byte = number_at byte addr (bytes_in size)
value_of Absent size p byte = register_value Absent size p
value_of (Register number) size p byte = register_value (Register number) size p
value_of (HighByte number) size p byte = register_value (HighByte number) size p
value_of (Number number) size p byte = register_value (Number number) size p
value_of Mxcsr size p byte = register_value Mxcsr size p
value_of (Opmask number) size p byte = register_value (Opmask number) size p

-- what stood in the destination; where it is only written, that doesn't count
abbrev pub old_value : Use → Operand → Size → Processor → (ℕ → ℕ) → ℕ
old_value Read operand size p byte = value_of operand size p byte
old_value Update operand size p byte = value_of operand size p byte
old_value Write operand size p byte = 0

-- ---- where the numbers go
abbrev pub gprs_with : Operand → Size → ℕ → List ℕ → List ℕ
gprs_with Absent size number gprs = gprs
gprs_with (Register to) size number gprs = with_register to (bits_in size) number gprs
gprs_with (HighByte to) size number gprs = slice_set gprs to (with_high_byte (slice_index gprs to) number)
gprs_with (Memory addr) size number gprs = gprs
gprs_with (Number other) size number gprs = gprs
gprs_with Mxcsr size number gprs = gprs
gprs_with (Opmask to) size number gprs = gprs

-- the registers with a number in an operand, where there is a number and the operand is a register
abbrev pub gprs_after : Operand → Size → Option ℕ → List ℕ → List ℕ
gprs_after operand size None gprs = gprs
gprs_after operand size (Some number) gprs = gprs_with operand size number gprs

abbrev pub byte_with : Operand → Size → ℕ → (ℕ → ℕ) → ℕ → ℕ
byte_with (Memory addr) size number byte = written byte addr (number_bytes (bytes_in size) number)
byte_with Absent size number byte = byte
byte_with (Register to) size number byte = byte
byte_with (HighByte to) size number byte = byte
byte_with (Number other) size number byte = byte
byte_with Mxcsr size number byte = byte
byte_with (Opmask to) size number byte = byte

-- the bytes of memory with a number in an operand, where there is a number and the operand is in memory
abbrev pub byte_after : Operand → Size → Option ℕ → (ℕ → ℕ) → ℕ → ℕ
byte_after operand size None byte = byte
byte_after operand size (Some number) byte = byte_with operand size number byte

-- MXCSR has sixteen bits (SDM volume 1, 10.2.3), and an opmask is 0 above the number (SDM volume 2, KMOVW/KMOVB/KMOVQ/KMOVD)
abbrev pub extended_with : Operand → Size → ℕ → Extended → Extended
extended_with Mxcsr size number extended = with_mxcsr (number % 2 ^ 16) extended
extended_with (Opmask to) size number extended = with_k to (cut size number) extended
extended_with Absent size number extended = extended
extended_with (Register to) size number extended = extended
extended_with (HighByte to) size number extended = extended
extended_with (Memory addr) size number extended = extended
extended_with (Number other) size number extended = extended

-- the extended state with a number in an operand, where there is a number and the operand is of that state
abbrev pub extended_after : Operand → Size → Option ℕ → Extended → Extended
extended_after operand size None extended = extended
extended_after operand size (Some number) extended = extended_with operand size number extended

-- the new rsp, where there is one
abbrev pub gprs_stacked : Option ℕ → List ℕ → List ℕ
gprs_stacked None gprs = gprs
gprs_stacked (Some rsp) gprs = slice_set gprs RSP rsp

-- what goes to a destination; one that is only read gets nothing
abbrev pub number_for : Use → Option ℕ → Option ℕ
number_for Read number = None
number_for Write number = number
number_for Update number = number

abbrev pub destination_number : Instruction → Outcome → Option ℕ
destination_number i o = number_for i.usage o.destination

-- the registers after an outcome: rsp first, then what is written beside the destination, and last the destination
unfoldable pub gprs_left : Instruction → Outcome → List ℕ → List ℕ
gprs_left i o gprs =
    gprs_after i.destination i.size (destination_number i o)
    (gprs_after i.also i.size o.also (gprs_stacked o.stack gprs))

unfoldable pub byte_left : Instruction → Outcome → (ℕ → ℕ) → ℕ → ℕ
byte_left i o byte = byte_after i.destination i.size (destination_number i o) byte

-- what is written beside the destination is a general register
unfoldable pub extended_left : Instruction → Outcome → Extended → Extended
extended_left i o extended = extended_after i.destination i.size (destination_number i o) extended

-- only a completed instruction is counted
abbrev pub steps_after : Acted → ℕ → ℕ
steps_after Done steps = steps + 1
steps_after acted steps = steps

-- ---- the whole
-- the processor after an outcome
abbrev pub processor_left : Instruction → Outcome → Processor → Processor
processor_left i o p = record p {
  gprs = gprs_left i o p.gprs;
  flags = o.flags;
  rip = o.rip;
  extended = extended_left i o p.extended;
  steps = steps_after o.acted p.steps;
}

abbrev pub effect_by : Instruction → Outcome → Processor → (ℕ → ℕ) → Effect
effect_by i o p byte = record { acted = o.acted; processor = processor_left i o p; byte = byte_left i o byte }

abbrev pub outcome_in : Instruction → Processor → (ℕ → ℕ) → Outcome
outcome_in i p byte =
    outcome_of i (old_value i.usage i.destination i.size p byte) (value_of i.source i.source_size p byte)
    (register_value i.beside i.beside_size p) p.flags p.steps

-- the effect, by the bytes of memory
abbrev pub plain_effect : Instruction → Processor → (ℕ → ℕ) → Effect
plain_effect i p byte = effect_by i (outcome_in i p byte) p byte

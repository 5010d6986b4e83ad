-- MOVS, CMPS, STOS, LODS and SCAS with their prefixes: one iteration, or none where the count is 0 (SDM volume 2,
-- REP/REPE/REPZ/REPNE/REPNZ, and the pages of these instructions).
use Rattle.std.specs.Prelude.{ℕ, ◌+◌, ◌-◌, ◌%◌, ◌^◌, ◌==◌, Bool, true, false, not, ◌&&◌, if◌then◌else◌, List, [], slice_index, slice_set}
use Rattle.gpr_flags.specs.declared.kinds.Flags.{Flags}
use Rattle.gpr_flags.specs.Registers.{RCX}
use Rattle.row_table.specs.declared.kinds.Row.{Row}
use Rattle.row_table.specs.declared.kinds.Fields.{Fields}
use Rattle.row_table.specs.declared.kinds.Decoded.{Decoded}
use Rattle.row_table.specs.declared.operations.StringOp.{StringOp}
use Rattle.row_table.specs.declared.operations.StringOp.TheVariants.{Cmps, Scas}
use Rattle.machine_state.specs.State.{State}
use Rattle.core_step.specs.declared.acted.Acted.TheVariants.{Done}
use Rattle.machine_state.specs.declared.kinds.Access.{Access}
use Rattle.string_unit.specs.Strings.{place_bits, source_place, destination_place, string_accesses, string_gprs, string_flags, string_byte}
use Rattle.core_step.specs.declared.strings.Repeat.{Repeat}
use Rattle.core_step.specs.declared.strings.Repeat.TheVariants.{Once, WhileEqual, WhileUnequal}
use Rattle.core_step.specs.declared.strings.StringPlan.{StringPlan}
use Rattle.core_step.specs.Size.{bytes_in}
use Rattle.core_step.specs.Address.{segment_base}
use Rattle.core_step.specs.declared.kinds.StackUse.TheVariants.{Aside}
use Rattle.core_step.specs.Operands.{row_size, bases_for}
use Rattle.core_step.specs.Effect.{Processor, Effect}

-- what the last of the prefixes F2 and F3 says
abbrev pub repeat_of : Fields → Repeat
repeat_of f = if f.rep == 0xF3 then WhileEqual else if f.rep == 0xF2 then WhileUnequal else Once

-- the instruction of a row and its fields; with prefix 67 esi, edi and ecx count
unfoldable pub strings_of : StringOp → Row → Decoded → (next : ℕ) → State → StringPlan
strings_of op row d next s = record {
  op = op;
  size = row_size row d.fields;
  wrap32 = d.fields.p67;
  base = segment_base d.fields (bases_for Aside (row_size row d.fields) s next);
  repeat = repeat_of d.fields;
  next = next;
}

-- F2 and F3 repeat it
abbrev pub is_repeated : Repeat → Bool
is_repeated Once = false
is_repeated WhileEqual = true
is_repeated WhileUnequal = true

-- the count: rcx, or ecx
abbrev pub count_in : StringPlan → List ℕ → ℕ
count_in i gprs = slice_index gprs RCX % 2 ^ place_bits i.wrap32

-- a repeated instruction whose count is 0 does nothing
abbrev pub is_over : StringPlan → List ℕ → Bool
is_over i gprs = is_repeated i.repeat && count_in i gprs == 0

-- the places of the operands
abbrev pub source_of : StringPlan → List ℕ → ℕ
source_of i gprs = source_place i.wrap32 i.base gprs

abbrev pub destination_of : StringPlan → List ℕ → ℕ
destination_of i gprs = destination_place i.wrap32 gprs

-- the access list
unfoldable pub strings_access : StringPlan → List ℕ → List Access
strings_access i gprs =
    if is_over i gprs then [] else string_accesses i.op (bytes_in i.size) (source_of i gprs) (destination_of i gprs)

-- ---- an iteration
-- the registers with a count that is one less; the upper half of rcx is cleared with prefix 67
abbrev pub with_count : StringPlan → (count : ℕ) → List ℕ → List ℕ
with_count i count gprs = if is_repeated i.repeat then slice_set gprs RCX (count - 1) else gprs

-- whether the flags of a comparison let it be repeated
abbrev pub is_met : Repeat → Flags → Bool
is_met Once flags = false
is_met WhileEqual flags = flags.zf
is_met WhileUnequal flags = not flags.zf

-- that counts for CMPS and SCAS alone
unfoldable pub goes_on : StringOp → Repeat → Flags → Bool
goes_on Cmps repeat flags = is_met repeat flags
goes_on Scas repeat flags = is_met repeat flags
goes_on op repeat flags = true

-- whether another iteration follows, by the count before this one and the flags after it
abbrev pub is_continued : StringPlan → (count : ℕ) → Flags → Bool
is_continued i count flags = is_repeated i.repeat && (not (count - 1 == 0) && goes_on i.op i.repeat flags)

unfoldable pub gprs_iterated : StringPlan → Processor → (ℕ → ℕ) → List ℕ
gprs_iterated i p byte =
    with_count i (count_in i p.gprs)
    (string_gprs i.op (bytes_in i.size) i.wrap32 p.flags.df (source_of i p.gprs) byte p.gprs)

unfoldable pub flags_iterated : StringPlan → Processor → (ℕ → ℕ) → Flags
flags_iterated i p byte = string_flags i.op (bytes_in i.size) (source_of i p.gprs) (destination_of i p.gprs) byte p.gprs p.flags

unfoldable pub byte_iterated : StringPlan → Processor → (ℕ → ℕ) → ℕ → ℕ
byte_iterated i p byte = string_byte i.op (bytes_in i.size) (source_of i p.gprs) (destination_of i p.gprs) p.gprs byte

-- the instruction pointer stays where another iteration follows
abbrev pub rip_iterated : StringPlan → Processor → (ℕ → ℕ) → ℕ
rip_iterated i p byte = if is_continued i (count_in i p.gprs) (flags_iterated i p byte) then p.rip else i.next

-- the effect of an iteration
abbrev pub iterated : StringPlan → Processor → (ℕ → ℕ) → Effect
iterated i p byte = record {
  acted = Done;
  processor = record p {
    gprs = gprs_iterated i p byte;
    flags = flags_iterated i p byte;
    rip = rip_iterated i p byte;
    steps = p.steps + 1;
  };
  byte = byte_iterated i p byte;
}

-- and where nothing is done
abbrev pub passed_over : StringPlan → Processor → (ℕ → ℕ) → Effect
passed_over i p byte = record { acted = Done; processor = record p { rip = i.next; steps = p.steps + 1 }; byte = byte }

-- the effect, by the bytes of memory
abbrev pub strings_effect : StringPlan → Processor → (ℕ → ℕ) → Effect
strings_effect i p byte = if is_over i p.gprs then passed_over i p byte else iterated i p byte

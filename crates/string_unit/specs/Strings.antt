-- One iteration of MOVS, CMPS, STOS, LODS and SCAS (SDM volume 2, the pages of these instructions).
use Rattle.std.specs.Prelude.{ℕ, ◌+◌, ◌-◌, ◌*◌, ◌%◌, ◌^◌, Bool, true, false, if◌then◌else◌, List, [], ◌∷◌, Option, slice_index, slice_set}
use Rattle.std.specs.Option.{option_map}
use Rattle.gpr_flags.specs.declared.kinds.Flags.{Flags}
use Rattle.gpr_flags.specs.Registers.{RAX, RSI, RDI, with_register}
use Rattle.row_table.specs.declared.operations.Op.{Op}
use Rattle.row_table.specs.declared.operations.Op.TheVariants.{String}
use Rattle.row_table.specs.declared.operations.StringOp.{StringOp}
use Rattle.row_table.specs.declared.operations.StringOp.TheVariants.{Movs, Cmps, Stos, Lods, Scas}
use Rattle.gpr_units.specs.Alu.{difference_flags}
use Rattle.machine_state.specs.declared.kinds.Kind.TheVariants.{Read, Write}
use Rattle.machine_state.specs.declared.kinds.Miss.{Miss}
use Rattle.machine_state.specs.Memory.{bytes_at, written, number_at, number_bytes}
use Rattle.guest_pages.specs.Table.{Table}
use Rattle.guest_pages.specs.Walk.{walk}
use Rattle.machine_state.specs.declared.kinds.Access.{Access}

-- the operations on strings
abbrev pub is_string : Op → Bool
is_string (String op) = true
is_string _ = false

-- which of them an operation is; no other operation comes
abbrev pub string_op : Op → StringOp
string_op (String op) = op
string_op _ = Movs

-- ---- where the operands are
-- how many bits of rsi and rdi count: with prefix 67 the low 32 (SDM volume 1, 3.3.7)
abbrev pub place_bits : (wrap32 : Bool) → ℕ
place_bits wrap32 = if wrap32 then 32 else 64

-- the operand at rsi, of which the base of a segment counts
unfoldable pub source_place : (wrap32 : Bool) (base : ℕ) → List ℕ → ℕ
source_place wrap32 base gprs = (slice_index gprs RSI % 2 ^ place_bits wrap32 + base) % 2 ^ 64

-- the operand at rdi, of which no base does
unfoldable pub destination_place : (wrap32 : Bool) → List ℕ → ℕ
destination_place wrap32 gprs = slice_index gprs RDI % 2 ^ place_bits wrap32

-- ---- what is accessed
abbrev pub reads : (addr size : ℕ) → Access
reads addr size = record { kind = Read; addr = addr; len = size }

abbrev pub writes : (addr size : ℕ) → Access
writes addr size = record { kind = Write; addr = addr; len = size }

-- the access list, by the places of the two operands
unfoldable pub string_accesses : StringOp → (size source destination : ℕ) → List Access
string_accesses Movs size source destination = reads source size ∷ writes destination size ∷ []
string_accesses Cmps size source destination = reads source size ∷ reads destination size ∷ []
string_accesses Stos size source destination = writes destination size ∷ []
string_accesses Lods size source destination = reads source size ∷ []
string_accesses Scas size source destination = reads destination size ∷ []

-- what keeps the first access of a list that can't be made now from being made
abbrev pub miss_along : Table → List Access → Option Miss
miss_along table accesses = option_map (λ stop. stop.miss) (walk table accesses)

-- ---- what comes of it
-- rsi or rdi moves by the size, down where DF is set (SDM volume 1, 3.4.3.2); with prefix 67 the upper half is cleared
abbrev pub moved : (size : ℕ) (wrap32 down : Bool) → ℕ → ℕ
moved size wrap32 down index = (if down then index + 2 ^ 64 - size else index + size) % 2 ^ place_bits wrap32

-- the registers where one of them moves so
abbrev pub passed : (register size : ℕ) (wrap32 down : Bool) → List ℕ → List ℕ
passed register size wrap32 down gprs = slice_set gprs register (moved size wrap32 down (slice_index gprs register))

-- the registers afterwards, by DF, the place of the source and the bytes of memory before
unfoldable pub string_gprs : StringOp → (size : ℕ) (wrap32 down : Bool) (source : ℕ) → (ℕ → ℕ) → List ℕ → List ℕ
string_gprs Movs size wrap32 down source byte gprs = passed RDI size wrap32 down (passed RSI size wrap32 down gprs)
string_gprs Cmps size wrap32 down source byte gprs = passed RDI size wrap32 down (passed RSI size wrap32 down gprs)
string_gprs Stos size wrap32 down source byte gprs = passed RDI size wrap32 down gprs
string_gprs Lods size wrap32 down source byte gprs =
    passed RSI size wrap32 down (with_register RAX (8 * size) (number_at byte source size) gprs)
string_gprs Scas size wrap32 down source byte gprs = passed RDI size wrap32 down gprs

-- the flags of a difference of two numbers, of which the size's bits count, as CMP sets them
abbrev pub compared : (size a b : ℕ) → Flags → Flags
compared size a b f = difference_flags (8 * size) (a % 2 ^ (8 * size)) (b % 2 ^ (8 * size)) 0 f

-- the flags afterwards, by the places, the registers and the bytes of memory before
unfoldable pub string_flags : StringOp → (size source destination : ℕ) → (ℕ → ℕ) → List ℕ → Flags → Flags
string_flags Movs size source destination byte gprs f = f
string_flags Cmps size source destination byte gprs f =
    compared size (number_at byte source size) (number_at byte destination size) f
string_flags Stos size source destination byte gprs f = f
string_flags Lods size source destination byte gprs f = f
string_flags Scas size source destination byte gprs f = compared size (slice_index gprs RAX) (number_at byte destination size) f

-- the bytes of memory afterwards, by the places and the registers before
unfoldable pub string_byte : StringOp → (size source destination : ℕ) → List ℕ → (ℕ → ℕ) → ℕ → ℕ
string_byte Movs size source destination gprs byte = written byte destination (bytes_at byte source size)
string_byte Cmps size source destination gprs byte = byte
string_byte Stos size source destination gprs byte = written byte destination (number_bytes size (slice_index gprs RAX))
string_byte Lods size source destination gprs byte = byte
string_byte Scas size source destination gprs byte = byte

-- The effective address of an instruction's memory operand (SDM volume 2, 2.1.5 and 2.2.1).
use Rattle.std.specs.Prelude.{ℕ, ℤ, ◌+◌, ◌*◌, ◌/◌, ◌%◌, ◌^◌, ◌==◌, Bool, ◌&&◌, nat_lt, if◌then◌else◌, List, slice_index}
use Rattle.std.specs.Option.{unwrap_or}
use Rattle.std.specs.Int.{w64, cast_unsigned}
use Rattle.gpr_flags.specs.Registers.{RSP}
use Rattle.row_table.specs.declared.kinds.Class.{Class}
use Rattle.row_table.specs.declared.kinds.Class.TheVariants.{Legacy, Vex, Evex}
use Rattle.row_table.specs.declared.kinds.Fields.{Fields}
use Rattle.core_step.specs.declared.kinds.Bases.{Bases}

-- the fields of a ModRM byte (SDM volume 2, 2.1.3); where there is none they are 0
abbrev pub modrm_of : Fields → ℕ
modrm_of f = unwrap_or f.modrm 0

abbrev pub mod_of : ℕ → ℕ
mod_of modrm = modrm / 64

abbrev pub reg_of : ℕ → ℕ
reg_of modrm = modrm / 8 % 8

abbrev pub rm_of : ℕ → ℕ
rm_of modrm = modrm % 8

-- the vector register in ModRM.reg, with R as the fourth bit of its number and R' of EVEX as the fifth (SDM volume 2, 2.7.2)
abbrev pub vector_reg : Fields → ℕ
vector_reg f = 8 * f.r + reg_of (modrm_of f)

-- the registers that ModRM and the opcode name, with R and B as the fourth bits of their numbers, of which a general register has no
-- more (SDM volume 2, 2.2.1.2)
abbrev pub reg_number : Fields → ℕ
reg_number f = vector_reg f % 16

abbrev pub rm_number : Fields → ℕ
rm_number f = 8 * f.b + rm_of (modrm_of f)

-- X is the fifth bit with EVEX, and else none (SDM volume 2, 2.7.2)
abbrev pub fifth_bit : Class → ℕ → ℕ
fifth_bit Evex x = 16 * x
fifth_bit Legacy x = 0
fifth_bit Vex x = 0

-- the vector register in ModRM.r/m
abbrev pub vector_rm : Fields → ℕ
vector_rm f = fifth_bit f.class f.x + rm_number f

abbrev pub opcode_number : Fields → ℕ
opcode_number f = 8 * f.b + f.opcode % 8

-- the register in vvvv (SDM volume 2, 2.3.5.6)
abbrev pub vvvv_number : Fields → ℕ
vvvv_number f = f.v % 16

-- r/m names memory where mod isn't 3
abbrev pub is_memory : Fields → Bool
is_memory f = nat_lt (mod_of (modrm_of f)) 3

-- the fields of a SIB byte: scale, index and base
abbrev pub sib_of : Fields → ℕ
sib_of f = unwrap_or f.sib 0

abbrev pub has_sib : Fields → Bool
has_sib f = rm_of (modrm_of f) == 4

abbrev pub sib_index : Fields → ℕ
sib_index f = 8 * f.x + sib_of f / 8 % 8

abbrev pub sib_base : Fields → ℕ
sib_base f = 8 * f.b + sib_of f % 8

-- a register as an address has it, where rsp counts as it is given
abbrev pub register_for : List ℕ → Bases → ℕ → ℕ
register_for gprs bases number = if number == RSP then bases.rsp else slice_index gprs number

-- the base: with mod 0, a SIB base 5 is none, and r/m 5 is the end of the instruction (SDM volume 2, 2.2.1.6 and tables 2-2
-- and 2-3)
unfoldable pub base_of : Fields → List ℕ → Bases → ℕ
base_of f gprs bases =
    if has_sib f
    then (if mod_of (modrm_of f) == 0 && sib_of f % 8 == 5 then 0 else register_for gprs bases (sib_base f))
    else (if mod_of (modrm_of f) == 0 && rm_of (modrm_of f) == 5 then bases.next else register_for gprs bases (rm_number f))

-- the scale
abbrev pub scale_of : Fields → ℕ
scale_of f = 2 ^ (sib_of f / 64)

-- the index times its scale; the index 4 is none (SDM volume 2, table 2-3)
unfoldable pub scaled_index : Fields → List ℕ → Bases → ℕ
scaled_index f gprs bases =
    if has_sib f
    then (if sib_index f == 4 then 0 else register_for gprs bases (sib_index f) * scale_of f)
    else 0

-- an address of 32 bits with prefix 67, and else of 64 (SDM volume 1, 3.3.7)
abbrev pub wrapped_to : (wrap32 : Bool) → ℕ → ℕ
wrapped_to wrap32 number = if wrap32 then number % 2 ^ 32 else number % 2 ^ 64

abbrev pub wrapped : Fields → ℕ → ℕ
wrapped f number = wrapped_to f.p67 number

-- base, index and displacement: the address within the segment
unfoldable pub offset_of : Fields → ℤ → List ℕ → Bases → ℕ
offset_of f disp gprs bases = wrapped f (base_of f gprs bases + scaled_index f gprs bases + cast_unsigned w64 disp)

-- the base of FS or GS, where the last of the prefixes 64 and 65 names it (SDM volume 1, 3.3.7.1)
abbrev pub prefixed_base : (prefix : ℕ) → Bases → ℕ
prefixed_base prefix bases = if prefix == 0x64 then bases.fs else if prefix == 0x65 then bases.gs else 0

abbrev pub segment_base : Fields → Bases → ℕ
segment_base f bases = prefixed_base f.segment bases

-- an address within the segment as an address of memory
abbrev pub in_prefixed : (prefix : ℕ) → Bases → ℕ → ℕ
in_prefixed prefix bases offset = (offset + prefixed_base prefix bases) % 2 ^ 64

abbrev pub in_segment : Fields → Bases → ℕ → ℕ
in_segment f bases offset = in_prefixed f.segment bases offset

-- the effective address
unfoldable pub address_of : Fields → ℤ → List ℕ → Bases → ℕ
address_of f disp gprs bases = in_segment f bases (offset_of f disp gprs bases)

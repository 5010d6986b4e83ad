-- An instruction with its operands found: which row it is, where its destination and its source are, and their sizes.
use Rattle.std.specs.Prelude.{true, false, ℕ, ℤ, ◌+◌, ◌-◌, ◌*◌, ◌/◌, ◌%◌, ◌^◌, ◌==◌, ◌&&◌, Bool, not, nat_le, nat_lt, if◌then◌else◌, List, slice_index}
use Rattle.gpr_flags.specs.Registers.{RAX, RCX, RDX, RSP, RBP, R11}
use Rattle.gpr_flags.specs.Numbers.{is_negative}
use Rattle.row_table.specs.declared.kinds.Spot.{Spot}
use Rattle.row_table.specs.declared.kinds.Spot.TheVariants.{Absent as NoSpot, Reg, Rm, Vvvv, OpcodeReg as InOpcode, Rax as AtRax, Cl, Memory as InMemory, VectorMemory, Offset, Immediate, Relative, One, VectorReg, VectorRm, VectorVvvv, VectorImmediate, Xmm0, OpmaskReg, OpmaskRm, OpmaskVvvv}
use Rattle.row_table.specs.declared.kinds.Extent.{Extent}
use Rattle.row_table.specs.declared.kinds.Extent.TheVariants.{Own, Byte as OfByte, Word as OfWord, Double as OfDouble, DoubleQuad, Sized, Scalar, Limited, Vector}
use Rattle.row_table.specs.declared.kinds.Layout.{Layout}
use Rattle.row_table.specs.declared.kinds.Row.{Row}
use Rattle.row_table.specs.declared.kinds.Fields.{Fields}
use Rattle.row_table.specs.declared.kinds.Decoded.{Decoded}
use Rattle.row_table.specs.declared.operations.Op.{Op}
use Rattle.row_table.specs.declared.operations.Op.TheVariants.{Core}
use Rattle.row_table.specs.declared.operations.CoreOp.TheVariants.{Nop}
use Rattle.row_table.specs.Letters.{layout_of}
use Rattle.machine_state.specs.State.{State}
use Rattle.core_step.specs.declared.sizes.Size.{Size}
use Rattle.core_step.specs.declared.sizes.Size.TheVariants.{Byte, Word, Double, Quad}
use Rattle.core_step.specs.declared.kinds.Part.{Part}
use Rattle.core_step.specs.declared.kinds.Part.TheVariants.{Absent as NoPart, First, Second, Third, Bit, Address, Stack, Rax, Rcx, Rdx, Rbp, R11 as InR11, Ah, UpperHalf, Mxcsr as InMxcsr}
use Rattle.core_step.specs.declared.kinds.Breadth.{Breadth}
use Rattle.core_step.specs.declared.kinds.Breadth.TheVariants.{OfRow, OfStack, OfAddress, OfScalar}
use Rattle.core_step.specs.declared.kinds.PartBreadth.{PartBreadth}
use Rattle.core_step.specs.declared.kinds.PartBreadth.TheVariants.{Same, Letter, Quad as Quads, Half, Count, InRow}
use Rattle.core_step.specs.declared.kinds.StackUse.{StackUse}
use Rattle.core_step.specs.declared.kinds.StackUse.TheVariants.{Aside, Pushes, Pops, Leaves}
use Rattle.core_step.specs.declared.kinds.Roles.{Roles}
use Rattle.core_step.specs.declared.kinds.Operand.{Operand}
use Rattle.core_step.specs.declared.kinds.Operand.TheVariants.{Absent, Register, HighByte, Memory, Number, Mxcsr, Opmask}
use Rattle.core_step.specs.declared.kinds.Bases.{Bases}
use Rattle.core_step.specs.declared.kinds.Instruction.{Instruction}
use Rattle.core_step.specs.Size.{bytes_in, bits_in, half_of, cut, sign_extended}
use Rattle.core_step.specs.Roles.{roles_of}
use Rattle.core_step.specs.Address.{is_memory, reg_number, vvvv_number, rm_number, opcode_number, address_of, offset_of, wrapped, in_segment}

-- ---- what stands there
-- a general register; of one byte and without REX, 4 to 7 are AH, CH, DH and BH (SDM volume 2, table 3-1)
abbrev pub byte_register : Bool → ℕ → Operand
byte_register rex number = if not rex && (nat_le 4 number && nat_lt number 8) then HighByte (number - 4) else Register number

abbrev pub general : Size → Fields → ℕ → Operand
general Byte f number = byte_register f.rex number
general Word f number = Register number
general Double f number = Register number
general Quad f number = Register number

-- an immediate at 64 bits, with its sign (SDM volume 2, 2.2.1.5)
abbrev pub immediate_of : Fields → ℕ
immediate_of f =
    if f.imm_len == 1 then sign_extended Byte (cut Byte f.imm)
    else if f.imm_len == 2 then sign_extended Word (cut Word f.imm)
    else if f.imm_len == 4 then sign_extended Double (cut Double f.imm)
    else f.imm

-- an opmask; its number is below 8 (SDM volume 2, 2.7.3)
abbrev pub opmask : ℕ → Operand
opmask number = Opmask (number % 8)

-- a place in the list of a row's operands; vectors are no operands of these instructions
unfoldable pub operand_at : Spot → Size → Fields → ℤ → List ℕ → Bases → Operand
operand_at NoSpot size f disp gprs bases = Absent
operand_at Reg size f disp gprs bases = general size f (reg_number f)
operand_at Rm size f disp gprs bases =
    if is_memory f then Memory (address_of f disp gprs bases) else general size f (rm_number f)
operand_at Vvvv size f disp gprs bases = general size f (vvvv_number f)
operand_at InOpcode size f disp gprs bases = general size f (opcode_number f)
operand_at AtRax size f disp gprs bases = Register RAX
operand_at Cl size f disp gprs bases = Register RCX
operand_at InMemory size f disp gprs bases = Memory (address_of f disp gprs bases)
operand_at Offset size f disp gprs bases = Memory (in_segment f bases f.imm)
operand_at Immediate size f disp gprs bases = Number (immediate_of f)
operand_at Relative size f disp gprs bases = Number ((bases.next + immediate_of f) % 2 ^ 64)
operand_at One size f disp gprs bases = Number 1
operand_at VectorMemory size f disp gprs bases = Absent
operand_at VectorReg size f disp gprs bases = Absent
operand_at VectorRm size f disp gprs bases = Absent
operand_at VectorVvvv size f disp gprs bases = Absent
operand_at VectorImmediate size f disp gprs bases = Absent
operand_at Xmm0 size f disp gprs bases = Absent
operand_at OpmaskReg size f disp gprs bases = opmask (reg_number f)
operand_at OpmaskRm size f disp gprs bases = if is_memory f then Memory (address_of f disp gprs bases) else opmask (rm_number f)
operand_at OpmaskVvvv size f disp gprs bases = opmask (vvvv_number f)

-- ---- what an instruction does and how wide it is
-- the operation; XCHG of rAX with itself, opcode 90, is the no-operation, and clears no upper half (SDM volume 2, NOP)
abbrev pub is_in_opcode : Spot → Bool
is_in_opcode InOpcode = true
is_in_opcode spot = false

abbrev pub op_of : Row → Layout → Fields → Op
op_of row layout f = if opcode_number f == 0 && is_in_opcode layout.second.spot then Core Nop else row.op

-- the operand size, by 66 and W (SDM volume 1, table 3-4)
abbrev pub prefixed_size : Fields → Size
prefixed_size f = if f.w then Quad else if f.p66 then Word else Double

-- the size of what goes to the stack or comes from there: 64 bits, or 16 with 66 and without W (SDM volume 1, 6.2.2)
abbrev pub stack_size : Fields → Size
stack_size f = if not f.w && f.p66 then Word else Quad

-- the size of addresses (SDM volume 1, 3.6.1)
abbrev pub address_size : Fields → Size
address_size f = if f.p67 then Double else Quad

-- that of the row's width in bits, or by prefixes where that is 0
abbrev pub row_size : Row → Fields → Size
row_size row f =
    if row.width == 8 then Byte
    else if row.width == 16 then Word
    else if row.width == 32 then Double
    else if row.width == 64 then Quad
    else prefixed_size f

-- 32 bits, or 64 with W: a general register beside vectors or opmasks (SDM volume 2, KMOVW/KMOVB/KMOVQ/KMOVD)
abbrev pub scalar_size : Fields → Size
scalar_size f = if f.w then Quad else Double

-- the size of the destination
abbrev pub size_by : Breadth → Row → Fields → Size
size_by OfRow row f = row_size row f
size_by OfStack row f = stack_size f
size_by OfAddress row f = address_size f
size_by OfScalar row f = scalar_size f

-- 32 bits, or 16 with a 16-bit operand size (SDM volume 2, MOVSXD)
abbrev pub double_or_less : Size → Size
double_or_less Word = Word
double_or_less size = Double

-- the size by a small letter: b 8 bits, w 16, d 32, and else the destination's
abbrev pub letter_size : Extent → Size → Size
letter_size OfByte size = Byte
letter_size OfWord size = Word
letter_size OfDouble size = double_or_less size
letter_size Own size = size
letter_size DoubleQuad size = size
letter_size Sized size = size
letter_size Scalar size = size
letter_size Limited size = size
letter_size Vector size = size

-- the size of another operand than the destination, where the row has the size `own`: a place in the code and an address have 64
-- bits, and a count 8
abbrev pub part_size : PartBreadth → Extent → (own size : Size) → Size
part_size Same letter own size = size
part_size Letter letter own size = letter_size letter size
part_size Quads letter own size = Quad
part_size Half letter own size = half_of size
part_size Count letter own size = Byte
part_size InRow letter own size = own

-- ---- products and quotients
-- rDX, or AH, for the upper half or the remainder (SDM volume 2, MUL and DIV)
abbrev pub upper_half : Size → Operand
upper_half Byte = HighByte RAX
upper_half Word = Register RDX
upper_half Double = Register RDX
upper_half Quad = Register RDX

-- ---- bits of strings of bits in memory
-- the place of the operand that holds a bit: as many operands away as the register, with its sign, says when it is divided by
-- their bits and rounded down (SDM volume 2, BT; 3.1.1.9)
abbrev pub operands_away : Size → ℕ → ℕ
operands_away size number =
    if is_negative 64 number
    then (bytes_in size * (number / bits_in size) + (2 ^ 64 - 2 ^ 61)) % 2 ^ 64
    else bytes_in size * (number / bits_in size)

abbrev pub bit_offset_by : Size → (number : ℕ) → List ℕ → ℕ
bit_offset_by size number gprs = operands_away size (sign_extended size (cut size (slice_index gprs number)))

abbrev pub bit_offset : Size → Fields → List ℕ → ℕ
bit_offset size f gprs = bit_offset_by size (reg_number f) gprs

unfoldable pub bit_operand : Size → Fields → ℤ → List ℕ → Bases → Operand
bit_operand size f disp gprs bases =
    if is_memory f
    then Memory (in_segment f bases (wrapped f (offset_of f disp gprs bases + bit_offset size f gprs)))
    else general size f (rm_number f)

-- ---- the stack
-- rsp with so many bytes less, and with so many more
abbrev pub lowered : ℕ → ℕ → ℕ
lowered address count = (address + (2 ^ 64 - count)) % 2 ^ 64

abbrev pub raised : ℕ → ℕ → ℕ
raised address count = (address + count) % 2 ^ 64

-- where the stack's operand is: below rsp for what is pushed, at rsp for what is popped, and LEAVE pops at rbp
abbrev pub stack_at : StackUse → Size → List ℕ → ℕ
stack_at Aside size gprs = slice_index gprs RSP
stack_at Pushes size gprs = lowered (slice_index gprs RSP) (bytes_in size)
stack_at Pops size gprs = slice_index gprs RSP
stack_at Leaves size gprs = slice_index gprs RBP

-- rsp for addresses: POP to memory counts with the raised one (SDM volume 2, POP)
abbrev pub rsp_for : StackUse → Size → List ℕ → ℕ
rsp_for Aside size gprs = slice_index gprs RSP
rsp_for Pushes size gprs = slice_index gprs RSP
rsp_for Pops size gprs = raised (slice_index gprs RSP) (bytes_in size)
rsp_for Leaves size gprs = slice_index gprs RSP

abbrev pub bases_for : StackUse → Size → State → ℕ → Bases
bases_for stack size s next = record { rsp = rsp_for stack size s.gprs; next = next; fs = s.fs; gs = s.gs }

-- ---- operands by the parts that they play
unfoldable pub operand_for : Part → Size → Layout → Decoded → (stack : ℕ) → List ℕ → Bases → Operand
operand_for NoPart size layout d stack gprs bases = Absent
operand_for First size layout d stack gprs bases = operand_at layout.first.spot size d.fields d.disp gprs bases
operand_for Second size layout d stack gprs bases = operand_at layout.second.spot size d.fields d.disp gprs bases
operand_for Third size layout d stack gprs bases = operand_at layout.third.spot size d.fields d.disp gprs bases
operand_for Bit size layout d stack gprs bases = bit_operand size d.fields d.disp gprs bases
operand_for Address size layout d stack gprs bases = Number (offset_of d.fields d.disp gprs bases)
operand_for Stack size layout d stack gprs bases = Memory stack
operand_for Rax size layout d stack gprs bases = Register RAX
operand_for Rcx size layout d stack gprs bases = Register RCX
operand_for Rdx size layout d stack gprs bases = Register RDX
operand_for Rbp size layout d stack gprs bases = Register RBP
operand_for InR11 size layout d stack gprs bases = Register R11
operand_for Ah size layout d stack gprs bases = HighByte RAX
operand_for UpperHalf size layout d stack gprs bases = upper_half size
operand_for InMxcsr size layout d stack gprs bases = Mxcsr

-- ---- the whole
-- the part's operand, of this size, of an instruction whose destination has another
abbrev pub part_in : Part → Size → Roles → Layout → Size → Decoded → ℕ → State → Operand
part_in part part_size roles layout size d next s =
    operand_for part part_size layout d (stack_at roles.stack size s.gprs) s.gprs (bases_for roles.stack size s next)

-- an instruction of this operation with these roles, whose row has the size `own` and whose destination has the other
unfoldable pub instruction_by : Op → Roles → Layout → (own size : Size) → Decoded → ℕ → State → Instruction
instruction_by op roles layout own size d next s = record {
  op = op;
  size = size;
  destination = part_in roles.destination size roles layout size d next s;
  usage = roles.usage;
  source = part_in roles.source (part_size roles.source_breadth layout.second.size own size) roles layout size d next s;
  source_size = part_size roles.source_breadth layout.second.size own size;
  beside = part_in roles.beside (part_size roles.beside_breadth layout.third.size own size) roles layout size d next s;
  beside_size = part_size roles.beside_breadth layout.third.size own size;
  also = part_in roles.also size roles layout size d next s;
  condition = d.fields.opcode % 16;
  stack = stack_at roles.stack size s.gprs;
  freed = d.fields.imm;
  rip = s.rip;
  next = next;
}

-- an instruction of this operation
abbrev pub instruction_with : Op → Roles → Layout → Row → Decoded → ℕ → State → Instruction
instruction_with op roles layout row d next s =
    instruction_by op roles layout (row_size row d.fields) (size_by roles.breadth row d.fields) d next s

abbrev pub instruction_as : Op → Layout → Row → Decoded → ℕ → State → Instruction
instruction_as op layout row d next s = instruction_with op (roles_of op layout) layout row d next s

-- the instruction of a row and its fields
abbrev pub instruction_in : Layout → Row → Decoded → (next : ℕ) → State → Instruction
instruction_in layout row d next s = instruction_as (op_of row layout d.fields) layout row d next s

unfoldable pub instruction_of : Row → Decoded → (next : ℕ) → State → Instruction
instruction_of row d next s = instruction_in (layout_of row.operands) row d next s

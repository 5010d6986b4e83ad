-- What holds of every row: its operation is performed, and each operand that it needs has a place in the row's list.
use Rattle.std.specs.Prelude.{◌≡◌, ◌/◌, Bool, true, false, not, ◌&&◌, ◌||◌}
use Rattle.gpr_flags.specs.Registers.{is_size}
use Rattle.row_table.specs.declared.kinds.Spot.{Spot}
use Rattle.row_table.specs.declared.kinds.Spot.TheVariants.{Absent as NoSpot, Reg, Rm, Vvvv, OpcodeReg, Rax as AtRax, Cl, Memory, VectorMemory, Offset, Immediate, Relative, One, VectorReg, VectorRm, VectorVvvv, VectorImmediate, Xmm0, OpmaskReg, OpmaskRm, OpmaskVvvv}
use Rattle.row_table.specs.declared.kinds.Layout.{Layout}
use Rattle.row_table.specs.declared.kinds.MaskKind.{MaskKind}
use Rattle.row_table.specs.declared.kinds.Row.{Row}
use Rattle.row_table.specs.Letters.{layout_of}
use Rattle.row_table.specs.declared.operations.Op.{Op}
use Rattle.row_table.specs.declared.operations.Op.TheVariants.{Core, Gpr, Bit as Bits, String, Lane, Cross, Width, Mac, Mask, Vector, Gather, Xsave}
use Rattle.row_table.specs.declared.operations.CoreOp.{CoreOp}
use Rattle.row_table.specs.declared.operations.CoreOp.TheVariants.{Mov, Movsxd, Movzx, Movsx, Movbe, Movnti, Lea, Xchg, Push, Pop, Pushf, Popf, Leave, Call, Ret, Jmp, Jcc, Loopne, Loope, Loop, Jrcxz, Cmovcc, Setcc, Cbw, Cwd, Bswap, Cmc, Clc, Stc, Cld, Std, Sahf, Lahf, Int3, Hlt, Syscall, Rdtsc, Cpuid, Nop, Xadd, Cmpxchg, Cmpxchg8b, Xgetbv, Ldmxcsr, Stmxcsr, Clflush, Vzeroupper, Vzeroall}
use Rattle.core_step.specs.declared.kinds.Part.{Part}
use Rattle.core_step.specs.declared.kinds.Part.TheVariants.{Absent, First, Second, Third, Bit, Address, Stack, Rax, Rcx, Rdx, Rbp, R11, Ah, UpperHalf, Mxcsr}
use Rattle.core_step.specs.declared.kinds.Roles.{Roles}
use Rattle.core_step.specs.Roles.{roles_of}
use Rattle.core_step.specs.declared.ways.Way.{Way}
use Rattle.core_step.specs.declared.ways.Way.TheVariants.{Numbers, Strings, Pair, Vectors, Clears, Identifies}
use Rattle.core_step.specs.Plan.{way_of}
use Rattle.vec_units.specs.Form.{chooses, memory_width}
use Rattle.vec_step.specs.Plan.{is_immediate, is_xmm0, is_register_by_immediate, has_two_sources, spots_of}

-- ---- operations
unfoldable pub core_performed : CoreOp → Bool
core_performed Mov = true
core_performed Movsxd = true
core_performed Movzx = true
core_performed Movsx = true
core_performed Movbe = true
core_performed Movnti = true
core_performed Lea = true
core_performed Xchg = true
core_performed Push = true
core_performed Pop = true
core_performed Pushf = true
core_performed Popf = true
core_performed Leave = true
core_performed Call = true
core_performed Ret = true
core_performed Jmp = true
core_performed Jcc = true
core_performed Loopne = true
core_performed Loope = true
core_performed Loop = true
core_performed Jrcxz = true
core_performed Cmovcc = true
core_performed Setcc = true
core_performed Cbw = true
core_performed Cwd = true
core_performed Bswap = true
core_performed Cmc = true
core_performed Clc = true
core_performed Stc = true
core_performed Cld = true
core_performed Std = true
core_performed Sahf = true
core_performed Lahf = true
core_performed Int3 = true
core_performed Hlt = true
core_performed Syscall = true
core_performed Rdtsc = true
core_performed Nop = true
core_performed Xadd = true
core_performed Cmpxchg = true
core_performed Cmpxchg8b = true
core_performed Ldmxcsr = true
core_performed Stmxcsr = true
core_performed Clflush = true
core_performed Cpuid = true
core_performed Xgetbv = true
core_performed Vzeroupper = true
core_performed Vzeroall = true

unfoldable pub is_performed : Op → Bool
is_performed (Core op) = core_performed op
is_performed (Gpr op) = true
is_performed (Bits op) = true
is_performed (String op) = true
is_performed (Lane op) = true
is_performed (Cross op) = true
is_performed (Width op) = true
is_performed (Mac op) = true
is_performed (Mask op) = true
is_performed (Vector op) = true
is_performed (Gather op) = false
is_performed (Xsave op) = false

-- ---- operands
-- a number can stand there: in a general register, an opmask or memory, or by itself
abbrev pub holds_number : Spot → Bool
holds_number NoSpot = false
holds_number Reg = true
holds_number Rm = true
holds_number Vvvv = true
holds_number OpcodeReg = true
holds_number AtRax = true
holds_number Cl = true
holds_number Memory = true
holds_number Offset = true
holds_number Immediate = true
holds_number Relative = true
holds_number One = true
holds_number OpmaskReg = true
holds_number OpmaskRm = true
holds_number OpmaskVvvv = true
holds_number VectorMemory = false
holds_number VectorReg = false
holds_number VectorRm = false
holds_number VectorVvvv = false
holds_number VectorImmediate = false
holds_number Xmm0 = false

-- the part has a place; a bit is in the first operand, and an address is that of the second
abbrev pub has_place : Layout → Part → Bool
has_place layout First = holds_number layout.first.spot
has_place layout Second = holds_number layout.second.spot
has_place layout Third = holds_number layout.third.spot
has_place layout Bit = holds_number layout.first.spot
has_place layout Address = holds_number layout.second.spot
has_place layout Absent = true
has_place layout Stack = true
has_place layout Rax = true
has_place layout Rcx = true
has_place layout Rdx = true
has_place layout Rbp = true
has_place layout R11 = true
has_place layout Ah = true
has_place layout UpperHalf = true
has_place layout Mxcsr = true

abbrev pub are_placed : Layout → Roles → Bool
are_placed layout roles =
    has_place layout roles.destination
    && (has_place layout roles.source && (has_place layout roles.beside && has_place layout roles.also))

-- ---- operands on vectors
-- what stands there is a vector register, or memory in its place
abbrev pub is_vector : Spot → Bool
is_vector NoSpot = false
is_vector Reg = false
is_vector Rm = false
is_vector Vvvv = false
is_vector OpcodeReg = false
is_vector AtRax = false
is_vector Cl = false
is_vector Memory = false
is_vector Offset = false
is_vector Immediate = false
is_vector Relative = false
is_vector One = false
is_vector VectorMemory = false
is_vector VectorReg = true
is_vector VectorRm = true
is_vector VectorVvvv = true
is_vector VectorImmediate = false
is_vector Xmm0 = false
is_vector OpmaskReg = false
is_vector OpmaskRm = false
is_vector OpmaskVvvv = false

-- what stands there is a general register or memory, whose bytes are the lowest of a vector
abbrev pub is_scalar : Spot → Bool
is_scalar NoSpot = false
is_scalar Reg = true
is_scalar Rm = true
is_scalar Vvvv = false
is_scalar OpcodeReg = false
is_scalar AtRax = false
is_scalar Cl = false
is_scalar Memory = true
is_scalar Offset = false
is_scalar Immediate = false
is_scalar Relative = false
is_scalar One = false
is_scalar VectorMemory = false
is_scalar VectorReg = false
is_scalar VectorRm = false
is_scalar VectorVvvv = false
is_scalar VectorImmediate = false
is_scalar Xmm0 = false
is_scalar OpmaskReg = false
is_scalar OpmaskRm = false
is_scalar OpmaskVvvv = false

-- what stands there is an opmask that a vector instruction gives
abbrev pub is_opmask : Spot → Bool
is_opmask NoSpot = false
is_opmask Reg = false
is_opmask Rm = false
is_opmask Vvvv = false
is_opmask OpcodeReg = false
is_opmask AtRax = false
is_opmask Cl = false
is_opmask Memory = false
is_opmask Offset = false
is_opmask Immediate = false
is_opmask Relative = false
is_opmask One = false
is_opmask VectorMemory = false
is_opmask VectorReg = false
is_opmask VectorRm = false
is_opmask VectorVvvv = false
is_opmask VectorImmediate = false
is_opmask Xmm0 = false
is_opmask OpmaskReg = true
is_opmask OpmaskRm = false
is_opmask OpmaskVvvv = false

-- what stands there is an opmask that a vector instruction takes, or a number by itself
abbrev pub is_opmask_source : Spot → Bool
is_opmask_source OpmaskRm = true
is_opmask_source spot = false

abbrev pub is_number : Spot → Bool
is_number spot = is_immediate spot || is_opmask_source spot

-- the destination and the second source have places, and so has the first, where it isn't the destination
abbrev pub are_vectors_placed : Layout → Bool
are_vectors_placed layout =
    (is_vector (spots_of layout).destination
    || (is_scalar (spots_of layout).destination || is_opmask (spots_of layout).destination))
    && ((not (has_two_sources layout) || is_vector (spots_of layout).first)
    && (is_vector (spots_of layout).second || (is_scalar (spots_of layout).second || is_number (spots_of layout).second)))

-- the register whose signs choose between the sources has a place
abbrev pub is_choice_placed : MaskKind → Layout → Bool
is_choice_placed kind layout =
    not (chooses kind) || (is_xmm0 layout.third.spot || is_register_by_immediate layout.fourth.spot)

-- a row on vectors has such operands, and lanes and elements in memory of 1, 2, 4 or 8 bytes
abbrev pub suits : Way → Row → Bool
suits Vectors row =
    (are_vectors_placed (layout_of row.operands) && is_choice_placed row.mask (layout_of row.operands))
    && (is_size (row.width / 8) && is_size (memory_width row))
suits Numbers row = true
suits (Strings op) row = true
suits Pair row = true
suits (Clears clearing) row = true
suits Identifies row = true

-- ---- rows
pub record IsPerformed (row : Row) : Type 0 where
  pub operation : is_performed row.op ≡ true
  pub operands : are_placed (layout_of row.operands) (roles_of row.op (layout_of row.operands)) ≡ true
  pub way : suits (way_of row.op) row ≡ true

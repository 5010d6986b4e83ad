-- What each operation does with its operands, by the page of the SDM's volume 2 that has it: where they stand, and what they are for.
use Rattle.std.specs.Prelude.{Bool, true, false, if◌then◌else◌}
use Rattle.row_table.specs.declared.kinds.Spot.{Spot}
use Rattle.row_table.specs.declared.kinds.Spot.TheVariants.{Absent as NoSpot, Reg, Rm}
use Rattle.row_table.specs.declared.kinds.Layout.{Layout}
use Rattle.row_table.specs.declared.operations.Op.{Op}
use Rattle.row_table.specs.declared.operations.Op.TheVariants.{Core, Gpr, Bit as Bits, String, Lane, Cross, Width, Mac, Mask, Vector, Gather, Xsave}
use Rattle.row_table.specs.declared.operations.CoreOp.{CoreOp}
use Rattle.row_table.specs.declared.operations.CoreOp.TheVariants.{Mov, Movsxd, Movzx, Movsx, Movbe, Movnti, Lea, Xchg, Push, Pop, Pushf, Popf, Leave, Call, Ret, Jmp, Jcc, Loopne, Loope, Loop, Jrcxz, Cmovcc, Setcc, Cbw, Cwd, Bswap, Cmc, Clc, Stc, Cld, Std, Sahf, Lahf, Int3, Hlt, Syscall, Rdtsc, Cpuid, Nop, Xadd, Cmpxchg, Cmpxchg8b, Xgetbv, Ldmxcsr, Stmxcsr, Clflush, Vzeroupper, Vzeroall}
use Rattle.row_table.specs.declared.operations.GprOp.{GprOp}
use Rattle.row_table.specs.declared.operations.GprOp.TheVariants.{Add, Or, Adc, Sbb, And, Sub, Xor, Cmp, Test, Not, Neg, Inc, Dec, Mul, Imul, Div, Idiv, Mulx, Adcx, Adox}
use Rattle.row_table.specs.declared.operations.BitOp.{BitOp}
use Rattle.row_table.specs.declared.operations.BitOp.TheVariants.{Rol, Ror, Rcl, Rcr, Shl, Shr, Sar, Shld, Shrd, Bt, Bts, Btr, Btc, Popcnt, Bsf, Tzcnt, Bsr, Lzcnt, Andn, Blsr, Blsmsk, Blsi, Bzhi, Pext, Pdep, Bextr, Shlx, Sarx, Shrx, Rorx}
use Rattle.row_table.specs.declared.operations.MaskOp.{MaskOp}
use Rattle.row_table.specs.declared.operations.MaskOp.TheVariants.{Kand, Kandn, Kor, Kxnor, Kxor, Kadd, Kunpck, Knot, Kmov, Kortest, Ktest, Kshiftr, Kshiftl}
use Rattle.core_step.specs.declared.kinds.Part.{Part}
use Rattle.core_step.specs.declared.kinds.Part.TheVariants.{Absent, First, Second, Third, Bit, Address, Stack, Rax, Rcx, Rdx, Rbp, R11, Ah, UpperHalf, Mxcsr}
use Rattle.core_step.specs.declared.kinds.Breadth.{Breadth}
use Rattle.core_step.specs.declared.kinds.Breadth.TheVariants.{OfRow, OfStack, OfAddress, OfScalar}
use Rattle.core_step.specs.declared.kinds.PartBreadth.{PartBreadth}
use Rattle.core_step.specs.declared.kinds.PartBreadth.TheVariants.{Same, Letter, Quad, Half, Count, InRow}
use Rattle.core_step.specs.declared.kinds.StackUse.{StackUse}
use Rattle.core_step.specs.declared.kinds.StackUse.TheVariants.{Aside, Pushes, Pops, Leaves}
use Rattle.core_step.specs.declared.kinds.Use.TheVariants.{Read, Write, Update}
use Rattle.core_step.specs.declared.kinds.Roles.{Roles}

-- ---- words
-- nothing is read, and nothing is written
abbrev pub idle : Roles
idle = record {
  breadth = OfRow;
  destination = Absent;
  usage = Write;
  source = Absent;
  source_breadth = Same;
  beside = Absent;
  beside_breadth = Same;
  also = Absent;
  stack = Aside;
}

-- the destination is written, is read and written, or is only read
abbrev pub writes : Part → Roles → Roles
writes part r = record r { destination = part; usage = Write }

abbrev pub updates : Part → Roles → Roles
updates part r = record r { destination = part; usage = Update }

abbrev pub reads : Part → Roles → Roles
reads part r = record r { destination = part; usage = Read }

-- the source, as wide as the destination or by a rule of its own
abbrev pub from : Part → Roles → Roles
from part r = record r { source = part }

abbrev pub from_as : PartBreadth → Part → Roles → Roles
from_as breadth part r = record r { source = part; source_breadth = breadth }

-- what is read beside the destination and the source, and what is written beside the destination
abbrev pub beside : Part → Roles → Roles
beside part r = record r { beside = part }

abbrev pub also : Part → Roles → Roles
also part r = record r { also = part }

-- the destination is as wide as an address, or as what goes to the stack or comes from there
abbrev pub wide_as : Breadth → Roles → Roles
wide_as breadth r = record r { breadth = breadth }

abbrev pub stacked : StackUse → Roles → Roles
stacked stack r = record r { stack = stack }

-- ---- moves, control flow and the machine's own registers
unfoldable pub core_roles : CoreOp → Roles
core_roles Mov = writes First (from Second idle)
core_roles Movsxd = writes First (from_as Letter Second idle)
core_roles Movzx = writes First (from_as Letter Second idle)
core_roles Movsx = writes First (from_as Letter Second idle)
core_roles Movbe = writes First (from Second idle)
core_roles Movnti = writes First (from Second idle)
core_roles Lea = writes First (from_as Quad Address idle)
core_roles Xchg = updates First (from Second (also Second idle))
core_roles Push = wide_as OfStack (stacked Pushes (writes Stack (from First idle)))
core_roles Pop = wide_as OfStack (stacked Pops (writes First (from Stack idle)))
core_roles Pushf = wide_as OfStack (stacked Pushes (writes Stack idle))
core_roles Popf = wide_as OfStack (stacked Pops (from Stack idle))
core_roles Leave = wide_as OfStack (stacked Leaves (writes Rbp (from Stack idle)))
core_roles Call = stacked Pushes (writes Stack (from First idle))
core_roles Ret = stacked Pops (from Stack idle)
core_roles Jmp = from First idle
core_roles Jcc = from First idle
core_roles Loopne = wide_as OfAddress (updates Rcx (from_as Quad First idle))
core_roles Loope = wide_as OfAddress (updates Rcx (from_as Quad First idle))
core_roles Loop = wide_as OfAddress (updates Rcx (from_as Quad First idle))
core_roles Jrcxz = wide_as OfAddress (reads Rcx (from_as Quad First idle))
core_roles Cmovcc = updates First (from Second idle)
core_roles Setcc = writes First idle
core_roles Cbw = writes Rax (from_as Half Rax idle)
core_roles Cwd = writes Rdx (from Rax idle)
core_roles Bswap = updates First idle
core_roles Cmc = idle
core_roles Clc = idle
core_roles Stc = idle
core_roles Cld = idle
core_roles Std = idle
core_roles Sahf = from Ah idle
core_roles Lahf = writes Ah idle
core_roles Int3 = idle
core_roles Hlt = idle
core_roles Syscall = writes Rcx (also R11 idle)
core_roles Rdtsc = writes Rax (also Rdx idle)
core_roles Cpuid = idle
core_roles Nop = idle
core_roles Xadd = updates First (from Second (also Second idle))
core_roles Cmpxchg = updates First (from Second (beside Rax (also Rax idle)))
core_roles Cmpxchg8b = updates First idle
core_roles Xgetbv = writes Rax (from Rcx (also Rdx idle))
core_roles Ldmxcsr = writes Mxcsr (from First idle)
core_roles Stmxcsr = writes First (from Mxcsr idle)
core_roles Clflush = from First idle
core_roles Vzeroupper = idle
core_roles Vzeroall = idle

-- ---- arithmetic
-- of the product of rAX and one operand, the upper half goes to rDX, or of bytes to AH
abbrev pub wide_product : Roles
wide_product = writes Rax (from First (beside Rax (also UpperHalf idle)))

-- rDX and rAX, or AH and AL, are divided: the quotient goes to the lower, the remainder to the upper
abbrev pub division : Roles
division = updates Rax (from First (beside UpperHalf (also UpperHalf idle)))

abbrev pub is_absent : Spot → Bool
is_absent NoSpot = true
is_absent spot = false

-- of one operand, of two, whose first is a factor too, and of three
abbrev pub signed_product : Layout → Roles
signed_product layout =
    if is_absent layout.second.spot then wide_product
    else if is_absent layout.third.spot then writes First (from Second (beside First idle))
    else writes First (from Second (beside Third idle))

unfoldable pub gpr_roles : GprOp → Layout → Roles
gpr_roles Add layout = updates First (from Second idle)
gpr_roles Or layout = updates First (from Second idle)
gpr_roles Adc layout = updates First (from Second idle)
gpr_roles Sbb layout = updates First (from Second idle)
gpr_roles And layout = updates First (from Second idle)
gpr_roles Sub layout = updates First (from Second idle)
gpr_roles Xor layout = updates First (from Second idle)
gpr_roles Cmp layout = reads First (from Second idle)
gpr_roles Test layout = reads First (from Second idle)
gpr_roles Not layout = updates First idle
gpr_roles Neg layout = updates First idle
gpr_roles Inc layout = updates First idle
gpr_roles Dec layout = updates First idle
gpr_roles Mul layout = wide_product
gpr_roles Imul layout = signed_product layout
gpr_roles Div layout = division
gpr_roles Idiv layout = division
gpr_roles Mulx layout = writes First (from Third (beside Rdx (also Second idle)))
gpr_roles Adcx layout = updates First (from Second idle)
gpr_roles Adox layout = updates First (from Second idle)

-- ---- shifts, rotates and single bits
-- a shift or a rotate, by a count of 8 bits
abbrev pub shift_by : Part → Roles
shift_by count = updates First (from_as Count count idle)

-- one of two operands
abbrev pub double_shift : Roles
double_shift = record (updates First (from Second (beside Third idle))) { beside_breadth = Count }

abbrev pub is_reg : Spot → Bool
is_reg Reg = true
is_reg spot = false

-- with its number in a register the bit may be anywhere from the operand on (SDM volume 2, BT)
abbrev pub with_bit : Layout → Part
with_bit layout = if is_reg layout.second.spot then Bit else First

-- two sources, of which the one in r/m may be in memory
abbrev pub of_two : (in_rm other : Part) → Roles
of_two in_rm other = writes First (from in_rm (beside other idle))

unfoldable pub bit_roles : BitOp → Layout → Roles
bit_roles Rol layout = shift_by Second
bit_roles Ror layout = shift_by Second
bit_roles Rcl layout = shift_by Second
bit_roles Rcr layout = shift_by Second
bit_roles Shl layout = shift_by Second
bit_roles Shr layout = shift_by Second
bit_roles Sar layout = shift_by Second
bit_roles Shld layout = double_shift
bit_roles Shrd layout = double_shift
bit_roles Bt layout = reads (with_bit layout) (from Second idle)
bit_roles Bts layout = updates (with_bit layout) (from Second idle)
bit_roles Btr layout = updates (with_bit layout) (from Second idle)
bit_roles Btc layout = updates (with_bit layout) (from Second idle)
bit_roles Popcnt layout = writes First (from Second idle)
bit_roles Bsf layout = writes First (from Second idle)
bit_roles Tzcnt layout = writes First (from Second idle)
bit_roles Bsr layout = writes First (from Second idle)
bit_roles Lzcnt layout = writes First (from Second idle)
bit_roles Andn layout = of_two Third Second
bit_roles Blsr layout = writes First (from Second idle)
bit_roles Blsmsk layout = writes First (from Second idle)
bit_roles Blsi layout = writes First (from Second idle)
bit_roles Bzhi layout = of_two Second Third
bit_roles Pext layout = of_two Third Second
bit_roles Pdep layout = of_two Third Second
bit_roles Bextr layout = of_two Second Third
bit_roles Shlx layout = of_two Second Third
bit_roles Sarx layout = of_two Second Third
bit_roles Shrx layout = of_two Second Third
bit_roles Rorx layout = of_two Second Third

-- ---- opmasks
abbrev pub is_rm : Spot → Bool
is_rm Rm = true
is_rm spot = false

-- a general register gets 32 bits, or 64 with W, of an opmask that is as wide as the row says; of one that is moved to an opmask the
-- low bits count (SDM volume 2, KMOVW/KMOVB/KMOVQ/KMOVD)
abbrev pub opmask_move : Layout → Roles
opmask_move layout =
    if is_reg layout.first.spot then wide_as OfScalar (writes First (from_as InRow Second idle))
    else if is_rm layout.second.spot then writes First (from_as Quad Second idle)
    else writes First (from Second idle)

-- an opmask shifted by a count of 8 bits
abbrev pub opmask_shift : Roles
opmask_shift = record (writes First (from Second (beside Third idle))) { beside_breadth = Count }

unfoldable pub mask_roles : MaskOp → Layout → Roles
mask_roles Kand layout = of_two Third Second
mask_roles Kandn layout = of_two Third Second
mask_roles Kor layout = of_two Third Second
mask_roles Kxnor layout = of_two Third Second
mask_roles Kxor layout = of_two Third Second
mask_roles Kadd layout = of_two Third Second
mask_roles Kunpck layout = of_two Third Second
mask_roles Knot layout = writes First (from Second idle)
mask_roles Kmov layout = opmask_move layout
mask_roles Kortest layout = reads First (from Second idle)
mask_roles Ktest layout = reads First (from Second idle)
mask_roles Kshiftr layout = opmask_shift
mask_roles Kshiftl layout = opmask_shift

-- ---- all
-- operations on strings and on vectors have plans of their own
abbrev pub roles_of : Op → Layout → Roles
roles_of (Core op) layout = core_roles op
roles_of (Gpr op) layout = gpr_roles op layout
roles_of (Bits op) layout = bit_roles op layout
roles_of (String op) layout = idle
roles_of (Lane op) layout = idle
roles_of (Cross op) layout = idle
roles_of (Width op) layout = idle
roles_of (Mac op) layout = idle
roles_of (Mask op) layout = mask_roles op layout
roles_of (Vector op) layout = idle
roles_of (Gather op) layout = idle
roles_of (Xsave op) layout = idle

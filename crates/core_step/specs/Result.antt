-- What comes of each instruction, from the numbers of its destination and its source: the scalar result.
use Rattle.std.specs.Prelude.{ℕ, ◌+◌, ◌-◌, ◌/◌, ◌%◌, ◌^◌, ◌==◌, Bool, true, false, not, ◌&&◌, nat_lt, if◌then◌else◌, Some, None}
use Rattle.gpr_flags.specs.declared.kinds.Fault.{Fault}
use Rattle.gpr_flags.specs.declared.kinds.Fault.TheVariants.{Divide, Breakpoint, Undefined, General}
use Rattle.gpr_flags.specs.declared.kinds.Flags.{Flags}
use Rattle.gpr_flags.specs.Numbers.{is_negative, low_of, low_half, high_half}
use Rattle.gpr_flags.specs.Flags.{flags_word, flags_of, holds}
use Rattle.row_table.specs.declared.operations.Op.{Op}
use Rattle.row_table.specs.declared.operations.Op.TheVariants.{Core, Gpr, Bit, String, Lane, Cross, Width, Mac, Mask, Vector, Gather, Xsave}
use Rattle.row_table.specs.declared.operations.CoreOp.{CoreOp}
use Rattle.row_table.specs.declared.operations.CoreOp.TheVariants.{Mov, Movsxd, Movzx, Movsx, Lea, Xchg, Push, Pop, Pushf, Popf, Leave, Call, Ret, Jmp, Jcc, Loopne, Loope, Loop, Jrcxz, Cmovcc, Setcc, Cbw, Cwd, Bswap, Cmc, Clc, Stc, Cld, Std, Sahf, Lahf, Int3, Hlt, Syscall, Rdtsc, Nop, Movbe, Movnti, Clflush, Xadd, Cmpxchg, Cmpxchg8b, Cpuid, Xgetbv, Ldmxcsr, Stmxcsr, Vzeroupper, Vzeroall}
use Rattle.row_table.specs.declared.operations.GprOp.{GprOp}
use Rattle.row_table.specs.declared.operations.GprOp.TheVariants.{Add, Or, Adc, Sbb, And, Sub, Xor, Cmp, Test, Not, Neg, Inc, Dec, Mul, Imul, Div, Idiv, Mulx, Adcx, Adox}
use Rattle.row_table.specs.declared.operations.BitOp.{BitOp}
use Rattle.row_table.specs.declared.operations.BitOp.TheVariants.{Rol, Ror, Rcl, Rcr, Shl, Shr, Sar, Shld, Shrd, Bt, Bts, Btr, Btc, Popcnt, Bsf, Tzcnt, Bsr, Lzcnt, Andn, Blsr, Blsmsk, Blsi, Bzhi, Pext, Pdep, Bextr, Shlx, Sarx, Shrx, Rorx}
use Rattle.row_table.specs.declared.operations.MaskOp.{MaskOp}
use Rattle.row_table.specs.declared.operations.MaskOp.TheVariants.{Kand, Kandn, Kor, Kxnor, Kxor, Kadd, Kunpck, Knot, Kmov, Kortest, Ktest, Kshiftr, Kshiftl}
use Rattle.gpr_units.specs.Alu.{alu_value, alu_flags}
use Rattle.gpr_units.specs.Multiply.{product_of, product_flags}
use Rattle.gpr_units.specs.Divide.{is_refused, quotient_of, remainder_of}
use Rattle.bit_units.specs.Shifts.{shift_value, shift_flags}
use Rattle.bit_units.specs.Bits.{bits_value, bits_flags}
use Rattle.opmask_unit.specs.Opmasks.{logic_of, shift_of, zero_of, carry_of}
use Rattle.core_step.specs.declared.acted.Acted.TheVariants.{Done, Call as Calls, Trap}
use Rattle.core_step.specs.declared.sizes.Size.{Size}
use Rattle.core_step.specs.declared.kinds.Instruction.{Instruction}
use Rattle.core_step.specs.declared.kinds.Outcome.{Outcome}
use Rattle.core_step.specs.Size.{bytes_in, bits_in, cut, sign_extended}
use Rattle.core_step.specs.Operands.{raised}
use Rattle.core_step.specs.SaveArea.{xcr0}

-- ---- flags
-- SAHF loads SF, ZF, AF, PF and CF (SDM volume 2, SAHF)
abbrev pub with_low_flags : Flags → ℕ → Flags
with_low_flags f word = record (flags_of word) { df = f.df; ovf = f.ovf }

-- ---- numbers
-- the bytes in the other order (SDM volume 2, BSWAP and MOVBE)
abbrev pub reversed : Size → ℕ → ℕ
reversed size number = bits_value (Core Bswap) (bits_in size) number 0

-- all bits are the sign's (SDM volume 2, CWD)
abbrev pub sign_bits : Size → ℕ → ℕ
sign_bits size number = if is_negative (bits_in size) number then 2 ^ 64 - 1 else 0

-- one less
abbrev pub counted_down : Size → ℕ → ℕ
counted_down size count = cut size (count + (2 ^ 64 - 1))

-- ---- outcomes
-- nothing but that the instruction pointer moves on
abbrev pub passes : Instruction → Flags → Outcome
passes i flags = record { acted = Done; destination = None; also = None; stack = None; flags = flags; rip = i.next }

-- a number goes to the destination
abbrev pub gives : ℕ → Instruction → Flags → Outcome
gives number i flags = record (passes i flags) { destination = Some number }

-- the next instruction is elsewhere, where the condition is met
abbrev pub jumps : Bool → ℕ → Instruction → Flags → Outcome
jumps taken target i flags = record (passes i flags) { rip = if taken then target else i.next }

-- a count goes down, and the next instruction is elsewhere where it isn't 0 then and the condition is met
abbrev pub loops : Bool → ℕ → ℕ → Instruction → Flags → Outcome
loops met count target i flags =
    record (jumps (not (count == 0) && met) target i flags) { destination = Some count }

-- a number goes to the destination, which was pushed
abbrev pub pushes : ℕ → Instruction → Flags → Outcome
pushes number i flags = record (gives number i flags) { stack = Some i.stack }

-- the stack's operand is taken off
abbrev pub pops : Instruction → Outcome → Outcome
pops i outcome = record outcome { stack = Some (raised i.stack (bytes_in i.size)) }

-- what stood in the destination goes to the source
abbrev pub exchanges_numbers : (a b : ℕ) → Instruction → Flags → Outcome
exchanges_numbers a b i flags = record (gives b i flags) { also = Some a }

-- the address of the next instruction is pushed, and the next one is elsewhere
abbrev pub calls : (target : ℕ) → Instruction → Flags → Outcome
calls target i flags = record (pushes i.next i flags) { rip = target }

-- the next instruction is where the stack says, and 8 bytes are freed and as many as the instruction says
abbrev pub returns_to : (target : ℕ) → Instruction → Flags → Outcome
returns_to target i flags = record (jumps true target i flags) { stack = Some (raised (raised i.stack 8) i.freed) }

-- the call of the system is answered behind the instruction
abbrev pub calls_system : Instruction → Flags → Outcome
calls_system i flags = record (gives i.next i flags) { acted = Calls; also = Some (flags_word flags) }

-- the lower half of a counter goes to the destination, and the upper half beside it
abbrev pub counts : (counter : ℕ) → Instruction → Flags → Outcome
counts counter i flags = record (gives counter i flags) { also = Some (counter / 2 ^ 32) }

-- a trap behind the instruction
abbrev pub breaks : Instruction → Flags → Outcome
breaks i flags = record (passes i flags) { acted = Trap Breakpoint }

-- a fault changes nothing
abbrev pub faults : Fault → Instruction → Flags → Outcome
faults fault i flags = record (passes i flags) { acted = Trap fault; rip = i.rip }

-- an operation that isn't performed yet raises the fault of bytes that spell no row (SDM volume 3, 6.15)
abbrev pub unperformed : Instruction → Flags → Outcome
unperformed i flags = faults Undefined i flags

-- a sum goes to the destination, and what stood there to the source (SDM volume 2, XADD)
abbrev pub exchanges_sum : Instruction → (a b : ℕ) → Flags → Outcome
exchanges_sum i a b flags =
    record (gives (alu_value (Gpr Add) (bits_in i.size) a b flags) i (alu_flags (Gpr Add) (bits_in i.size) a b flags)) {
      also = Some a;
    }

-- rAX is compared with the destination: the source goes there where they are equal, and else the destination to rAX (SDM
-- volume 2, CMPXCHG)
abbrev pub compares : Instruction → (a b c : ℕ) → Flags → Outcome
compares i a b c flags = record (passes i (alu_flags (Gpr Cmp) (bits_in i.size) c a flags)) {
  destination = if c == a then Some b else None;
  also = if c == a then None else Some a;
}

-- a number goes to MXCSR; with a bit from 16 up, which is reserved, it is #GP (SDM volume 2, LDMXCSR)
abbrev pub loads_control : ℕ → Instruction → Flags → Outcome
loads_control number i flags = if nat_lt number (2 ^ 16) then gives number i flags else faults General i flags

-- XCR0 in two halves, of which the upper goes beside the destination; the number of any other register is #GP (SDM volume 2,
-- XGETBV)
abbrev pub tells_enabled : ℕ → Instruction → Flags → Outcome
tells_enabled number i flags = if number == 0 then counts xcr0 i flags else faults General i flags

-- each operation by its page in the SDM's volume 2; a is the destination's number, b the source's and c that of what is read beside
-- these, and `steps` the number of completed steps
unfoldable pub core_outcome : CoreOp → Instruction → (a b c : ℕ) → Flags → (steps : ℕ) → Outcome
core_outcome Mov i a b c flags steps = gives b i flags
core_outcome Movzx i a b c flags steps = gives b i flags
core_outcome Movsx i a b c flags steps = gives (sign_extended i.source_size b) i flags
core_outcome Movsxd i a b c flags steps = gives (sign_extended i.source_size b) i flags
core_outcome Lea i a b c flags steps = gives b i flags
core_outcome Xchg i a b c flags steps = exchanges_numbers a b i flags
core_outcome Push i a b c flags steps = pushes b i flags
core_outcome Pop i a b c flags steps = pops i (gives b i flags)
core_outcome Pushf i a b c flags steps = pushes (flags_word flags) i flags
core_outcome Popf i a b c flags steps = pops i (passes i (flags_of b))
core_outcome Leave i a b c flags steps = pops i (gives b i flags)
core_outcome Call i a b c flags steps = calls b i flags
core_outcome Ret i a b c flags steps = returns_to b i flags
core_outcome Jmp i a b c flags steps = jumps true b i flags
core_outcome Jcc i a b c flags steps = jumps (holds flags i.condition) b i flags
core_outcome Loopne i a b c flags steps = loops (not flags.zf) (counted_down i.size a) b i flags
core_outcome Loope i a b c flags steps = loops flags.zf (counted_down i.size a) b i flags
core_outcome Loop i a b c flags steps = loops true (counted_down i.size a) b i flags
core_outcome Jrcxz i a b c flags steps = jumps (a == 0) b i flags
core_outcome Cmovcc i a b c flags steps = gives (if holds flags i.condition then b else a) i flags
core_outcome Setcc i a b c flags steps = gives (if holds flags i.condition then 1 else 0) i flags
core_outcome Cbw i a b c flags steps = gives (sign_extended i.source_size b) i flags
core_outcome Cwd i a b c flags steps = gives (sign_bits i.size b) i flags
core_outcome Bswap i a b c flags steps = gives (reversed i.size a) i flags
core_outcome Cmc i a b c flags steps = passes i (record flags { cf = not flags.cf })
core_outcome Clc i a b c flags steps = passes i (record flags { cf = false })
core_outcome Stc i a b c flags steps = passes i (record flags { cf = true })
core_outcome Cld i a b c flags steps = passes i (record flags { df = false })
core_outcome Std i a b c flags steps = passes i (record flags { df = true })
core_outcome Sahf i a b c flags steps = passes i (with_low_flags flags b)
core_outcome Lahf i a b c flags steps = gives (flags_word flags) i flags
core_outcome Int3 i a b c flags steps = breaks i flags
core_outcome Hlt i a b c flags steps = faults General i flags
core_outcome Syscall i a b c flags steps = calls_system i flags
core_outcome Rdtsc i a b c flags steps = counts steps i flags
core_outcome Nop i a b c flags steps = passes i flags
core_outcome Movbe i a b c flags steps = gives (reversed i.source_size b) i flags
core_outcome Movnti i a b c flags steps = gives b i flags
core_outcome Clflush i a b c flags steps = passes i flags
core_outcome Xadd i a b c flags steps = exchanges_sum i a b flags
core_outcome Cmpxchg i a b c flags steps = compares i a b c flags
core_outcome Cpuid i a b c flags steps = unperformed i flags
core_outcome Cmpxchg8b i a b c flags steps = unperformed i flags
core_outcome Xgetbv i a b c flags steps = tells_enabled b i flags
core_outcome Ldmxcsr i a b c flags steps = loads_control b i flags
core_outcome Stmxcsr i a b c flags steps = gives b i flags
core_outcome Vzeroupper i a b c flags steps = unperformed i flags
core_outcome Vzeroall i a b c flags steps = unperformed i flags

-- a product's lower half goes to the destination, and its upper half beside it, where there is a place for it (SDM volume 2, MUL
-- and IMUL)
abbrev pub multiplies : (signed : Bool) → Instruction → (b c : ℕ) → Flags → Outcome
multiplies signed i b c flags =
    let product = product_of signed (bits_in i.size) c b in
    record (gives (low_half (bits_in i.size) product) i (product_flags signed (bits_in i.size) product flags)) {
      also = Some (high_half (bits_in i.size) product);
    }

-- the upper half goes to the destination and the lower half beside it, and no flag changes (SDM volume 2, MULX)
abbrev pub multiplies_freely : Instruction → (b c : ℕ) → Flags → Outcome
multiplies_freely i b c flags =
    let product = product_of false (bits_in i.size) c b in
    record (gives (high_half (bits_in i.size) product) i flags) { also = Some (low_half (bits_in i.size) product) }

-- the quotient goes to rAX and the remainder to rDX or AH; the dividend's upper half was there (SDM volume 2, DIV and IDIV)
abbrev pub divides : (signed : Bool) → Instruction → (high low by : ℕ) → Flags → Outcome
divides signed i high low by flags =
    if is_refused signed (bits_in i.size) high low by then faults Divide i flags
    else record (gives (low_of (bits_in i.size) (quotient_of signed (bits_in i.size) high low by)) i flags) {
      also = Some (low_of (bits_in i.size) (remainder_of signed (bits_in i.size) high low by));
    }

-- a value and its flags; the value counts only where the destination is written
abbrev pub computes : GprOp → Instruction → (a b : ℕ) → Flags → Outcome
computes op i a b flags =
    gives (alu_value (Gpr op) (bits_in i.size) a b flags) i (alu_flags (Gpr op) (bits_in i.size) a b flags)

unfoldable pub gpr_outcome : GprOp → Instruction → (a b c : ℕ) → Flags → Outcome
gpr_outcome Add i a b c flags = computes Add i a b flags
gpr_outcome Or i a b c flags = computes Or i a b flags
gpr_outcome Adc i a b c flags = computes Adc i a b flags
gpr_outcome Sbb i a b c flags = computes Sbb i a b flags
gpr_outcome And i a b c flags = computes And i a b flags
gpr_outcome Sub i a b c flags = computes Sub i a b flags
gpr_outcome Xor i a b c flags = computes Xor i a b flags
gpr_outcome Cmp i a b c flags = computes Cmp i a b flags
gpr_outcome Test i a b c flags = computes Test i a b flags
gpr_outcome Not i a b c flags = computes Not i a b flags
gpr_outcome Neg i a b c flags = computes Neg i a b flags
gpr_outcome Inc i a b c flags = computes Inc i a b flags
gpr_outcome Dec i a b c flags = computes Dec i a b flags
gpr_outcome Adcx i a b c flags = computes Adcx i a b flags
gpr_outcome Adox i a b c flags = computes Adox i a b flags
gpr_outcome Mul i a b c flags = multiplies false i b c flags
gpr_outcome Imul i a b c flags = multiplies true i b c flags
gpr_outcome Mulx i a b c flags = multiplies_freely i b c flags
gpr_outcome Div i a b c flags = divides false i c a b flags
gpr_outcome Idiv i a b c flags = divides true i c a b flags

-- a shift or a rotate by the low byte of a count, where b is the second operand of a double shift
abbrev pub shifts : BitOp → Instruction → (a b count : ℕ) → Flags → Outcome
shifts op i a b count flags =
    gives (shift_value (Bit op) (bits_in i.size) a b (count % 256) flags) i
    (shift_flags (Bit op) (bits_in i.size) a b (count % 256) flags)

-- a value and its flags
abbrev pub picks : BitOp → Instruction → (a b : ℕ) → Flags → Outcome
picks op i a b flags = gives (bits_value (Bit op) (bits_in i.size) a b) i (bits_flags (Bit op) (bits_in i.size) a b flags)

-- where the source is 0 the destination stays, with all its bits (SDM volume 2, BSF and BSR)
abbrev pub scans : BitOp → Instruction → (a b : ℕ) → Flags → Outcome
scans op i a b flags = record (passes i (bits_flags (Bit op) (bits_in i.size) a b flags)) {
  destination = if b == 0 then None else Some (bits_value (Bit op) (bits_in i.size) a b);
}

-- shifts, rotates, and operations on bits
unfoldable pub bit_outcome : BitOp → Instruction → (a b c : ℕ) → Flags → Outcome
bit_outcome Rol i a b c flags = shifts Rol i a 0 b flags
bit_outcome Ror i a b c flags = shifts Ror i a 0 b flags
bit_outcome Rcl i a b c flags = shifts Rcl i a 0 b flags
bit_outcome Rcr i a b c flags = shifts Rcr i a 0 b flags
bit_outcome Shl i a b c flags = shifts Shl i a 0 b flags
bit_outcome Shr i a b c flags = shifts Shr i a 0 b flags
bit_outcome Sar i a b c flags = shifts Sar i a 0 b flags
bit_outcome Shld i a b c flags = shifts Shld i a b c flags
bit_outcome Shrd i a b c flags = shifts Shrd i a b c flags
bit_outcome Bt i a b c flags = picks Bt i a b flags
bit_outcome Bts i a b c flags = picks Bts i a b flags
bit_outcome Btr i a b c flags = picks Btr i a b flags
bit_outcome Btc i a b c flags = picks Btc i a b flags
bit_outcome Popcnt i a b c flags = picks Popcnt i a b flags
bit_outcome Bsf i a b c flags = scans Bsf i a b flags
bit_outcome Tzcnt i a b c flags = picks Tzcnt i a b flags
bit_outcome Bsr i a b c flags = scans Bsr i a b flags
bit_outcome Lzcnt i a b c flags = picks Lzcnt i a b flags
bit_outcome Blsr i a b c flags = picks Blsr i a b flags
bit_outcome Blsmsk i a b c flags = picks Blsmsk i a b flags
bit_outcome Blsi i a b c flags = picks Blsi i a b flags
bit_outcome Andn i a b c flags = picks Andn i c b flags
bit_outcome Pext i a b c flags = picks Pext i c b flags
bit_outcome Pdep i a b c flags = picks Pdep i c b flags
bit_outcome Bzhi i a b c flags = picks Bzhi i b c flags
bit_outcome Bextr i a b c flags = picks Bextr i b c flags
bit_outcome Shlx i a b c flags = picks Shlx i b c flags
bit_outcome Sarx i a b c flags = picks Sarx i b c flags
bit_outcome Shrx i a b c flags = picks Shrx i b c flags
bit_outcome Rorx i a b c flags = picks Rorx i b c flags

-- ---- opmasks
-- a number of the size goes to the destination, by the first source and the second
abbrev pub combines : MaskOp → Instruction → (first second : ℕ) → Flags → Outcome
combines op i first second flags = gives (logic_of (Mask op) (bits_in i.size) first second) i flags

-- the same of an opmask shifted by the low byte of a count
abbrev pub shifts_opmask : (left : Bool) → Instruction → (number count : ℕ) → Flags → Outcome
shifts_opmask left i number count flags = gives (shift_of left (bits_in i.size) number (count % 256)) i flags

-- ZF and CF of a test; the other four that arithmetic sets are cleared (SDM volume 2, KORTESTW/.. and KTESTW/..)
abbrev pub tests : MaskOp → Instruction → (a b : ℕ) → Flags → Outcome
tests op i a b flags = passes i (record flags {
  zf = zero_of (Mask op) (bits_in i.size) a b;
  cf = carry_of (Mask op) (bits_in i.size) a b;
  pf = false;
  af = false;
  sf = false;
  ovf = false;
})

unfoldable pub mask_outcome : MaskOp → Instruction → (a b c : ℕ) → Flags → Outcome
mask_outcome Kand i a b c flags = combines Kand i c b flags
mask_outcome Kandn i a b c flags = combines Kandn i c b flags
mask_outcome Kor i a b c flags = combines Kor i c b flags
mask_outcome Kxnor i a b c flags = combines Kxnor i c b flags
mask_outcome Kxor i a b c flags = combines Kxor i c b flags
mask_outcome Kadd i a b c flags = combines Kadd i c b flags
mask_outcome Kunpck i a b c flags = combines Kunpck i c b flags
mask_outcome Knot i a b c flags = combines Knot i b 0 flags
mask_outcome Kmov i a b c flags = combines Kmov i b 0 flags
mask_outcome Kortest i a b c flags = tests Kortest i a b flags
mask_outcome Ktest i a b c flags = tests Ktest i a b flags
mask_outcome Kshiftr i a b c flags = shifts_opmask false i b c flags
mask_outcome Kshiftl i a b c flags = shifts_opmask true i b c flags

abbrev pub outcome_by : Op → Instruction → (a b c : ℕ) → Flags → (steps : ℕ) → Outcome
outcome_by (Core op) i a b c flags steps = core_outcome op i a b c flags steps
outcome_by (Gpr op) i a b c flags steps = gpr_outcome op i a b c flags
outcome_by (Bit op) i a b c flags steps = bit_outcome op i a b c flags
outcome_by (String op) i a b c flags steps = unperformed i flags
outcome_by (Lane op) i a b c flags steps = unperformed i flags
outcome_by (Cross op) i a b c flags steps = unperformed i flags
outcome_by (Width op) i a b c flags steps = unperformed i flags
outcome_by (Mac op) i a b c flags steps = unperformed i flags
outcome_by (Mask op) i a b c flags steps = mask_outcome op i a b c flags
outcome_by (Vector op) i a b c flags steps = unperformed i flags
outcome_by (Gather op) i a b c flags steps = unperformed i flags
outcome_by (Xsave op) i a b c flags steps = unperformed i flags

unfoldable pub outcome_of : Instruction → (a b c : ℕ) → Flags → (steps : ℕ) → Outcome
outcome_of i a b c flags steps = outcome_by i.op i a b c flags steps

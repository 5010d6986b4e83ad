-- The ways in which instructions are performed: what is accessed, and what comes of it.
use Rattle.std.specs.Prelude.{ℕ, ◌+◌, ◌%◌, ◌^◌, List, []}
use Rattle.row_table.specs.declared.kinds.Row.{Row}
use Rattle.row_table.specs.declared.kinds.Decoded.{Decoded}
use Rattle.row_table.specs.declared.operations.Op.{Op}
use Rattle.row_table.specs.declared.operations.Op.TheVariants.{Core, Gpr, Bit, String, Lane, Cross, Width, Mac, Mask, Vector, Gather, Xsave}
use Rattle.row_table.specs.declared.operations.CoreOp.{CoreOp}
use Rattle.row_table.specs.declared.operations.CoreOp.TheVariants.{Mov, Movsxd, Movzx, Movsx, Movbe, Movnti, Lea, Xchg, Push, Pop, Pushf, Popf, Leave, Call, Ret, Jmp, Jcc, Loopne, Loope, Loop, Jrcxz, Cmovcc, Setcc, Cbw, Cwd, Bswap, Cmc, Clc, Stc, Cld, Std, Sahf, Lahf, Int3, Hlt, Syscall, Rdtsc, Cpuid, Nop, Xadd, Cmpxchg, Cmpxchg8b, Xgetbv, Ldmxcsr, Stmxcsr, Clflush, Vzeroupper, Vzeroall}
use Rattle.machine_state.specs.State.{State}
use Rattle.machine_state.specs.declared.kinds.Access.{Access}
use Rattle.core_step.specs.declared.ways.Way.{Way}
use Rattle.core_step.specs.declared.ways.Way.TheVariants.{Numbers, Strings, Pair, Vectors, Clears as ClearsBytes, Identifies as IdentifiesProcessor}
use Rattle.core_step.specs.declared.kinds.Plan.{Plan}
use Rattle.core_step.specs.declared.kinds.Plan.TheVariants.{Plain, OnStrings, OnPair, OnVectors, Clears, Identifies}
use Rattle.core_step.specs.Operands.{instruction_of}
use Rattle.core_step.specs.Access.{accesses_of}
use Rattle.core_step.specs.Effect.{Processor, Effect}
use Rattle.core_step.specs.Plain.{plain_effect}
use Rattle.core_step.specs.Strings.{strings_of, strings_access, strings_effect}
use Rattle.core_step.specs.Pair.{pair_of, pair_access, pair_effect}
use Rattle.core_step.specs.Vectors.{vectors_of, vectors_effect, clears_effect}
use Rattle.core_step.specs.Cpuid.{identify_effect}
use Rattle.vec_step.specs.declared.kinds.Clearing.TheVariants.{Upper, All}
use Rattle.vec_step.specs.Plan.{vector_access}

-- ---- the way in which an operation is performed
unfoldable pub core_way : CoreOp → Way
core_way Mov = Numbers
core_way Movsxd = Numbers
core_way Movzx = Numbers
core_way Movsx = Numbers
core_way Movbe = Numbers
core_way Movnti = Numbers
core_way Lea = Numbers
core_way Xchg = Numbers
core_way Push = Numbers
core_way Pop = Numbers
core_way Pushf = Numbers
core_way Popf = Numbers
core_way Leave = Numbers
core_way Call = Numbers
core_way Ret = Numbers
core_way Jmp = Numbers
core_way Jcc = Numbers
core_way Loopne = Numbers
core_way Loope = Numbers
core_way Loop = Numbers
core_way Jrcxz = Numbers
core_way Cmovcc = Numbers
core_way Setcc = Numbers
core_way Cbw = Numbers
core_way Cwd = Numbers
core_way Bswap = Numbers
core_way Cmc = Numbers
core_way Clc = Numbers
core_way Stc = Numbers
core_way Cld = Numbers
core_way Std = Numbers
core_way Sahf = Numbers
core_way Lahf = Numbers
core_way Int3 = Numbers
core_way Hlt = Numbers
core_way Syscall = Numbers
core_way Rdtsc = Numbers
core_way Cpuid = IdentifiesProcessor
core_way Nop = Numbers
core_way Xadd = Numbers
core_way Cmpxchg = Numbers
core_way Cmpxchg8b = Pair
core_way Xgetbv = Numbers
core_way Ldmxcsr = Numbers
core_way Stmxcsr = Numbers
core_way Clflush = Numbers
core_way Vzeroupper = ClearsBytes Upper
core_way Vzeroall = ClearsBytes All

abbrev pub way_of : Op → Way
way_of (Core op) = core_way op
way_of (Gpr op) = Numbers
way_of (Bit op) = Numbers
way_of (String op) = Strings op
way_of (Lane op) = Vectors
way_of (Cross op) = Vectors
way_of (Width op) = Vectors
way_of (Mac op) = Vectors
way_of (Mask op) = Numbers
way_of (Vector op) = Vectors
way_of (Gather op) = Numbers
way_of (Xsave op) = Numbers

-- ---- the instruction
abbrev pub plan_by : Way → Row → Decoded → (next : ℕ) → State → Plan
plan_by Numbers row d next s = Plain (instruction_of row d next s)
plan_by (Strings op) row d next s = OnStrings (strings_of op row d next s)
plan_by Pair row d next s = OnPair (pair_of row d next s)
plan_by Vectors row d next s = OnVectors (vectors_of row d next s)
plan_by (ClearsBytes clearing) row d next s = Clears (record { clearing = clearing; next = next })
plan_by IdentifiesProcessor row d next s = Identifies (record { next = next })

-- where the next instruction stands
abbrev pub next_of : (len : ℕ) → State → ℕ
next_of len s = (s.rip + len) % 2 ^ 64

-- the instruction of a row and its fields, which has so many bytes
unfoldable pub plan_of : Row → Decoded → (len : ℕ) → State → Plan
plan_of row d len s = plan_by (way_of row.op) row d (next_of len s) s

-- the access list
abbrev pub plan_accesses : Plan → State → List Access
plan_accesses (Plain i) s = accesses_of i
plan_accesses (OnStrings i) s = strings_access i s.gprs
plan_accesses (OnPair i) s = pair_access i
plan_accesses (OnVectors i) s = vector_access i
plan_accesses (Clears i) s = []
plan_accesses (Identifies i) s = []

-- what it does, by the state without memory and the bytes of memory
abbrev pub effect_of : Plan → Processor → (ℕ → ℕ) → Effect
effect_of (Plain i) p byte = plain_effect i p byte
effect_of (OnStrings i) p byte = strings_effect i p byte
effect_of (OnPair i) p byte = pair_effect i p byte
effect_of (OnVectors i) p byte = vectors_effect i p byte
effect_of (Clears i) p byte = clears_effect i p byte
effect_of (Identifies i) p byte = identify_effect i p byte

-- Where LOCK may stand: before the listed operations, where their destination is in memory (Intel SDM
-- volume 2, "LOCK").
use Rattle.std.specs.Prelude.{Bool, true, false, not, ◌&&◌, ◌||◌}
use Rattle.row_table.specs.declared.kinds.Form.TheVariants.{Memory}
use Rattle.row_table.specs.declared.kinds.Row.{Row}
use Rattle.row_table.specs.declared.kinds.Fields.{Fields}
use Rattle.row_table.specs.declared.operations.Op.{Op}
use Rattle.row_table.specs.declared.operations.Op.TheVariants.{Core, Gpr, Bit}
use Rattle.row_table.specs.declared.operations.CoreOp.{CoreOp}
use Rattle.row_table.specs.declared.operations.CoreOp.TheVariants.{Xchg, Xadd, Cmpxchg, Cmpxchg8b}
use Rattle.row_table.specs.declared.operations.GprOp.{GprOp}
use Rattle.row_table.specs.declared.operations.GprOp.TheVariants.{Add, Or, Adc, Sbb, And, Sub, Xor, Not, Neg, Inc, Dec}
use Rattle.row_table.specs.declared.operations.BitOp.{BitOp}
use Rattle.row_table.specs.declared.operations.BitOp.TheVariants.{Bts, Btr, Btc}
use Rattle.row_table.specs.Shapes.{form_fits}
use Rattle.row_table.specs.Spelling.{writes_rm}

-- XCHG, XADD, CMPXCHG, CMPXCHG8B and CMPXCHG16B
abbrev pub core_locks : CoreOp → Bool
core_locks Xchg = true
core_locks Xadd = true
core_locks Cmpxchg = true
core_locks Cmpxchg8b = true
core_locks _ = false

-- ADD, OR, ADC, SBB, AND, SUB, XOR, NOT, NEG, INC and DEC
abbrev pub arithmetic_locks : GprOp → Bool
arithmetic_locks Add = true
arithmetic_locks Or = true
arithmetic_locks Adc = true
arithmetic_locks Sbb = true
arithmetic_locks And = true
arithmetic_locks Sub = true
arithmetic_locks Xor = true
arithmetic_locks Not = true
arithmetic_locks Neg = true
arithmetic_locks Inc = true
arithmetic_locks Dec = true
arithmetic_locks _ = false

-- BTS, BTR and BTC
abbrev pub bit_locks : BitOp → Bool
bit_locks Bts = true
bit_locks Btr = true
bit_locks Btc = true
bit_locks _ = false

-- the operations that LOCK may stand before
unfoldable pub operation_locks : Op → Bool
operation_locks (Core op) = core_locks op
operation_locks (Gpr op) = arithmetic_locks op
operation_locks (Bit op) = bit_locks op
operation_locks _ = false

-- where LOCK is there, it is allowed
unfoldable pub lock_fits : Row → Fields → Bool
lock_fits r f =
    not f.lock || (operation_locks r.op && (writes_rm r.operands && form_fits Memory f.modrm))

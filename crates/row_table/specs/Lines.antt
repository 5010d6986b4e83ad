-- The words in which the listing of the rows is written.
use Rattle.std.specs.Prelude.{ℕ, zero, suc, ◌+◌, ◌*◌, true, false, Some, None, List, [], ◌∷◌, map}
use Rattle.row_table.specs.declared.kinds.Class.TheVariants.{Legacy, Vex}
use Rattle.row_table.specs.declared.kinds.Prefix.TheVariants.{Unmarked, Np, P66, PF3, PF2}
use Rattle.row_table.specs.declared.kinds.Operands.{Operands}
use Rattle.row_table.specs.declared.kinds.Operands.TheVariants.{EbGb, EvGv, GbEb, GvEv, AlIb, RaxIz}
use Rattle.row_table.specs.declared.kinds.Tuple.TheVariants.{NoTuple}
use Rattle.row_table.specs.declared.kinds.MaskKind.TheVariants.{NoMask}
use Rattle.row_table.specs.declared.kinds.Align.TheVariants.{Free, Sixteen}
use Rattle.row_table.specs.declared.kinds.Level.TheVariants.{V2, V3}
use Rattle.row_table.specs.declared.operations.Op.{Op}
use Rattle.row_table.specs.declared.operations.Op.TheVariants.{Gpr, Bit}
use Rattle.row_table.specs.declared.operations.GprOp.TheVariants.{Add, Or, Adc, Sbb, And, Sub, Xor, Cmp, Not, Neg, Mul, Imul, Div, Idiv}
use Rattle.row_table.specs.declared.operations.BitOp.TheVariants.{Rol, Ror, Rcl, Rcr, Shl, Shr, Sar, Bt, Bts, Btr, Btc}
use Rattle.row_table.specs.declared.kinds.Row.{Row}

-- a legacy row of the one-byte map, for every processor, without a mark: its opcode, operands, width in
-- bits (0 for the operand size) and operation
abbrev pub scalar : ℕ → Operands → ℕ → Op → Row
scalar opcode operands width op = record {
  class = Legacy;
  map = 0;
  prefix = Unmarked;
  opcode = opcode;
  digit = None;
  w = None;
  lengths = 1;
  operands = operands;
  width = width;
  tuple = NoTuple;
  mask = NoMask;
  whole = false;
  align = Free;
  level = V2;
  op = op;
}

-- by operand size
abbrev pub sized : ℕ → Operands → Op → Row
sized opcode operands op = scalar opcode operands 0 op

-- of 8 bits
abbrev pub byte : ℕ → Operands → Op → Row
byte opcode operands op = scalar opcode operands 8 op

-- of 64 bits, whatever the prefixes, or without an operand of a size of its own
abbrev pub always : ℕ → Operands → Op → Row
always opcode operands op = scalar opcode operands 64 op

-- with ModRM.reg as more of the opcode, as /digit
abbrev pub digit : ℕ → Row → Row
digit n r = record r { digit = Some n }

-- with the mark NP: neither 66 nor F2 nor F3
abbrev pub np : Row → Row
np r = record r { prefix = Np }

-- with the mark 66
abbrev pub p66 : Row → Row
p66 r = record r { prefix = P66 }

-- with the mark F3
abbrev pub pf3 : Row → Row
pf3 r = record r { prefix = PF3 }

-- with the mark F2
abbrev pub pf2 : Row → Row
pf2 r = record r { prefix = PF2 }

-- where W is 0
abbrev pub without_w : Row → Row
without_w r = record r { w = Some false }

-- where W is 1
abbrev pub with_w : Row → Row
with_w r = record r { w = Some true }

-- with its memory aligned to 16 bytes
abbrev pub aligned : Row → Row
aligned r = record r { align = Sixteen }

-- from x86-64-v3 on
abbrev pub level_3 : Row → Row
level_3 r = record r { level = V3 }

-- a row of VEX for general registers or memory of 32 bits, where L is 0 and W is anything, from x86-64-v3 on
abbrev pub vex : ℕ → Operands → Op → Row
vex opcode operands op = level_3 (record (scalar opcode operands 32 op) { class = Vex })

-- a row for each of n opcodes, from the row's own up
abbrev pub opcodes : ℕ → Row → List Row
opcodes zero r = []
opcodes (suc n) r = r ∷ opcodes n (record r { opcode = r.opcode + 1 })

-- a row for each register in the low three bits of the opcode, as 50+r
abbrev pub registers : Row → List Row
registers r = opcodes 8 r

-- a row for each condition in the low four bits of the opcode, as 70+cc
abbrev pub conditions : Row → List Row
conditions r = opcodes 16 r

-- without W 32 bits and with W 64
abbrev pub by_w : Row → List Row
by_w r = record r { w = Some false; width = 32 } ∷ record r { w = Some true; width = 64 } ∷ []

-- without W of one width and with W of another, from a row for each width
abbrev pub by_w_of : (narrow wide : ℕ) → (ℕ → Row) → List Row
by_w_of narrow wide row = without_w (row narrow) ∷ with_w (row wide) ∷ []

-- the six rows of an arithmetic operation i: 00+8i to 05+8i
abbrev pub arithmetic : ℕ → Op → List Row
arithmetic i op =
    byte (8 * i) EbGb op ∷ sized (8 * i + 1) EvGv op
    ∷ byte (8 * i + 2) GbEb op ∷ sized (8 * i + 3) GvEv op
    ∷ byte (8 * i + 4) AlIb op ∷ sized (8 * i + 5) RaxIz op ∷ []

-- ---- groups: rows of one opcode by ModRM.reg, from a row for each operation (Intel SDM volume 2, table A-6)
-- ADD, OR, ADC, SBB, AND, SUB, XOR, CMP
abbrev pub group_1 : (Op → Row) → List Row
group_1 row =
    digit 0 (row (Gpr Add)) ∷ digit 1 (row (Gpr Or)) ∷ digit 2 (row (Gpr Adc)) ∷ digit 3 (row (Gpr Sbb))
    ∷ digit 4 (row (Gpr And)) ∷ digit 5 (row (Gpr Sub)) ∷ digit 6 (row (Gpr Xor)) ∷ digit 7 (row (Gpr Cmp)) ∷ []

-- ROL, ROR, RCL, RCR, SHL, SHR, and SAR as /7
abbrev pub group_2 : (Op → Row) → List Row
group_2 row =
    digit 0 (row (Bit Rol)) ∷ digit 1 (row (Bit Ror)) ∷ digit 2 (row (Bit Rcl)) ∷ digit 3 (row (Bit Rcr))
    ∷ digit 4 (row (Bit Shl)) ∷ digit 5 (row (Bit Shr)) ∷ digit 7 (row (Bit Sar)) ∷ []

-- of those without an immediate: NOT, NEG, MUL, IMUL, DIV, IDIV, from /2 on
abbrev pub group_3 : (Op → Row) → List Row
group_3 row =
    digit 2 (row (Gpr Not)) ∷ digit 3 (row (Gpr Neg)) ∷ digit 4 (row (Gpr Mul)) ∷ digit 5 (row (Gpr Imul))
    ∷ digit 6 (row (Gpr Div)) ∷ digit 7 (row (Gpr Idiv)) ∷ []

-- BT, BTS, BTR, BTC, from /4 on
abbrev pub group_8 : (Op → Row) → List Row
group_8 row =
    digit 4 (row (Bit Bt)) ∷ digit 5 (row (Bit Bts)) ∷ digit 6 (row (Bit Btr)) ∷ digit 7 (row (Bit Btc)) ∷ []

-- ---- maps
-- the rows of another map than the one-byte map
abbrev pub in_map : ℕ → List Row → List Row
in_map m rs = map (λ (r : Row). record r { map = m }) rs

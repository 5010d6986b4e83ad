-- When an instruction's fields spell a row, and the instruction that they are then: what all classes of encoding share.
use Rattle.std.specs.Prelude.{◌≡◌, ◌↔◌, ◌<◌, ℕ, ℤ, nat_lt, ◌==◌, Bool, true, false, not, ◌&&◌, ◌||◌, Option, Some, None, IfSome, IfNone, is_some, length, slice_get, if◌then◌else◌}
use Rattle.std.specs.Bool.{beq}
use Rattle.row_table.specs.declared.kinds.Class.{Class}
use Rattle.row_table.specs.declared.kinds.Class.TheVariants.{Legacy, Vex, Evex}
use Rattle.row_table.specs.declared.kinds.Operands.{Operands}
use Rattle.row_table.specs.declared.kinds.Spot.{Spot}
use Rattle.row_table.specs.declared.kinds.Spot.TheVariants.{Absent, Reg, Rm, Vvvv, OpcodeReg, Rax, Cl, Memory, VectorMemory, Offset, Immediate, Relative, One, VectorReg, VectorRm, VectorVvvv, VectorImmediate, Xmm0, OpmaskReg, OpmaskRm, OpmaskVvvv}
use Rattle.row_table.specs.declared.kinds.Form.TheVariants.{Memory as InMemory}
use Rattle.row_table.specs.declared.kinds.Row.{Row}
use Rattle.row_table.specs.declared.kinds.Fields.{Fields}
use Rattle.row_table.specs.declared.kinds.Decoded.{Decoded}
use Rattle.row_table.specs.declared.kinds.Shape.{Shape}
use Rattle.row_table.specs.Rows.{rows}
use Rattle.row_table.specs.Letters.{layout_of}
use Rattle.row_table.specs.Shapes.{form_fits, sib_wanted}
use Rattle.row_table.specs.Matching.{Matches, matched, shape_at}

-- What a class of encoding says of its instructions beyond the table: which fields a row allows, and the displacement in bytes.
pub record Encoding : Type 0 where
  pub allows : Row → Fields → Bool
  pub displacement : Row → Fields → ℤ

-- The fields spell the row with that index: they match it, and it allows them. That F2 and F3 without a meaning are ignored,
-- that a row with a mark goes before one without, and that a row may want one exact ModRM byte, is in `Matches`.
pub record Spells (e : Encoding) (f : Fields) (i : ℕ) : Type 0 where
  pub matches : Matches rows f i
  pub allowed : (r : Row) → slice_get rows i ≡ Some r → e.allows r f ≡ true

-- the instruction is that of the fields: these fields, a row that they spell, and their displacement
pub record IsSpelled (e : Encoding) (f : Fields) (d : Decoded) : Type 0 where
  pub fields : d.fields ≡ f
  pub row : Spells e f d.row
  pub disp : (r : Row) → slice_get rows d.row ≡ Some r → d.disp ≡ e.displacement r f

-- ---- rules that several classes have
-- None of the prefixes is there that may not stand before VEX and EVEX: LOCK, 66, F2, F3 and REX (Intel SDM volume 2, sections 2.3.2
-- to 2.3.4 and 2.8).
abbrev pub without_prefixes : Fields → Bool
without_prefixes f = not f.lock && (not f.p66 && (f.rep == 0 && not f.rex))

-- No register number is above 15: it has three bits in ModRM, SIB or the opcode, and above them one bit of REX or VEX
-- (Intel SDM volume 2, sections 2.2.1.2 and 2.3.5).
abbrev pub registers_fit : Fields → Bool
registers_fit f = nat_lt f.r 2 && (nat_lt f.x 2 && nat_lt f.b 2)

-- ModRM is there where the rows of the opcode have it (Intel SDM volume 2, appendix A.2).
abbrev pub modrm_fits : Option Shape → Option ℕ → Bool
modrm_fits None modrm = false
modrm_fits (Some shape) modrm = beq (is_some modrm) shape.modrm

-- ModRM and SIB are there exactly where they follow the opcode.
abbrev pub bytes_fit : Fields → Bool
bytes_fit f = modrm_fits (shape_at f.class f.map f.opcode) f.modrm && beq (is_some f.sib) (sib_wanted f.modrm)

-- There is no mask, no zeroing and no broadcast: EVEX alone has these.
abbrev pub without_evex : Fields → Bool
without_evex f = f.aaa == 0 && (not f.z && not f.bc)

-- what stands there is in vvvv
abbrev pub is_in_vvvv : Spot → Bool
is_in_vvvv Vvvv = true
is_in_vvvv VectorVvvv = true
is_in_vvvv OpmaskVvvv = true
is_in_vvvv Absent = false
is_in_vvvv Reg = false
is_in_vvvv Rm = false
is_in_vvvv OpcodeReg = false
is_in_vvvv Rax = false
is_in_vvvv Cl = false
is_in_vvvv Memory = false
is_in_vvvv VectorMemory = false
is_in_vvvv Offset = false
is_in_vvvv Immediate = false
is_in_vvvv Relative = false
is_in_vvvv One = false
is_in_vvvv VectorReg = false
is_in_vvvv VectorRm = false
is_in_vvvv VectorImmediate = false
is_in_vvvv Xmm0 = false
is_in_vvvv OpmaskReg = false
is_in_vvvv OpmaskRm = false

-- one of the operands is in vvvv
unfoldable pub uses_vvvv : Operands → Bool
uses_vvvv operands =
    let layout = layout_of operands in
    is_in_vvvv layout.first.spot
    || (is_in_vvvv layout.second.spot || (is_in_vvvv layout.third.spot || is_in_vvvv layout.fourth.spot))

-- what stands there is in ModRM.r/m
abbrev pub is_in_rm : Spot → Bool
is_in_rm Rm = true
is_in_rm Memory = true
is_in_rm VectorMemory = true
is_in_rm VectorRm = true
is_in_rm OpmaskRm = true
is_in_rm Absent = false
is_in_rm Reg = false
is_in_rm Vvvv = false
is_in_rm OpcodeReg = false
is_in_rm Rax = false
is_in_rm Cl = false
is_in_rm Offset = false
is_in_rm Immediate = false
is_in_rm Relative = false
is_in_rm One = false
is_in_rm VectorReg = false
is_in_rm VectorVvvv = false
is_in_rm VectorImmediate = false
is_in_rm Xmm0 = false
is_in_rm OpmaskReg = false
is_in_rm OpmaskVvvv = false

-- the first operand, which is the destination, is in ModRM.r/m
unfoldable pub writes_rm : Operands → Bool
writes_rm operands = is_in_rm (layout_of operands).first.spot

-- Of a register in ModRM.r/m nothing stands above the three bits: B is 0, and in EVEX X above it (Intel SDM volume 2, sections
-- 2.2.1.2, 2.3.5 and 2.7.2).
abbrev pub is_low_rm : Class → Fields → Bool
is_low_rm Legacy f = f.b == 0
is_low_rm Vex f = f.b == 0
is_low_rm Evex f = f.b == 0 && f.x == 0

-- No opmask register number is above 7 (Intel SDM volume 2, section 2.7.3; that a number above 7 in ModRM.r/m is refused is this
-- program's own).
abbrev pub opmask_fits : Spot → Fields → Bool
opmask_fits OpmaskReg f = f.r == 0
opmask_fits OpmaskRm f = form_fits InMemory f.modrm || is_low_rm f.class f
opmask_fits OpmaskVvvv f = nat_lt f.v 8
opmask_fits Absent f = true
opmask_fits Reg f = true
opmask_fits Rm f = true
opmask_fits Vvvv f = true
opmask_fits OpcodeReg f = true
opmask_fits Rax f = true
opmask_fits Cl f = true
opmask_fits Memory f = true
opmask_fits VectorMemory f = true
opmask_fits Offset f = true
opmask_fits Immediate f = true
opmask_fits Relative f = true
opmask_fits One f = true
opmask_fits VectorReg f = true
opmask_fits VectorRm f = true
opmask_fits VectorVvvv f = true
opmask_fits VectorImmediate f = true
opmask_fits Xmm0 f = true

-- in no place of the row's list
unfoldable pub opmasks_fit : Row → Fields → Bool
opmasks_fit r f =
    let layout = layout_of r.operands in
    opmask_fits layout.first.spot f
    && (opmask_fits layout.second.spot f && (opmask_fits layout.third.spot f && opmask_fits layout.fourth.spot f))

-- ---- the instruction, computed
-- by the row with that index
abbrev pub spelled_row : Encoding → Fields → ℕ → Option Row → Option Decoded
spelled_row e f i None = None
spelled_row e f i (Some r) =
    if e.allows r f then Some (record { row = i; fields = f; disp = e.displacement r f }) else None

-- by the index of the row that the fields match
abbrev pub spelled_at : Encoding → Fields → Option ℕ → Option Decoded
spelled_at e f None = None
spelled_at e f (Some i) = spelled_row e f i (slice_get rows i)

-- the instruction that the fields are, if they spell a row
unfoldable pub spelled : Encoding → Fields → Option Decoded
spelled e f = spelled_at e f (matched f)

-- All that is said of a decoder's answer to some fields: it is their instruction exactly where there is one, and none exactly where
-- they spell no row; its row is in the table; and it is what `spelled` computes.
pub record IsSpelling (e : Encoding) (f : Fields) (answer : Option Decoded) : Type 0 where
  pub some : (d : Decoded) → (answer ≡ Some d) ↔ IsSpelled e f d
  pub none : IfNone answer ((i : ℕ) → Spells e f i → ⊥)
  pub within : IfSome answer (λ d. d.row < length rows)
  pub value : answer ≡ spelled e f

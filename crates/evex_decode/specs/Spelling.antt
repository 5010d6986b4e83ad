-- Which fields a row of EVEX allows.
use Rattle.std.specs.Prelude.{ℕ, pos, negsuc, ◌%◌, ◌==◌, nat_lt, int_lt, int_le, Bool, true, false, not, ◌&&◌, ◌||◌}
use Rattle.row_table.specs.declared.kinds.Operands.{Operands}
use Rattle.row_table.specs.declared.kinds.Spot.{Spot}
use Rattle.row_table.specs.declared.kinds.Spot.TheVariants.{Absent, Reg, Rm, Vvvv, OpcodeReg, Rax, Cl, Memory, VectorMemory, Offset, Immediate, Relative, One, VectorReg, VectorRm, VectorVvvv, VectorImmediate, Xmm0, OpmaskReg, OpmaskRm, OpmaskVvvv}
use Rattle.row_table.specs.declared.kinds.Form.TheVariants.{Memory as InMemory}
use Rattle.row_table.specs.declared.kinds.Tuple.{Tuple}
use Rattle.row_table.specs.declared.kinds.Tuple.TheVariants.{NoTuple, Full, Half, FullMem, HalfMem, QuarterMem, EighthMem, Mem128, T1S, T2, T4, T8}
use Rattle.row_table.specs.declared.kinds.MaskKind.{MaskKind}
use Rattle.row_table.specs.declared.kinds.MaskKind.TheVariants.{NoMask, MergeZero, ToMask, Blend, Compress, Expand, Required, Signs, SignsZero, Select}
use Rattle.row_table.specs.declared.kinds.Row.{Row}
use Rattle.row_table.specs.declared.kinds.Fields.{Fields}
use Rattle.row_table.specs.Letters.{layout_of}
use Rattle.row_table.specs.Shapes.{form_fits}
use Rattle.row_table.specs.Spelling.{Encoding, without_prefixes, bytes_fit, uses_vvvv, opmasks_fit, writes_rm}
use Rattle.evex_decode.specs.Scale.{has_broadcast, displacement_of}

-- ---- numbers of their bits
-- R and R' are two bits, X and B one each, V' and vvvv five, pp two and aaa three; L'L is 0, 1 or 2, and 3 is no length (Intel SDM
-- volume 2, sections 2.7.1 and 2.7.10).
abbrev pub bits_fit : Fields → Bool
bits_fit f =
    nat_lt f.r 4 && (nat_lt f.x 2 && (nat_lt f.b 2 && (nat_lt f.v 32 && (nat_lt f.l 3 && (nat_lt f.pp 4 && nat_lt f.aaa 8)))))

-- A displacement of one byte is a number of one byte (Intel SDM volume 2, section 2.7.5).
abbrev pub byte_fits : Fields → Bool
byte_fits f = not (f.disp_len == 1) || (int_le (negsuc 127) f.disp && int_lt f.disp (pos 128))

-- ---- registers
-- No general register number is above 15: R', and X and V' where they would be a register's fifth bit, are 0 (Intel SDM volume 2,
-- section 2.7.11.3, table 2-39; that X is refused is this program's own).
abbrev pub general_fits : Spot → Fields → Bool
general_fits Reg f = nat_lt f.r 2
general_fits Rm f = form_fits InMemory f.modrm || (f.x == 0)
general_fits Vvvv f = nat_lt f.v 16
general_fits Absent f = true
general_fits OpcodeReg f = true
general_fits Rax f = true
general_fits Cl f = true
general_fits Memory f = true
general_fits VectorMemory f = true
general_fits Offset f = true
general_fits Immediate f = true
general_fits Relative f = true
general_fits One f = true
general_fits VectorReg f = true
general_fits VectorRm f = true
general_fits VectorVvvv f = true
general_fits VectorImmediate f = true
general_fits Xmm0 f = true
general_fits OpmaskReg f = true
general_fits OpmaskRm f = true
general_fits OpmaskVvvv f = true

-- in no place of the row's list
unfoldable pub generals_fit : Row → Fields → Bool
generals_fit r f =
    let layout = layout_of r.operands in
    general_fits layout.first.spot f
    && (general_fits layout.second.spot f && (general_fits layout.third.spot f && general_fits layout.fourth.spot f))

-- vvvv is 0, which is stored as 1111, where it holds none of the operands (Intel SDM volume 2, section 2.7.11.3, table 2-39).
abbrev pub vvvv_fits : Row → Fields → Bool
vvvv_fits r f = uses_vvvv r.operands || (f.v % 16 == 0)

-- V' is the fifth bit of the number that stands there: of a vector register in vvvv, or of an index that is a vector register
-- (Intel SDM volume 2, section 2.7.2)
abbrev pub has_v_high : Spot → Bool
has_v_high VectorVvvv = true
has_v_high VectorMemory = true
has_v_high Absent = false
has_v_high Reg = false
has_v_high Rm = false
has_v_high Vvvv = false
has_v_high OpcodeReg = false
has_v_high Rax = false
has_v_high Cl = false
has_v_high Memory = false
has_v_high Offset = false
has_v_high Immediate = false
has_v_high Relative = false
has_v_high One = false
has_v_high VectorReg = false
has_v_high VectorRm = false
has_v_high VectorImmediate = false
has_v_high Xmm0 = false
has_v_high OpmaskReg = false
has_v_high OpmaskRm = false
has_v_high OpmaskVvvv = false

-- of one of the operands
unfoldable pub uses_v_high : Operands → Bool
uses_v_high operands =
    let layout = layout_of operands in
    has_v_high layout.first.spot
    || (has_v_high layout.second.spot || (has_v_high layout.third.spot || has_v_high layout.fourth.spot))

-- V' is 0, which is stored as 1, where no number has it (Intel SDM volume 2, section 2.7.11.3, table 2-39).
abbrev pub v_high_fits : Row → Fields → Bool
v_high_fits r f = uses_v_high r.operands || nat_lt f.v 16

-- ---- masks (Intel SDM volume 2, sections 2.7.4 and 2.7.11.3, table 2-40)
-- whether a row takes the opmask of such a number, where 0 is none; of the masks in vector registers EVEX has none
abbrev pub takes_mask : MaskKind → (aaa : ℕ) → Bool
takes_mask NoMask aaa = aaa == 0
takes_mask MergeZero aaa = true
takes_mask ToMask aaa = true
takes_mask Blend aaa = true
takes_mask Compress aaa = true
takes_mask Expand aaa = true
takes_mask Required aaa = not (aaa == 0)
takes_mask Signs aaa = aaa == 0
takes_mask SignsZero aaa = aaa == 0
takes_mask Select aaa = aaa == 0

abbrev pub mask_fits : Row → Fields → Bool
mask_fits r f = takes_mask r.mask f.aaa

-- whether a row may make masked-out lanes 0: not where its destination is an opmask, nor with gathers and scatters
abbrev pub may_zero : MaskKind → Bool
may_zero NoMask = false
may_zero MergeZero = true
may_zero ToMask = false
may_zero Blend = true
may_zero Compress = true
may_zero Expand = true
may_zero Required = false
may_zero Signs = false
may_zero SignsZero = false
may_zero Select = false

-- the destination is in memory
abbrev pub writes_memory : Row → Fields → Bool
writes_memory r f = writes_rm r.operands && form_fits InMemory f.modrm

-- Zeroing is there with a mask alone, where the row may make lanes 0, and not in memory.
abbrev pub zeroing_fits : Row → Fields → Bool
zeroing_fits r f = not f.z || (not (f.aaa == 0) && (may_zero r.mask && not (writes_memory r f)))

-- ---- broadcast
-- Broadcast is there for such an operand in memory alone; for registers b would be rounding, which is that of floating-point
-- instructions (Intel SDM volume 2, sections 2.7.6 and 2.7.11.3, table 2-41).
abbrev pub broadcast_fits : Row → Fields → Bool
broadcast_fits r f = not f.bc || (form_fits InMemory f.modrm && has_broadcast r.tuple)

-- ---- the whole
-- what stands in the bytes: no prefix that may not be there, numbers of their bits, and ModRM and SIB where they belong
abbrev pub form_allowed : Fields → Bool
form_allowed f = without_prefixes f && (bits_fit f && (byte_fits f && bytes_fit f))

-- registers that exist, and vvvv and V' 0 where they have no use
abbrev pub registers_allowed : Row → Fields → Bool
registers_allowed r f = generals_fit r f && (opmasks_fit r f && (vvvv_fits r f && v_high_fits r f))

-- All of that, and mask, zeroing and broadcast as the row has them. That L'L and W are those of the row is in `Matches`, and that the
-- fixed bits of EVEX are as they have to be in the shape of the bytes.
abbrev pub allowed : Row → Fields → Bool
allowed r f =
    form_allowed f && (registers_allowed r f && (mask_fits r f && (zeroing_fits r f && broadcast_fits r f)))

abbrev pub evex_encoding : Encoding
evex_encoding = record { allows = allowed; displacement = displacement_of }

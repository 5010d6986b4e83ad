-- The words in which the listing of the EVEX rows is written.
use Rattle.std.specs.Prelude.{ℕ, ◌+◌, ◌==◌, Bool, true, false, Option, Some, None, List, [], ◌∷◌, ◌++◌, if◌then◌else◌}
use Rattle.row_table.specs.declared.kinds.Class.TheVariants.{Evex}
use Rattle.row_table.specs.declared.kinds.Operands.{Operands}
use Rattle.row_table.specs.declared.kinds.Operands.TheVariants.{VxWx, WxVx, VxHxWx, VxHxWdq, VxWxIb, VxHxWxIb, HxWxIb, KxHxWx, KxHxWxIb}
use Rattle.row_table.specs.declared.kinds.Tuple.{Tuple}
use Rattle.row_table.specs.declared.kinds.Tuple.TheVariants.{NoTuple, Full, FullMem, HalfMem, QuarterMem, EighthMem, Mem128, T2, T4, T8}
use Rattle.row_table.specs.declared.kinds.MaskKind.TheVariants.{NoMask, MergeZero, ToMask, Blend, Compress, Expand}
use Rattle.row_table.specs.declared.kinds.Level.TheVariants.{V4}
use Rattle.row_table.specs.declared.kinds.Row.{Row}
use Rattle.row_table.specs.declared.operations.Op.{Op}
use Rattle.row_table.specs.declared.operations.Op.TheVariants.{Cross, Width}
use Rattle.row_table.specs.declared.operations.CrossOp.TheVariants.{Vpblendm}
use Rattle.row_table.specs.declared.operations.WidthOp.TheVariants.{Vpcompress, Vpexpand}
use Rattle.row_table.specs.Lines.{scalar, np, p66, pf3, without_w}
use Rattle.row_table.specs.VectorLines.{in_memory, element, read_whole, of_128}

-- the W that a row with lanes of such a width needs: 0 for 32 bits, 1 for 64, and any for fewer
abbrev pub w_for : ℕ → Option Bool
w_for width = if width == 32 then Some false else if width == 64 then Some true else None

-- its operand in memory: a vector, which with lanes of 32 and 64 bits may be one element, broadcast (Intel SDM volume 2, 2.7.5 and
-- 2.7.7)
abbrev pub tuple_for : ℕ → Tuple
tuple_for width = if width == 32 then Full else if width == 64 then Full else FullMem

-- a row of EVEX with vectors of 128, 256 or 512 bits and with a mask, from x86-64-v4 on: its opcode, operands, width of lanes and
-- operation
abbrev pub evex : ℕ → Operands → ℕ → Op → Row
evex opcode operands width op = record (scalar opcode operands width op) {
  class = Evex;
  w = w_for width;
  lengths = 7;
  tuple = tuple_for width;
  mask = MergeZero;
  level = V4;
}

-- a row for lanes of 32 bits, and one for 64
abbrev pub both : (ℕ → Row) → List Row
both row = row 32 ∷ row 64 ∷ []

-- by its opcode, width of lanes and operation: of two sources
abbrev pub lanes : ℕ → ℕ → Op → Row
lanes opcode width op = evex opcode VxHxWx width op

-- of two sources, by Ib
abbrev pub lanes_by : ℕ → ℕ → Op → Row
lanes_by opcode width op = evex opcode VxHxWxIb width op

-- with lanes that go to other places, so that all of memory is read: of two sources, of two by Ib, and of one by Ib
abbrev pub shuffled : ℕ → ℕ → Op → Row
shuffled opcode width op = read_whole (lanes opcode width op)

abbrev pub shuffled_by : ℕ → ℕ → Op → Row
shuffled_by opcode width op = read_whole (lanes_by opcode width op)

abbrev pub one_shuffled_by : ℕ → ℕ → Op → Row
one_shuffled_by opcode width op = read_whole (evex opcode VxWxIb width op)

-- of two sources of lanes of 32 bits, which are packed to lanes of 16
abbrev pub doubles_packed : ℕ → Op → Row
doubles_packed opcode op = without_w (in_memory Full (shuffled opcode 16 op))

-- of lanes that sum up narrower ones: W is ignored, and memory is a vector, all of which is read
abbrev pub summed : ℕ → ℕ → Op → Row
summed opcode width op = read_whole (record (lanes opcode width op) { w = None; tuple = FullMem })

-- a shift by the count in a second source of 128 bits, all of which is read
abbrev pub counted : ℕ → ℕ → Op → Row
counted opcode width op = read_whole (in_memory Mem128 (evex opcode VxHxWdq width op))

-- a shift by Ib, whose destination is in vvvv
abbrev pub shifted : ℕ → ℕ → Op → Row
shifted opcode width op = evex opcode HxWxIb width op

-- a comparison of two sources, to an opmask register, and one that Ib names
abbrev pub to_mask : Row → Row
to_mask r = record r { mask = ToMask }

abbrev pub compared : ℕ → ℕ → Op → Row
compared opcode width op = to_mask (evex opcode KxHxWx width op)

abbrev pub compared_by : ℕ → ℕ → Op → Row
compared_by opcode width op = to_mask (evex opcode KxHxWxIb width op)

-- a move, whose operand in memory is a vector
abbrev pub moved : ℕ → Operands → ℕ → Op → Row
moved opcode operands width op = in_memory FullMem (evex opcode operands width op)

-- without a mask
abbrev pub unmasked : Row → Row
unmasked r = record r { mask = NoMask }

-- a move of one element, of 128 bits and without a mask
abbrev pub element_moved : ℕ → Operands → ℕ → Op → Row
element_moved opcode operands width op = of_128 (unmasked (element (evex opcode operands width op)))

-- a move of a lower or an upper half between memory and a register: of two numbers of single precision, or of one of double
abbrev pub half_moved : ℕ → Operands → Op → List Row
half_moved opcode operands op =
    np (in_memory T2 (element_moved opcode operands 32 op)) ∷ p66 (element_moved opcode operands 64 op) ∷ []

-- without an operand in memory
abbrev pub of_registers : Row → Row
of_registers r = in_memory NoTuple r

-- a move of such a half between registers
abbrev pub half_of_register : ℕ → Operands → Op → Row
half_of_register opcode operands op = np (without_w (of_registers (element_moved opcode operands 64 op)))

-- between a vector and an opmask register, or to a general register, without a mask
abbrev pub register_moved : ℕ → Operands → ℕ → Op → Row
register_moved opcode operands width op = unmasked (of_registers (evex opcode operands width op))

-- of 256 or 512 bits, and of 512 alone
abbrev pub from_256 : Row → Row
from_256 r = record r { lengths = 6 }

abbrev pub of_512 : Row → Row
of_512 r = record r { lengths = 4 }

-- by opcode and width of lanes: the lanes of the second source that are masked in, and of the first that aren't
abbrev pub blended : ℕ → ℕ → Row
blended opcode width = record (lanes opcode width (Cross Vpblendm)) { mask = Blend }

-- the lanes that are masked in, closed up, and spread out
abbrev pub closed_up : ℕ → ℕ → Row
closed_up opcode width = record (element (evex opcode WxVx width (Width Vpcompress))) { mask = Compress }

abbrev pub spread_out : ℕ → ℕ → Row
spread_out opcode width = record (element (evex opcode VxWx width (Width Vpexpand))) { mask = Expand }

-- lanes that are widened to another width, of which those of 32 bits need that W is 0
abbrev pub widened : ℕ → Tuple → (narrow wide : ℕ) → Op → Row
widened opcode tuple narrow wide op = record (in_memory tuple (evex opcode VxWx wide op)) { w = w_for narrow }

-- lanes that are narrowed to another width, where W is 0
abbrev pub narrowed : ℕ → Tuple → ℕ → Op → Row
narrowed opcode tuple width op = without_w (in_memory tuple (evex opcode WxVx width op))

-- of one opcode, with 66 a row that widens lanes, and with F3 one that narrows lanes so wide again
abbrev pub resized : ℕ → Tuple → (narrow wide : ℕ) → (widen back : Op) → List Row
resized opcode tuple narrow wide widen back =
    p66 (widened opcode tuple narrow wide widen) ∷ pf3 (narrowed opcode tuple narrow back) ∷ []

-- the six of each, from opcodes in a row and the operations on lanes of 8, 16 and 32 bits, and of 16, 32 and 64 bits
abbrev pub resizing : ℕ → (of_8 of_16 of_32 : Op) → (from_16 from_32 from_64 : Op) → List Row
resizing opcode of_8 of_16 of_32 from_16 from_32 from_64 =
    resized opcode HalfMem 8 16 of_8 from_16 ++ resized (opcode + 1) QuarterMem 8 32 of_8 from_32
    ++ resized (opcode + 2) EighthMem 8 64 of_8 from_64 ++ resized (opcode + 3) HalfMem 16 32 of_16 from_32
    ++ resized (opcode + 4) QuarterMem 16 64 of_16 from_64 ++ resized (opcode + 5) HalfMem 32 64 of_32 from_64

-- of 128 bits in vectors of 256 and up, as four lanes of 32 bits or two of 64, from a row for each
abbrev pub part_of_128 : (of_four of_two : Row) → List Row
part_of_128 of_four of_two = from_256 (in_memory T4 of_four) ∷ from_256 (in_memory T2 of_two) ∷ []

-- of 256 bits in vectors of 512, as eight lanes of 32 bits or four of 64
abbrev pub part_of_256 : (of_eight of_four : Row) → List Row
part_of_256 of_eight of_four = of_512 (in_memory T8 of_eight) ∷ of_512 (in_memory T4 of_four) ∷ []

-- The words in which the listing of the vector rows is written.
use Rattle.std.specs.Prelude.{ℕ, ◌+◌, true, List, [], ◌∷◌}
use Rattle.row_table.specs.declared.kinds.Operands.{Operands}
use Rattle.row_table.specs.declared.kinds.Operands.TheVariants.{VxWx, VxHxWx, VxWxIb, VxHxWxIb, VxWxXmm0, VxHxWxLx, VxWdq, VxHxWdq, UxIb, HxUxIb, WxVxIb, VxMx, VxHxMx, MxHxVx, VxEvIb, VxHxEvIb, EvVxIb}
use Rattle.row_table.specs.declared.kinds.Tuple.{Tuple}
use Rattle.row_table.specs.declared.kinds.Tuple.TheVariants.{HalfMem, QuarterMem, EighthMem, Mem128, T1S, T4}
use Rattle.row_table.specs.declared.kinds.MaskKind.TheVariants.{Signs, SignsZero, Select}
use Rattle.row_table.specs.declared.kinds.Align.TheVariants.{Size}
use Rattle.row_table.specs.declared.kinds.Row.{Row}
use Rattle.row_table.specs.declared.operations.Op.{Op}
use Rattle.row_table.specs.declared.operations.Op.TheVariants.{Cross}
use Rattle.row_table.specs.declared.operations.CrossOp.TheVariants.{Broadcast, Broadcast4, Insert128, Extract128, Pinsr}
use Rattle.row_table.specs.Lines.{scalar, vex, aligned, without_w, np, p66}

-- SSE, of the legacy class and of 128 bits, and AVX, of VEX
pub data Coding : Type 0 where
  Sse : Coding
  Avx : Coding

-- a list of operands for each
abbrev pub coded : Coding → (sse avx : Operands) → Operands
coded Sse sse avx = sse
coded Avx sse avx = avx

-- a row of whole vectors that need not be aligned, in AVX of 128 or 256 bits: its opcode, operands, width of lanes and operation
abbrev pub vector : Coding → ℕ → Operands → ℕ → Op → Row
vector Sse opcode operands width op = scalar opcode operands width op
vector Avx opcode operands width op = record (vex opcode operands op) { width = width; lengths = 3 }

-- with memory that in SSE is aligned to 16 bytes (Intel SDM volume 2, section 2.4, exception types 2 and 4)
abbrev pub packed : Coding → ℕ → Operands → ℕ → Op → Row
packed Sse opcode operands width op = aligned (vector Sse opcode operands width op)
packed Avx opcode operands width op = vector Avx opcode operands width op

-- by its opcode, width of lanes and operation: of two sources
abbrev pub two_sources : Coding → ℕ → ℕ → Op → Row
two_sources c opcode width op = packed c opcode (coded c VxWx VxHxWx) width op

-- of one source
abbrev pub one_source : Coding → ℕ → ℕ → Op → Row
one_source c opcode width op = packed c opcode VxWx width op

-- of two sources, and of one, by Ib
abbrev pub two_sources_by : Coding → ℕ → ℕ → Op → Row
two_sources_by c opcode width op = packed c opcode (coded c VxWxIb VxHxWxIb) width op

abbrev pub one_source_by : Coding → ℕ → ℕ → Op → Row
one_source_by c opcode width op = packed c opcode VxWxIb width op

-- of two sources, by the signs of the lanes of a third vector
abbrev pub two_sources_by_signs : Coding → ℕ → ℕ → Op → Row
two_sources_by_signs c opcode width op = record (packed c opcode (coded c VxWxXmm0 VxHxWxLx) width op) { mask = Select }

-- with as much in memory as a tuple says
abbrev pub in_memory : Tuple → Row → Row
in_memory tuple r = record r { tuple = tuple }

-- with one element in memory
abbrev pub element : Row → Row
element r = in_memory T1S r

-- with memory all of which is read
abbrev pub read_whole : Row → Row
read_whole r = record r { whole = true }

-- a shift by the count in a second source of 128 bits, all of which is read
abbrev pub by_count : Coding → ℕ → ℕ → Op → Row
by_count c opcode width op = read_whole (in_memory Mem128 (packed c opcode (coded c VxWdq VxHxWdq) width op))

-- a shift of a register by Ib
abbrev pub by_number : Coding → ℕ → ℕ → Op → Row
by_number c opcode width op = vector c opcode (coded c UxIb HxUxIb) width op

-- with memory aligned to its own size
abbrev pub to_its_size : Row → Row
to_its_size r = record r { align = Size }

-- of 128 bits alone
abbrev pub of_128 : Row → Row
of_128 r = record r { lengths = 1 }

-- of 256 bits alone
abbrev pub of_256 : Row → Row
of_256 r = record r { lengths = 2 }

-- of 128 bits, and in AVX whatever L is
abbrev pub whatever_length : Coding → Row → Row
whatever_length Sse r = r
whatever_length Avx r = record r { lengths = 8 }

-- of numbers of single precision with NP, and of double precision with 66, from a row for each width
abbrev pub by_float : (ℕ → Row) → List Row
by_float row = np (row 32) ∷ p66 (row 64) ∷ []

-- the same, of one element of 64 bits in memory and of 128 bits alone, whichever number is there
abbrev pub element_by_float : Row → List Row
element_by_float row = by_float (λ width. of_128 (element row))

-- a load or a store of AVX of the lanes whose signs the register in vvvv has as 1: of the others a load makes 0, and a store changes
-- none
abbrev pub loaded_by_signs : ℕ → ℕ → Op → Row
loaded_by_signs opcode width op = record (vector Avx opcode VxHxMx width op) { mask = SignsZero }

abbrev pub stored_by_signs : ℕ → ℕ → Op → Row
stored_by_signs opcode width op = record (vector Avx opcode MxHxVx width op) { mask = Signs }

-- by opcode: the six that widen the lanes of a source, from opcodes in a row and the operations on lanes of 8, 16 and 32 bits
abbrev pub widening : Coding → ℕ → (of_8 of_16 of_32 : Op) → List Row
widening c opcode of_8 of_16 of_32 =
    in_memory HalfMem (vector c opcode VxWx 16 of_8) ∷ in_memory QuarterMem (vector c (opcode + 1) VxWx 32 of_8)
    ∷ in_memory EighthMem (vector c (opcode + 2) VxWx 64 of_8) ∷ in_memory HalfMem (vector c (opcode + 3) VxWx 32 of_16)
    ∷ in_memory QuarterMem (vector c (opcode + 4) VxWx 64 of_16) ∷ in_memory HalfMem (vector c (opcode + 5) VxWx 64 of_32) ∷ []

-- a lane that is inserted from a general register or memory, and one that is extracted to it, by Ib
abbrev pub lane_inserted : Coding → ℕ → ℕ → Row
lane_inserted c opcode width = of_128 (element (vector c opcode (coded c VxEvIb VxHxEvIb) width (Cross Pinsr)))

abbrev pub lane_extracted : Coding → ℕ → ℕ → Op → Row
lane_extracted c opcode width op = of_128 (element (vector c opcode EvVxIb width op))

-- of AVX, where W is 0: of one lane, broadcast; of 128 bits of memory, broadcast; and of 128 bits that are inserted, and extracted, by Ib
abbrev pub lane_broadcast : ℕ → ℕ → Row
lane_broadcast opcode width = without_w (element (vector Avx opcode VxWx width (Cross Broadcast)))

abbrev pub part_broadcast : ℕ → Row
part_broadcast opcode = without_w (of_256 (in_memory T4 (vector Avx opcode VxMx 32 (Cross Broadcast4))))

abbrev pub part_inserted : ℕ → Row
part_inserted opcode = without_w (of_256 (read_whole (in_memory T4 (vector Avx opcode VxHxWxIb 32 (Cross Insert128)))))

abbrev pub part_extracted : ℕ → Row
part_extracted opcode = without_w (of_256 (in_memory T4 (vector Avx opcode WxVxIb 32 (Cross Extract128))))

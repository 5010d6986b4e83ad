-- How many bytes an operand in memory has (Intel SDM volume 2, 2.7.5).
use Rattle.std.specs.Prelude.{ℕ, ◌*◌, ◌/◌, ◌==◌, Bool, if◌then◌else◌}
use Rattle.row_table.specs.declared.kinds.Tuple.{Tuple}
use Rattle.row_table.specs.declared.kinds.Tuple.TheVariants.{NoTuple, Full, Half, FullMem, HalfMem, QuarterMem, EighthMem, Mem128, T1S, T2, T4, T8}

-- the bytes of a vector, by L of VEX and L'L of EVEX (section 2.3.6 and table 2-36)
abbrev pub vector_bytes : (l : ℕ) → ℕ
vector_bytes l = if l == 0 then 16 else if l == 1 then 32 else 64

-- the bytes of an element that is broadcast, by W (section 2.7.7)
abbrev pub element_bytes : (w : Bool) → ℕ
element_bytes w = if w then 8 else 4

-- the bytes of an operand in memory, by those of an element of the row and of a vector (tables 2-34 and 2-35); rows without a
-- tuple have whole vectors there
abbrev pub tuple_bytes : Tuple → (element vector : ℕ) → ℕ
tuple_bytes NoTuple element vector = vector
tuple_bytes Full element vector = vector
tuple_bytes Half element vector = vector / 2
tuple_bytes FullMem element vector = vector
tuple_bytes HalfMem element vector = vector / 2
tuple_bytes QuarterMem element vector = vector / 4
tuple_bytes EighthMem element vector = vector / 8
tuple_bytes Mem128 element vector = 16
tuple_bytes T1S element vector = element
tuple_bytes T2 element vector = 2 * element
tuple_bytes T4 element vector = 4 * element
tuple_bytes T8 element vector = 8 * element

-- the bytes of an element in memory of a source, by those of a lane: in tuples of a half, a quarter or an eighth of a vector there
-- are as many elements as lanes, which are widened (table 2-35)
abbrev pub source_width : Tuple → (width : ℕ) → ℕ
source_width NoTuple width = width
source_width Full width = width
source_width Half width = width / 2
source_width FullMem width = width
source_width HalfMem width = width / 2
source_width QuarterMem width = width / 4
source_width EighthMem width = width / 8
source_width Mem128 width = width
source_width T1S width = width
source_width T2 width = width
source_width T4 width = width
source_width T8 width = width

-- What a displacement of one byte is multiplied by: the number N of disp8*N (Intel SDM volume 2, section 2.7.5).
use Rattle.std.specs.Prelude.{ℤ, ℕ, pos, ◌*ℤ◌, ◌/◌, ◌==◌, ◌&&◌, Bool, true, false, if◌then◌else◌}
use Rattle.row_table.specs.declared.kinds.Tuple.{Tuple}
use Rattle.row_table.specs.declared.kinds.Tuple.TheVariants.{NoTuple, Full, Half, FullMem, HalfMem, QuarterMem, EighthMem, Mem128, T1S, T2, T4, T8}
use Rattle.row_table.specs.declared.kinds.Row.{Row}
use Rattle.row_table.specs.declared.kinds.Fields.{Fields}
use Rattle.row_table.specs.Tuples.{vector_bytes, element_bytes, tuple_bytes}

-- whether an operand in memory may be one element for all lanes (table 2-34)
abbrev pub has_broadcast : Tuple → Bool
has_broadcast Full = true
has_broadcast Half = true
has_broadcast NoTuple = false
has_broadcast FullMem = false
has_broadcast HalfMem = false
has_broadcast QuarterMem = false
has_broadcast EighthMem = false
has_broadcast Mem128 = false
has_broadcast T1S = false
has_broadcast T2 = false
has_broadcast T4 = false
has_broadcast T8 = false

-- whether its tuple is Half, in which an element that is broadcast has 32 bits whatever W is (table 2-34)
abbrev pub is_half : Tuple → Bool
is_half Half = true
is_half NoTuple = false
is_half Full = false
is_half FullMem = false
is_half HalfMem = false
is_half QuarterMem = false
is_half EighthMem = false
is_half Mem128 = false
is_half T1S = false
is_half T2 = false
is_half T4 = false
is_half T8 = false

-- the bytes of an element that is broadcast
abbrev pub broadcast_bytes : Tuple → (w : Bool) → ℕ
broadcast_bytes tuple w = if is_half tuple then 4 else element_bytes w

-- N of a row and its fields: the bytes of the operand in memory, which with b is one element
unfoldable pub scale_of : Row → Fields → ℕ
scale_of r f =
    if f.bc && has_broadcast r.tuple then broadcast_bytes r.tuple f.w else tuple_bytes r.tuple (r.width / 8) (vector_bytes f.l)

-- the displacement in bytes: one of one byte is multiplied, and any other is as it is
abbrev pub displacement_of : Row → Fields → ℤ
displacement_of r f = if f.disp_len == 1 then f.disp *ℤ pos (scale_of r f) else f.disp

-- When a row is the row of an instruction's fields.
use Rattle.std.specs.Prelude.{◌≡◌, ℕ, zero, suc, ◌/◌, ◌%◌, ◌<◌, ◌==◌, nat_lt, Bool, true, false, ◌&&◌, ◌||◌, Option, Some, None, List, slice_get, ◌⊎◌, find, if◌then◌else◌}
use Rattle.std.specs.Bool.{beq}
use Rattle.std.specs.List.{list_any, position}
use Rattle.std.specs.Option.{option_map, option_or}
use Rattle.row_table.specs.declared.kinds.Class.{Class}
use Rattle.row_table.specs.declared.kinds.Class.TheVariants.{Legacy, Vex, Evex}
use Rattle.row_table.specs.declared.kinds.Prefix.{Prefix}
use Rattle.row_table.specs.declared.kinds.Prefix.TheVariants.{Unmarked, Np, P66, PF3, PF2}
use Rattle.row_table.specs.declared.kinds.Standing.{Standing}
use Rattle.row_table.specs.declared.kinds.Standing.TheVariants.{Marked, Unmarked as StandsUnmarked, Apart}
use Rattle.row_table.specs.declared.kinds.Form.{Form}
use Rattle.row_table.specs.declared.kinds.Form.TheVariants.{Either, Memory, Register, Exactly}
use Rattle.row_table.specs.declared.kinds.Tuple.TheVariants.{NoTuple}
use Rattle.row_table.specs.declared.kinds.Row.{Row}
use Rattle.row_table.specs.declared.kinds.Fields.{Fields}
use Rattle.row_table.specs.declared.kinds.Shape.{Shape}
use Rattle.row_table.specs.Rows.{rows, class_number}
use Rattle.row_table.specs.Shapes.{shape_of, form_of, form_fits}

-- a row with a digit needs it in ModRM.reg
abbrev pub digit_fits : Option ℕ → Option ℕ → Bool
digit_fits None modrm = true
digit_fits (Some digit) None = false
digit_fits (Some digit) (Some byte) = (byte / 8) % 8 == digit

-- a row with a value of W needs it
abbrev pub w_fits : Option Bool → Bool → Bool
w_fits None bit = true
w_fits (Some w) bit = beq w bit

-- the row's lengths hold the one that is there: 1 for 128 bits, 2 for 256 and 4 for 512, added up; with 8 the vectors have
-- 128 bits whatever bit L is
abbrev pub length_fits : ℕ → ℕ → Bool
length_fits lengths zero = (lengths % 2 == 1) || (lengths == 8)
length_fits lengths (suc zero) = ((lengths / 2) % 2 == 1) || (lengths == 8)
length_fits lengths (suc (suc zero)) = (lengths / 4) % 2 == 1
length_fits lengths (suc (suc (suc l))) = false

-- the row is of that class, map and opcode
pub record IsAt (r : Row) (c : Class) (m o : ℕ) : Type 0 where
  pub class : r.class ≡ c
  pub map : r.map ≡ m
  pub opcode : r.opcode ≡ o

-- the row fits the fields in all but its prefix
pub record Fits (r : Row) (f : Fields) : Type 0 where
  pub at : IsAt r f.class f.map f.opcode
  pub digit : digit_fits r.digit f.modrm ≡ true
  pub w : w_fits r.w f.w ≡ true
  pub length : length_fits r.lengths f.l ≡ true
  pub form : form_fits (form_of r.operands) f.modrm ≡ true

-- a test for `Fits` of a row of the fields' class, map and opcode
unfoldable pub fits : Row → Fields → Bool
fits r f =
    digit_fits r.digit f.modrm
    && (w_fits r.w f.w && (length_fits r.lengths f.l && form_fits (form_of r.operands) f.modrm))

-- the prefix that VEX and EVEX hold in pp (Intel SDM volume 2, sections 2.3.6 and 2.7.1)
abbrev pub prefix_of_pp : ℕ → Prefix
prefix_of_pp zero = Np
prefix_of_pp (suc zero) = P66
prefix_of_pp (suc (suc zero)) = PF3
prefix_of_pp (suc (suc (suc n))) = PF2

-- the mandatory prefix: the last of F2 and F3 if one of them is there, else 66 if it is there, else none
-- (Intel SDM volume 2, section 2.1.2; which of F2 and F3 counts is this program's own)
abbrev pub mandatory_in : Class → Fields → Prefix
mandatory_in Legacy f =
    if f.rep == 0xF3 then PF3 else (if f.rep == 0xF2 then PF2 else (if f.p66 then P66 else Np))
mandatory_in Vex f = prefix_of_pp f.pp
mandatory_in Evex f = prefix_of_pp f.pp

abbrev pub mandatory : Fields → Prefix
mandatory f = mandatory_in f.class f

-- the row is marked with the prefix that is there
pub record FitsMarked (r : Row) (f : Fields) : Type 0 where
  pub fits : Fits r f
  pub prefix : r.prefix ≡ mandatory f

-- the row has no mark
pub record FitsUnmarked (r : Row) (f : Fields) : Type 0 where
  pub fits : Fits r f
  pub prefix : r.prefix ≡ Unmarked

-- what a test of one row says
abbrev pub Stands : Row → Fields → Standing → Type 0
Stands r f Marked = FitsMarked r f
Stands r f StandsUnmarked = FitsUnmarked r f
Stands r f Apart = (FitsMarked r f → ⊥) × (FitsUnmarked r f → ⊥)

-- The fields match the row with that index: a marked one, or an unmarked one where they match no
-- marked one.
pub data Matches (rs : List Row) (f : Fields) (i : ℕ) : Type 0 where
  by_mark : (r : Row) → slice_get rs i ≡ Some r → FitsMarked r f → Matches rs f i
  without_mark : (r : Row) → slice_get rs i ≡ Some r → FitsUnmarked r f
      → ((j : ℕ) (q : Row) → slice_get rs j ≡ Some q → FitsMarked q f → ⊥) → Matches rs f i

-- a test for `IsAt`
abbrev pub is_at : Class → ℕ → ℕ → Row → Bool
is_at class map opcode r =
    (class_number r.class == class_number class) && ((r.map == map) && (r.opcode == opcode))

abbrev pub prefix_number : Prefix → ℕ
prefix_number Unmarked = 0
prefix_number Np = 1
prefix_number P66 = 2
prefix_number PF3 = 3
prefix_number PF2 = 4

abbrev pub same_prefix : Prefix → Prefix → Bool
same_prefix p q = prefix_number p == prefix_number q

-- a test for `Fits`, of any row
abbrev pub fits_at : Fields → Row → Bool
fits_at f r = is_at f.class f.map f.opcode r && fits r f

-- a test for `FitsMarked`
abbrev pub is_marked : Fields → Row → Bool
is_marked f r = fits_at f r && same_prefix r.prefix (mandatory f)

-- a test for `FitsUnmarked`
abbrev pub is_unmarked : Fields → Row → Bool
is_unmarked f r = fits_at f r && same_prefix r.prefix Unmarked

-- The row that the fields match, computed: the first that is marked with the prefix that is there (Intel SDM
-- volume 2, section 2.1.2), else the first without a mark, else none.
unfoldable pub matched : Fields → Option ℕ
matched f = option_or (position (is_marked f) rows) (position (is_unmarked f) rows)

-- the shape of a class, map and opcode: that of its first row, and all its rows have one; none where it
-- has no row
unfoldable pub shape_at : Class → ℕ → ℕ → Option Shape
shape_at class map opcode = option_map shape_of (find (is_at class map opcode) rows)

-- the class has a row in the map
unfoldable pub map_used : Class → ℕ → Bool
map_used class map = list_any (λ r. (class_number r.class == class_number class) && (r.map == map)) rows

-- an operand in ModRM.r/m may be in memory
abbrev pub takes_memory : Form → Bool
takes_memory Either = true
takes_memory Memory = true
takes_memory Register = false
takes_memory (Exactly byte) = nat_lt byte 0xC0

-- What holds of every row and of each two rows.
pub record IsTable (rs : List Row) : Type 0 where
  -- maps and opcodes are within their ranges
  pub ranges : (i : ℕ) (r : Row) → slice_get rs i ≡ Some r → (r.map < 4) × (r.opcode < 256)
  -- fields match at most one row
  pub one_row : (f : Fields) (i j : ℕ) → Matches rs f i → Matches rs f j → i ≡ j
  -- the rows of a class, map and opcode have one shape
  pub one_shape : (i j : ℕ) (r q : Row) → slice_get rs i ≡ Some r → slice_get rs j ≡ Some q
      → IsAt r q.class q.map q.opcode → shape_of r ≡ shape_of q
  -- no ModRM byte fits both a legacy row marked NP or 66 and a row without a mark, of one map and opcode
  pub marks_apart : (i j : ℕ) (r q : Row) (modrm : Option ℕ)
      → slice_get rs i ≡ Some r → slice_get rs j ≡ Some q → IsAt r q.class q.map q.opcode
      → r.class ≡ Legacy → (r.prefix ≡ Np) ⊎ (r.prefix ≡ P66) → q.prefix ≡ Unmarked
      → digit_fits r.digit modrm ≡ true → form_fits (form_of r.operands) modrm ≡ true
      → digit_fits q.digit modrm ≡ true → form_fits (form_of q.operands) modrm ≡ true → ⊥
  -- a row of EVEX that takes memory has a tuple, by which a displacement of one byte is multiplied
  pub tuples : (i : ℕ) (r : Row) → slice_get rs i ≡ Some r → r.class ≡ Evex → takes_memory (form_of r.operands) ≡ true
      → r.tuple ≡ NoTuple → ⊥

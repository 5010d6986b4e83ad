-- The shape relation: which byte lists are an instruction with which fields.
use Rattle.std.specs.Prelude.{◌≡◌, ◌≤◌, ℕ, ℤ, pos, zero, suc, ◌/◌, ◌%◌, ◌==◌, nat_lt, Bool, true, false, not, ◌&&◌, List, [], ◌∷◌, ◌++◌, length, take, slice_index, Option, Some, None, is_some, option_to_list, if◌then◌else◌}
use Rattle.std.specs.Int.{bit_at, w8, w16, w32, w64, from_le_bytes, cast_signed}
use Rattle.row_table.specs.declared.kinds.Fields.{Fields}
use Rattle.row_table.specs.declared.kinds.Shape.{Shape}
use Rattle.row_table.specs.Shapes.{sib_wanted}
use Rattle.row_table.specs.Matching.{shape_at}
use Rattle.form_scan.specs.declared.kinds.Front.{Front}
use Rattle.form_scan.specs.declared.kinds.Payload.{Payload}
use Rattle.form_scan.specs.Front.{in_front, all_in_front, front_of}
use Rattle.form_scan.specs.Payload.{of_rex, of_vex_two, of_vex_three, of_evex}

-- ---- sizes
-- with mod 0, a SIB byte with base 5 has a displacement of 4 bytes (Intel SDM volume 2, table 2-3)
abbrev pub sib_disp : Option ℕ → ℕ
sib_disp None = 0
sib_disp (Some s) = if s % 8 == 5 then 4 else 0

-- the displacement: 1 byte for mod 1, 4 for mod 2, and for mod 0 4 where r/m or the SIB base is 5
abbrev pub disp_size : Option ℕ → Option ℕ → ℕ
disp_size None sib = 0
disp_size (Some m) sib =
    if m / 64 == 1 then 1
    else (if m / 64 == 2 then 4
    else (if m / 64 == 0 then (if m % 8 == 5 then 4 else sib_disp sib) else 0))

-- 2 bytes with a 16-bit operand size, else 4
abbrev pub word_size : Bool → Bool → ℕ
word_size w p66 = if w then 4 else (if p66 then 2 else 4)

abbrev pub reg_is_zero : Option ℕ → Bool
reg_is_zero None = false
reg_is_zero (Some m) = (m / 8) % 8 == 0

-- the immediate, by its size code
abbrev pub imm_size : Bool → Bool → Bool → ℕ → Option ℕ → ℕ
imm_size w p66 p67 code m =
    if code == 10 then word_size w p66
    else (if code == 11 then (if w then 8 else word_size w p66)
    else (if code == 12 then (if p67 then 4 else 8)
    else (if code == 13 then (if reg_is_zero m then 1 else 0)
    else (if code == 14 then (if reg_is_zero m then word_size w p66 else 0)
    else (if code == 1 then 1
    else (if code == 2 then 2
    else (if code == 4 then 4
    else (if code == 8 then 8 else 0))))))))

-- ---- numbers, the lowest byte first
unfoldable pub number_of : List ℕ → ℕ
number_of bytes =
    if length bytes == 1 then slice_index bytes 0
    else (if length bytes == 2 then from_le_bytes w16 bytes
    else (if length bytes == 4 then from_le_bytes w32 bytes
    else (if length bytes == 8 then from_le_bytes w64 bytes else 0)))

-- in two's complement
unfoldable pub signed_of : List ℕ → ℤ
signed_of bytes =
    if length bytes == 1 then cast_signed w8 (slice_index bytes 0)
    else (if length bytes == 4 then cast_signed w32 (from_le_bytes w32 bytes) else pos 0)

-- ---- the fields that the parts give
unfoldable pub fields_of : Front → Payload → ℕ → Option ℕ → Option ℕ → List ℕ → List ℕ → Fields
fields_of front k opcode modrm sib disp imm = record {
  class = k.class;
  segment = front.segment;
  lock = front.lock;
  rep = front.rep;
  p66 = front.p66;
  p67 = front.p67;
  rex = not (front.rex == 0);
  w = k.w;
  r = k.r;
  x = k.x;
  b = k.b;
  v = k.v;
  l = k.l;
  pp = k.pp;
  map = k.map;
  opcode = opcode;
  modrm = modrm;
  sib = sib;
  disp = signed_of disp;
  disp_len = length disp;
  imm = number_of imm;
  imm_len = length imm;
  z = k.z;
  bc = k.bc;
  aaa = k.aaa;
}

-- ---- from the escape to the opcode
abbrev pub escape : ℕ → List ℕ
escape zero = []
escape (suc zero) = 0x0F ∷ []
escape (suc (suc zero)) = 0x0F ∷ 0x38 ∷ []
escape (suc (suc (suc n))) = 0x0F ∷ 0x3A ∷ []

-- a byte that is an opcode of its map: no prefix, no escape, and no beginning of VEX or EVEX, which C4,
-- C5 and 62 always are in 64-bit code
abbrev pub is_opcode : ℕ → ℕ → Bool
is_opcode zero o =
    not (in_front o) && (not (o == 0x0F) && (not (o == 0xC5) && (not (o == 0xC4) && not (o == 0x62))))
is_opcode (suc zero) o = not (o == 0x38) && not (o == 0x3A)
is_opcode (suc (suc zero)) o = true
is_opcode (suc (suc (suc zero))) o = true
is_opcode (suc (suc (suc (suc n)))) o = false

-- The bytes from the escape, C5, C4 or 62 to the opcode. EVEX has bit 3 of its second byte 0 and bit 2 of
-- its third byte 1. `rex` is the REX byte before them, or 0.
pub data Part (rex : ℕ) (part : List ℕ) (k : Payload) (o : ℕ) : Type 0 where
  by_escape : (m : ℕ) → k ≡ of_rex m rex → is_opcode m o ≡ true → part ≡ escape m ++ o ∷ [] → Part rex part k o
  by_vex_two : (p : ℕ) → k ≡ of_vex_two p → part ≡ 0xC5 ∷ p ∷ o ∷ [] → Part rex part k o
  by_vex_three : (p q : ℕ) → k ≡ of_vex_three p q → part ≡ 0xC4 ∷ p ∷ q ∷ o ∷ [] → Part rex part k o
  by_evex : (p q s : ℕ) → k ≡ of_evex p q s → bit_at p 3 ≡ 0 → bit_at q 2 ≡ 1
      → part ≡ 0x62 ∷ p ∷ q ∷ s ∷ o ∷ [] → Part rex part k o

-- The bytes are an instruction with these fields: prefixes, the part up to the opcode, ModRM, SIB,
-- displacement and immediate, as far as the rows of its class, map and opcode have them.
pub record Shaped (bytes : List ℕ) (f : Fields) : Type 0 where
  pub front : List ℕ
  pub front_bytes : all_in_front front ≡ true
  pub part : List ℕ
  pub payload : Payload
  pub opcode : ℕ
  pub part_says : Part (front_of front).rex part payload opcode
  pub shape : Shape
  pub has_shape : shape_at payload.class payload.map opcode ≡ Some shape
  pub modrm : Option ℕ
  pub modrm_there : is_some modrm ≡ shape.modrm
  pub sib : Option ℕ
  pub sib_there : is_some sib ≡ sib_wanted modrm
  pub disp : List ℕ
  pub disp_length : length disp ≡ disp_size modrm sib
  pub imm : List ℕ
  pub imm_length : length imm ≡ imm_size payload.w (front_of front).p66 (front_of front).p67 shape.imm modrm
  pub fields : f ≡ fields_of (front_of front) payload opcode modrm sib disp imm
  pub spelled : bytes ≡ front ++ (part ++ (option_to_list modrm ++ (option_to_list sib ++ (disp ++ imm))))

-- ---- what a scan tells
-- how many bytes an instruction has at most (Intel SDM volume 2, section 2.3.11)
abbrev pub most_bytes : ℕ
most_bytes = 15

unfoldable pub within_limit : List ℕ → List ℕ
within_limit bytes = take most_bytes bytes

unfoldable pub all_bytes : List ℕ → Bool
all_bytes [] = true
all_bytes (b ∷ bs) = nat_lt b 256 && all_bytes bs

-- the first n of the bytes are an instruction
pub record IsWhole (bytes : List ℕ) (f : Fields) (n : ℕ) : Type 0 where
  pub within : n ≤ length bytes
  pub shaped : Shaped (take n bytes) f

-- the bytes are an instruction's first ones, but not all of it
pub record IsCut (bytes : List ℕ) : Type 0 where
  pub next : ℕ
  pub more : List ℕ
  pub fields : Fields
  pub bytes_fit : all_bytes (next ∷ more) ≡ true
  pub shaped : Shaped (bytes ++ next ∷ more) fields

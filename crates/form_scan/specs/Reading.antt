-- Reading an instruction from left to right, a part at a time: what the private functions answer. The
-- shape relation does not use it.
use Rattle.std.specs.Prelude.{◌≡◌, ℕ, ◌%◌, ◌==◌, nat_lt, Bool, false, ◌&&◌, ◌||◌, List, [], ◌∷◌, length, take, drop, Option, Some, None, Result, Ok, Err, if◌then◌else◌}
use Rattle.std.specs.Int.{bit_at}
use Rattle.row_table.specs.declared.kinds.Class.{Class}
use Rattle.row_table.specs.declared.kinds.Class.TheVariants.{Legacy, Vex, Evex}
use Rattle.row_table.specs.declared.kinds.Fields.{Fields}
use Rattle.row_table.specs.declared.kinds.Shape.{Shape}
use Rattle.row_table.specs.Shapes.{sib_wanted}
use Rattle.row_table.specs.Matching.{shape_at, map_used}
use Rattle.form_scan.specs.declared.kinds.Stop.{Stop}
use Rattle.form_scan.specs.declared.kinds.Stop.TheVariants.{Short, Dead}
use Rattle.form_scan.specs.declared.kinds.Front.{Front}
use Rattle.form_scan.specs.declared.kinds.Payload.{Payload}
use Rattle.form_scan.specs.declared.kinds.Lead.{Lead}
use Rattle.form_scan.specs.declared.kinds.Head.{Head}
use Rattle.form_scan.specs.Front.{is_rex, is_segment, is_repeat, in_front}
use Rattle.form_scan.specs.Payload.{of_rex, of_vex_two, of_vex_three, of_evex}
use Rattle.form_scan.specs.Shaped.{disp_size, imm_size, fields_of}

infixl 10 ◌>>=◌
abbrev pub ◌>>=◌ : {A B : Type 0} → Result A Stop → (A → Result B Stop) → Result B Stop
(Ok x) >>= f = f x
(Err e) >>= f = Err e

-- what a function answers, seen through `view`, is what was read
abbrev pub Gives : {X Y : Type 0} → (X → Y) → Result X Stop → Result Y Stop → Type 0
Gives view (Ok x) read = read ≡ Ok (view x)
Gives view (Err e) read = read ≡ Err e

abbrev pub no_front : Front
no_front = record { segment = 0; lock = false; rep = 0; p66 = false; p67 = false; rex = 0 }

-- what is known of a front after one more byte
unfoldable pub after : Front → ℕ → Front
after f b = record {
  segment = if is_segment b then b else f.segment;
  lock = f.lock || (b == 0xF0);
  rep = if is_repeat b then b else f.rep;
  p66 = f.p66 || (b == 0x66);
  p67 = f.p67 || (b == 0x67);
  rex = if is_rex b then b else 0;
}

unfoldable pub lead_at : Front → List ℕ → Result (Lead × List ℕ) Stop
lead_at f [] = Err Short
lead_at f (b ∷ bs) =
    let more = lead_at (after f b) bs in if in_front b then more else Ok (record { front = f; byte = b }, bs)

abbrev pub head_of : Front → Payload → ℕ → Option Shape → Result Head Stop
head_of f k o None = Err Dead
head_of f k o (Some s) = Ok (record { front = f; payload = k; opcode = o; shape = s })

unfoldable pub shaped_head : Front → Payload → ℕ → Result Head Stop
shaped_head f k o = head_of f k o (shape_at k.class k.map o)

abbrev pub with_rest : List ℕ → Head → Result (Head × List ℕ) Stop
with_rest rest h = Ok (h, rest)

abbrev pub byte_at : List ℕ → Result (ℕ × List ℕ) Stop
byte_at [] = Err Short
byte_at (b ∷ rest) = Ok (b, rest)

unfoldable pub opcode_at : Front → Payload → List ℕ → Result (Head × List ℕ) Stop
opcode_at f k bytes = byte_at bytes >>= λ x. shaped_head f k x.0 >>= with_rest x.1

-- the class has a row in some map
abbrev pub class_used : Class → Bool
class_used c = map_used c 0 || (map_used c 1 || (map_used c 2 || map_used c 3))

-- after 0F and 38 or 3A
unfoldable pub long_at : Front → ℕ → List ℕ → Result (Head × List ℕ) Stop
long_at f m bytes = if map_used Legacy m then opcode_at f (of_rex m f.rex) bytes else Err Dead

unfoldable pub escape_at : Front → List ℕ → Result (Head × List ℕ) Stop
escape_at f bytes =
    byte_at bytes >>= λ x.
    if x.0 == 0x38 then long_at f 2 x.1
    else (if x.0 == 0x3A then long_at f 3 x.1
    else (shaped_head f (of_rex 1 f.rex) x.0 >>= with_rest x.1))

unfoldable pub vex_two_at : Front → List ℕ → Result (Head × List ℕ) Stop
vex_two_at f bytes =
    if map_used Vex 1 then (byte_at bytes >>= λ p. opcode_at f (of_vex_two p.0) p.1) else Err Dead

unfoldable pub vex_last_at : Front → ℕ → List ℕ → Result (Head × List ℕ) Stop
vex_last_at f p bytes =
    if map_used Vex (p % 32) then (byte_at bytes >>= λ q. opcode_at f (of_vex_three p q.0) q.1) else Err Dead

unfoldable pub vex_three_at : Front → List ℕ → Result (Head × List ℕ) Stop
vex_three_at f bytes =
    if class_used Vex then (byte_at bytes >>= λ p. vex_last_at f p.0 p.1) else Err Dead

unfoldable pub evex_last_at : Front → ℕ → ℕ → List ℕ → Result (Head × List ℕ) Stop
evex_last_at f p q bytes =
    if bit_at q 2 == 1 then (byte_at bytes >>= λ s. opcode_at f (of_evex p q s.0) s.1) else Err Dead

unfoldable pub evex_more_at : Front → ℕ → List ℕ → Result (Head × List ℕ) Stop
evex_more_at f p bytes =
    if (bit_at p 3 == 0) && map_used Evex (p % 8) then (byte_at bytes >>= λ q. evex_last_at f p q.0 q.1)
    else Err Dead

unfoldable pub evex_at : Front → List ℕ → Result (Head × List ℕ) Stop
evex_at f bytes =
    if class_used Evex then (byte_at bytes >>= λ p. evex_more_at f p.0 p.1) else Err Dead

unfoldable pub head_at : Lead → List ℕ → Result (Head × List ℕ) Stop
head_at l bytes =
    if l.byte == 0x0F then escape_at l.front bytes
    else (if l.byte == 0xC5 then vex_two_at l.front bytes
    else (if l.byte == 0xC4 then vex_three_at l.front bytes
    else (if l.byte == 0x62 then evex_at l.front bytes
    else (shaped_head l.front (of_rex 0 l.front.rex) l.byte >>= with_rest bytes))))

-- a byte where one is wanted: ModRM or SIB
unfoldable pub optional_at : Bool → List ℕ → Result (Option ℕ × List ℕ) Stop
optional_at wanted bytes =
    if wanted then (byte_at bytes >>= λ x. Ok (Some x.0, x.1)) else Ok (None, bytes)

-- that many bytes
unfoldable pub chunk_at : ℕ → List ℕ → Result (List ℕ × List ℕ) Stop
chunk_at size bytes = if nat_lt (length bytes) size then Err Short else Ok (take size bytes, drop size bytes)

unfoldable pub tail_at : Head → List ℕ → Result (Fields × List ℕ) Stop
tail_at h bytes =
    optional_at h.shape.modrm bytes >>= λ m.
    optional_at (sib_wanted m.0) m.1 >>= λ s.
    chunk_at (disp_size m.0 s.0) s.1 >>= λ d.
    chunk_at (imm_size h.payload.w h.front.p66 h.front.p67 h.shape.imm m.0) d.1 >>= λ i.
    Ok (fields_of h.front h.payload h.opcode m.0 s.0 d.0 i.0, i.1)

unfoldable pub fields_at : List ℕ → Result (Fields × List ℕ) Stop
fields_at bytes = lead_at no_front bytes >>= λ l. head_at l.0 l.1 >>= λ h. tail_at h.0 h.1

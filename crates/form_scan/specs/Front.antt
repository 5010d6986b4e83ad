-- The prefixes of an instruction: legacy prefixes and REX (Intel SDM volume 2, sections 2.1.1 and 2.2.1).
use Rattle.std.specs.Prelude.{ℕ, ◌==◌, nat_le, Bool, true, false, ◌&&◌, ◌||◌, List, [], ◌∷◌, if◌then◌else◌}
use Rattle.form_scan.specs.declared.kinds.Front.{Front}

abbrev pub is_rex : ℕ → Bool
is_rex b = nat_le 0x40 b && nat_le b 0x4F

abbrev pub is_segment : ℕ → Bool
is_segment b = (b == 0x64) || (b == 0x65)

abbrev pub is_repeat : ℕ → Bool
is_repeat b = (b == 0xF2) || (b == 0xF3)

abbrev pub is_prefix : ℕ → Bool
is_prefix b =
    (b == 0xF0) || ((b == 0xF2) || ((b == 0xF3) || ((b == 0x2E) || ((b == 0x36) || ((b == 0x3E)
    || ((b == 0x26) || ((b == 0x64) || ((b == 0x65) || ((b == 0x66) || (b == 0x67))))))))))

unfoldable pub in_front : ℕ → Bool
in_front b = is_rex b || is_prefix b

unfoldable pub all_in_front : List ℕ → Bool
all_in_front [] = true
all_in_front (b ∷ bs) = in_front b && all_in_front bs

-- the last byte that passes the test, or d
unfoldable pub last_of : (ℕ → Bool) → ℕ → List ℕ → ℕ
last_of p d [] = d
last_of p d (b ∷ bs) = last_of p (if p b then b else d) bs

unfoldable pub has : ℕ → List ℕ → Bool
has x [] = false
has x (b ∷ bs) = (b == x) || has x bs

-- REX counts only as the last of the bytes
unfoldable pub last_rex : List ℕ → ℕ
last_rex [] = 0
last_rex (b ∷ []) = if is_rex b then b else 0
last_rex (b ∷ c ∷ bs) = last_rex (c ∷ bs)

-- what the bytes before an opcode or its escape say
abbrev pub front_of : List ℕ → Front
front_of bs = record {
  segment = last_of is_segment 0 bs;
  lock = has 0xF0 bs;
  rep = last_of is_repeat 0 bs;
  p66 = has 0x66 bs;
  p67 = has 0x67 bs;
  rex = last_rex bs;
}

-- What a decoder sees in some bytes: an instruction, the first bytes of one, or neither.
use Rattle.std.specs.Prelude.{ℕ, ◌≡◌, ◌↔◌, ◌<◌, ◌≤◌, nat_lt, List, ◌++◌, length, Option, Some, None, ⊤, if◌then◌else◌}
use Rattle.row_table.specs.declared.kinds.Class.{Class}
use Rattle.row_table.specs.declared.kinds.Class.TheVariants.{Legacy, Vex, Evex}
use Rattle.row_table.specs.declared.kinds.Fields.{Fields}
use Rattle.row_table.specs.declared.kinds.Decoded.{Decoded}
use Rattle.row_table.specs.Rows.{rows}
use Rattle.row_table.specs.Spelling.{Encoding, IsSpelled, spelled}
use Rattle.form_scan.specs.declared.kinds.Scan.{Scan}
use Rattle.form_scan.specs.declared.kinds.Scan.TheVariants.{Whole, Short as Cut, Dead}
use Rattle.form_scan.specs.Shaped.{most_bytes, within_limit, IsWhole, IsCut}
use Rattle.form_scan.specs.Scanning.{scanned}
use Rattle.legacy_decode.specs.Spelling.{legacy_encoding}
use Rattle.vex_decode.specs.Spelling.{vex_encoding}
use Rattle.evex_decode.specs.Spelling.{evex_encoding}
use Rattle.x_decode.specs.declared.kinds.Seen.{Seen}
use Rattle.x_decode.specs.declared.kinds.Seen.TheVariants.{Instr, Short, TooLong, Bad}

-- the encoding of each class
unfoldable pub encoding_of : Class → Encoding
encoding_of Legacy = legacy_encoding
encoding_of Vex = vex_encoding
encoding_of Evex = evex_encoding

-- the instruction is that of the fields, by the rules of their class: these fields, a row that they spell, and their displacement
abbrev pub IsDecoded : Fields → Decoded → Type 0
IsDecoded f d = IsSpelled (encoding_of f.class) f d

-- The first n of the first fifteen bytes are an instruction with the fields of `d`. They spell the row of
-- `d`, and its displacement is theirs.
pub record IsInstr (bytes : List ℕ) (d : Decoded) (n : ℕ) : Type 0 where
  pub whole : IsWhole (within_limit bytes) d.fields n
  pub decoded : IsDecoded d.fields d

-- the bytes are fewer than fifteen, and an instruction's first ones but not all of it
pub record IsShort (bytes : List ℕ) : Type 0 where
  pub few : length bytes < most_bytes
  pub cut : IsCut bytes

-- the first fifteen bytes are an instruction's first ones but not all of it
pub record IsTooLong (bytes : List ℕ) : Type 0 where
  pub enough : most_bytes ≤ length bytes
  pub cut : IsCut (within_limit bytes)

-- none of these
pub record IsBad (bytes : List ℕ) : Type 0 where
  pub no_instr : (d : Decoded) (n : ℕ) → IsInstr bytes d n → ⊥
  pub not_short : IsShort bytes → ⊥
  pub not_too_long : IsTooLong bytes → ⊥

-- where an instruction is seen, its row is in the table, and it has at least one byte, and some of the first
-- fifteen
abbrev pub InRange : List ℕ → Seen → Type 0
InRange bytes (Instr d n) = (d.row < length rows) × (1 ≤ n) × (n ≤ length bytes) × (n ≤ most_bytes)
InRange bytes Short = ⊤
InRange bytes TooLong = ⊤
InRange bytes Bad = ⊤

-- ---- the same, computed
-- an instruction of n bytes, if there is one
abbrev pub seen_whole : ℕ → Option Decoded → Seen
seen_whole n None = Bad
seen_whole n (Some d) = Instr d n

-- of so many bytes, by what a scan of them answers
abbrev pub seen_of : ℕ → Scan → Seen
seen_of count (Whole f n) = seen_whole n (spelled (encoding_of f.class) f)
seen_of count Cut = if nat_lt count most_bytes then Short else TooLong
seen_of count Dead = Bad

-- what the bytes begin with, of which the first fifteen count (Intel SDM volume 2, section 2.3.11)
unfoldable pub seen : List ℕ → Seen
seen bytes = seen_of (length bytes) (scanned bytes)

-- all that is said of an answer: each is given exactly where its definition holds, it is in range, it is what `seen` computes, and
-- more bytes don't change it, unless all of them are the first of an instruction and fewer than fifteen
pub record IsSeen (bytes : List ℕ) (what : Seen) : Type 0 where
  pub instr : (d : Decoded) (n : ℕ) → (what ≡ Instr d n) ↔ IsInstr bytes d n
  pub short : (what ≡ Short) ↔ IsShort bytes
  pub too_long : (what ≡ TooLong) ↔ IsTooLong bytes
  pub bad : (what ≡ Bad) ↔ IsBad bytes
  pub within : InRange bytes what
  pub value : what ≡ seen bytes
  pub stays : (what ≡ Short → ⊥) → (more : List ℕ) → seen (bytes ++ more) ≡ what

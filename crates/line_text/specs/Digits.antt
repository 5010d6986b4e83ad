-- Numbers as text in base 16. In base 10 they are std's `decimal`.
use Rattle.std.specs.Prelude.{ℕ, zero, suc, ◌/◌, ◌%◌, false, List, [], ◌∷◌, ◌++◌}
use Rattle.std.specs.Fmt.{digit_glyph}

-- how many bytes a line may have (this program's own)
abbrev pub line_len : ℕ
line_len = 256

-- the last so many hexadecimal digits of a number, the lowest last, in lower case
unfoldable pub hex_digits : ℕ → ℕ → List ℕ
hex_digits zero n = []
hex_digits (suc count) n = hex_digits count (n / 16) ++ digit_glyph false (n % 16) ∷ []

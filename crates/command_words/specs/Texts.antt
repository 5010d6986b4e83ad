-- Words as texts, each the list of its bytes, and the numbers that they are.
use Rattle.std.specs.Prelude.{ℕ, Bool, not, ◌&&◌, ◌==◌, nat_lt, nat_le, nat_eq, List, [], ◌∷◌, length, slice_index, slice_index_or}
use Rattle.std.specs.List.{list_any, list_all, starts_with}
use Rattle.std.specs.Char.{is_digit}
use Rattle.std.specs.Str.Parse.{digits_value}

-- the word at a place
abbrev pub word_at : List (List ℕ) → ℕ → List ℕ
word_at words place = slice_index_or words place []

-- whether a text has the byte 0
abbrev pub has_zero : List ℕ → Bool
has_zero text = list_any (λ byte. nat_eq byte 0) text

-- whether it begins with `--`
abbrev pub begins_as_option : List ℕ → Bool
begins_as_option text = starts_with nat_eq text (45 ∷ 45 ∷ [])

-- whether it has a `0` before other characters
abbrev pub has_leading_zero : List ℕ → Bool
has_leading_zero text = nat_lt 1 (length text) && slice_index text 0 == 48

-- whether it is a number: one decimal digit or more, without a leading zero
unfoldable pub is_number : List ℕ → Bool
is_number text = nat_lt 0 (length text) && list_all (λ digit. is_digit digit 10) text && not (has_leading_zero text)

-- the number that its digits write
abbrev pub number_of : List ℕ → ℕ
number_of text = digits_value 10 text

-- whether it is a number of a range
unfoldable pub is_number_within : (least most : ℕ) → List ℕ → Bool
is_number_within least most text = is_number text && nat_le least (number_of text) && nat_le (number_of text) most

-- Powers of 16 as shifts, and a digit more behind those that stand.
use Rattle.std.proofs.Common.{◌≡◌, ℕ, zero, suc, ◌+◌, ◌-◌, ◌*◌, ◌/◌, ◌%◌, ◌^◌, ◌<◌, false, ◌∷◌, [], ◌++◌, length, refl, ap, sym, ◌∙◌, arith}
use Rattle.std.proofs.Math.Nat.{pow-suc, div-div-eq-div-mul, mul-suc}
use Rattle.std.proofs.lemmas.Nat.{pow-add}
use Rattle.std.proofs.lemmas.List.{length-append}
use Rattle.std.specs.Fmt.{digit_glyph}
use Rattle.line_text.specs.Digits.{hex_digits}

-- a hexadecimal digit is four bits
pub pow_sixteen : (k : ℕ) → 16 ^ k ≡ 2 ^ (4 * k)
pow_sixteen zero = refl
pow_sixteen (suc k) = pow-suc 16 k ∙ rw (pow_sixteen k, mul-suc 4 k, pow-add 2 (4 * k) 4) refl

-- there are as many digits as are asked for
pub length-hex_digits : (count n : ℕ) → length (hex_digits count n) ≡ count
unfolding hex_digits
length-hex_digits zero n = refl
length-hex_digits (suc count) n =
    length-append (hex_digits count (n / 16)) (digit_glyph false (n % 16) ∷ []) ∙ rw (length-hex_digits count (n / 16)) (omega arith)

-- with one digit more, the digits so far are those of the number without its lowest one
hex_digits-suc : (count n : ℕ) → hex_digits (suc count) n ≡ hex_digits count (n / 16) ++ digit_glyph false (n % 16) ∷ []
unfolding hex_digits
hex_digits-suc count n = refl

-- the digits of a number without its lowest ones, and the next of these
pub digit_more : (n digits done : ℕ) → done < digits →
    hex_digits done (n / 16 ^ (digits - done)) ++ digit_glyph false (n / 16 ^ (digits - 1 - done) % 16) ∷ []
    ≡ hex_digits (done + 1) (n / 16 ^ (digits - (done + 1)))
digit_more n digits done below =
    let place = digits - (done + 1) in
    let left : digits - done ≡ suc place = omega arith in
    let here : digits - 1 - done ≡ place = omega arith in
    let front : n / 16 ^ suc place ≡ n / 16 ^ place / 16 =
    ap (λ m. n / m) (pow-suc 16 place) ∙ sym (div-div-eq-div-mul n (16 ^ place) 16) in
    let last = digit_glyph false (n / 16 ^ place % 16) ∷ [] in
    rw (left, here) (ap (λ m. hex_digits done m ++ last) front
    ∙ sym (hex_digits-suc done (n / 16 ^ place)) ∙ ap (λ count. hex_digits count (n / 16 ^ place)) (omega arith))

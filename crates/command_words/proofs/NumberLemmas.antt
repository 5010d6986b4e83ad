-- Numbers, and what `parse` reads.
use Rattle.std.proofs.Common.{◌≡◌, ℕ, ◌<◌, ◌≤◌, ◌^◌, Bool, true, false, ◌&&◌, cond, nat_lt, nat_eq, List, [], ◌∷◌, length, get_or, Option, Some, None, Result, Ok, Err, refl, sym, ◌∙◌, ap, arith, ◌≢◌, eqb, subst}
use Rattle.std.specs.List.{list_all, starts_with}
use Rattle.std.specs.Char.{is_digit, digit_value}
use Rattle.std.specs.Result.{OkIff}
use Rattle.std.specs.Str.Parse.{AllDigits, digits_value, ParsesUnsigned}
use Rattle.std.proofs.lemmas.Bool.{and_parts, and_from, and_left, and_right, ltb-true, leb-true, lt-ltb, cond-true, cond-false, false_from_ne_true, both_ways, eq-eqb, eqb-true, not_from_false, not_from_true}
use Rattle.std.proofs.lemmas.Str.Parse.{IsNumeralModel, parse_plain}
use Rattle.command_words.specs.Texts.{is_number, has_leading_zero, number_of, is_number_within}

abbrev pub all_digits : List ℕ → Bool
all_digits text = list_all (λ digit. is_digit digit 10) text

digits-to : (ds : List ℕ) → all_digits ds ≡ true → AllDigits 10 ds
digits-to [] e = tt
digits-to (d ∷ ds) e =
    let both = and_parts (is_digit d 10) (all_digits ds) e in (ltb-true (digit_value d) 10 both.0, digits-to ds both.1)

digits-from : (ds : List ℕ) → AllDigits 10 ds → all_digits ds ≡ true
digits-from [] e = refl
digits-from (d ∷ ds) e = and_from (is_digit d 10) (all_digits ds) (lt-ltb (digit_value d) 10 e.0) (digits-from ds e.1)

own : IsNumeralModel (λ ds. all_digits ds ≡ true) (digits_value 10)
own = record { to = digits-to; from = digits-from; same = λ ds h. refl }

no-plus : (bs : List ℕ) → starts_with nat_eq bs (43 ∷ []) ≡ false → get_or bs 0 0 ≢ 43
no-plus [] h e = omega arith
no-plus (b ∷ bs) h e = both_ways (eqb 43 b) (and_true (eqb 43 b) h) (eq-eqb 43 b (sym e))
  where
    and_true : (t : Bool) → (t && true) ≡ false → t ≡ false
    and_true true h = h
    and_true false h = refl

-- the text of a number that is below 2^64, and a text that isn't one
accept : (bs : List ℕ) (n : ℕ) → has_leading_zero bs ≡ false → all_digits bs ≡ true → 0 < length bs → number_of bs < 2 ^ 64 → n ≡ number_of bs
    → Some n ≡ cond (is_number bs && nat_lt (number_of bs) (2 ^ 64)) (Some (number_of bs)) None
unfolding is_number
accept bs n z d l lt e =
    ap (λ (m : ℕ). let o : Option ℕ = Some m in o) e
    ∙ sym (cond-true (is_number bs && nat_lt (number_of bs) (2 ^ 64)) (Some (number_of bs)) None
    (and_from _ _ (and_from _ _ (and_from _ _ (lt-ltb 0 (length bs) l) d) (not_from_false (has_leading_zero bs) z)) (lt-ltb (number_of bs) (2 ^ 64) lt)))

refuse : (bs : List ℕ) → ((all_digits bs ≡ true) × (0 < length bs) × (number_of bs < 2 ^ 64) → ⊥)
    → None ≡ cond (is_number bs && nat_lt (number_of bs) (2 ^ 64)) (Some (number_of bs)) None
unfolding is_number
refuse bs not_one =
    sym (cond-false (is_number bs && nat_lt (number_of bs) (2 ^ 64)) (Some (number_of bs)) None
    (false_from_ne_true _ (λ e.
    let out = and_parts _ _ e in
    let number = and_parts _ _ out.0 in
    let front = and_parts _ _ number.0 in
    not_one (front.1, ltb-true 0 (length bs) front.0, ltb-true (number_of bs) (2 ^ 64) out.1))))

pub parsed-ok : {E : Type 0} (bs : List ℕ) (r : Result ℕ E) (n : ℕ) → ParsesUnsigned 64 10 bs r → starts_with nat_eq bs (43 ∷ []) ≡ false
    → has_leading_zero bs ≡ false → r ≡ Ok n → Some n ≡ cond (is_number bs && nat_lt (number_of bs) (2 ^ 64)) (Some (number_of bs)) None
parsed-ok {E} bs r n h p z e =
    let is = subst (λ (r : Result ℕ E). OkIff r ((all_digits bs ≡ true) × (0 < length bs) × (digits_value 10 bs < 2 ^ 64)) (digits_value 10 bs)) e
    (parse_plain own 64 bs r h (no-plus bs p)) in
    accept bs n z is.0.0 is.0.1 is.0.2 is.1

pub parsed-err : {E : Type 0} (bs : List ℕ) (r : Result ℕ E) (fault : E) → ParsesUnsigned 64 10 bs r → starts_with nat_eq bs (43 ∷ []) ≡ false
    → r ≡ Err fault → None ≡ cond (is_number bs && nat_lt (number_of bs) (2 ^ 64)) (Some (number_of bs)) None
parsed-err {E} bs r fault h p e =
    refuse bs (subst (λ (r : Result ℕ E). OkIff r ((all_digits bs ≡ true) × (0 < length bs) × (digits_value 10 bs < 2 ^ 64)) (digits_value 10 bs)) e
    (parse_plain own 64 bs r h (no-plus bs p)))

-- what isn't a number: a text with a plus in front, or a leading zero
plus-digit : (bs : List ℕ) → starts_with nat_eq bs (43 ∷ []) ≡ true → all_digits bs ≡ false
plus-digit [] h = cc
plus-digit (b ∷ bs) h =
    let e : b ≡ 43 = sym (eqb-true 43 b ((and_parts (eqb 43 b) true h).0)) in
    and_left (is_digit b 10) (all_digits bs) (ap (λ (d : ℕ). is_digit d 10) e)

pub refused-plus : (bs : List ℕ) → starts_with nat_eq bs (43 ∷ []) ≡ true
    → None ≡ cond (is_number bs && nat_lt (number_of bs) (2 ^ 64)) (Some (number_of bs)) None
refused-plus bs h = refuse bs (λ is. both_ways (all_digits bs) (plus-digit bs h) is.0)

pub refused-zero : (bs : List ℕ) → has_leading_zero bs ≡ true
    → None ≡ cond (is_number bs && nat_lt (number_of bs) (2 ^ 64)) (Some (number_of bs)) None
unfolding is_number
refused-zero bs h =
    sym (cond-false (is_number bs && nat_lt (number_of bs) (2 ^ 64)) (Some (number_of bs)) None
    (and_left _ _ (and_right _ _ (not_from_true (has_leading_zero bs) h))))

-- the number of a range is at most the greatest
range-most : (b : Bool) (n m most : ℕ) → (b ≡ true → m ≤ most) → Some n ≡ cond b (Some m) None → n ≤ most
range-most true n m most le e = let same : n ≡ m = cc in omega (arith, le refl)
range-most false n m most le e = cc

pub within-most : (least most n : ℕ) (text : List ℕ) → Some n ≡ cond (is_number_within least most text) (Some (number_of text)) None → n ≤ most
unfolding is_number_within
within-most least most n text e =
    range-most (is_number_within least most text) n (number_of text) most (λ b. leb-true (number_of text) most (and_parts _ _ b).1) e

-- A number in two's complement by its halves.
use Rattle.std.proofs.Common.{◌≡◌, ℕ, ℤ, suc, pos, negsuc, ◌+◌, ◌-◌, ◌*◌, ◌^◌, ◌<◌, ◌≤◌, true, false, ◌+ℤ◌, ◌-ℤ◌, ◌*ℤ◌, FitsSigned, of_z, to_z, ⊎_elim, ap, sym, ◌∙◌, arith}
use Rattle.std.specs.Int.{w64, w128}
use Rattle.std.proofs.lemmas.Int.{ints, to_z-of_z, to_z_pos}
use Rattle.std.proofs.lemmas.Bool.{cases_lt, le-leb, lt-leb}
use Rattle.std.proofs.lemmas.Nat.{pow-add}
use Rattle.std.proofs.Math.IntN.{negsuc-*ℤ-pos}
use Rattle.std.proofs.Math.Nat.{pow-le-pow_right, mul-le-mul_right, suc-mul, add-mul, mul_assoc, mul_comm}
use Rattle.gpr_flags.specs.Numbers.{signed_of, is_negative}
use Rattle.gpr_flags.proofs.Signs.{power-half, is_negative-by_half}

-- p is 2 ^ n, q is half of it, and l and h are below p
pub record Halves (n l h p q : ℕ) : Type 0 where
  pub square : p * p ≡ 2 ^ (2 * n)
  pub mid : q * p ≡ 2 ^ (2 * n - 1)
  pub twice : p * p ≡ 2 * (q * p)
  pub most : q * p ≤ 2 ^ 127
  pub low : l < p
  pub high : h < p
  pub below : h * p + p ≤ p * p

halves : (n l h : ℕ) → 0 < n → n ≤ 64 → l < 2 ^ n → h < 2 ^ n → Halves n l h (2 ^ n) (2 ^ (n - 1))
halves n l h some most low high =
    let two : 0 < 2 = omega arith in
    let twice : 2 ^ n ≡ 2 * 2 ^ (n - 1) = power-half n some in
    let less : 2 ^ (n - 1) ≤ 2 ^ 63 = pow-le-pow_right two {i = n - 1} {j = 63} (omega arith) in
    let whole : 2 ^ n ≤ 2 ^ 64 = pow-le-pow_right two most in
    let step : 2 ^ (n - 1) * 2 ^ n ≤ 2 ^ 63 * 2 ^ n = mul-le-mul_right (2 ^ n) less in
    let row : suc h * 2 ^ n ≤ 2 ^ n * 2 ^ n = mul-le-mul_right (2 ^ n) high in
    let both : n + n ≡ 2 * n = omega arith in
    let under : n - 1 + n ≡ 2 * n - 1 = omega arith in
    record {
      square = sym (pow-add 2 n n) ∙ ap (λ k. 2 ^ k) both;
      mid = sym (pow-add 2 (n - 1) n) ∙ ap (λ k. 2 ^ k) under;
      twice = ap (λ x. x * 2 ^ n) twice ∙ mul_assoc 2 (2 ^ (n - 1)) (2 ^ n);
      most = omega (arith, step, whole);
      low = low;
      high = high;
      below = omega (arith, row, suc-mul h (2 ^ n));
    }

-- a number below p, less p, times p
less-mul : (h p : ℕ) → h < p → (pos h -ℤ pos p) *ℤ pos p ≡ pos (h * p) -ℤ pos (p * p)
less-mul h p high =
    let k = p - suc h in
    let up : p ≡ h + suc k = omega arith in
    let turned : pos h -ℤ pos p ≡ negsuc k = omega (arith, ints) in
    let all : p * p ≡ h * p + suc k * p = ap (λ x. x * p) up ∙ add-mul h (suc k) p in
    ap (λ z. z *ℤ pos p) turned ∙ negsuc-*ℤ-pos k p ∙ omega (arith, ints, all)

-- what the upper half gives, times p, is 0 or more where it is below q, and else less than that by p times p
pub record Signed (l h p : ℕ) (s whole : ℤ) : Type 0 where
  pub product : FitsSigned w128 (s *ℤ pos p)
  pub total : FitsSigned w128 (s *ℤ pos p +ℤ pos l)
  pub sum : s *ℤ pos p +ℤ pos l ≡ whole

positive : (n l h p q : ℕ) → Halves n l h p q → h < q → Signed l h p (pos h) (pos (l + p * h))
positive n l h p q k below =
    let row : suc h * p ≤ q * p = mul-le-mul_right p below in
    let turn : p * h ≡ h * p = mul_comm p h in
    let step : suc h * p ≡ h * p + p = suc-mul h p in
    record {
      product = record { sfits = omega (arith, row, step, k.most) };
      total = record { sfits = omega (arith, row, step, k.most, k.low) };
      sum = rw turn (omega (arith, ints));
    }

negative : (n l h p q : ℕ) → Halves n l h p q → q ≤ h → Signed l h p (pos h -ℤ pos p) (pos (l + p * h) -ℤ pos (p * p))
negative n l h p q k above =
    let row : q * p ≤ h * p = mul-le-mul_right p above in
    let e = less-mul h p k.high in
    let turn : p * h ≡ h * p = mul_comm p h in
    record {
      product = rw e (omega (arith, ints, row, k.most, k.twice, k.below));
      total = rw e (omega (arith, ints, row, k.most, k.twice, k.below, k.low));
      sum = rw (e, turn) (omega (arith, ints));
    }

pub signed-pair : (n l h : ℕ) → 0 < n → n ≤ 64 → l < 2 ^ n → h < 2 ^ n
    → Signed l h (2 ^ n) (signed_of n h) (signed_of (2 * n) (l + 2 ^ n * h))
signed-pair n l h some most low high =
    let p = 2 ^ n in
    let q = 2 ^ (n - 1) in
    let k = halves n l h some most low high in
    let turn : p * h ≡ h * p = mul_comm p h in
    let fits : l + p * h < 2 ^ (2 * n) = omega (arith, turn, k.below, k.low, k.square) in
    let upper = is_negative-by_half n h some high in
    let whole = is_negative-by_half (2 * n) (l + p * h) (omega arith) fits in
    ⊎_elim (λ (below : h < q).
    let row : suc h * p ≤ q * p = mul-le-mul_right p below in
    let under : l + p * h < 2 ^ (2 * n - 1) = omega (arith, turn, row, suc-mul h p, k.low, k.mid) in
    let e : is_negative n h ≡ false = upper ∙ lt-leb q h below in
    let f : is_negative (2 * n) (l + p * h) ≡ false = whole ∙ lt-leb (2 ^ (2 * n - 1)) (l + p * h) under in
    rw (e, f) (positive n l h p q k below))
    (λ (above : q ≤ h).
    let row : q * p ≤ h * p = mul-le-mul_right p above in
    let over : 2 ^ (2 * n - 1) ≤ l + p * h = omega (arith, turn, row, k.mid) in
    let e : is_negative n h ≡ true = upper ∙ le-leb q h above in
    let f : is_negative (2 * n) (l + p * h) ≡ true = whole ∙ le-leb (2 ^ (2 * n - 1)) (l + p * h) over in
    rw (e, f, ← k.square) (negative n l h p q k above))
    (cases_lt h q)

-- a number of 64 bits as one of 128
pub widened : (z r : ℤ) → FitsSigned w64 z → r ≡ to_z w64 (of_z w64 z) → to_z w128 (of_z w128 r) ≡ z
widened z r fits e =
    let same : r ≡ z = e ∙ to_z-of_z w64 z fits in
    rw same (to_z-of_z w128 z (record { sfits = omega (arith, fits.sfits) }))

-- a power of two as a number of 128 bits with a sign
pub power-is : (n r : ℕ) → n ≤ 64 → r ≡ 2 ^ n → to_z w128 r ≡ pos (2 ^ n)
power-is n r most e =
    let two : 0 < 2 = omega arith in
    let less : 2 ^ n ≤ 2 ^ 64 = pow-le-pow_right two most in
    rw e (to_z_pos w128 (2 ^ n) (omega (arith, less)))

-- Powers of two.
use Rattle.std.proofs.Common.{◌≡◌, ℕ, suc, ◌+◌, ◌-◌, ◌*◌, ◌^◌, ◌<◌, ◌≤◌, ap, sym, ◌∙◌, arith}
use Rattle.std.proofs.Math.Nat.{mul-suc, mul_comm, pow-le-pow_right}
use Rattle.std.proofs.lemmas.Nat.{pow_below}
use Rattle.gpr_flags.proofs.SignedBits.{power-some}
use Rattle.gpr_flags.proofs.Widths.{power-double}

pub one_small : (n : ℕ) → 0 < n → 1 < 2 ^ n
one_small n h = pow_below 0 n h

-- a half of at most 2 ^ 127
pub half_wide-small : (n : ℕ) → n ≤ 64 → 2 ^ (2 * n - 1) ≤ 2 ^ 127
half_wide-small n h = let p : 0 < 2 = omega arith in let q : 2 * n - 1 ≤ 127 = omega arith in pow-le-pow_right p q

-- all 2n bits
pub ones-joined : (n : ℕ) → (2 ^ n - 1) * 2 ^ n + (2 ^ n - 1) + 1 ≡ 2 ^ (2 * n)
ones-joined n =
    let p : 0 < 2 ^ n = power-some n in
    let g : suc (2 ^ n - 1) ≡ 2 ^ n = omega (arith, p) in
    let t : 2 ^ n * suc (2 ^ n - 1) ≡ 2 ^ n * (2 ^ n - 1) + 2 ^ n = mul-suc (2 ^ n) (2 ^ n - 1) in
    let u : 2 ^ n * 2 ^ n ≡ 2 ^ n * (2 ^ n - 1) + 2 ^ n = ap (λ k. 2 ^ n * k) (sym g) ∙ t in
    omega (arith, u, p, mul_comm (2 ^ n) (2 ^ n - 1), power-double n)

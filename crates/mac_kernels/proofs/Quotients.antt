-- Quotients by powers of two.
use Rattle.std.proofs.Common.{◌≡◌, ℕ, ◌+◌, ◌-◌, ◌*◌, ◌/◌, ◌%◌, ◌^◌, ◌≤◌, ap, sym, ◌∙◌, arith}
use Rattle.std.proofs.Math.Nat.{mul_assoc, mul-add-div, mul-div-mul_right, div-add-mod}
use Rattle.std.proofs.lemmas.Nat.{pow-add, pow_pos}

powers : (n c : ℕ) → c ≤ n → 2 ^ n ≡ 2 ^ (n - c) * 2 ^ c
powers n c h = let e : n ≡ n - c + c = omega arith in ap (λ k. 2 ^ k) e ∙ pow-add 2 (n - c) c

-- the high bits of what was shifted to the left
pub shifted_left : (x n c : ℕ) → c ≤ n → x * 2 ^ c / 2 ^ n ≡ x / 2 ^ (n - c)
shifted_left x n c h = ap (λ p. x * 2 ^ c / p) (powers n c h) ∙ mul-div-mul_right x (2 ^ (n - c)) (pow_pos c)

-- two bits more than the upper part
pub two_more : (n x : ℕ) → 2 ≤ n → 4 * (x / 2 ^ n) + x % 2 ^ n / 2 ^ (n - 2) ≡ x / 2 ^ (n - 2)
two_more n x h =
    let p : ℕ = 2 ^ (n - 2) in
    let q : ℕ = x / 2 ^ n in
    let r : ℕ = x % 2 ^ n in
    let e : 2 ^ n ≡ p * 4 = powers n 2 h in
    let whole : p * (4 * q) + r ≡ x = ap (λ y. y + r) (sym (mul_assoc p 4 q)) ∙ ap (λ k. k * q + r) (sym e) ∙ div-add-mod x (2 ^ n) in
    sym (mul-add-div (pow_pos (n - 2)) (4 * q) r) ∙ ap (λ y. y / p) whole

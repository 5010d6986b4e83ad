-- Powers of two, and the bits of signed numbers.
use Rattle.std.proofs.Common.{◌≡◌, ℕ, ℤ, pos, negsuc, suc, ◌+◌, ◌-◌, ◌*◌, ◌/◌, ◌%◌, ◌^◌, ◌<◌, ◌≤◌, refl, ap, sym, ◌∙◌, arith, of_z, FitsSigned}
use Rattle.std.specs.Int.{w128}
use Rattle.std.proofs.Math.Nat.{one-le-pow, add-mul-mod_self_left, div-add-mod, mul-le-mul_left, mul-sub, mul-suc, mul_comm, pow-le-pow_right, mod-eq_of_lt}
use Rattle.std.proofs.lemmas.Nat.{pow-add, div_below, mod_below}
use Rattle.gpr_flags.specs.Numbers.{low_of}

pub power-some : (n : ℕ) → 0 < 2 ^ n
power-some n = let p : 0 < 2 = omega arith in one-le-pow n 2 p

-- a half of at most 2 ^ 63
pub half-small : (n : ℕ) → n ≤ 64 → 2 ^ (n - 1) ≤ 2 ^ 63
half-small n h = let p : 0 < 2 = omega arith in let q : n - 1 ≤ 63 = omega arith in pow-le-pow_right p q

less : (p k q : ℕ) → q < k → p * (k - 1 - q) + p * q + p ≡ p * k
less p k q h =
    let s : p * suc q ≤ p * k = mul-le-mul_left p h in
    let t : p * suc q ≡ p * q + p = mul-suc p q in
    let u : p * (k - 1 - q) ≡ p * (k - 1) - p * q = mul-sub p (k - 1) q in
    let v : p * (k - 1) ≡ p * k - p * 1 = mul-sub p k 1 in
    omega (arith, s, t, u, v)

-- the complement at w bits has the complement at n bits as its low bits
complement : (w n x : ℕ) → n ≤ w → x < 2 ^ w → (2 ^ w - 1 - x) % 2 ^ n ≡ 2 ^ n - 1 - x % 2 ^ n
complement w n x h l =
    let q : 0 < 2 ^ n = power-some n in
    let a : n + (w - n) ≡ w = omega arith in
    let f : 2 ^ n * 2 ^ (w - n) ≡ 2 ^ w = sym (pow-add 2 n (w - n)) ∙ ap (λ k. 2 ^ k) a in
    let d : 2 ^ n * (x / 2 ^ n) + x % 2 ^ n ≡ x = div-add-mod x (2 ^ n) in
    let b : x / 2 ^ n < 2 ^ (w - n) = div_below x (2 ^ n) (2 ^ (w - n)) q (rw (mul_comm (2 ^ (w - n)) (2 ^ n), f) l) in
    let r : x % 2 ^ n < 2 ^ n = mod_below x (2 ^ n) q in
    let g = less (2 ^ n) (2 ^ (w - n)) (x / 2 ^ n) b in
    let e : 2 ^ w - 1 - x ≡ 2 ^ n - 1 - x % 2 ^ n + 2 ^ n * (2 ^ (w - n) - 1 - x / 2 ^ n) = omega (arith, g, f, d) in
    let s : 2 ^ n - 1 - x % 2 ^ n < 2 ^ n = omega arith in
    ap (λ y. y % 2 ^ n) e ∙ add-mul-mod_self_left (2 ^ n - 1 - x % 2 ^ n) (2 ^ n) (2 ^ (w - n) - 1 - x / 2 ^ n)
    ∙ mod-eq_of_lt s

-- the low bits of a signed number are those of its 128 bits
pub low-bits : (n : ℕ) (z : ℤ) → n ≤ 128 → FitsSigned w128 z → of_z w128 z % 2 ^ n ≡ low_of n z
low-bits n (pos m) h f = refl
low-bits n (negsuc m) h f =
    let e : 2 ^ 128 - suc m ≡ 2 ^ 128 - 1 - m = omega arith in
    ap (λ y. y % 2 ^ n) e ∙ complement 128 n m h (omega (arith, f.sfits))

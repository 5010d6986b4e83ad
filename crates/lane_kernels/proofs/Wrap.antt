use Rattle.std.proofs.Common.{◌≡◌, ℕ, ℤ, pos, negsuc, suc, ◌+◌, ◌-◌, ◌*◌, ◌/◌, ◌%◌, ◌^◌, ◌<◌, ◌≤◌, ap, sym, ◌∙◌, arith}
use Rattle.std.proofs.Math.Nat.{one-le-pow, mod-add-mod, mod-mod, div-add-mod, add-mul-mod_self_left, mul-sub, mul-le-mul_left, mul-suc, mul_comm}
use Rattle.std.proofs.Math.Pow.{mod-mod-pow}
use Rattle.std.proofs.lemmas.Nat.{pow-add, div_below}
use Rattle.gpr_flags.specs.Numbers.{low_of}

pub two-pow-pos : (n : ℕ) → 0 < 2 ^ n
two-pow-pos n = let p : 0 < 2 = omega arith in one-le-pow n 2 p

split64 : (n : ℕ) → n ≤ 64 → 2 ^ n * 2 ^ (64 - n) ≡ 2 ^ 64
split64 n h = let e : n + (64 - n) ≡ 64 = omega arith in sym (pow-add 2 n (64 - n)) ∙ ap (λ k. 2 ^ k) e

-- what wraps at 64 bits has the same low n bits
pub wrap64 : (n x : ℕ) → n ≤ 64 → x % 2 ^ 64 % 2 ^ n ≡ x % 2 ^ n
wrap64 n x h = let e : 64 - n + n ≡ 64 = omega arith in ap (λ k. x % 2 ^ k % 2 ^ n) (sym e) ∙ mod-mod-pow x (64 - n) n

pub wrap_more : (n x k : ℕ) → (x + 2 ^ n * k) % 2 ^ n ≡ x % 2 ^ n
wrap_more n x k = add-mul-mod_self_left x (2 ^ n) k

-- with p times k, less p times q and p: p times what is left
less : (p k q : ℕ) → q < k → p * (k - 1 - q) + p * q + p ≡ p * k
less p k q h =
    let r : k - 1 - q + q + 1 ≡ k = omega arith in
    let s : p * suc q ≤ p * k = mul-le-mul_left p h in
    let t : p * suc q ≡ p * q + p = mul-suc p q in
    let u : p * (k - 1 - q) ≡ p * (k - 1) - p * q = mul-sub p (k - 1) q in
    let v : p * (k - 1) ≡ p * k - p * 1 = mul-sub p k 1 in
    omega (arith, s, t, u, v)

pub complement64 : (n x : ℕ) → n ≤ 64 → x < 2 ^ 64 → (2 ^ 64 - 1 - x) % 2 ^ n ≡ (2 ^ n - 1 - x % 2 ^ n) % 2 ^ n
complement64 n x h l =
    let q : 0 < 2 ^ n = two-pow-pos n in
    let f : 2 ^ n * 2 ^ (64 - n) ≡ 2 ^ 64 = split64 n h in
    let d : 2 ^ n * (x / 2 ^ n) + x % 2 ^ n ≡ x = div-add-mod x (2 ^ n) in
    let b : x / 2 ^ n < 2 ^ (64 - n) = div_below x (2 ^ n) (2 ^ (64 - n)) q (rw (mul_comm (2 ^ (64 - n)) (2 ^ n), f) l) in
    let g = less (2 ^ n) (2 ^ (64 - n)) (x / 2 ^ n) b in
    let e : 2 ^ 64 - 1 - x ≡ 2 ^ n - 1 - x % 2 ^ n + 2 ^ n * (2 ^ (64 - n) - 1 - x / 2 ^ n) = omega (arith, g, f, d) in
    ap (λ y. y % 2 ^ n) e ∙ wrap_more n (2 ^ n - 1 - x % 2 ^ n) (2 ^ (64 - n) - 1 - x / 2 ^ n)

pub wrap64_sub : (n a b : ℕ) → n ≤ 64 → b < 2 ^ n → (a + (2 ^ 64 - b)) % 2 ^ 64 % 2 ^ n ≡ (a + (2 ^ n - b)) % 2 ^ n
wrap64_sub n a b h q =
    let f : 2 ^ n * 2 ^ (64 - n) ≡ 2 ^ 64 = split64 n h in
    let g = less (2 ^ n) (2 ^ (64 - n)) 0 (two-pow-pos (64 - n)) in
    let e : a + (2 ^ 64 - b) ≡ a + (2 ^ n - b) + 2 ^ n * (2 ^ (64 - n) - 1 - 0) = omega (arith, f, g) in
    wrap64 n (a + (2 ^ 64 - b)) h ∙ ap (λ x. x % 2 ^ n) e ∙ wrap_more n (a + (2 ^ n - b)) (2 ^ (64 - n) - 1 - 0)

pub wrap64_two : (n x y : ℕ) → n ≤ 64 → (x % 2 ^ 64 + y) % 2 ^ 64 % 2 ^ n ≡ (x + y) % 2 ^ n
wrap64_two n x y h = ap (λ z. z % 2 ^ n) (mod-add-mod x (2 ^ 64) y) ∙ wrap64 n (x + y) h

pub low-low : (n : ℕ) (z : ℤ) → n ≤ 64 → low_of 64 z % 2 ^ n ≡ low_of n z % 2 ^ n
low-low n (pos m) h = wrap64 n m h ∙ sym (mod-mod m (2 ^ n))
low-low n (negsuc m) h =
    let r : m % 2 ^ 64 % 2 ^ n ≡ m % 2 ^ n = wrap64 n m h in
    complement64 n (m % 2 ^ 64) h (omega arith) ∙ ap (λ y. (2 ^ n - 1 - y) % 2 ^ n) r

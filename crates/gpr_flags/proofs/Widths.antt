-- Numbers by their width in bits: bounds, rotates, zeros above, and numbers of two halves.
use Rattle.std.proofs.Common.{◌≡◌, ℕ, zero, suc, ◌+◌, ◌-◌, ◌*◌, ◌/◌, ◌%◌, ◌^◌, ◌<◌, ◌≤◌, ap, sym, ◌∙◌, arith}
use Rattle.std.proofs.Math.Nat.{pow-suc, pow-le-pow_right, mul-le-mul_left, mul-suc, mul_comm}
use Rattle.std.proofs.lemmas.Nat.{pow-add, pow_pos, mod_below, shr_below, mul-add-lt, leading_length, mod-pow-add, div-mul-add}
use Rattle.std.proofs.Math.Pow.{mod-mod-pow}
use Rattle.std.specs.Int.Count.{count_leading_zeros, leading_unique}
use Rattle.gpr_flags.specs.Shifts.{rotated}

pub wider : (a width more : ℕ) → a < 2 ^ width → width ≤ more → a < 2 ^ more
wider a width more less within =
    let two : 0 < 2 = omega arith in
    let powers : 2 ^ width ≤ 2 ^ more = pow-le-pow_right two within in
    omega (arith, less, powers)

pub rotated_below : (width number to_top : ℕ) → number < 2 ^ width → to_top ≤ width → rotated width number to_top < 2 ^ width
rotated_below width number to_top less within =
    let parts : width - to_top + to_top ≡ width = omega arith in
    let high : number / 2 ^ to_top < 2 ^ (width - to_top) = shr_below number (width - to_top) to_top (rw parts less) in
    let low : number % 2 ^ to_top < 2 ^ to_top = mod_below number (2 ^ to_top) (pow_pos to_top) in
    let both = mul-add-lt (number % 2 ^ to_top) (2 ^ (width - to_top)) (number / 2 ^ to_top) (2 ^ to_top) low high in
    let powers : 2 ^ (width - to_top) * 2 ^ to_top ≡ 2 ^ width = sym (pow-add 2 (width - to_top) to_top) ∙ ap (λ n. 2 ^ n) parts in
    omega (arith, both, powers)

pub rotated_wide : (width number to_top : ℕ) → width ≤ 65 → number < 2 ^ width → to_top ≤ width → rotated width number to_top < 2 ^ 128
rotated_wide width number to_top most less within =
    wider (rotated width number to_top) width 128 (rotated_below width number to_top less within) (omega (arith, most))

pub below_power : (number : ℕ) → number < 2 ^ number
below_power zero = omega arith
below_power (suc number) = let less = below_power number in rw (pow-suc 2 number) (omega (arith, less))

pub within_power : (number width : ℕ) → number ≤ width → number < 2 ^ width
within_power number width within = let less = below_power width in omega (arith, less, within)

pub leading_within : (width more a : ℕ) → width ≤ more → a < 2 ^ width → more - width + count_leading_zeros width a ≡ count_leading_zeros more a
leading_within width more a within less =
    let digits = leading_length width a less in
    let count : ℕ = digits.0 in
    let sum : count_leading_zeros width a + count ≡ width = digits.1 in
    leading_unique more a (more - width + count_leading_zeros width a) count (omega (arith, sum)) digits.2 digits.3

-- the halves of the low 2n bits of a number are in the number
pub low-half : (n x : ℕ) → x % 2 ^ (2 * n) % 2 ^ n ≡ x % 2 ^ n
low-half n x = let e : 2 * n ≡ n + n = omega arith in ap (λ k. x % 2 ^ k % 2 ^ n) e ∙ mod-mod-pow x n n

pub high-half : (n x : ℕ) → x % 2 ^ (2 * n) / 2 ^ n ≡ x / 2 ^ n % 2 ^ n
high-half n x =
    let e : 2 * n ≡ n + n = omega arith in
    let small : x % 2 ^ n < 2 ^ n = mod_below x (2 ^ n) (pow_pos n) in
    ap (λ k. x % 2 ^ k / 2 ^ n) e ∙ ap (λ y. y / 2 ^ n) (mod-pow-add x n n)
    ∙ div-mul-add (x / 2 ^ n % 2 ^ n) (2 ^ n) (x % 2 ^ n) small

pub power-double : (n : ℕ) → 2 ^ (2 * n) ≡ 2 ^ n * 2 ^ n
power-double n = let e : 2 * n ≡ n + n = omega arith in ap (λ k. 2 ^ k) e ∙ pow-add 2 n n

-- two halves are a number of twice as many bits
pub joined-small : (n high low : ℕ) → high < 2 ^ n → low < 2 ^ n → high * 2 ^ n + low < 2 ^ (2 * n)
joined-small n high low h l =
    let m : 2 ^ n * suc high ≤ 2 ^ n * 2 ^ n = mul-le-mul_left (2 ^ n) h in
    omega (arith, m, mul-suc (2 ^ n) high, mul_comm (2 ^ n) high, power-double n)

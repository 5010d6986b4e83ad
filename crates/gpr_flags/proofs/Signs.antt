-- The sign of a number, by the half of its range.
use Rattle.std.proofs.Common.{◌≡◌, ℕ, zero, suc, ◌-◌, ◌*◌, ◌/◌, ◌^◌, ◌<◌, ◌≤◌, nat_le, refl, ⊎_elim, arith}
use Rattle.std.proofs.Math.Nat.{pow-suc, div-eq_of_lt, div-eq_of_lt-le}
use Rattle.std.proofs.lemmas.Bool.{cases_lt, le-leb, lt-leb}
use Rattle.gpr_flags.specs.Numbers.{is_negative}

pub power-half : (n : ℕ) → 0 < n → 2 ^ n ≡ 2 * 2 ^ (n - 1)
power-half zero h = omega arith
power-half (suc n) h = let e : suc n - 1 ≡ n = omega arith in rw (e, pow-suc) (omega arith)

div-half : (half number : ℕ) → half ≤ number → number < 2 * half → number / half ≡ 1
div-half half number above below = div-eq_of_lt-le {k = 1} half {m = number} (omega (arith, above)) (omega (arith, below))

-- a number of that width is negative where it is no less than half of the range
pub is_negative-by_half : (width number : ℕ) → 0 < width → number < 2 ^ width
    → is_negative width number ≡ nat_le (2 ^ (width - 1)) number
is_negative-by_half width number some fits =
    let half = 2 ^ (width - 1) in
    let whole = power-half width some in
    ⊎_elim (λ (below : number < half). rw (div-eq_of_lt below, lt-leb half number below) refl)
    (λ (above : half ≤ number). rw (div-half half number above (omega (arith, fits, whole)), le-leb half number above) refl)
    (cases_lt number half)

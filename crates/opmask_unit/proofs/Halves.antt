-- Two halves as one number.
use Rattle.std.proofs.Common.{◌≡◌, ℕ, ◌+◌, ◌*◌, ◌%◌, ◌^◌, ◌<◌, ◌≤◌, ap, sym, ◌∙◌, arith}
use Rattle.std.specs.Int.Bits.{bit_or}
use Rattle.std.proofs.Math.Nat.{mod-eq_of_lt}
use Rattle.std.proofs.lemmas.Nat.{pow-add, mul-add-lt, or_shifted}
use Rattle.gpr_flags.proofs.Widths.{wider}

pub halves_below : (half upper lower : ℕ) → upper < 2 ^ half → lower < 2 ^ half → upper * 2 ^ half + lower < 2 ^ (2 * half)
halves_below half upper lower high low =
    let both : upper * 2 ^ half + lower < 2 ^ half * 2 ^ half = mul-add-lt upper (2 ^ half) lower (2 ^ half) high low in
    let twice : half + half ≡ 2 * half = omega arith in
    let powers : 2 ^ half * 2 ^ half ≡ 2 ^ (2 * half) = sym (pow-add 2 half half) ∙ ap (λ n. 2 ^ n) twice in
    rw (← powers) both

pub halves_or : (half upper lower : ℕ) → half ≤ 32 → upper < 2 ^ half → lower < 2 ^ half
    → bit_or (upper * 2 ^ half % 2 ^ 64) lower ≡ upper * 2 ^ half + lower
halves_or half upper lower most high low =
    let within : upper * 2 ^ half + lower < 2 ^ 64 =
    wider (upper * 2 ^ half + lower) (2 * half) 64 (halves_below half upper lower high low) (omega (arith, most)) in
    let less : upper * 2 ^ half < 2 ^ 64 = omega (arith, within) in
    ap (λ n. bit_or n lower) (mod-eq_of_lt less) ∙ or_shifted upper half lower low

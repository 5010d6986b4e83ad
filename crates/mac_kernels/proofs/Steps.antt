-- One more step of what goes over numbers from 0 up.
use Rattle.std.proofs.Common.{◌≡◌, ℕ, ◌+◌, ◌<◌, ◌≤◌, ◌^◌, nat_lt, if◌then◌else◌, refl, ap, sym, ◌∙◌, arith, add-one, add-zero}
use Rattle.std.specs.Int.{abs_diff}
use Rattle.std.proofs.Math.Nat.{pow-suc}
use Rattle.mac_kernels.specs.MacOps.{sum_of, least_place, four_differences}

pub sum_next : (n : ℕ) (f : ℕ → ℕ) → sum_of (n + 1) f ≡ sum_of n f + f n
unfolding sum_of
sum_next n f = rw add-one refl

pub least_next : (n : ℕ) (f : ℕ → ℕ)
    → least_place (n + 1) f ≡ (if nat_lt (f n) (f (least_place n f)) then n else least_place n f)
unfolding least_place
least_next n f = rw add-one refl

pub bits_next : (n value bit : ℕ) → value < 2 ^ n → bit ≤ 2 ^ n → value + bit < 2 ^ (n + 1)
bits_next n value bit h most = let p = pow-suc 2 n in rw add-one (omega (arith, p))

four_sum : (h : ℕ → ℕ) → sum_of 4 h ≡ h 0 + h 1 + h 2 + h 3
unfolding sum_of
four_sum h = omega arith

pub four_terms : (f g : ℕ → ℕ) (p q : ℕ) →
    abs_diff (f p) (g q) + abs_diff (f (p + 1)) (g (q + 1)) + abs_diff (f (p + 2)) (g (q + 2)) + abs_diff (f (p + 3)) (g (q + 3))
    ≡ four_differences f g p q
four_terms f g p q =
    let h = λ (k : ℕ). abs_diff (f (p + k)) (g (q + k)) in
    let first : abs_diff (f p) (g q) ≡ h 0 = rw (add-zero p, add-zero q) refl in
    ap (λ term. term + h 1 + h 2 + h 3) first ∙ sym (four_sum h)

use Rattle.std.proofs.Common.{◌≡◌, ℕ, zero, suc, ◌+◌, ◌-◌, ◌*◌, ◌%◌, ◌^◌, ◌<◌, refl, ap, ◌∙◌, arith, min, max, eqb, cond, inl, inr, ◌⊎◌}
use Rattle.std.proofs.lemmas.Bool.{cases_lt}
use Rattle.std.proofs.lemmas.Nat.{mod-pow-add}
use Rattle.std.proofs.lemmas.Nat.Bits.{bit_at_and, bit_at_or, bit_at_not, bit_at-lt}
use Rattle.std.specs.Int.{bit_at, w64}
use Rattle.std.specs.Int.Bits.{bit_and, bit_or}
use Rattle.std.proofs.Math.Nat.{mod-one}
use Rattle.lane_kernels.specs.LaneOps.{number_of_bits}

pub from_bits : (r n : ℕ) (f : ℕ → ℕ) → ((i : ℕ) → i < n → bit_at r i ≡ f i) → r % 2 ^ n ≡ number_of_bits n f
unfolding number_of_bits
from_bits r zero f h = mod-one r
from_bits r (suc n) f h =
    let e : suc n ≡ 1 + n = omega arith in ap (λ k. r % 2 ^ k) e ∙ mod-pow-add r 1 n ∙ ap (λ b. b * 2 ^ n + r % 2 ^ n) (h n (omega arith)) ∙ ap (λ x. f n * 2 ^ n + x) (from_bits r n f (λ i q. h i (omega arith)))

two : (x : ℕ) → x < 2 → (x ≡ 0) ⊎ (x ≡ 1)
two x h = elim (cases_lt x 1) as (λ _. (x ≡ 0) ⊎ (x ≡ 1)) [ inl a ↦ inl (omega arith) | inr b ↦ inr (omega arith) ]

bit-mux : (m x y : ℕ) → m < 2 → x < 2 → y < 2 → max (min m x) (min (1 - m) y) ≡ cond (eqb m 1) x y
bit-mux m x y a b c = elim (two m a) as (λ _. max (min m x) (min (1 - m) y) ≡ cond (eqb m 1) x y)
    [ inl e ↦ rw e (omega arith) | inr e ↦ rw e (omega arith) ]

pub bit_at-select : (m x y i : ℕ) → m < 2 ^ 64 → i < 64 →
    bit_at (bit_or (bit_and m x) (bit_and (2 ^ 64 - 1 - m) y)) i ≡ cond (eqb (bit_at m i) 1) (bit_at x i) (bit_at y i)
bit_at-select m x y i q h =
    let a = bit_at-lt m i in let b = bit_at-lt x i in let c = bit_at-lt y i in
    bit_at_or (bit_and m x) (bit_and (2 ^ 64 - 1 - m) y) i ∙ rw (bit_at_and m x i, bit_at_and (2 ^ 64 - 1 - m) y i, bit_at_not w64 m i q h) (bit-mux _ _ _ a b c)

pub mux : (f : ℕ → ℕ) (x y z : ℕ) → x < 2 → y < 2 → z < 2 →
    cond (eqb x 1) (cond (eqb y 1) (cond (eqb z 1) (f 7) (f 6)) (cond (eqb z 1) (f 5) (f 4))) (cond (eqb y 1) (cond (eqb z 1) (f 3) (f 2)) (cond (eqb z 1) (f 1) (f 0)))
    ≡ f (4 * x + 2 * y + z)
mux f x y z a b c = elim (two x a) [ inl e ↦ elim (two y b) [ inl g ↦ elim (two z c) [ inl h ↦ rw (e, g, h) refl | inr h ↦ rw (e, g, h) refl ] | inr g ↦ elim (two z c) [ inl h ↦ rw (e, g, h) refl | inr h ↦ rw (e, g, h) refl ] ] | inr e ↦ elim (two y b) [ inl g ↦ elim (two z c) [ inl h ↦ rw (e, g, h) refl | inr h ↦ rw (e, g, h) refl ] | inr g ↦ elim (two z c) [ inl h ↦ rw (e, g, h) refl | inr h ↦ rw (e, g, h) refl ] ] ]

-- Masks of bits, bit by bit.
use Rattle.std.proofs.Common.{◌≡◌, ℕ, zero, suc, Bool, true, false, cond, ◌+◌, ◌*◌, ◌^◌, ◌<◌, refl, ap, ◌∙◌, arith, add-one}
use Rattle.std.proofs.Math.Nat.{pow-suc}
use Rattle.vec_units.specs.Results.{bits_where}

-- no lane, no bit
pub bits-none : (test : ℕ → Bool) → 0 ≡ bits_where test 0
unfolding bits_where
bits-none test = refl

-- one bit more
pub bits-more : (test : ℕ → Bool) (n value next : ℕ) → value ≡ bits_where test n → next ≡ value + cond (test n) (2 ^ n) 0
    → next ≡ bits_where test (n + 1)
unfolding bits_where
bits-more test n value next is e = rw (add-one, e, is) refl

pub bit-small : (b : Bool) (n value next : ℕ) → value < 2 ^ n → next ≡ value + cond b (2 ^ n) 0 → next < 2 ^ (n + 1)
bit-small true n value next h e = let p : 2 ^ (n + 1) ≡ 2 * 2 ^ n = rw (add-one, pow-suc) (omega arith) in rw (p, e) (omega arith)
bit-small false n value next h e = let p : 2 ^ (n + 1) ≡ 2 * 2 ^ n = rw (add-one, pow-suc) (omega arith) in rw (p, e) (omega arith)

-- the same tests, the same bits
pub bits-same : (p q : ℕ → Bool) (n : ℕ) → ((i : ℕ) → i < n → p i ≡ q i) → bits_where p n ≡ bits_where q n
unfolding bits_where
bits-same p q zero e = refl
bits-same p q (suc n) e =
    ap (λ (rest : ℕ). rest + cond (p n) (2 ^ n) 0) (bits-same p q n (λ i h. e i (omega arith)))
    ∙ ap (λ (b : Bool). bits_where q n + cond b (2 ^ n) 0) (e n (omega arith))

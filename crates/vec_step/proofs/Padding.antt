-- Bytes and zeros.
use Rattle.std.proofs.Common.{◌≡◌, ℕ, List, ◌++◌, drop, replicate, ap, ◌∙◌}
use Rattle.std.proofs.lemmas.List.{drop-replicate}
use Rattle.vec_step.specs.Left.{padded}

-- where the first of 64 zeros were replaced
pub padded_is : (bytes shown zeros : List ℕ) (count : ℕ) → zeros ≡ replicate 64 0 → shown ≡ bytes
    → shown ++ drop count zeros ≡ padded bytes count
padded_is bytes shown zeros count z e =
    ap (λ ys. shown ++ drop count ys) z ∙ ap (λ ys. shown ++ ys) (drop-replicate count 64 0) ∙ ap (λ xs. padded xs count) e

-- A register with zeros above.
use Rattle.std.proofs.Common.{◌≡◌, ℕ, List, ◌-◌, ◌++◌, take, drop, replicate, ap, ◌∙◌, arith}
use Rattle.std.proofs.lemmas.List.{drop-replicate}
use Rattle.num_lanes.specs.Setters.{cleared_from}

-- where the first of 64 zeros were replaced by the register's bytes
pub cleared_is : (register first zeros : List ℕ) (from : ℕ) → zeros ≡ replicate 64 0 → first ≡ take from register
    → first ++ drop from zeros ≡ cleared_from from register
cleared_is register first zeros from z e =
    let whole : from ≡ from - 0 = omega arith in
    ap (λ ys. first ++ drop from ys) z ∙ ap (λ ys. first ++ ys) (drop-replicate from 64 0)
    ∙ ap (λ xs. xs ++ replicate (64 - from) 0) (e ∙ ap (λ n. take n register) whole)

-- Lemmas on how many elements of a list pass a test.
use Rattle.std.proofs.Common.{◌≡◌, ℕ, ◌+◌, ◌<◌, ◌≤◌, List, [], ◌∷◌, Bool, true, false, cond, length, get_or, zero, suc, refl, arith, count_by, ◌∙◌}
use Rattle.std.proofs.lemmas.List.Sums.{count_by-le-length, sum_by-cons}

pub count_by_all : {X : Type 0} (p : X → Bool) (xs : List X) (d : X) → ((i : ℕ) → i < length xs → p (get_or xs i d) ≡ true) → count_by p xs ≡ length xs
count_by_all p [] d all = refl
count_by_all p (x ∷ xs) d all =
    let first : p x ≡ true = all 0 (omega arith) in
    let rest : count_by p xs ≡ length xs = count_by_all p xs d (λ i h. all (suc i) (omega arith)) in
    sum_by-cons (λ y. cond (p y) 1 0) x xs ∙ rw first (omega arith)

pub count_by_none : {X : Type 0} (p : X → Bool) (xs : List X) (d : X) → ((i : ℕ) → i < length xs → p (get_or xs i d) ≡ false) → count_by p xs ≡ 0
count_by_none p [] d none = refl
count_by_none p (x ∷ xs) d none =
    let first : p x ≡ false = none 0 (omega arith) in
    let rest : count_by p xs ≡ 0 = count_by_none p xs d (λ i h. none (suc i) (omega arith)) in
    sum_by-cons (λ y. cond (p y) 1 0) x xs ∙ rw first (omega arith)

-- where one element fails the test, fewer than all pass
pub count_by_below : {X : Type 0} (p : X → Bool) (xs : List X) (k : ℕ) (d : X) → k < length xs → p (get_or xs k d) ≡ false → count_by p xs < length xs
count_by_below p [] k d within fails = absurd (omega arith)
count_by_below p (x ∷ xs) zero d within fails =
    let bound : count_by p xs ≤ length xs = count_by-le-length p xs in
    rw (sum_by-cons (λ y. cond (p y) 1 0) x xs, fails) (omega arith)
count_by_below p (x ∷ xs) (suc k) d within fails =
    rw (sum_by-cons (λ y. cond (p y) 1 0) x xs) (step (p x) (count_by p xs) (length xs) (count_by_below p xs k d (omega arith) fails))
  where
    step : (b : Bool) (m n : ℕ) → m < n → cond b 1 0 + m < suc n
    step true m n h = omega arith
    step false m n h = omega arith

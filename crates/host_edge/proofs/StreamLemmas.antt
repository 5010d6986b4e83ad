-- What moving bytes does to the bytes that a source tells.
use Rattle.std.proofs.Common.{◌≡◌, ℕ, ◌≤◌, ◌<◌, ◌++◌, ◌↔◌, List, [], ◌∷◌, length, take, drop, min, Some, Ok, refl, arith, ap, sym, ◌∙◌}
use Rattle.std.proofs.lemmas.List.{take-append-drop, take_at, drop_at, length-take-le}
use Rattle.host_edge.specs.Streams.{Takes}

-- a list with a positive bound on what is taken of it is empty exactly where nothing is taken
ended : (left : List ℕ) (most room count : ℕ) → count ≡ min (min (length left) most) room → 0 < most → 0 < room →
    (count ≡ 0) ↔ (left ≡ [])
ended [] most room count is_count gives fits = (λ _. refl, λ _. omega arith)
ended (x ∷ left) most room count is_count gives fits = (λ none. absurd (omega arith), λ empty. cc)

-- the first bytes are taken, as many as are left, as one call gives, and as the buffer holds
pub takes-front : {E : Type 0} (left next front before : List ℕ) (most count : ℕ) →
    next ≡ drop count left → front ≡ take count left →
    count ≡ min (min (length left) most) (length before) → 0 < most → 0 < length before →
    Takes {E = E} (Some left) (Some next) before (front ++ drop count before) (Ok count)
takes-front left next front before most count is_next is_front is_count gives room =
    let fits : count ≤ length left = omega arith in
    let same : length front ≡ count = ap length is_front ∙ length-take-le count left fits in
    record {
      tells = refl;
      fits = omega arith;
      moved = λ _. rw (take_at front (drop count before) count same, is_front, is_next) (sym (take-append-drop count left));
      rest = λ _. drop_at front (drop count before) count same;
      ended = λ _. ended left most (length before) count is_count gives room;
      unmoved = tt;
    }

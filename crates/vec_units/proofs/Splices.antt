-- The lanes of the lowest bytes of one register with those of another above them.
use Rattle.std.proofs.Common.{◌≡◌, ℕ, zero, suc, ◌+◌, ◌-◌, ◌*◌, ◌<◌, ◌≤◌, List, ◌++◌, length, get_or, take, drop, replicate, refl, ap, ◌∙◌, arith, inl, inr, length-append, length-drop, length-take-le}
use Rattle.std.proofs.lemmas.Bool.{cases_lt}
use Rattle.std.proofs.lemmas.List.{drop-take, take-take, drop-append-le, take-append-le, get_or_append_left, get_or-append_right, get_or-take, get_or-drop, drop-replicate, take-replicate}
use Rattle.std.proofs.lemmas.Slice.{drop-append-drop}
use Rattle.std.specs.Simd.Lanes.{number_l}
use Rattle.num_lanes.specs.Lane.{lane_of}

-- a lane of the first bytes is one of them all
pub lane-take : (w i n : ℕ) (xs : List ℕ) → i * w + w ≤ n → lane_of w (take n xs) i ≡ lane_of w xs i
lane-take w i n xs h =
    let e : n ≡ i * w + (n - i * w) = omega arith in
    ap (λ (m : ℕ). number_l 256 (take w (drop (i * w) (take m xs)))) e
    ∙ ap (λ (ys : List ℕ). number_l 256 (take w ys)) (drop-take (i * w) (n - i * w) xs)
    ∙ ap (number_l 256) (take-take w (n - i * w) (drop (i * w) xs) (omega arith))

-- a lane below the seam
pub lane-bottom : (w i n : ℕ) (xs ys : List ℕ) → i * w + w ≤ n → n ≤ length xs → lane_of w (take n xs ++ drop n ys) i ≡ lane_of w xs i
lane-bottom w i n xs ys h long =
    let len : length (take n xs) ≡ n = length-take-le n xs long in
    let rest : length (drop (i * w) (take n xs)) ≡ length (take n xs) - i * w = length-drop (i * w) (take n xs) in
    ap (λ (zs : List ℕ). number_l 256 (take w zs)) (drop-append-le (i * w) (take n xs) (drop n ys) (omega arith))
    ∙ ap (number_l 256) (take-append-le w (drop (i * w) (take n xs)) (drop n ys) (omega arith))
    ∙ lane-take w i n xs h

-- a lane above it
pub lane-top : (w i n : ℕ) (xs ys : List ℕ) → n ≤ i * w → n ≤ length xs → lane_of w (take n xs ++ drop n ys) i ≡ lane_of w ys i
lane-top w i n xs ys h long =
    ap (λ (zs : List ℕ). number_l 256 (take w zs)) (drop-append-drop n ys (take n xs) (i * w) h (length-take-le n xs long))

pub length-splice : (n : ℕ) (xs ys : List ℕ) → n ≤ length xs → n ≤ length ys → length (take n xs ++ drop n ys) ≡ length ys
length-splice n xs ys long below =
    let first : length (take n xs) ≡ n = length-take-le n xs long in
    let rest : length (drop n ys) ≡ length ys - n = length-drop n ys in
    length-append (take n xs) (drop n ys) ∙ omega arith

pub splice-bytes : (n : ℕ) (xs ys : List ℕ) → n ≤ length xs → ((k : ℕ) → get_or xs k 0 < 256) → ((k : ℕ) → get_or ys k 0 < 256)
    → (k : ℕ) → get_or (take n xs ++ drop n ys) k 0 < 256
splice-bytes n xs ys long bottom top k =
    let len : length (take n xs) ≡ n = length-take-le n xs long in
    elim (cases_lt k n) as (λ _. get_or (take n xs ++ drop n ys) k 0 < 256) [
      | inl h ↦ (let within : k < length (take n xs) = omega arith in
          rw (get_or_append_left (take n xs) (drop n ys) 0 k within, get_or-take n xs k 0 h) (bottom k))
      | inr h ↦ rw (get_or-append_right (take n xs) (drop n ys) n k 0 len h, get_or-drop n ys (k - n) 0) (top (n + (k - n)))
    ]

number-zeros : (n : ℕ) → number_l 256 (replicate n 0) ≡ 0
number-zeros zero = refl
number-zeros (suc n) = ap (λ (x : ℕ). 0 + 256 * x) (number-zeros n)

-- the lanes of zeros are 0
pub lane-zeros : (w i n : ℕ) → i * w + w ≤ n → lane_of w (replicate n 0) i ≡ 0
lane-zeros w i n h =
    ap (λ (ys : List ℕ). number_l 256 (take w ys)) (drop-replicate (i * w) n 0)
    ∙ ap (number_l 256) (take-replicate w (n - i * w) 0 (omega arith)) ∙ number-zeros w

-- From the lanes that are computed to what an instruction gives.
use Rattle.std.proofs.Common.{◌≡◌, ℕ, false, cond, ◌+◌, ◌*◌, ◌/◌, ◌<◌, ◌≤◌, ◌&&◌, List, length, take, refl, ap, sym, ◌∙◌, subst, ◌-◌, arith, le-ltb, length-take-le, nat_lt, inl, inr}
use Rattle.std.proofs.lemmas.Bool.{cases_lt}
use Rattle.gpr_flags.specs.Numbers.{has_bit, is_negative}
use Rattle.num_lanes.specs.Lane.{lane_of, LanesAre, joined}
use Rattle.num_lanes.proofs.Joins.{joined-same}
use Rattle.num_lanes.proofs.LaneLemmas.{below_lane}
use Rattle.vec_units.specs.declared.forms.Form.{Form}
use Rattle.vec_units.specs.Results.{part, computed_lane, left_out, placed_lane, taken_by, vector_result, signs_in, mask_of}
use Rattle.vec_units.proofs.BitLemmas.{bits-same}
use Rattle.vec_units.proofs.Splices.{lane-take}

-- a lane of the vectors is one of the register
lane-part : (f : Form) (w i : ℕ) (v : List ℕ) → i * w + w ≤ f.len → lane_of w (part f v) i ≡ lane_of w v i
lane-part f w i v h =
    let e : f.len - 0 ≡ f.len = omega arith in ap (λ (n : ℕ). lane_of w (take n v) i) e ∙ lane-take w i f.len v h

length-part : (f : Form) (v : List ℕ) → f.len ≤ length v → length (part f v) ≡ f.len
length-part f v h = let e : f.len - 0 ≡ f.len = omega arith in ap (λ (n : ℕ). length (take n v)) e ∙ length-take-le f.len v h

-- only the lanes of the result are looked at
placed-same : (w : ℕ) (f : Form) (p q dest first : ℕ → ℕ) (mask i : ℕ) → (i < f.lanes → p i ≡ q i)
    → placed_lane w f p dest first mask i ≡ placed_lane w f q dest first mask i
unfolding placed_lane
placed-same w f p q dest first mask i e = elim (cases_lt i f.lanes) [
  | inl h ↦ ap (λ (x : ℕ). cond (nat_lt i f.lanes) (cond (has_bit mask i) x (left_out f.masking f.zeroing (dest i) (first i)))
      (cond (nat_lt i (f.len / w)) 0 (cond f.keeps (dest i) 0))) (e h)
  | inr h ↦ (let out : nat_lt i f.lanes ≡ false = le-ltb i f.lanes h in rw out refl)
]

-- a lane of the result is what was computed
lane-computed : (f : Form) (lanes dest first second : List ℕ) (mask i : ℕ) → f.len ≤ length lanes → f.lanes * f.width ≤ f.len
    → LanesAre f.width (part f lanes) (computed_lane f dest first second mask) → i < f.lanes
    → lane_of f.width lanes i ≡ computed_lane f dest first second mask i
lane-computed f lanes dest first second mask i long within are h =
    let below : i * f.width + f.width ≤ f.lanes * f.width = below_lane f.width i f.lanes h in
    let fit : i * f.width + f.width ≤ f.len = omega (arith, below, within) in
    let len : length (part f lanes) ≡ f.len = length-part f lanes long in
    sym (lane-part f f.width i lanes fit) ∙ are i (omega (arith, fit, len))

vector-own : (f : Form) (lanes dest first second : List ℕ) (mask : ℕ) → f.len ≤ length lanes → f.lanes * f.width ≤ f.len
    → LanesAre f.width (part f lanes) (computed_lane f dest first second mask)
    → joined f.width (64 / f.width) (placed_lane f.width f (lane_of f.width lanes) (lane_of f.width dest) (lane_of f.width first) (taken_by f mask))
    ≡ vector_result f dest first second mask
unfolding vector_result
vector-own f lanes dest first second mask long within are =
    joined-same f.width (64 / f.width) _ _
    (λ i h. placed-same f.width f (lane_of f.width lanes) (computed_lane f dest first second mask) (lane_of f.width dest)
    (lane_of f.width first) (taken_by f mask) i (lane-computed f lanes dest first second mask i long within are))

-- the register of the lanes that were computed
pub vector_is : (f : Form) (w : ℕ) (lanes dest first second : List ℕ) (mask : ℕ) → f.width ≡ w → f.len ≤ length lanes
    → f.lanes * f.width ≤ f.len → LanesAre f.width (part f lanes) (computed_lane f dest first second mask)
    → joined w (64 / w) (placed_lane w f (lane_of w lanes) (lane_of w dest) (lane_of w first) (taken_by f mask)) ≡ vector_result f dest first second mask
vector_is f w lanes dest first second mask is long within are =
    subst (λ (n : ℕ). joined n (64 / n) (placed_lane n f (lane_of n lanes) (lane_of n dest) (lane_of n first) (taken_by f mask)) ≡ vector_result f dest first second mask)
    is (vector-own f lanes dest first second mask long within are)

-- the mask of the lanes that were computed
pub mask_is : (f : Form) (lanes dest first second : List ℕ) (mask : ℕ) → f.len ≤ length lanes → f.lanes * f.width ≤ f.len
    → LanesAre f.width (part f lanes) (computed_lane f dest first second mask)
    → signs_in f.width (lane_of f.width lanes) mask f.lanes ≡ mask_of f dest first second mask
unfolding mask_of signs_in
mask_is f lanes dest first second mask long within are =
    bits-same _ _ f.lanes
    (λ i h. ap (λ (x : ℕ). has_bit mask i && is_negative (8 * f.width) x) (lane-computed f lanes dest first second mask i long within are h))

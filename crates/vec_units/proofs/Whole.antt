-- The register where no lane is masked out.
use Rattle.std.proofs.Common.{◌≡◌, ℕ, Bool, true, false, cond, ◌+◌, ◌-◌, ◌*◌, ◌/◌, ◌%◌, ◌^◌, ◌<◌, ◌≤◌, List, ◌++◌, length, get_or, take, drop, replicate, refl, ap, sym, ◌∙◌, subst, arith, le-ltb, nat_lt, inl, inr, ◌⊎◌}
use Rattle.std.proofs.Math.Nat.{mul-le-mul_right}
use Rattle.std.proofs.lemmas.Nat.{div-add-mod'}
use Rattle.std.proofs.lemmas.Nat.Bits.{bit_at_ones, bit_at_cat_low}
use Rattle.std.proofs.lemmas.Bool.{cases_lt, lt-ltb, eq-eqb, eqb-true}
use Rattle.std.specs.Prelude.{IsTrue}
use Rattle.std.specs.Int.{bit_at}
use Rattle.gpr_flags.specs.Numbers.{has_bit}
use Rattle.gpr_flags.specs.Registers.{is_size}
use Rattle.num_lanes.specs.Lane.{lane_of, IsLength, joined}
use Rattle.num_lanes.proofs.Joins.{joined-is, whole_lanes, width-cases}
use Rattle.num_lanes.proofs.LaneLemmas.{below_lane, lane_fits, zero-bytes}
use Rattle.vec_units.specs.declared.forms.Form.{Form}
use Rattle.vec_units.specs.Form.{FormFits}
use Rattle.vec_units.specs.Results.{placed_lane, has_all, above}
use Rattle.vec_units.proofs.Splices.{lane-bottom, lane-top, lane-zeros, length-splice, splice-bytes}

-- a mask that has all lanes has each
has_each : (lanes mask i : ℕ) → has_all lanes mask ≡ true → i < lanes → has_bit mask i ≡ true
has_each lanes mask i all h =
    let ones : mask % 2 ^ lanes ≡ 2 ^ lanes - 1 = eqb-true (mask % 2 ^ lanes) (2 ^ lanes - 1) all in
    let parts : mask ≡ mask / 2 ^ lanes * 2 ^ lanes + (2 ^ lanes - 1) =
    sym (div-add-mod' mask (2 ^ lanes)) ∙ ap (λ (n : ℕ). mask / 2 ^ lanes * 2 ^ lanes + n) ones in
    eq-eqb (bit_at mask i) 1
    (ap (λ (n : ℕ). bit_at n i) parts ∙ bit_at_cat_low (mask / 2 ^ lanes) lanes (2 ^ lanes - 1) i h ∙ bit_at_ones lanes i h)

-- the vectors have whole lanes
eighths : (len : ℕ) → IsLength len → len % 8 ≡ 0
eighths len (inl e) = rw e refl
eighths len (inr (inl e)) = rw e refl
eighths len (inr (inr e)) = rw e refl

whole-by : (len w : ℕ) → len % 8 ≡ 0 → (w ≡ 1) ⊎ ((w ≡ 2) ⊎ ((w ≡ 4) ⊎ (w ≡ 8))) → len / w * w ≡ len
whole-by len w h (inl e) = rw e (omega arith)
whole-by len w h (inr (inl e)) = rw e (omega arith)
whole-by len w h (inr (inr (inl e))) = rw e (omega arith)
whole-by len w h (inr (inr (inr e))) = rw e (omega arith)

most : (len : ℕ) → IsLength len → len ≤ 64
most len (inl e) = omega arith
most len (inr (inl e)) = omega arith
most len (inr (inr e)) = omega arith

-- what stands above the result's lanes
above-by : (keeps : Bool) (w len i : ℕ) (dest : List ℕ) → len / w * w ≡ len → len ≤ 64 → i < 64 / w
    → lane_of w (cond keeps (take len (replicate 64 0) ++ drop len dest) (replicate 64 0)) i
    ≡ cond (nat_lt i (len / w)) 0 (cond keeps (lane_of w dest i) 0)
above-by false w len i dest whole fits h =
    elim (cases_lt i (len / w)) [
      | inl below ↦ rw (lt-ltb i (len / w) below) (lane-zeros w i 64 (lane_fits w i 64 h))
      | inr from ↦ rw (le-ltb i (len / w) from) (lane-zeros w i 64 (lane_fits w i 64 h))
    ]
above-by true w len i dest whole fits h =
    elim (cases_lt i (len / w)) [
      | inl below ↦ rw (lt-ltb i (len / w) below)
          (lane-bottom w i len (replicate 64 0) dest (lane_fits w i len below) fits ∙ lane-zeros w i 64 (lane_fits w i 64 h))
      | inr from ↦ (let step : len / w * w ≤ i * w = mul-le-mul_right w from in
          rw (le-ltb i (len / w) from) (lane-top w i len (replicate 64 0) dest (omega arith) fits))
    ]

above-length : (keeps : Bool) (len : ℕ) (dest : List ℕ) → len ≤ 64 → length dest ≡ 64
    → length (cond keeps (take len (replicate 64 0) ++ drop len dest) (replicate 64 0)) ≡ 64
above-length false len dest fits long = refl
above-length true len dest fits long = length-splice len (replicate 64 0) dest fits (omega arith) ∙ long

above-bytes : (keeps : Bool) (len : ℕ) (dest : List ℕ) → len ≤ 64 → ((k : ℕ) → get_or dest k 0 < 256)
    → (k : ℕ) → get_or (cond keeps (take len (replicate 64 0) ++ drop len dest) (replicate 64 0)) k 0 < 256
above-bytes false len dest fits b = zero-bytes 64
above-bytes true len dest fits b = splice-bytes len (replicate 64 0) dest fits (zero-bytes 64) b

-- the lanes of the result, and above them what stands there
whole-lane : (w i mask : ℕ) (f : Form) (computed dest : List ℕ) (first : ℕ → ℕ) → f.len / w * w ≡ f.len → f.len ≤ 64
    → f.lanes * w ≤ length computed → has_all f.lanes mask ≡ true → i < 64 / w
    → lane_of w (take (f.lanes * w) computed ++ drop (f.lanes * w) (above f dest)) i
    ≡ placed_lane w f (lane_of w computed) (lane_of w dest) first mask i
unfolding placed_lane
whole-lane w i mask f computed dest first whole fits long all h = elim (cases_lt i f.lanes) [
  | inl below ↦ rw (lt-ltb i f.lanes below, has_each f.lanes mask i all below)
      (lane-bottom w i (f.lanes * w) computed (above f dest) (below_lane w i f.lanes below) long)
  | inr from ↦ rw (le-ltb i f.lanes from)
      (lane-top w i (f.lanes * w) computed (above f dest) (mul-le-mul_right w from) long ∙ above-by f.keeps w f.len i dest whole fits h)
]

-- the register
pub whole_is : (w mask : ℕ) (f : Form) (computed dest : List ℕ) (first : ℕ → ℕ) → FormFits f → f.width ≡ w → length computed ≡ 64
    → length dest ≡ 64 → ((k : ℕ) → get_or computed k 0 < 256) → ((k : ℕ) → get_or dest k 0 < 256) → has_all f.lanes mask ≡ true
    → take (f.lanes * w) computed ++ drop (f.lanes * w) (above f dest)
    ≡ joined w (64 / w) (placed_lane w f (lane_of w computed) (lane_of w dest) first mask)
whole_is w mask f computed dest first fits is long dest_long b dest_b all =
    let width : IsTrue (is_size w) = subst (λ (n : ℕ). IsTrue (is_size n)) is fits.width in
    let len : f.len ≤ 64 = most f.len fits.len in
    let within : f.lanes * w ≤ f.len = subst (λ (n : ℕ). f.lanes * n ≤ f.len) is fits.lanes in
    let whole : f.len / w * w ≡ f.len = whole-by f.len w (eighths f.len fits.len) (width-cases w width) in
    let bottom : f.lanes * w ≤ length computed = omega arith in
    let above_long : length (above f dest) ≡ 64 = above-length f.keeps f.len dest len dest_long in
    let whole_length : length (take (f.lanes * w) computed ++ drop (f.lanes * w) (above f dest)) ≡ 64 / w * w =
    length-splice (f.lanes * w) computed (above f dest) bottom (omega arith) ∙ above_long ∙ sym (whole_lanes w width) in
    joined-is w (64 / w) (take (f.lanes * w) computed ++ drop (f.lanes * w) (above f dest)) _ whole_length
    (splice-bytes (f.lanes * w) computed (above f dest) bottom b (above-bytes f.keeps f.len dest len dest_b))
    (λ i h. whole-lane w i mask f computed dest first whole len bottom all h)

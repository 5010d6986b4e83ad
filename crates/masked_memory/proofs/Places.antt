-- Which bytes of an operand belong to lanes that a mask has, and their addresses.
use Rattle.std.proofs.Common.{◌≡◌, ℕ, ◌+◌, ◌-◌, ◌*◌, ◌/◌, ◌%◌, ◌^◌, ◌<◌, ◌≤◌, true, false, zero, suc, ap, sym, ◌∙◌, arith, ◌⊎◌, inl, inr, ⊎_elim, refl}
use Rattle.std.proofs.lemmas.Bool.{cases_lt, cases_eq, eq-eqb, ne_eqb, eqb-false}
use Rattle.std.proofs.lemmas.Nat.{pow-add, div_below, le-div, div-mul-add, div-add-mod', mod_below}
use Rattle.std.proofs.lemmas.Nat.Bits.{bit_at-zero, bit_at-trailing_zeros, bit_at_not, bit_at-lt}
use Rattle.std.proofs.Math.Nat.{div-div-eq-div-mul, div-le_self, div-mul-le_self, lt-div-mul-add, mul-le-mul_right, suc-mul}
use Rattle.std.specs.Int.{bit_at, bit_not, w64}
use Rattle.std.specs.Int.Count.{count_trailing_zeros, trailing_of_zero}
use Rattle.std.specs.Prelude.{IsTrue}
use Rattle.gpr_flags.specs.Numbers.{has_bit}
use Rattle.gpr_flags.specs.Registers.{is_size}
use Rattle.num_lanes.proofs.Joins.{width-cases}
use Rattle.masked_memory.specs.Parts.{byte_place, AreAll, HasLane}

-- ---- addresses

-- the address of a later byte, where no address is past the last one
pub place_on : (addr from j : ℕ) → byte_place addr from + j < 2 ^ 64 → byte_place addr (from + j) ≡ byte_place addr from + j
place_on addr from j below = omega arith

-- ---- lanes of bytes

-- a lane has a byte
pub width_some : (w : ℕ) → IsTrue (is_size w) → 0 < w
width_some w width = by_width (width-cases w width)
  where
    by_width : (w ≡ 1) ⊎ ((w ≡ 2) ⊎ ((w ≡ 4) ⊎ (w ≡ 8))) → 0 < w
    by_width (inl e) = omega arith
    by_width (inr (inl e)) = omega arith
    by_width (inr (inr (inl e))) = omega arith
    by_width (inr (inr (inr e))) = omega arith

-- a byte of a lane
pub lane_at : (w i j : ℕ) → j < w → (i * w + j) / w ≡ i
lane_at w i j h = div-mul-add i w j h

-- the lane of a byte, and which of its bytes it is
pub byte_of_lane : (w k : ℕ) → 0 < w → (k / w * w + k % w ≡ k) × (k % w < w)
byte_of_lane w k some = (div-add-mod' k w, mod_below k w some)

lanes_rise : (w a b : ℕ) → 0 < w → a ≤ b → a / w ≤ b / w
lanes_rise w a b some h = le-div (a / w) b w some (let least : a / w * w ≤ a = div-mul-le_self a w in omega arith)

-- ---- bits

-- a bit of what is left of a number from some place on
bit_shifted : (mask first i : ℕ) → bit_at (mask / 2 ^ first) i ≡ bit_at mask (first + i)
bit_shifted mask first i =
    ap (λ (n : ℕ). n % 2) (div-div-eq-div-mul mask (2 ^ first) (2 ^ i) ∙ ap (λ (p : ℕ). mask / p) (sym (pow-add 2 first i)))

lowest_none : (m i : ℕ) → m < 2 ^ 64 → i < count_trailing_zeros 64 m → bit_at m i ≡ 0
lowest_none m i fits h = ⊎_elim
    (λ (none : m ≡ 0). ap (λ (n : ℕ). bit_at n i) none ∙ bit_at-zero i)
    (λ (other : m ≡ 0 → ⊥). (bit_at-trailing_zeros w64 m (some m other) fits).2 i h)
    (cases_eq m 0)
  where
    some : (m : ℕ) → (m ≡ 0 → ⊥) → 0 < m
    some zero other = absurd (other refl)
    some (suc m) other = omega arith

-- the lowest bit of what is left, if it is among 64
lowest_one : (m : ℕ) → m < 2 ^ 64 → count_trailing_zeros 64 m < 64 → bit_at m (count_trailing_zeros 64 m) ≡ 1
lowest_one m fits h = ⊎_elim
    (λ (none : m ≡ 0). absurd (let all : count_trailing_zeros 64 m ≡ 64 = ap (count_trailing_zeros 64) none ∙ trailing_of_zero 64 in omega arith))
    (λ (other : m ≡ 0 → ⊥). (bit_at-trailing_zeros w64 m (⊎_elim (λ (q : 0 < m). q) (λ (q : m ≤ 0). absurd (other (omega arith))) (cases_lt 0 m)) fits).1)
    (cases_eq m 0)

-- no lane further on is the lane itself
lane_from : (w first t : ℕ) → t ≡ 0 → first + t ≡ first
lane_from w first t e = omega arith

-- the part has a lane of the mask where the lowest bit from its first lane on is at most its last lane's
module _ (w mask from len : ℕ) (width : 0 < w) (some : 0 < len) (most : from + len ≤ 64 * w) (fits : mask < 2 ^ 64) where
  abbrev first : ℕ
  first = from / w

  abbrev last : ℕ
  last = (from + len - 1) / w

  abbrev lowest : ℕ
  lowest = count_trailing_zeros 64 (mask / 2 ^ first)

  left : mask / 2 ^ first < 2 ^ 64
  left = let no_more : mask / 2 ^ first ≤ mask = div-le_self mask (2 ^ first) in omega arith

  last_most : last < 64
  last_most = div_below (from + len - 1) w 64 width (omega arith)

  first_most : first ≤ last
  first_most = lanes_rise w from (from + len - 1) width (omega arith)

  pub lane_found : lowest ≤ last - first → HasLane w mask from len
  lane_found h = ⊎_elim
      (λ (at_first : lowest ≡ 0). record {
        byte = from;
        after = omega arith;
        before = omega arith;
        is = eq-eqb (bit_at mask first) 1 (ap (bit_at mask) (sym (lane_from w first lowest at_first)) ∙ one);
      })
      (λ (later : lowest ≡ 0 → ⊥).
      let next : suc first ≤ first + lowest = ⊎_elim (λ (q : 0 < lowest). omega arith) (λ (q : lowest ≤ 0). absurd (later (omega arith))) (cases_lt 0 lowest) in
      let above : from < first * w + w = lt-div-mul-add width in
      let rise : suc first * w ≤ (first + lowest) * w = mul-le-mul_right w next in
      let within : (first + lowest) * w ≤ last * w = mul-le-mul_right w (omega arith) in
      let end : last * w ≤ from + len - 1 = div-mul-le_self (from + len - 1) w in
      let whole : (first + lowest) * w + 0 ≡ (first + lowest) * w = omega arith in
      let lane : (first + lowest) * w / w ≡ first + lowest = ap (λ (k : ℕ). k / w) (sym whole) ∙ lane_at w (first + lowest) 0 width in
      record {
        byte = (first + lowest) * w;
        after = omega (arith, suc-mul first w);
        before = omega arith;
        is = eq-eqb (bit_at mask ((first + lowest) * w / w)) 1 (ap (bit_at mask) lane ∙ one);
      })
      (cases_eq lowest 0)
    where
      one : bit_at mask (first + lowest) ≡ 1
      one = sym (bit_shifted mask first lowest) ∙ lowest_one (mask / 2 ^ first) left (omega (arith, last_most))

  pub lanes_out : last - first < lowest → AreAll false w mask from len
  lanes_out h k after before =
      let up : first ≤ k / w = lanes_rise w from k width after in
      let down : k / w ≤ last = lanes_rise w k (from + len - 1) width (omega arith) in
      let lane : first + (k / w - first) ≡ k / w = omega arith in
      let none : bit_at mask (k / w) ≡ 0 =
      ap (bit_at mask) (sym lane) ∙ sym (bit_shifted mask first (k / w - first)) ∙ lowest_none (mask / 2 ^ first) (k / w - first) left (omega arith) in
      ne_eqb (bit_at mask (k / w)) 1 (λ e. absurd (omega arith))

-- a bit that a number's complement doesn't have
bit_has : (mask i : ℕ) → mask < 2 ^ 64 → i < 64 → has_bit (bit_not w64 mask) i ≡ false → has_bit mask i ≡ true
bit_has mask i fits h lacks =
    let other : bit_at (bit_not w64 mask) i ≡ 1 - bit_at mask i = bit_at_not w64 mask i fits h in
    let small : bit_at mask i < 2 = bit_at-lt mask i in
    eq-eqb (bit_at mask i) 1 (⊎_elim
    (λ (zero : bit_at mask i < 1). absurd (eqb-false (bit_at (bit_not w64 mask) i) 1 lacks (omega arith)))
    (λ (one : 1 ≤ bit_at mask i). omega arith)
    (cases_lt (bit_at mask i) 1))

-- all lanes of a part are of the mask where none is of its complement
pub lanes_all : (w mask from len : ℕ) → 0 < w → from + len ≤ 64 * w → mask < 2 ^ 64 → AreAll false w (bit_not w64 mask) from len → AreAll true w mask from len
lanes_all w mask from len width most fits out k after before =
    bit_has mask (k / w) fits (div_below k w 64 width (omega arith)) (out k after before)

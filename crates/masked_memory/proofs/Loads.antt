-- Loads of lanes.
use Rattle.std.proofs.Common.{◌≡◌, ℕ, zero, suc, true, false, cond, ◌+◌, ◌-◌, ◌*◌, ◌/◌, ◌^◌, ◌<◌, ◌≤◌, ◌&&◌, List, [], ◌∷◌, length, get_or, replicate, nat_lt, min, refl, ap, sym, ◌∙◌, arith, inl, inr, add-zero, ⊎_elim, take, drop}
use Rattle.std.proofs.lemmas.Bool.{cases_lt, cases_Bool, lt-ltb, le-ltb}
use Rattle.std.proofs.Math.ListN.{get_or-eq_default}
use Rattle.std.proofs.Math.Nat.{suc-mul, mul-le-mul_right}
use Rattle.std.proofs.lemmas.List.{ext_get_or}
use Rattle.std.specs.Simd.Lanes.{chunk, put_chunk, number_l}
use Rattle.std.proofs.Common.{length-take}
use Rattle.std.proofs.lemmas.Simd.{get_or-chunk, length-chunk, length-put_chunk, get_or-put_chunk_at, get_or-put_chunk_below, get_or-put_chunk_above}
use borrow.Rule.Slice.PartMut.{put_mid}
use Rattle.std.specs.Prelude.{IsTrue}
use Rattle.gpr_flags.specs.Numbers.{has_bit}
use Rattle.gpr_flags.specs.Registers.{is_size}
use Rattle.num_lanes.specs.Lane.{lane_of}
use Rattle.num_lanes.proofs.Bytes.{little-number}
use Rattle.num_lanes.proofs.LaneLemmas.{lane_fits, put_mid-put_chunk}
use Rattle.num_lanes.proofs.Joins.{joined-is, joined-same, whole_lanes}
use Rattle.machine_state.specs.Memory.{bytes_at, number_at}
use Rattle.machine_state.proofs.MemoryLemmas.{below_write, in_write, above_write, length-bytes_at, bytes_at_listed}
use Rattle.masked_memory.specs.Lanes.{lane_place, loaded_lane, loaded}
use Rattle.masked_memory.specs.Parts.{byte_place, is_in, AreCopied, AreLoaded}
use Rattle.masked_memory.proofs.Places.{place_on, lane_at}

number-zeros : (xs : List ℕ) → ((k : ℕ) → get_or xs k 0 ≡ 0) → number_l 256 xs ≡ 0
number-zeros [] h = refl
number-zeros (x ∷ xs) h = let r : number_l 256 xs ≡ 0 = number-zeros xs (λ k. h (suc k)) in let s : x ≡ 0 = h 0 in omega arith

get_or-zeros : (n k : ℕ) → get_or {A = ℕ} (replicate n 0) k 0 ≡ 0
get_or-zeros zero k = refl
get_or-zeros (suc n) zero = refl
get_or-zeros (suc n) (suc k) = get_or-zeros n k

chunk-zeros : (a w n k : ℕ) → get_or {A = ℕ} (chunk a w (replicate n 0)) k 0 ≡ 0
chunk-zeros a w n k = elim (cases_lt k w) [
  | inl q ↦ get_or-chunk a w (replicate n 0) k 0 q ∙ get_or-zeros n (a + k)
  | inr q ↦ (let r : length (chunk a w (replicate n 0)) ≤ k = simp length-take (omega arith) in get_or-eq_default (chunk a w (replicate n 0)) 0 r)
]

-- the lanes of zeros are 0
lane_zeros : (w n i : ℕ) → lane_of w (replicate n 0) i ≡ 0
lane_zeros w n i = number-zeros (chunk (i * w) w (replicate n 0)) (chunk-zeros (i * w) w n)

-- what is loaded over zeros
pub loaded_zeros : (byte : ℕ → ℕ) (addr w n mask many : ℕ)
    → loaded byte addr w n mask (lane_of w (replicate many 0)) ≡ loaded byte addr w n mask (λ _. 0)
unfolding loaded loaded_lane
loaded_zeros byte addr w n mask many =
    joined-same w (64 / w) _ _
    (λ i h. ap (λ (x : ℕ). cond (nat_lt i n && has_bit mask i) (number_at byte (lane_place addr w i) w) x) (lane_zeros w many i))

-- ---- the bytes of parts

-- a byte of an access, by its place
pub byte-at : (byte : ℕ → ℕ) (addr len i : ℕ) → i < len → get_or (bytes_at byte addr len) i 0 ≡ byte (addr + i)
unfolding bytes_at
byte-at byte addr zero i h = absurd (omega arith)
byte-at byte addr (suc len) zero h = rw add-zero refl
byte-at byte addr (suc len) (suc i) h = let next : addr + suc i ≡ addr + 1 + i = omega arith in rw next (byte-at byte (addr + 1) len i (omega arith))

-- a part of a list, and how many bytes it has
pub part_is : (from len : ℕ) (old : List ℕ) → take (from + len - from) (drop from old) ≡ chunk from len old
part_is from len old = let count : from + len - from ≡ len = omega arith in ap (λ (n : ℕ). take n (drop from old)) count

pub part_len : (from len : ℕ) (old : List ℕ) → from + len ≤ length old → length (take (from + len - from) (drop from old)) ≡ len
part_len from len old within = ap length (part_is from len old) ∙ length-chunk from len old within

-- a part that was written, in its list
pub part_put : (from len : ℕ) (old part : List ℕ) → from + len ≤ length old → length part ≡ length (take (from + len - from) (drop from old))
    → put_mid from (from + len - from) old part ≡ put_chunk from old part
part_put from len old part within same =
    put_mid-put_chunk from len (from + len - from) old part part (omega arith) (same ∙ part_len from len old within) refl within

-- the bytes of a part, put where they belong, are those of memory
pub part_loaded : (byte : ℕ → ℕ) (addr w mask from len at : ℕ) (shown part copied old new : List ℕ) → at ≡ byte_place addr from → at + len ≤ 2 ^ 64
    → shown ≡ bytes_at byte at len → part ≡ chunk from len old → from + len ≤ length old → AreCopied w mask from shown part copied
    → new ≡ put_chunk from old copied → AreLoaded byte addr w mask from (from + len) old new
part_loaded byte addr w mask from len at shown part copied old new is low are_shown is_part within are put =
    let part_len : length part ≡ len = ap length is_part ∙ length-chunk from len old within in
    let count : length copied ≡ len = are.len ∙ part_len in
    record {
      len = ap length put ∙ length-put_chunk from old copied;
      byte_is = λ k. ap (λ (bytes : List ℕ). get_or bytes k 0) put ∙ ⊎_elim
          (λ (below : k < from). get_or-put_chunk_below from old copied k 0 below ∙ rw (below_write from k (from + len) below) refl)
          (λ (above : from ≤ k). ⊎_elim
          (λ (inside : k < from + len).
          let j : ℕ = k - from in
          let place : from + j ≡ k = omega arith in
          let within_part : j < len = omega arith in
          let memory : get_or shown j 0 ≡ byte (byte_place addr k) =
          ap (λ (bytes : List ℕ). get_or bytes j 0) are_shown ∙ byte-at byte at len j within_part
          ∙ ap byte (ap (λ (a : ℕ). a + j) is ∙ sym (place_on addr from j (omega arith)) ∙ ap (byte_place addr) place) in
          let before : get_or part j 0 ≡ get_or old k 0 =
          ap (λ (bytes : List ℕ). get_or bytes j 0) is_part ∙ get_or-chunk from len old j 0 within_part ∙ ap (λ (i : ℕ). get_or old i 0) place in
          ap (λ (i : ℕ). get_or (put_chunk from old copied) i 0) (sym place)
          ∙ get_or-put_chunk_at from old copied j 0 (omega arith) (omega arith)
          ∙ are.byte j (omega arith)
          ∙ (λ i. cond (is_in w mask (place i)) (memory i) (before i))
          ∙ rw (in_write from k (from + len) above inside) refl)
          (λ (behind : from + len ≤ k).
          get_or-put_chunk_above from old copied k 0 (omega arith) ∙ rw (above_write from k (from + len) above behind) refl)
          (cases_lt k (from + len)))
          (cases_lt k from);
    }

-- bytes put among bytes
pub put_bytes : (from : ℕ) (xs ys : List ℕ) → from + length ys ≤ length xs → ((k : ℕ) → get_or xs k 0 < 256) → ((k : ℕ) → get_or ys k 0 < 256)
    → (k : ℕ) → get_or (put_chunk from xs ys) k 0 < 256
put_bytes from xs ys within first second k = ⊎_elim
    (λ (below : k < from). rw (get_or-put_chunk_below from xs ys k 0 below) (first k))
    (λ (above : from ≤ k). ⊎_elim
    (λ (inside : k < from + length ys).
    let place : from + (k - from) ≡ k = omega arith in
    let is : get_or (put_chunk from xs ys) k 0 ≡ get_or ys (k - from) 0 =
    ap (λ (i : ℕ). get_or (put_chunk from xs ys) i 0) (sym place) ∙ get_or-put_chunk_at from xs ys (k - from) 0 (omega arith) within in
    rw is (second (k - from)))
    (λ (behind : from + length ys ≤ k). rw (get_or-put_chunk_above from xs ys k 0 behind) (first k))
    (cases_lt k (from + length ys)))
    (cases_lt k from)

-- where no byte of a part belongs to a lane of the mask, nothing is loaded
pub none_loaded : (byte : ℕ → ℕ) (addr w mask from end : ℕ) (old : List ℕ) → ((k : ℕ) → from ≤ k → k < end → is_in w mask k ≡ false)
    → AreLoaded byte addr w mask from end old old
none_loaded byte addr w mask from end old none = record {
  len = refl;
  byte_is = λ k. ⊎_elim
      (λ (below : k < from). rw (below_write from k end below) refl)
      (λ (above : from ≤ k). ⊎_elim
      (λ (inside : k < end). rw (in_write from k end above inside, none k above inside) refl)
      (λ (behind : end ≤ k). rw (above_write from k end above behind) refl)
      (cases_lt k end))
      (cases_lt k from);
}

-- one part more
pub loaded_more : (byte : ℕ → ℕ) (addr w mask from end : ℕ) (old mid new : List ℕ) → from ≤ end → AreLoaded byte addr w mask 0 from old mid
    → AreLoaded byte addr w mask from end mid new → AreLoaded byte addr w mask 0 end old new
loaded_more byte addr w mask from end old mid new rises first second = record {
  len = second.len ∙ first.len;
  byte_is = λ k. second.byte_is k ∙ ⊎_elim
      (λ (below : k < from).
      rw (below_write from k end below) (first.byte_is k ∙ rw (in_write 0 k from (omega arith) below, in_write 0 k end (omega arith) (omega arith)) refl))
      (λ (above : from ≤ k). ⊎_elim
      (λ (inside : k < end).
      let before : get_or mid k 0 ≡ get_or old k 0 = first.byte_is k ∙ rw (above_write 0 k from (omega arith) above) refl in
      rw (in_write from k end above inside, in_write 0 k end (omega arith) inside, before) refl)
      (λ (behind : end ≤ k).
      rw (above_write from k end above behind, above_write 0 k end (omega arith) behind)
      (first.byte_is k ∙ rw (above_write 0 k from (omega arith) above) refl))
      (cases_lt k end))
      (cases_lt k from);
}

-- ---- the lanes of the operand

lane-same : (w i : ℕ) (xs ys : List ℕ) → i * w + w ≤ length xs → length ys ≡ length xs → ((j : ℕ) → j < w → get_or xs (i * w + j) 0 ≡ get_or ys (i * w + j) 0)
    → lane_of w xs i ≡ lane_of w ys i
lane-same w i xs ys within lens same =
    let first : length (chunk (i * w) w xs) ≡ w = length-chunk (i * w) w xs within in
    let second : length (chunk (i * w) w ys) ≡ w = length-chunk (i * w) w ys (omega arith) in
    ap (number_l 256) (ext_get_or 0 (chunk (i * w) w xs) (chunk (i * w) w ys) (first ∙ sym second)
    (λ j h. let q : j < w = omega arith in
    get_or-chunk (i * w) w xs j 0 q ∙ same j q ∙ sym (get_or-chunk (i * w) w ys j 0 q)))

-- the number of a lane whose bytes are those of memory
lane-number : (byte : ℕ → ℕ) (at w i : ℕ) (xs : List ℕ) → i * w + w ≤ length xs → ((j : ℕ) → j < w → byte (at + j) ≡ get_or xs (i * w + j) 0)
    → lane_of w xs i ≡ number_at byte at w
lane-number byte at w i xs within same =
    ap (number_l 256) (bytes_at_listed byte at w xs (i * w) within same)
    ∙ sym (little-number w (bytes_at byte at w) (length-bytes_at byte at w))

-- the lanes of an operand of n lanes that was loaded part by part
module _ (byte : ℕ → ℕ) (addr w n mask : ℕ) (old new : List ℕ) (loads : AreLoaded byte addr w mask 0 (n * w) old new)
    (low : (i : ℕ) → i < n → has_bit mask i ≡ true → byte_place addr (i * w) + w ≤ 2 ^ 64) where
  lane_in : (i : ℕ) → i < n → i * w + w ≤ n * w
  lane_in i h = let rise : suc i * w ≤ n * w = mul-le-mul_right w h in omega (arith, suc-mul i w)

  -- a lane that the mask has
  lane-in_mask : (i : ℕ) → i < n → i * w + w ≤ length old → has_bit mask i ≡ true → lane_of w new i ≡ number_at byte (lane_place addr w i) w
  lane-in_mask i h within has =
      lane-number byte (lane_place addr w i) w i new (let e = loads.len in omega arith)
      (λ j q.
      let end : i * w + w ≤ n * w = lane_in i h in
      let under : byte_place addr (i * w) + w ≤ 2 ^ 64 = low i h has in
      let lane : is_in w mask (i * w + j) ≡ true = ap (has_bit mask) (lane_at w i j q) ∙ has in
      ap byte (sym (place_on addr (i * w) j (omega arith)))
      ∙ sym (loads.byte_is (i * w + j) ∙ rw (in_write 0 (i * w + j) (n * w) (omega arith) (omega arith), lane) refl))

  lane-out_of_mask : (i : ℕ) → i * w + w ≤ length old → has_bit mask i ≡ false → lane_of w new i ≡ lane_of w old i
  lane-out_of_mask i within lacks =
      lane-same w i new old (let e = loads.len in omega arith) (sym loads.len)
      (λ j q.
      let lane : is_in w mask (i * w + j) ≡ false = ap (has_bit mask) (lane_at w i j q) ∙ lacks in
      loads.byte_is (i * w + j) ∙ ⊎_elim
      (λ (inside : i * w + j < n * w). rw (in_write 0 (i * w + j) (n * w) (omega arith) inside, lane) refl)
      (λ (behind : n * w ≤ i * w + j). rw (above_write 0 (i * w + j) (n * w) (omega arith) behind) refl)
      (cases_lt (i * w + j) (n * w)))

  lane-above : (i : ℕ) → n ≤ i → i * w + w ≤ length old → lane_of w new i ≡ lane_of w old i
  lane-above i h within =
      lane-same w i new old (let e = loads.len in omega arith) (sym loads.len)
      (λ j q.
      let rise : n * w ≤ i * w = mul-le-mul_right w h in
      loads.byte_is (i * w + j) ∙ rw (above_write 0 (i * w + j) (n * w) (omega arith) (omega arith)) refl)

  -- lane i, where the operand has no more lanes than these
  pub lane-loaded : (lanes i : ℕ) → n ≤ lanes → (i < lanes → i < n) → i * w + w ≤ length old
      → lane_of w new i ≡ loaded_lane byte addr w lanes mask (lane_of w old) i
  unfolding loaded_lane
  lane-loaded lanes i most all within = ⊎_elim
      (λ (inside : i < n). ⊎_elim
      (λ (has : has_bit mask i ≡ true). lane-in_mask i inside within has ∙ rw (lt-ltb i lanes (omega arith), has) refl)
      (λ (lacks : has_bit mask i ≡ false). lane-out_of_mask i within lacks ∙ rw (lt-ltb i lanes (omega arith), lacks) refl)
      (cases_Bool (has_bit mask i)))
      (λ (behind : n ≤ i).
      let above : lanes ≤ i = ⊎_elim (λ (q : i < lanes). let r : i < n = all q in absurd (omega arith)) (λ (q : lanes ≤ i). q) (cases_lt i lanes) in
      lane-above i behind within ∙ rw (le-ltb i lanes above) refl)
      (cases_lt i n)

-- the register of the lanes that were loaded
pub loaded-is : (byte : ℕ → ℕ) (addr w lanes mask : ℕ) (old new : List ℕ) → IsTrue (is_size w) → length old ≡ 64 → ((k : ℕ) → get_or new k 0 < 256)
    → AreLoaded byte addr w mask 0 (min lanes (64 / w) * w) old new
    → ((i : ℕ) → i < min lanes (64 / w) → has_bit mask i ≡ true → byte_place addr (i * w) + w ≤ 2 ^ 64)
    → new ≡ loaded byte addr w lanes mask (lane_of w old)
unfolding loaded
loaded-is byte addr w lanes mask old new width len bytes loads low =
    joined-is w (64 / w) new (loaded_lane byte addr w lanes mask (lane_of w old))
    (loads.len ∙ len ∙ sym (whole_lanes w width)) bytes
    (λ i h.
    let within : i * w + w ≤ 64 = lane_fits w i 64 h in
    lane-loaded byte addr w (min lanes (64 / w)) mask old new loads low lanes i (omega arith) (λ q. omega arith) (omega arith))

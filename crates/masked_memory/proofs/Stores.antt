-- Stores of lanes.
use Rattle.std.proofs.Common.{◌≡◌, ℕ, zero, suc, true, false, cond, ◌+◌, ◌-◌, ◌*◌, ◌/◌, ◌%◌, ◌^◌, ◌<◌, ◌≤◌, List, length, get_or, refl, ap, sym, ◌∙◌, arith, ⊎_elim, take_all}
use Rattle.std.proofs.lemmas.Bool.{cases_lt, cases_Bool, lt-ltb, le-ltb}
use Rattle.std.proofs.lemmas.Simd.{get_or-chunk, length-chunk}
use Rattle.std.proofs.Math.Nat.{suc-mul, zero-mul}
use Rattle.std.specs.Simd.Lanes.{chunk, digits_l, number_l}
use Rattle.gpr_flags.specs.Numbers.{has_bit}
use Rattle.num_lanes.specs.Lane.{lane_of, joined}
use Rattle.num_lanes.proofs.Bytes.{little-digits}
use Rattle.num_lanes.proofs.Joins.{joined-is}
use Rattle.num_lanes.proofs.Same.{chunk-bytes}
use Rattle.num_lanes.proofs.LaneLemmas.{bytes-bits}
use Rattle.machine_state.specs.Memory.{written, number_bytes}
use Rattle.machine_state.proofs.MemoryLemmas.{below_write, in_write, above_write, written_below, written_in, written_above}
use Rattle.masked_memory.specs.Lanes.{lane_stored, stored}
use Rattle.masked_memory.specs.Parts.{byte_place, is_in, offset, bytes_stored}
use Rattle.masked_memory.proofs.LaneWalks.{stored-more, stored-none}
use Rattle.masked_memory.proofs.Places.{lane_at}

-- ---- one address

-- an address of a byte of a part is that of one byte of the operand
offset_in : (addr from len at : ℕ) → addr < 2 ^ 64 → byte_place addr from + len ≤ 2 ^ 64 → from + len ≤ 2 ^ 64 → byte_place addr from ≤ at
    → at < byte_place addr from + len → offset addr at ≡ from + (at - byte_place addr from)
offset_in addr from len at fits low small after before = omega arith

offset_back : (addr from len at : ℕ) → addr < 2 ^ 64 → byte_place addr from + len ≤ 2 ^ 64 → at < 2 ^ 64 → from ≤ offset addr at
    → offset addr at < from + len → at ≡ byte_place addr from + (offset addr at - from)
offset_back addr from len at fits low canonical after before = omega arith

module _ (addr w mask from end : ℕ) (bytes : List ℕ) (byte : ℕ → ℕ) (at : ℕ) where
  -- an address of no byte between them keeps its byte
  stored_off : (from ≤ offset addr at → offset addr at < end → at < 2 ^ 64 → is_in w mask (offset addr at) ≡ true → ⊥)
      → bytes_stored addr w mask from end bytes byte at ≡ byte at
  unfolding bytes_stored
  stored_off off = ⊎_elim
      (λ (below : offset addr at < from). rw (below_write from (offset addr at) end below) refl)
      (λ (above : from ≤ offset addr at). ⊎_elim
      (λ (inside : offset addr at < end). ⊎_elim
      (λ (canonical : at < 2 ^ 64). ⊎_elim
      (λ (has : is_in w mask (offset addr at) ≡ true). absurd (off above inside canonical has))
      (λ (lacks : is_in w mask (offset addr at) ≡ false).
      rw (in_write from (offset addr at) end above inside, lt-ltb at (2 ^ 64) canonical, lacks) refl)
      (cases_Bool (is_in w mask (offset addr at))))
      (λ (far : 2 ^ 64 ≤ at). rw (in_write from (offset addr at) end above inside, le-ltb at (2 ^ 64) far) refl)
      (cases_lt at (2 ^ 64)))
      (λ (behind : end ≤ offset addr at). rw (above_write from (offset addr at) end above behind) refl)
      (cases_lt (offset addr at) end))
      (cases_lt (offset addr at) from)

  -- an address of one of them
  stored_on : from ≤ offset addr at → offset addr at < end → at < 2 ^ 64
      → bytes_stored addr w mask from end bytes byte at ≡ cond (is_in w mask (offset addr at)) (get_or bytes (offset addr at) 0) (byte at)
  unfolding bytes_stored
  stored_on above inside canonical = rw (in_write from (offset addr at) end above inside, lt-ltb at (2 ^ 64) canonical) refl

-- ---- parts

-- where no byte of a part belongs to a lane of the mask, nothing is stored
pub none_stored : (addr w mask from end : ℕ) (bytes : List ℕ) (byte : ℕ → ℕ) → ((k : ℕ) → from ≤ k → k < end → is_in w mask k ≡ false)
    → byte ≡ bytes_stored addr w mask from end bytes byte
none_stored addr w mask from end bytes byte none = λ i at.
    sym (stored_off addr w mask from end bytes byte at
    (λ above inside canonical has. let clash : true ≡ false = sym has ∙ none (offset addr at) above inside in cc)) i

-- one part more
pub parts_stored : (addr w mask from end : ℕ) (bytes : List ℕ) (byte : ℕ → ℕ) → from ≤ end
    → bytes_stored addr w mask from end bytes (bytes_stored addr w mask 0 from bytes byte) ≡ bytes_stored addr w mask 0 end bytes byte
unfolding bytes_stored
parts_stored addr w mask from end bytes byte rises = λ i at. by_place at i
  where
    by_place : (at : ℕ) → bytes_stored addr w mask from end bytes (bytes_stored addr w mask 0 from bytes byte) at ≡ bytes_stored addr w mask 0 end bytes byte at
    by_place at = ⊎_elim
        (λ (below : offset addr at < from).
        rw (below_write from (offset addr at) end below, in_write 0 (offset addr at) from (omega arith) below, in_write 0 (offset addr at) end (omega arith) (omega arith)) refl)
        (λ (above : from ≤ offset addr at). ⊎_elim
        (λ (inside : offset addr at < end).
        rw (in_write from (offset addr at) end above inside, above_write 0 (offset addr at) from (omega arith) above, in_write 0 (offset addr at) end (omega arith) inside) refl)
        (λ (behind : end ≤ offset addr at).
        rw (above_write from (offset addr at) end above behind, above_write 0 (offset addr at) from (omega arith) above, above_write 0 (offset addr at) end (omega arith) behind) refl)
        (cases_lt (offset addr at) end))
        (cases_lt (offset addr at) from)

-- what is written to a part, where only bytes of lanes of the mask are other than memory's
pub part_written : (addr w mask from len : ℕ) (bytes new : List ℕ) (byte : ℕ → ℕ) → addr < 2 ^ 64 → byte_place addr from + len ≤ 2 ^ 64 → from + len ≤ 2 ^ 64
    → length new ≡ len
    → ((j : ℕ) → j < len → get_or new j 0 ≡ cond (is_in w mask (from + j)) (get_or bytes (from + j) 0) (byte (byte_place addr from + j)))
    → written byte (byte_place addr from) new ≡ bytes_stored addr w mask from (from + len) bytes byte
part_written addr w mask from len bytes new byte fits low small count are = λ i at. by_place at i
  where
    outside : (at : ℕ) → (byte_place addr from ≤ at → at < byte_place addr from + len → ⊥) → byte at ≡ bytes_stored addr w mask from (from + len) bytes byte at
    outside at off =
        sym (stored_off addr w mask from (from + len) bytes byte at
        (λ above inside canonical has.
        let back = offset_back addr from len at fits low canonical above inside in off (omega arith) (omega arith)))

    by_place : (at : ℕ) → written byte (byte_place addr from) new at ≡ bytes_stored addr w mask from (from + len) bytes byte at
    by_place at = ⊎_elim
        (λ (below : at < byte_place addr from).
        written_below byte (byte_place addr from) new at below ∙ outside at (λ after before. absurd (omega arith)))
        (λ (above : byte_place addr from ≤ at). ⊎_elim
        (λ (inside : at < byte_place addr from + len).
        let j : ℕ = at - byte_place addr from in
        let place : offset addr at ≡ from + j = offset_in addr from len at fits low small above inside in
        let back : byte_place addr from + j ≡ at = omega arith in
        written_in byte (byte_place addr from) new at above (omega arith)
        ∙ are j (omega arith)
        ∙ (λ i. cond (is_in w mask (sym place i)) (get_or bytes (sym place i) 0) (byte (back i)))
        ∙ sym (stored_on addr w mask from (from + len) bytes byte at (omega arith) (omega arith) (omega arith)))
        (λ (behind : byte_place addr from + len ≤ at).
        written_above byte (byte_place addr from) new at (omega arith) ∙ outside at (λ after before. absurd (omega arith)))
        (cases_lt at (byte_place addr from + len)))
        (cases_lt at (byte_place addr from))

-- ---- lanes

-- the bytes of a lane are those of its number
lane-digits : (w i : ℕ) (bytes : List ℕ) → i * w + w ≤ length bytes → ((k : ℕ) → get_or bytes k 0 < 256)
    → chunk (i * w) w bytes ≡ digits_l 256 w (lane_of w bytes i)
unfolding joined
lane-digits w i bytes within fits =
    let count : length (chunk (i * w) w bytes) ≡ w = length-chunk (i * w) w bytes within in
    joined-is w 1 (chunk (i * w) w bytes) (λ _. lane_of w bytes i) (omega arith) (chunk-bytes (i * w) w bytes fits)
    (λ j h.
    let first : j ≡ 0 = omega arith in
    let at_first : j * w ≡ 0 = ap (λ (k : ℕ). k * w) first ∙ zero-mul w in
    ap (λ (k : ℕ). number_l 256 (chunk k w (chunk (i * w) w bytes))) at_first
    ∙ ap (number_l 256) (take_all w (chunk (i * w) w bytes) (omega arith)))

lane-bytes : (w i : ℕ) (bytes : List ℕ) → i * w + w ≤ length bytes → ((k : ℕ) → get_or bytes k 0 < 256)
    → number_bytes w (lane_of w bytes i) ≡ chunk (i * w) w bytes
lane-bytes w i bytes within fits =
    little-digits w (lane_of w bytes i) (lane_of w bytes i % 2 ^ (8 * w)) (ap (λ (p : ℕ). lane_of w bytes i % p) (sym (bytes-bits w)))
    ∙ sym (lane-digits w i bytes within fits)

module _ (addr w mask : ℕ) (bytes : List ℕ) (some : 0 < w) (fits : addr < 2 ^ 64) (are_bytes : (k : ℕ) → get_or bytes k 0 < 256) where
  -- one lane
  lane_is_stored : (i : ℕ) (byte : ℕ → ℕ) → i * w + w ≤ length bytes → i * w + w ≤ 2 ^ 64 → (has_bit mask i ≡ true → byte_place addr (i * w) + w ≤ 2 ^ 64)
      → lane_stored addr w mask (lane_of w bytes) i byte ≡ bytes_stored addr w mask (i * w) (i * w + w) bytes byte
  unfolding lane_stored
  lane_is_stored i byte within small low = ⊎_elim
      (λ (has : has_bit mask i ≡ true).
      let number : number_bytes w (lane_of w bytes i) ≡ chunk (i * w) w bytes = lane-bytes w i bytes within are_bytes in
      let count : length (number_bytes w (lane_of w bytes i)) ≡ w = ap length number ∙ length-chunk (i * w) w bytes within in
      rw has
      (part_written addr w mask (i * w) w bytes (number_bytes w (lane_of w bytes i)) byte fits (low has) small count
      (λ j q.
      let lane : is_in w mask (i * w + j) ≡ true = ap (has_bit mask) (lane_at w i j q) ∙ has in
      ap (λ (xs : List ℕ). get_or xs j 0) number ∙ get_or-chunk (i * w) w bytes j 0 q ∙ rw lane refl)))
      (λ (lacks : has_bit mask i ≡ false).
      rw lacks
      (none_stored addr w mask (i * w) (i * w + w) bytes byte
      (λ k after before.
      let place : i * w + (k - i * w) ≡ k = omega arith in
      ap (λ (m : ℕ). has_bit mask (m / w)) (sym place) ∙ ap (has_bit mask) (lane_at w i (k - i * w) (omega arith)) ∙ lacks)))
      (cases_Bool (has_bit mask i))

  -- all lanes, one after the other
  pub lanes_stored : (n : ℕ) (byte : ℕ → ℕ) → n * w ≤ length bytes → length bytes ≤ 2 ^ 64
      → ((i : ℕ) → i < n → has_bit mask i ≡ true → byte_place addr (i * w) + w ≤ 2 ^ 64)
      → stored addr w mask (lane_of w bytes) n byte ≡ bytes_stored addr w mask 0 (n * w) bytes byte
  lanes_stored zero byte within small low =
      sym (stored-none addr w mask (lane_of w bytes) byte)
      ∙ none_stored addr w mask 0 (zero * w) bytes byte (λ k after before. absurd (omega arith))
  lanes_stored (suc n) byte within small low =
      let count : suc n ≡ n + 1 = omega arith in
      let next : n * w + w ≡ suc n * w = sym (suc-mul n w) in
      ap (λ (m : ℕ). stored addr w mask (lane_of w bytes) m byte) count
      ∙ stored-more addr w mask (lane_of w bytes) n byte
      ∙ ap (lane_stored addr w mask (lane_of w bytes) n) (lanes_stored n byte (omega arith) small (λ i h. low i (omega arith)))
      ∙ lane_is_stored n (bytes_stored addr w mask 0 (n * w) bytes byte) (omega arith) (omega arith) (low n (omega arith))
      ∙ parts_stored addr w mask (n * w) (n * w + w) bytes byte (omega arith)
      ∙ ap (λ (end : ℕ). bytes_stored addr w mask 0 end bytes byte) next

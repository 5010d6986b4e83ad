-- Bytes that are copied where they belong to lanes that a mask has.
use Rattle.std.proofs.Common.{◌≡◌, ℕ, ◌+◌, ◌-◌, ◌*◌, ◌/◌, ◌%◌, ◌<◌, ◌≤◌, true, false, cond, List, length, get_or, refl, ap, sym, ◌∙◌, arith, ⊎_elim}
use Rattle.std.proofs.lemmas.Bool.{cases_lt, cases_Bool}
use Rattle.std.proofs.lemmas.Nat.{div-add-mod'}
use Rattle.std.proofs.Math.Nat.{add-mul}
use Rattle.std.proofs.lemmas.Simd.{get_or-chunk, length-chunk, length-put_chunk, get_or-put_chunk_at, get_or-put_chunk_below, get_or-put_chunk_above}
use Rattle.std.specs.Simd.Lanes.{chunk, put_chunk}
use Rattle.gpr_flags.specs.Numbers.{has_bit}
use Rattle.masked_memory.specs.Parts.{is_in, AreAll, AreCopied}
use Rattle.masked_memory.proofs.Places.{lane_at}

-- where all of them do, they are these
pub all_copied : (w mask from : ℕ) (bytes old new : List ℕ) → AreAll true w mask from (length old) → length new ≡ length old → new ≡ bytes
    → AreCopied w mask from bytes old new
all_copied w mask from bytes old new all len is = record {
  len = len;
  byte = λ k h. ap (λ (xs : List ℕ). get_or xs k 0) is ∙ rw (all (from + k) (omega arith) (omega arith)) refl;
}

-- the bytes below n are copied
pub record AreCopiedTo (w mask from n : ℕ) (bytes old new : List ℕ) : Type 0 where
  pub len : length new ≡ length old
  pub done : (k : ℕ) → k < n → get_or new k 0 ≡ cond (is_in w mask (from + k)) (get_or bytes k 0) (get_or old k 0)
  pub rest : (k : ℕ) → n ≤ k → get_or new k 0 ≡ get_or old k 0

pub none_copied : (w mask from : ℕ) (bytes old : List ℕ) → AreCopiedTo w mask from 0 bytes old old
none_copied w mask from bytes old = record { len = refl; done = λ k h. absurd (omega arith); rest = λ k h. refl }

-- one lane more
module _ (w mask from i : ℕ) (bytes old mid new : List ℕ) (whole : from % w ≡ 0) (within : i * w + w ≤ length bytes) (fits : i * w + w ≤ length old)
    (before : AreCopiedTo w mask from (i * w) bytes old mid) where
  lane : (k : ℕ) → i * w ≤ k → k < i * w + w → is_in w mask (from + k) ≡ has_bit mask (from / w + i)
  lane k after below =
      let start : from / w * w + from % w ≡ from = div-add-mod' from w in
      let place : from + k ≡ (from / w + i) * w + (k - i * w) = omega (arith, add-mul (from / w) i w) in
      ap (λ (b : ℕ). has_bit mask (b / w)) place ∙ ap (has_bit mask) (lane_at w (from / w + i) (k - i * w) (omega arith))

  put : has_bit mask (from / w + i) ≡ true → new ≡ put_chunk (i * w) mid (chunk (i * w) w bytes) → AreCopiedTo w mask from (i * w + w) bytes old new
  put has is =
      let count : length (chunk (i * w) w bytes) ≡ w = length-chunk (i * w) w bytes within in
      let at_byte : (k : ℕ) → get_or new k 0 ≡ get_or (put_chunk (i * w) mid (chunk (i * w) w bytes)) k 0 = λ k. ap (λ (xs : List ℕ). get_or xs k 0) is in
      let same = before.len in
      record {
        len = ap length is ∙ length-put_chunk (i * w) mid (chunk (i * w) w bytes) ∙ before.len;
        done = λ k h. at_byte k ∙ ⊎_elim
            (λ (below : k < i * w). get_or-put_chunk_below (i * w) mid (chunk (i * w) w bytes) k 0 below ∙ before.done k below)
            (λ (above : i * w ≤ k).
            let there : i * w + (k - i * w) ≡ k = omega arith in
            ap (λ (n : ℕ). get_or (put_chunk (i * w) mid (chunk (i * w) w bytes)) n 0) (sym there)
            ∙ get_or-put_chunk_at (i * w) mid (chunk (i * w) w bytes) (k - i * w) 0 (omega arith) (omega arith)
            ∙ get_or-chunk (i * w) w bytes (k - i * w) 0 (omega arith) ∙ ap (λ (n : ℕ). get_or bytes n 0) there
            ∙ rw (lane k above h, has) refl)
            (cases_lt k (i * w));
        rest = λ k h. at_byte k ∙ get_or-put_chunk_above (i * w) mid (chunk (i * w) w bytes) k 0 (omega arith) ∙ before.rest k (omega arith);
      }

  kept : has_bit mask (from / w + i) ≡ false → new ≡ mid → AreCopiedTo w mask from (i * w + w) bytes old new
  kept lacks is =
      let at_byte : (k : ℕ) → get_or new k 0 ≡ get_or mid k 0 = λ k. ap (λ (xs : List ℕ). get_or xs k 0) is in
      record {
        len = ap length is ∙ before.len;
        done = λ k h. at_byte k ∙ ⊎_elim
            (λ (below : k < i * w). before.done k below)
            (λ (above : i * w ≤ k). before.rest k above ∙ rw (lane k above h, lacks) refl)
            (cases_lt k (i * w));
        rest = λ k h. at_byte k ∙ before.rest k (omega arith);
      }

  pub lane_copied : new ≡ cond (has_bit mask (from / w + i)) (put_chunk (i * w) mid (chunk (i * w) w bytes)) mid → AreCopiedTo w mask from (i * w + w) bytes old new
  lane_copied is = ⊎_elim
      (λ (has : has_bit mask (from / w + i) ≡ true). put has (is ∙ rw has refl))
      (λ (lacks : has_bit mask (from / w + i) ≡ false). kept lacks (is ∙ rw lacks refl))
      (cases_Bool (has_bit mask (from / w + i)))

-- all bytes are copied
pub end_copied : (w mask from n : ℕ) (bytes old new : List ℕ) → length old ≤ n → AreCopiedTo w mask from n bytes old new → AreCopied w mask from bytes old new
end_copied w mask from n bytes old new all copied = record { len = copied.len; byte = λ k h. copied.done k (omega arith) }

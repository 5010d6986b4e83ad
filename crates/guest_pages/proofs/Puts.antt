-- Lemmas on a write within a page.
use Rattle.std.proofs.Common.{◌≡◌, ℕ, ◌+◌, ◌-◌, ◌/◌, ◌%◌, ◌<◌, ◌≤◌, List, ◌++◌, false, cond, length, get_or, refl, sym, ap, ◌∙◌, ⊎_elim, arith, take, drop, nat_lt, nat_le, ◌&&◌}
use Rattle.std.proofs.lemmas.List.{length-take, length-take-le, get_or-take, get_or-drop, get_or_append_left, get_or-append_right, get_or_past}
use Rattle.std.proofs.lemmas.Bool.{cases_lt}
use Rattle.machine_state.specs.Memory.{page_size}
use Rattle.machine_state.proofs.MemoryLemmas.{below_write, in_write, above_write}
use Rattle.guest_pages.specs.Bytes.{put_at}

module _ (bytes : List ℕ) (at i : ℕ) (other : List ℕ) (fits : at + length other ≤ length bytes) where
  front : length (take at bytes) ≡ at
  front = length-take-le at bytes (omega arith)

  put_inside : at ≤ i → i < at + length other → get_or (put_at bytes at other) i 0 ≡ get_or other (i - at) 0
  put_inside low high =
      let within : i < length bytes = omega arith in
      let inside : i - at < length other = omega arith in
      get_or-take (length bytes) _ i 0 within ∙ get_or-append_right (take at bytes) _ at i 0 front low ∙ get_or_append_left other _ 0 (i - at) inside

  put_before : i < at → get_or (put_at bytes at other) i 0 ≡ get_or bytes i 0
  put_before low =
      let within : i < length bytes = omega arith in
      let first : i < length (take at bytes) = rw front low in
      get_or-take (length bytes) _ i 0 within ∙ get_or_append_left (take at bytes) _ 0 i first ∙ get_or-take at bytes i 0 low

  put_after : at + length other ≤ i → get_or (put_at bytes at other) i 0 ≡ get_or bytes i 0
  put_after high = ⊎_elim
      (λ (within : i < length bytes).
      let same : at + (length other + (i - at - length other)) ≡ i = omega arith in
      get_or-take (length bytes) _ i 0 within
      ∙ get_or-append_right (take at bytes) _ at i 0 front (omega arith)
      ∙ get_or-append_right other _ (length other) (i - at) 0 refl (omega arith)
      ∙ get_or-drop (length other) (drop at bytes) _ 0
      ∙ get_or-drop at bytes _ 0
      ∙ ap (λ (k : ℕ). get_or bytes k 0) same)
      (λ (past : length bytes ≤ i).
      let short : length (put_at bytes at other) ≤ i = (let len = length-take (length bytes) (take at bytes ++ (other ++ drop (length other) (drop at bytes))) in omega arith) in
      get_or_past _ i 0 short ∙ sym (get_or_past bytes i 0 past))
      (cases_lt i (length bytes))

-- a byte after the put
pub get_or-put_at : (bytes : List ℕ) (at i : ℕ) (other : List ℕ) → at + length other ≤ length bytes
    → get_or (put_at bytes at other) i 0 ≡ cond (nat_le at i && nat_lt i (at + length other)) (get_or other (i - at) 0) (get_or bytes i 0)
get_or-put_at bytes at i other fits = ⊎_elim
    (λ (low : i < at). rw (below_write at i (at + length other) low) (put_before bytes at i other fits low))
    (λ (low : at ≤ i). ⊎_elim
    (λ (high : i < at + length other). rw (in_write at i (at + length other) low high) (put_inside bytes at i other fits low high))
    (λ (high : at + length other ≤ i). rw (above_write at i (at + length other) low high) (put_after bytes at i other fits high))
    (cases_lt i (at + length other)))
    (cases_lt i at)

-- the test of a write at an address of its page is the test at the index within the page
pub test_there : (addr other len : ℕ) → addr / page_size ≡ other / page_size
    → (nat_le (addr % page_size) (other % page_size) && nat_lt (other % page_size) (addr % page_size + len)) ≡ (nat_le addr other && nat_lt other (addr + len))
test_there addr other len same = ⊎_elim
    (λ (low : other < addr). below_write (addr % page_size) (other % page_size) (addr % page_size + len) (omega arith) ∙ sym (below_write addr other (addr + len) low))
    (λ (low : addr ≤ other). ⊎_elim
    (λ (high : other < addr + len). in_write (addr % page_size) (other % page_size) (addr % page_size + len) (omega arith) (omega arith) ∙ sym (in_write addr other (addr + len) low high))
    (λ (high : addr + len ≤ other). above_write (addr % page_size) (other % page_size) (addr % page_size + len) (omega arith) (omega arith) ∙ sym (above_write addr other (addr + len) low high))
    (cases_lt other (addr + len)))
    (cases_lt other addr)

-- a write within a page doesn't reach an address of another page
pub test_elsewhere : (addr other len : ℕ) → addr % page_size + len ≤ page_size → (addr / page_size ≡ other / page_size → ⊥) → (nat_le addr other && nat_lt other (addr + len)) ≡ false
test_elsewhere addr other len fits apart = ⊎_elim
    (λ (low : other < addr). below_write addr other (addr + len) low)
    (λ (low : addr ≤ other). ⊎_elim
    (λ (high : other < addr + len). absurd (apart (omega arith)))
    (λ (high : addr + len ≤ other). above_write addr other (addr + len) low high)
    (cases_lt other (addr + len)))
    (cases_lt other addr)

-- Cuts of byte lists, and what closing a gap does to the bytes behind it.
use Rattle.std.proofs.Common.{◌≡◌, ℕ, ◌+◌, ◌-◌, ◌≤◌, List, ◌++◌, length, take, drop, refl, ap, sym, ◌∙◌, arith, append_assoc}
use Rattle.std.proofs.lemmas.List.{drop-append-le, drop-drop, drop_at, length-append, length-drop, length-take-le, take-append-drop, take-append-le, take_at}
use Rattle.std.proofs.Math.Seq.{drop-append-add, take-add}

-- what lies some bytes behind the front
pub drop_behind : (front rest : List ℕ) (size n : ℕ) → length front ≡ size → drop (size + n) (front ++ rest) ≡ drop n rest
drop_behind front rest size n is_size = rw (← is_size) (drop-append-add front rest n)

-- the bytes in front of the gap stand behind it once the part that holds both is turned
pub gap_closed : (bytes held turned : List ℕ) (start at size : ℕ) → start + at + size ≤ length bytes → held ≡ drop start bytes →
    turned ≡ drop at (take (at + size) held) ++ take at (take (at + size) held) →
    drop (start + size) (take start bytes ++ (turned ++ drop (length turned) held)) ≡ take at held ++ drop (at + size) held
gap_closed bytes held turned start at size fits held_is turned_is =
    let front = take at held in
    let gap = take size (drop at held) in
    let len : at + size ≤ length held = omega (arith, ap length held_is, length-drop start bytes) in
    let front_len : length front ≡ at = length-take-le at held (omega arith) in
    let gap_len : length gap ≡ size = length-take-le size (drop at held) (omega (arith, length-drop at held)) in
    let before : length (take start bytes) ≡ start = length-take-le start bytes (omega arith) in
    let both : take (at + size) held ≡ front ++ gap = take-add at size held in
    let swapped : turned ≡ gap ++ front = turned_is ∙ rw (both, drop_at front gap at front_len, take_at front gap at front_len) refl in
    let turned_len : length turned ≡ at + size = ap length swapped ∙ length-append gap front ∙ omega arith in
    rw (
      drop_behind (take start bytes) (turned ++ drop (length turned) held) start size before,
      turned_len,
      swapped,
      append_assoc gap front (drop (at + size) held),
      drop_at gap (front ++ drop (at + size) held) size gap_len,
    ) refl

-- what is written is read back
pub read_written : (xs ys : List ℕ) (at len : ℕ) → length ys ≡ len → at + len ≤ length xs →
    take len (drop at (take at xs ++ (ys ++ drop (at + length ys) xs))) ≡ ys
read_written xs ys at len is_len within =
    let front : length (take at xs) ≡ at = length-take-le at xs (omega arith) in
    rw (drop_at (take at xs) (ys ++ drop (at + length ys) xs) at front, take_at ys (drop (at + length ys) xs) len is_len) refl

-- what lies in front of what is written stays
pub read_below : (xs ys : List ℕ) (at from len : ℕ) → from + len ≤ at → at + length ys ≤ length xs →
    take len (drop from (take at xs ++ (ys ++ drop (at + length ys) xs))) ≡ take len (drop from xs)
read_below xs ys at from len below within =
    let front : length (take at xs) ≡ at = length-take-le at xs (omega arith) in
    let rest = ys ++ drop (at + length ys) xs in
    let enough : len ≤ length (drop from (take at xs)) = omega (arith, length-drop from (take at xs)) in
    let both : drop from xs ≡ drop from (take at xs) ++ drop at xs =
    ap (drop from) (sym (take-append-drop at xs)) ∙ drop-append-le from (take at xs) (drop at xs) (omega arith) in
    rw (
      drop-append-le from (take at xs) rest (omega arith),
      take-append-le len (drop from (take at xs)) rest enough,
      both,
      take-append-le len (drop from (take at xs)) (drop at xs) enough,
    ) refl

-- what lies behind what is written stays
pub read_above : (xs ys : List ℕ) (at from : ℕ) → at + length ys ≤ from → at + length ys ≤ length xs →
    drop from (take at xs ++ (ys ++ drop (at + length ys) xs)) ≡ drop from xs
read_above xs ys at from above within =
    let front : length (take at xs) ≡ at = length-take-le at xs (omega arith) in
    let more = from - (at + length ys) in
    let len : length (take at xs ++ ys) ≡ at + length ys = length-append (take at xs) ys ∙ omega arith in
    let is_from : from ≡ at + length ys + more = omega arith in
    let joined = append_assoc (take at xs) ys (drop (at + length ys) xs) in
    rw (
      ← joined,
      is_from,
      drop_behind (take at xs ++ ys) (drop (at + length ys) xs) (at + length ys) more len,
      drop-drop more (at + length ys) xs,
    ) refl

-- Lemmas on pieces, and on what is left of them.
use Rattle.std.proofs.Common.{◌≡◌, ℕ, ◌+◌, ◌-◌, ◌≤◌, ◌<◌, List, [], ◌∷◌, ◌++◌, refl, sym, ap, ◌∙◌, ⊎_elim, arith, take, drop, length, length-append, length-take, length-drop, append_assoc, add-zero}
use Rattle.std.proofs.lemmas.Bool.{cases_lt, lt-ltb, le-ltb}
use Rattle.std.proofs.lemmas.List.{take_all, drop_all, take-append-le, drop-append-le}
use Rattle.std.proofs.lemmas.List.Sums.{sum_by-cons}
use Rattle.std.proofs.Math.Seq.{take-append-add, drop-append-add, take-append_seam, drop-append_seam, take-length}
use Rattle.machine_state.specs.Memory.{bytes_at, written}
use Rattle.machine_state.proofs.MemoryLemmas.{bytes_at-append, length-bytes_at, written_none, written_on}
use Rattle.guest_transfers.specs.declared.kinds.Piece.{Piece}
use Rattle.guest_transfers.specs.Pieces.{asked, pieces_bytes, spread, pieces_from, bytes_between}

-- what is left of pieces behind bytes of the first, and behind all of them
pub from_inside : (piece : Piece) (pieces : List Piece) (done : ℕ) → done < piece.len
    → pieces_from (piece ∷ pieces) done ≡ record { addr = piece.addr + done; len = piece.len - done } ∷ pieces
unfolding pieces_from
from_inside piece pieces done h = rw (lt-ltb done piece.len h) refl

pub from_behind : (piece : Piece) (pieces : List Piece) (done : ℕ) → piece.len ≤ done
    → pieces_from (piece ∷ pieces) done ≡ pieces_from pieces (done - piece.len)
unfolding pieces_from
from_behind piece pieces done h = rw (le-ltb done piece.len h) refl

pub from_none : (done : ℕ) → pieces_from [] done ≡ []
unfolding pieces_from
from_none done = refl

-- how many bytes are left
pub asked_from : (pieces : List Piece) (done : ℕ) → asked (pieces_from pieces done) ≡ asked pieces - done
asked_from [] done = rw (from_none done) (omega arith)
asked_from (piece ∷ pieces) done = ⊎_elim
    (λ (h : done < piece.len). rw (from_inside piece pieces done h, sum_by-cons (λ (p : Piece). p.len) piece pieces, sum_by-cons (λ (p : Piece). p.len) (record { addr = piece.addr + done; len = piece.len - done }) pieces) (omega arith))
    (λ (h : piece.len ≤ done). rw (from_behind piece pieces done h, sum_by-cons (λ (p : Piece). p.len) piece pieces) (asked_from pieces (done - piece.len) ∙ omega arith))
    (cases_lt done piece.len)

-- a first piece that isn't empty
pub record Begins (pieces : List Piece) : Type 0 where
  pub first : Piece
  pub rest : List Piece
  pub is : pieces ≡ first ∷ rest
  pub some : 0 < first.len

-- behind all bytes none are left
pub from_all : (pieces : List Piece) (done : ℕ) → asked pieces ≤ done → pieces_from pieces done ≡ []
from_all [] done h = from_none done
from_all (piece ∷ pieces) done h =
    let sum = sum_by-cons (λ (p : Piece). p.len) piece pieces in
    from_behind piece pieces done (omega arith) ∙ from_all pieces (done - piece.len) (omega arith)

-- the piece of the next byte
pub next_piece : (pieces : List Piece) (done : ℕ) → done < asked pieces → Begins (pieces_from pieces done)
next_piece [] done h = absurd (omega arith)
next_piece (piece ∷ pieces) done h = ⊎_elim
    (λ (inside : done < piece.len). record {
      first = record { addr = piece.addr + done; len = piece.len - done };
      rest = pieces;
      is = from_inside piece pieces done inside;
      some = omega arith;
    })
    (λ (behind : piece.len ≤ done). let sum = sum_by-cons (λ (p : Piece). p.len) piece pieces in let next = next_piece pieces (done - piece.len) (omega arith) in
    record { first = next.first; rest = next.rest; is = from_behind piece pieces done behind ∙ next.is; some = next.some })
    (cases_lt done piece.len)

-- behind some bytes and then others
pub from_from : (pieces : List Piece) (done more : ℕ) → pieces_from (pieces_from pieces done) more ≡ pieces_from pieces (done + more)
from_from [] done more = rw (from_none done, from_none more, from_none (done + more)) refl
from_from (piece ∷ pieces) done more = ⊎_elim
    (λ (inside : done < piece.len). rw (from_inside piece pieces done inside) (⊎_elim
    (λ (here : more < piece.len - done).
    let place : piece.addr + done + more ≡ piece.addr + (done + more) = omega arith in
    let rest : piece.len - done - more ≡ piece.len - (done + more) = omega arith in
    from_inside (record { addr = piece.addr + done; len = piece.len - done }) pieces more here
    ∙ rw (place, rest) (sym (from_inside piece pieces (done + more) (omega arith))))
    (λ (past : piece.len - done ≤ more).
    let rest : more - (piece.len - done) ≡ done + more - piece.len = omega arith in
    from_behind (record { addr = piece.addr + done; len = piece.len - done }) pieces more past
    ∙ rw rest (sym (from_behind piece pieces (done + more) (omega arith))))
    (cases_lt more (piece.len - done))))
    (λ (behind : piece.len ≤ done).
    let sum : done - piece.len + more ≡ done + more - piece.len = omega arith in
    rw (from_behind piece pieces done behind)
    (from_from pieces (done - piece.len) more ∙ rw sum (sym (from_behind piece pieces (done + more) (omega arith)))))
    (cases_lt done piece.len)

pub from_zero : (pieces : List Piece) (first : Piece) (rest : List Piece) → pieces ≡ first ∷ rest → 0 < first.len → pieces_from pieces 0 ≡ pieces
from_zero pieces first rest is some = rw is (from_inside first rest 0 some ∙ rw (add-zero, sub_zero first.len) refl)
  where
    sub_zero : (n : ℕ) → n - 0 ≡ n
    sub_zero n = omega arith

-- ---- the bytes of pieces
pub bytes-nil : (byte : ℕ → ℕ) → pieces_bytes byte [] ≡ []
unfolding pieces_bytes
bytes-nil byte = refl

pub bytes-cons : (byte : ℕ → ℕ) (piece : Piece) (pieces : List Piece)
    → pieces_bytes byte (piece ∷ pieces) ≡ bytes_at byte piece.addr piece.len ++ pieces_bytes byte pieces
unfolding pieces_bytes
bytes-cons byte piece pieces = refl

pub length-pieces_bytes : (byte : ℕ → ℕ) (pieces : List Piece) → length (pieces_bytes byte pieces) ≡ asked pieces
length-pieces_bytes byte [] = rw (bytes-nil byte) refl
length-pieces_bytes byte (piece ∷ pieces) =
    rw (bytes-cons byte piece pieces, length-append (bytes_at byte piece.addr piece.len) (pieces_bytes byte pieces), length-bytes_at byte piece.addr piece.len, length-pieces_bytes byte pieces, sum_by-cons (λ (p : Piece). p.len) piece pieces) refl

-- how many bytes there are from one up to another
pub length-between : (byte : ℕ → ℕ) (pieces : List Piece) (from to : ℕ) → to ≤ asked pieces → length (bytes_between byte pieces from to) ≡ to - from
length-between byte pieces from to within =
    length-take (to - from) (drop from (pieces_bytes byte pieces))
    ∙ rw (length-drop from (pieces_bytes byte pieces), length-pieces_bytes byte pieces) (omega arith)

pub bytes_from : (byte : ℕ → ℕ) (pieces : List Piece) (done : ℕ) → pieces_bytes byte (pieces_from pieces done) ≡ drop done (pieces_bytes byte pieces)
bytes_from byte [] done = rw (from_none done, bytes-nil byte) (sym (drop_all done [] (omega arith)))
bytes_from byte (piece ∷ pieces) done = ⊎_elim
    (λ (inside : done < piece.len).
    let split : piece.len ≡ done + (piece.len - done) = omega arith in
    let front : bytes_at byte piece.addr piece.len ≡ bytes_at byte piece.addr done ++ bytes_at byte (piece.addr + done) (piece.len - done) =
    ap (bytes_at byte piece.addr) split ∙ bytes_at-append byte piece.addr done (piece.len - done) in
    let behind = drop-append_seam (bytes_at byte piece.addr done) (bytes_at byte (piece.addr + done) (piece.len - done) ++ pieces_bytes byte pieces) in
    rw (
      from_inside piece pieces done inside,
      bytes-cons byte (record { addr = piece.addr + done; len = piece.len - done }) pieces,
      bytes-cons byte piece pieces,
      front,
      append_assoc (bytes_at byte piece.addr done) (bytes_at byte (piece.addr + done) (piece.len - done)) (pieces_bytes byte pieces),
    )
    (sym (rw (length-bytes_at byte piece.addr done) at behind)))
    (λ (behind : piece.len ≤ done).
    let split : done ≡ length (bytes_at byte piece.addr piece.len) + (done - piece.len) = rw (length-bytes_at byte piece.addr piece.len) (omega arith) in
    rw (from_behind piece pieces done behind, bytes-cons byte piece pieces)
    (bytes_from byte pieces (done - piece.len)
    ∙ sym (ap (λ (n : ℕ). drop n (bytes_at byte piece.addr piece.len ++ pieces_bytes byte pieces)) split
    ∙ drop-append-add (bytes_at byte piece.addr piece.len) (pieces_bytes byte pieces) (done - piece.len))))
    (cases_lt done piece.len)

-- the first bytes of pieces, within the first
pub front_bytes : (byte : ℕ → ℕ) (piece : Piece) (pieces : List Piece) (n : ℕ) → n ≤ piece.len
    → take n (pieces_bytes byte (piece ∷ pieces)) ≡ bytes_at byte piece.addr n
front_bytes byte piece pieces n le =
    let split : piece.len ≡ n + (piece.len - n) = omega arith in
    let front : bytes_at byte piece.addr piece.len ≡ bytes_at byte piece.addr n ++ bytes_at byte (piece.addr + n) (piece.len - n) =
    ap (bytes_at byte piece.addr) split ∙ bytes_at-append byte piece.addr n (piece.len - n) in
    let seam = take-append_seam (bytes_at byte piece.addr n) (bytes_at byte (piece.addr + n) (piece.len - n) ++ pieces_bytes byte pieces) in
    rw (bytes-cons byte piece pieces, front, append_assoc (bytes_at byte piece.addr n) (bytes_at byte (piece.addr + n) (piece.len - n)) (pieces_bytes byte pieces))
    (rw (length-bytes_at byte piece.addr n) at seam)

-- ---- bytes along pieces
pub spread-nil : (byte : ℕ → ℕ) (bytes : List ℕ) → spread byte [] bytes ≡ byte
unfolding spread
spread-nil byte bytes = refl

pub spread-cons : (byte : ℕ → ℕ) (piece : Piece) (pieces : List Piece) (bytes : List ℕ)
    → spread byte (piece ∷ pieces) bytes ≡ spread (written byte piece.addr (take piece.len bytes)) pieces (drop piece.len bytes)
unfolding spread
spread-cons byte piece pieces bytes = refl

none-take : (n : ℕ) → take {A = ℕ} n [] ≡ []
none-take n = take_all n [] (omega arith)

none-drop : (n : ℕ) → drop {A = ℕ} n [] ≡ []
none-drop n = drop_all n [] (omega arith)

pub spread_none : (byte : ℕ → ℕ) (pieces : List Piece) → spread byte pieces [] ≡ byte
spread_none byte [] = spread-nil byte []
spread_none byte (piece ∷ pieces) =
    rw (spread-cons byte piece pieces [], none-take piece.len, none-drop piece.len, written_none byte piece.addr)
    (spread_none byte pieces)

add-sub_left : (a b : ℕ) → a + b - a ≡ b
add-sub_left a b = omega arith

-- two writes, the second going on where the first ended, are one
pub written-append : (byte : ℕ → ℕ) (addr : ℕ) (xs ys : List ℕ)
    → written (written byte addr xs) (addr + length xs) ys ≡ written byte addr (xs ++ ys)
written-append byte addr xs ys =
    let whole : length (xs ++ ys) ≡ length xs + length ys = length-append xs ys in
    let front : take (length xs) (xs ++ ys) ≡ xs = take-append_seam xs ys in
    let back : take (length xs + length ys - length xs) (drop (length xs) (xs ++ ys)) ≡ ys =
    rw (drop-append_seam xs ys, add-sub_left (length xs) (length ys)) (take-length ys) in
    let all : take (length xs + length ys) (xs ++ ys) ≡ xs ++ ys = rw (← whole) (take-length (xs ++ ys)) in
    ap (λ (zs : List ℕ). written (written byte addr zs) (addr + length xs) ys) (sym front)
    ∙ ap (λ (zs : List ℕ). written (written byte addr (take (length xs) (xs ++ ys))) (addr + length xs) zs) (sym back)
    ∙ written_on byte addr (xs ++ ys) (length xs) (length xs + length ys) (omega arith) (omega (arith, whole))
    ∙ ap (written byte addr) all

-- bytes that the first piece has room for
pub spread_front : (byte : ℕ → ℕ) (piece : Piece) (pieces : List Piece) (bytes : List ℕ) → length bytes ≤ piece.len
    → spread byte (piece ∷ pieces) bytes ≡ written byte piece.addr bytes
spread_front byte piece pieces bytes le =
    rw (spread-cons byte piece pieces bytes, take_all piece.len bytes le, drop_all piece.len bytes le) (spread_none (written byte piece.addr bytes) pieces)

-- bytes along pieces, and others behind them, are all of them at once
pub spread-append : (byte : ℕ → ℕ) (pieces : List Piece) (xs ys : List ℕ)
    → spread (spread byte pieces xs) (pieces_from pieces (length xs)) ys ≡ spread byte pieces (xs ++ ys)
spread-append byte [] xs ys = rw (from_none (length xs), spread-nil byte xs, spread-nil byte ys, spread-nil byte (xs ++ ys)) refl
spread-append byte (piece ∷ pieces) xs ys = ⊎_elim
    (λ (inside : length xs < piece.len).
    let split : piece.len ≡ length xs + (piece.len - length xs) = omega arith in
    let front : take piece.len (xs ++ ys) ≡ xs ++ take (piece.len - length xs) ys =
    ap (λ (n : ℕ). take n (xs ++ ys)) split ∙ take-append-add xs ys (piece.len - length xs) in
    let back : drop piece.len (xs ++ ys) ≡ drop (piece.len - length xs) ys =
    ap (λ (n : ℕ). drop n (xs ++ ys)) split ∙ drop-append-add xs ys (piece.len - length xs) in
    rw (
      from_inside piece pieces (length xs) inside,
      spread_front byte piece pieces xs (omega arith),
      spread-cons (written byte piece.addr xs) (record { addr = piece.addr + length xs; len = piece.len - length xs }) pieces ys,
      spread-cons byte piece pieces (xs ++ ys),
      front,
      back,
      written-append byte piece.addr xs (take (piece.len - length xs) ys),
    ) refl)
    (λ (behind : piece.len ≤ length xs).
    let left : take piece.len (xs ++ ys) ≡ take piece.len xs = take-append-le piece.len xs ys behind in
    let right : drop piece.len (xs ++ ys) ≡ drop piece.len xs ++ ys = drop-append-le piece.len xs ys behind in
    let count : length xs - piece.len ≡ length (drop piece.len xs) = sym (length-drop piece.len xs) in
    rw (from_behind piece pieces (length xs) behind, spread-cons byte piece pieces xs, spread-cons byte piece pieces (xs ++ ys), left, right, count)
    (spread-append (written byte piece.addr (take piece.len xs)) pieces (drop piece.len xs) ys))
    (cases_lt (length xs) piece.len)

-- The units of a call: parts of pieces, pages of accesses, and how a call goes on from one unit to the next.
use Rattle.std.proofs.Common.{◌≡◌, ℕ, zero, suc, ◌+◌, ◌-◌, ◌*◌, ◌/◌, ◌%◌, ◌^◌, ◌≤◌, ◌<◌, ◌⊎◌, inl, inr, ⊎_elim, min, List, [], ◌∷◌, length, Option, Some, None, refl, sym, ap, ◌∙◌, subst, arith}
use Rattle.std.specs.Prelude.{sum_by, slice_index_or}
use Rattle.std.specs.List.{Contains}
use Rattle.std.proofs.lemmas.Bool.{cases_lt, ne_eqb}
use Rattle.std.proofs.lemmas.List.Sums.{sum_by-cons}
use Rattle.machine_state.specs.Memory.{page_size}
use Rattle.machine_state.specs.declared.kinds.Access.{Access}
use Rattle.machine_state.specs.declared.kinds.Kind.{Kind}
use Rattle.machine_state.specs.declared.kinds.Miss.{Miss}
use Rattle.machine_state.specs.declared.kinds.Miss.TheVariants.{Away}
use Rattle.guest_transfers.specs.Moves.{AreReady}
use Rattle.machine_state.specs.declared.kinds.Kind.TheVariants.{Write}
use Rattle.guest_transfers.specs.Pieces.{asked, first_part, part_at, pieces_from, single}
use Rattle.guest_transfers.specs.declared.kinds.Piece.{Piece}
use Rattle.guest_transfers.proofs.Along.{asked_from, from_all, from_behind, from_from, from_inside, from_none}
use Rattle.guest_transfers.proofs.PartLemmas.{IsPart, next_part, part_rest}
use Rattle.linux_calls.specs.Units.{pages_over, pages_from, parts_left}

-- ---- how many pages an access lies on
pub over_none : (addr : ℕ) → pages_over addr 0 ≡ 0
unfolding pages_over
over_none addr = refl

pub over_some : (addr len : ℕ) → 0 < len → pages_over addr len ≡ (addr % page_size + len - 1) / page_size + 1
unfolding pages_over
over_some addr len some = rw (ne_eqb len 0 (λ e. omega (arith, e, some))) refl

over_le : (addr len : ℕ) → pages_over addr len ≤ len
over_le addr zero = rw (over_none addr) (omega arith)
over_le addr (suc len) = rw (over_some addr (suc len) (omega arith)) (omega arith)

-- behind the first bytes of an access it lies on no more pages, and behind those of its first page on one less
over_behind : (addr len n : ℕ) → n < len → addr % page_size + n ≤ page_size → pages_over (addr + n) (len - n) ≤ pages_over addr len
over_behind addr len n inside within = rw (over_some (addr + n) (len - n) (omega arith), over_some addr len (omega arith)) (omega arith)

over_next : (addr len n : ℕ) → n < len → addr % page_size + n ≡ page_size → pages_over (addr + n) (len - n) < pages_over addr len
over_next addr len n inside ends = rw (over_some (addr + n) (len - n) (omega arith), over_some addr len (omega arith)) (omega arith)

over_first : (addr len : ℕ) → 0 < len → 0 < pages_over addr len
over_first addr len some = rw (over_some addr len some) (omega arith)

-- ---- the parts of pieces
over_piece : Piece → ℕ
over_piece piece = pages_over piece.addr piece.len

parts_in : List Piece → ℕ
parts_in pieces = sum_by (λ (piece : Piece). pages_over piece.addr piece.len) pieces

parts_le : (pieces : List Piece) → parts_in pieces ≤ asked pieces
unfolding parts_in
parts_le [] = omega arith
parts_le (piece ∷ pieces) =
    let here = over_le piece.addr piece.len in
    let rest = parts_le pieces in
    omega (arith, sum_by-cons (λ (p : Piece). pages_over p.addr p.len) piece pieces, sum_by-cons (λ (p : Piece). p.len) piece pieces, here, rest)

-- pieces without bytes have no parts
parts_zero : (pieces : List Piece) → parts_in (pieces_from pieces 0) ≡ parts_in pieces
unfolding parts_in
parts_zero [] = rw (from_none 0) refl
parts_zero (piece ∷ pieces) = ⊎_elim
    (λ (some : 0 < piece.len). rw (from_inside piece pieces 0 some)
    (let addr : piece.addr + 0 ≡ piece.addr = omega arith in
    let len : piece.len - 0 ≡ piece.len = omega arith in
    rw (addr, len) refl))
    (λ (none : piece.len ≤ 0).
    let zero_len : piece.len ≡ 0 = omega arith in
    let rest : pieces_from (piece ∷ pieces) 0 ≡ pieces_from pieces 0 = rw (from_behind piece pieces 0 none) (ap (pieces_from pieces) (omega arith)) in
    let here : pages_over piece.addr piece.len ≡ 0 = rw zero_len (over_none piece.addr) in
    let sum = sum_by-cons (λ (p : Piece). pages_over p.addr p.len) piece pieces in
    let same : sum_by (λ (p : Piece). pages_over p.addr p.len) (piece ∷ pieces) ≡ sum_by (λ (p : Piece). pages_over p.addr p.len) pieces = omega (arith, sum, here) in
    rw rest (parts_zero pieces ∙ sym same))
    (cases_lt 0 piece.len)

-- behind some bytes of the next part there are no more parts, and behind all of them one less
parts_behind : (first : Piece) (rest : List Piece) (n : ℕ) → n ≤ first.len → first.addr % page_size + n ≤ page_size
    → parts_in (pieces_from (first ∷ rest) n) ≤ parts_in (first ∷ rest)
unfolding parts_in
parts_behind first rest n within page = ⊎_elim
    (λ (inside : n < first.len).
    let over = over_behind first.addr first.len n inside page in
    let now = sum_by-cons (λ (p : Piece). pages_over p.addr p.len) (record { addr = first.addr + n; len = first.len - n }) rest in
    let before = sum_by-cons (λ (p : Piece). pages_over p.addr p.len) first rest in
    rw (from_inside first rest n inside) (omega (arith, over, now, before)))
    (λ (past : first.len ≤ n).
    let none : n - first.len ≡ 0 = omega arith in
    let before = sum_by-cons (λ (p : Piece). pages_over p.addr p.len) first rest in
    let same = parts_zero rest in
    rw (from_behind first rest n past, none) (omega (arith, before, same)))
    (cases_lt n first.len)

parts_next : (first : Piece) (rest : List Piece) → 0 < first.len
    → parts_in (pieces_from (first ∷ rest) (min first.len (page_size - first.addr % page_size))) < parts_in (first ∷ rest)
unfolding parts_in
parts_next first rest some = ⊎_elim
    (λ (inside : page_size - first.addr % page_size < first.len).
    let n = page_size - first.addr % page_size in
    let is : min first.len n ≡ n = omega arith in
    let over = over_next first.addr first.len n inside (omega arith) in
    let now = sum_by-cons (λ (p : Piece). pages_over p.addr p.len) (record { addr = first.addr + n; len = first.len - n }) rest in
    let before = sum_by-cons (λ (p : Piece). pages_over p.addr p.len) first rest in
    rw (is, from_inside first rest n inside) (omega (arith, over, now, before)))
    (λ (past : first.len ≤ page_size - first.addr % page_size).
    let is : min first.len (page_size - first.addr % page_size) ≡ first.len = omega arith in
    let none : first.len - first.len ≡ 0 = omega arith in
    let before = sum_by-cons (λ (p : Piece). pages_over p.addr p.len) first rest in
    let over = over_first first.addr first.len some in
    let same = parts_zero rest in
    rw (is, from_behind first rest first.len (omega arith), none) (omega (arith, before, same, over)))
    (cases_lt (page_size - first.addr % page_size) first.len)

pub left_le : (pieces : List Piece) (done : ℕ) → parts_left pieces done ≤ asked pieces - done
unfolding parts_left parts_in
left_le pieces done = subst (λ (n : ℕ). parts_in (pieces_from pieces done) ≤ n) (asked_from pieces done) (parts_le (pieces_from pieces done))

-- whole pages have as many parts
pub left_pages : (page count : ℕ) → parts_left (single (page * page_size) (count * page_size)) 0 ≤ count
unfolding parts_left parts_in
left_pages page count =
    let piece : Piece = record { addr = page * page_size; len = count * page_size } in
    let zero_rest = parts_zero (piece ∷ []) in
    let one = sum_by-cons (λ (p : Piece). pages_over p.addr p.len) piece [] in
    let over : pages_over (page * page_size) (count * page_size) ≤ count = ⊎_elim
    (λ (some : 0 < count * page_size). rw (over_some (page * page_size) (count * page_size) some) (omega arith))
    (λ (none : count * page_size ≤ 0). let is : count * page_size ≡ 0 = omega arith in rw (is, over_none (page * page_size)) (omega arith))
    (cases_lt 0 (count * page_size)) in
    omega (arith, zero_rest, one, over)

pub left_behind : (pieces : List Piece) (done n : ℕ) → done < asked pieces → n ≤ (part_at Write pieces done).len → parts_left pieces (done + n) ≤ parts_left pieces done
unfolding parts_left parts_in
left_behind pieces done n more le =
    let next = next_part Write pieces done more in
    let fits = next.fits in
    let one = next.one_page in
    let at = next.addr in
    let place : pieces_from pieces (done + n) ≡ pieces_from (next.first ∷ next.rest) n = sym (from_from pieces done n) ∙ ap (λ (xs : List Piece). pieces_from xs n) next.is in
    let page : next.first.addr % page_size + n ≤ page_size = omega (arith, le, one, at) in
    rw (place, next.is) (parts_behind next.first next.rest n (omega arith) page)

pub left_next : (pieces : List Piece) (done : ℕ) → done < asked pieces → parts_left pieces (done + (part_at Write pieces done).len) < parts_left pieces done
unfolding parts_left parts_in
left_next pieces done more =
    let next = next_part Write pieces done more in
    let some = next.some in
    let fits = next.fits in
    let n = (part_at Write pieces done).len in
    let place : pieces_from pieces (done + n) ≡ pieces_from (next.first ∷ next.rest) (min next.first.len (page_size - next.first.addr % page_size)) =
    sym (from_from pieces done n) ∙ ap (λ (xs : List Piece). pieces_from xs n) next.is ∙ ap (pieces_from (next.first ∷ next.rest)) next.len in
    rw (place, next.is) (parts_next next.first next.rest (omega arith))

-- no more parts are left further on
left_on : (pieces : List Piece) (from k : ℕ) → parts_left pieces (from + k) ≤ parts_left pieces from
left_on pieces from zero = let same : from + 0 ≡ from = omega arith in rw same (omega arith)
left_on pieces from (suc k) =
    let place : from + suc k ≡ from + k + 1 = omega arith in
    let before = left_on pieces from k in
    let step : parts_left pieces (from + k + 1) ≤ parts_left pieces (from + k) = ⊎_elim
    (λ (more : from + k < asked pieces). let some = (next_part Write pieces (from + k) more).some in left_behind pieces (from + k) 1 more (omega (arith, some)))
    (λ (none : asked pieces ≤ from + k). let le = left_le pieces (from + k + 1) in omega (arith, le, none))
    (cases_lt (from + k) (asked pieces)) in
    rw place (omega (arith, before, step))

-- where the parts up to one are ready and that isn't, it is the first one, or there are fewer left
pub left_ready : (keeps : Access → Option Miss) → IsPart keeps → (kind : Kind) (pieces : List Piece) (from done : ℕ) (miss : Miss) → from ≤ done → done < asked pieces
    → AreReady keeps kind pieces from done → keeps (part_at kind pieces done) ≡ Some miss → (parts_left pieces done < parts_left pieces from) ⊎ (done ≡ from)
left_ready keeps parts kind pieces from done miss after more ready stopped = ⊎_elim
    (λ (later : from < done). inl (
    let last = done - 1 in
    let place : last + 1 ≡ done = omega arith in
    let inside : last < asked pieces = omega arith in
    let next = next_part kind pieces last inside in
    let some = next.some in
    let free : keeps (record { kind = kind; addr = (part_at kind pieces last).addr; len = (part_at kind pieces last).len }) ≡ None =
    ap (λ (k : Kind). keeps (record { kind = k; addr = (part_at kind pieces last).addr; len = (part_at kind pieces last).len })) (sym next.kind_is) ∙ ready last (omega arith) (omega arith) inside in
    let one : (part_at kind pieces last).len ≤ 1 = ⊎_elim
    (λ (longer : 1 < (part_at kind pieces last).len).
    let rest = parts.rest kind (part_at kind pieces last).addr (part_at kind pieces last).len 1 longer next.one_page free in
    let there : keeps (part_at kind pieces done) ≡ None = ap (λ (k : ℕ). keeps (part_at kind pieces k)) (sym place) ∙ ap keeps (part_rest kind pieces last 1 inside longer) ∙ rest in
    absurd (never miss (sym stopped ∙ there)))
    (λ (short : (part_at kind pieces last).len ≤ 1). short)
    (cases_lt 1 (part_at kind pieces last).len) in
    let len : (part_at Write pieces last).len ≡ 1 = omega (arith, one, some, same_len kind pieces last) in
    let falls = left_next pieces last inside in
    let before : parts_left pieces (from + (last - from)) ≤ parts_left pieces from = left_on pieces from (last - from) in
    let at_last : from + (last - from) ≡ last = omega arith in
    let falls_here : parts_left pieces done < parts_left pieces last = subst (λ (n : ℕ). parts_left pieces n < parts_left pieces last) (ap (λ (n : ℕ). last + n) len ∙ place) falls in
    let up_to : parts_left pieces last ≤ parts_left pieces from = subst (λ (n : ℕ). parts_left pieces n ≤ parts_left pieces from) at_last before in
    omega (arith, falls_here, up_to)))
    (λ (first : done ≤ from). inr (omega arith))
    (cases_lt from done)
  where
    never : (miss : Miss) → Some miss ≡ None → ⊥
    never miss e = cc

    same_len : (kind : Kind) (pieces : List Piece) (done : ℕ) → (part_at Write pieces done).len ≡ (part_at kind pieces done).len
    same_len kind pieces done = of (pieces_from pieces done)
      where
        of : (left : List Piece) → (first_part Write left).len ≡ (first_part kind left).len
        of [] = refl
        of (piece ∷ rest) = refl

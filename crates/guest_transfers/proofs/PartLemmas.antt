-- Lemmas on the parts of transfers.
use Rattle.std.proofs.Common.{◌≡◌, ℕ, zero, suc, Result, Ok, Err, add-zero, ◌+◌, ◌-◌, ◌≤◌, ◌<◌, ◌%◌, ◌/◌, ◌^◌, List, [], ◌∷◌, ◌++◌, Bool, true, false, cond, Option, Some, None, is_none, min, max, refl, sym, ap, ◌∙◌, ⊎_elim, arith, take, drop, length, slice_range, append_assoc, append-nil, IsSome}
use Rattle.std.proofs.lemmas.Bool.{cases_lt, false≢true, and_from, and_parts}
use Rattle.std.proofs.lemmas.List.Sums.{sum_by-cons}
use Rattle.std.proofs.lemmas.List.{length-append, drop-drop}
use Rattle.std.proofs.Math.Seq.{take-add, take-append_seam}
use Rattle.std.specs.Prelude.{is_some}
use Rattle.host_edge.specs.Streams.{told}
use Rattle.machine_state.specs.declared.kinds.Access.{Access}
use Rattle.machine_state.specs.declared.kinds.Kind.{Kind}
use Rattle.machine_state.specs.declared.kinds.Miss.{Miss}
use Rattle.machine_state.specs.declared.kinds.Miss.TheVariants.{Unmapped, Denied, NonCanonical, Away}
use Rattle.machine_state.specs.Memory.{Permissions, page_size, bytes_at, written, first_miss, miss_at, miss_in, is_noncanonical}
use Rattle.machine_state.proofs.MemoryLemmas.{first_miss_part, first_miss-suc, first_miss-zero, or_else_none, bytes_at-append, length-bytes_at}
use Rattle.machine_state.specs.declared.kinds.Kind.TheVariants.{Write}
use Rattle.guest_pages.specs.Table.{Table, Mapped, answer_of, blocked, perms_in, away_at}
use Rattle.guest_pages.specs.Pages.{PagesValue, table_of, byte_of}
use Rattle.guest_pages.specs.Changes.{IsWritten}
use Rattle.guest_pages.specs.Laws.{FitMemory}
use Rattle.guest_pages.proofs.Carries.{keeps_on, keeps_written, keeps_same}
use Rattle.guest_pages.proofs.Walks.{away_at-away, blocked_part, blocked_within, first_away-away}
use Rattle.guest_transfers.specs.declared.kinds.Piece.{Piece}
use Rattle.guest_transfers.specs.Pieces.{asked, are_allowed, pieces_bytes, spread, pieces_from, first_part, part_at, bytes_between, single}
use Rattle.guest_transfers.specs.Moves.{AreReady, Moved, Took, IsMappedRange, IsPut, away_access, blocked_access}
use Rattle.guest_transfers.specs.Parts.{AreLow, IsAway, IsDenied, TookPart}
use Rattle.guest_transfers.proofs.Along.{from_inside, from_behind, from_none, from_all, asked_from, next_piece, from_from, bytes_from, front_bytes, spread_front, spread_none, spread-append}

-- ---- allowed pieces
none_there : {T : Type 0} (o : Option T) → is_none o ≡ true → o ≡ None
none_there None h = refl
none_there (Some x) h = absurd (false≢true h)

is_allowed : Permissions → Kind → Piece → Bool
is_allowed perms kind piece = is_none (first_miss perms kind piece.addr piece.len)

pub first_allowed : (perms : Permissions) (kind : Kind) (piece : Piece) (pieces : List Piece) → are_allowed perms kind (piece ∷ pieces) ≡ true
    → (first_miss perms kind piece.addr piece.len ≡ None) × (are_allowed perms kind pieces ≡ true)
first_allowed perms kind piece pieces h =
    let both = and_parts (is_none (first_miss perms kind piece.addr piece.len)) (are_allowed perms kind pieces) h in
    (none_there _ both.0, both.1)

pub allowed-cons : (perms : Permissions) (kind : Kind) (piece : Piece) (pieces : List Piece) → first_miss perms kind piece.addr piece.len ≡ None
    → are_allowed perms kind pieces ≡ true → are_allowed perms kind (piece ∷ pieces) ≡ true
allowed-cons perms kind piece pieces first rest = and_from (is_none (first_miss perms kind piece.addr piece.len)) (are_allowed perms kind pieces) (rw first refl) rest

pub allowed_from : (perms : Permissions) (kind : Kind) (pieces : List Piece) (done : ℕ) → are_allowed perms kind pieces ≡ true
    → are_allowed perms kind (pieces_from pieces done) ≡ true
allowed_from perms kind [] done h = rw (from_none done) refl
allowed_from perms kind (piece ∷ pieces) done h =
    let both = first_allowed perms kind piece pieces h in
    ⊎_elim
    (λ (inside : done < piece.len). rw (from_inside piece pieces done inside)
    (allowed-cons perms kind (record { addr = piece.addr + done; len = piece.len - done }) pieces
    (first_miss_part perms kind piece.addr piece.len done (piece.len - done) (omega arith) both.0) both.1))
    (λ (behind : piece.len ≤ done). rw (from_behind piece pieces done behind) (allowed_from perms kind pieces (done - piece.len) both.1))
    (cases_lt done piece.len)

-- the page of a byte that is allowed is mapped
allowed_in : (o : Option ℕ) (kind : Kind) (addr : ℕ) → miss_in o kind addr ≡ None → IsSome o
allowed_in None kind addr h = cc
allowed_in (Some perms) kind addr h = refl

allowed_case : (b : Bool) (o : Option ℕ) (kind : Kind) (addr : ℕ) → cond b (Some (NonCanonical addr)) (miss_in o kind addr) ≡ None → IsSome o
allowed_case true o kind addr h = cc
allowed_case false o kind addr h = allowed_in o kind addr h

mapped_of : (o : Option Mapped) → IsSome (perms_in (λ _. o) 0) → IsSome o
mapped_of None h = absurd (false≢true h)
mapped_of (Some mapped) h = refl

-- an access that is allowed ends in the lower half of the address space
pub low_end : (pages : PagesValue) (kind : Kind) (addr len : ℕ) → FitMemory pages → 0 < len → first_miss (perms_in (table_of pages)) kind addr len ≡ None
    → addr + len ≤ 2 ^ 47
low_end pages kind addr len fit some none =
    let last : first_miss (perms_in (table_of pages)) kind (addr + (len - 1)) 1 ≡ None = first_miss_part (perms_in (table_of pages)) kind addr len (len - 1) 1 (omega arith) none in
    let at = (or_else_none _ _ (sym (first_miss-suc (perms_in (table_of pages)) kind (addr + (len - 1)) 0) ∙ last)).0 in
    let page = allowed_case (is_noncanonical (addr + (len - 1))) (perms_in (table_of pages) ((addr + (len - 1)) / page_size)) kind (addr + (len - 1)) at in
    let mapped : IsSome (table_of pages ((addr + (len - 1)) / page_size)) = mapped_of (table_of pages ((addr + (len - 1)) / page_size)) page in
    let low = fit.low ((addr + (len - 1)) / page_size) mapped in
    omega arith

pub are_low : (pages : PagesValue) (kind : Kind) (pieces : List Piece) → FitMemory pages → are_allowed (perms_in (table_of pages)) kind pieces ≡ true → AreLow pieces
are_low pages kind [] fit h k d within some = absurd (omega arith)
are_low pages kind (piece ∷ pieces) fit h zero d within some = low_end pages kind piece.addr piece.len fit some (first_allowed (perms_in (table_of pages)) kind piece pieces h).0
are_low pages kind (piece ∷ pieces) fit h (suc k) d within some =
    are_low pages kind pieces fit (first_allowed (perms_in (table_of pages)) kind piece pieces h).1 k d (omega arith) some

-- ---- the next part
-- the part with the byte behind so many: it has some bytes, on one page, of the next piece
pub record IsNext (kind : Kind) (pieces : List Piece) (done : ℕ) (part : Access) : Type 0 where
  pub first : Piece
  pub rest : List Piece
  pub is : pieces_from pieces done ≡ first ∷ rest
  pub addr : part.addr ≡ first.addr
  pub len : part.len ≡ min first.len (page_size - first.addr % page_size)
  pub kind_is : part.kind ≡ kind
  pub some : 0 < part.len
  pub fits : part.len ≤ first.len
  pub within : done + part.len ≤ asked pieces
  pub one_page : part.addr % page_size + part.len ≤ page_size

pub next_part : (kind : Kind) (pieces : List Piece) (done : ℕ) → done < asked pieces → IsNext kind pieces done (part_at kind pieces done)
next_part kind pieces done h =
    let next = next_piece pieces done h in
    let sum : asked pieces - done ≡ next.first.len + asked next.rest = sym (asked_from pieces done) ∙ rw next.is (sum_by-cons (λ (p : Piece). p.len) next.first next.rest) in
    record {
      first = next.first;
      rest = next.rest;
      is = next.is;
      addr = rw next.is refl;
      len = rw next.is refl;
      kind_is = rw next.is refl;
      some = rw next.is (let s = next.some in omega arith);
      fits = rw next.is (omega arith);
      within = rw next.is (omega (arith, sum));
      one_page = rw next.is (omega arith);
    }

pub no_part : (kind : Kind) (pieces : List Piece) (done : ℕ) → asked pieces ≤ done → part_at kind pieces done ≡ record { kind = kind; addr = 0; len = 0 }
no_part kind pieces done h = rw (from_all pieces done h) refl

pub part_free : (perms : Permissions) (kind : Kind) (pieces : List Piece) (done : ℕ) → are_allowed perms kind pieces ≡ true
    → first_miss perms kind (part_at kind pieces done).addr (part_at kind pieces done).len ≡ None
part_free perms kind pieces done h = of (pieces_from pieces done) (allowed_from perms kind pieces done h)
  where
    zero_sum : (n : ℕ) → n + 0 ≡ n
    zero_sum n = omega arith

    of : (left : List Piece) → are_allowed perms kind left ≡ true → first_miss perms kind (first_part kind left).addr (first_part kind left).len ≡ None
    of [] h = first_miss-zero perms kind 0
    of (piece ∷ rest) h =
        let part = first_miss_part perms kind piece.addr piece.len 0 (min piece.len (page_size - piece.addr % page_size)) (omega arith) (first_allowed perms kind piece rest h).0 in
        rw (zero_sum piece.addr) at part

pub part_some : (kind : Kind) (pieces : List Piece) (done : ℕ) → done < asked pieces → 0 < (part_at kind pieces done).len
part_some kind pieces done h = (next_part kind pieces done h).some

pub part_within : (kind : Kind) (pieces : List Piece) (done : ℕ) → done + (part_at kind pieces done).len ≤ max (asked pieces) done
part_within kind pieces done = ⊎_elim
    (λ (h : done < asked pieces). let next = (next_part kind pieces done h).within in omega arith)
    (λ (h : asked pieces ≤ done). rw (no_part kind pieces done h) (omega arith))
    (cases_lt done (asked pieces))

pub part_one_page : (kind : Kind) (pieces : List Piece) (done : ℕ) → (part_at kind pieces done).addr % page_size + (part_at kind pieces done).len ≤ page_size
part_one_page kind pieces done = ⊎_elim
    (λ (h : done < asked pieces). (next_part kind pieces done h).one_page)
    (λ (h : asked pieces ≤ done). rw (no_part kind pieces done h) (omega arith))
    (cases_lt done (asked pieces))

-- ---- bytes of parts
-- the bytes of a part are those of the pieces behind so many
pub part_bytes : (byte : ℕ → ℕ) (kind : Kind) (pieces : List Piece) (done n : ℕ) → done < asked pieces → n ≤ (part_at kind pieces done).len
    → bytes_at byte (part_at kind pieces done).addr n ≡ take n (drop done (pieces_bytes byte pieces))
part_bytes byte kind pieces done n h le =
    let next = next_part kind pieces done h in
    let fits = next.fits in
    rw next.addr (sym (front_bytes byte next.first next.rest n (omega arith)) ∙ rw (← next.is) (ap (take n) (bytes_from byte pieces done)))

-- bytes from one place up to another, and those from there on
pub range-append : (bytes : List ℕ) (from to n : ℕ) → from ≤ to → slice_range bytes from to ++ take n (drop to bytes) ≡ slice_range bytes from (to + n)
range-append bytes from to n le =
    let split : to + n - from ≡ to - from + n = omega arith in
    let place : from + (to - from) ≡ to = omega arith in
    let rest : drop to bytes ≡ drop (to - from) (drop from bytes) = sym (drop-drop (to - from) from bytes ∙ ap (λ (k : ℕ). drop k bytes) place) in
    rw split (ap (λ (xs : List ℕ). slice_range bytes from to ++ take n xs) rest ∙ sym (take-add (to - from) n (drop from bytes)))

-- the first bytes of an access
pub take_bytes : (byte : ℕ → ℕ) (addr len n : ℕ) → n ≤ len → take n (bytes_at byte addr len) ≡ bytes_at byte addr n
take_bytes byte addr len n le =
    let split : len ≡ n + (len - n) = omega arith in
    let seam = take-append_seam (bytes_at byte addr n) (bytes_at byte (addr + n) (len - n)) in
    ap (λ (xs : List ℕ). take n xs) (ap (bytes_at byte addr) split ∙ bytes_at-append byte addr n (len - n))
    ∙ rw (length-bytes_at byte addr n) at seam

-- bytes of pieces, and those of the next part
pub between_more : (byte : ℕ → ℕ) (kind : Kind) (pieces : List Piece) (from done n : ℕ) (part : Access) → part ≡ part_at kind pieces done → from ≤ done
    → done < asked pieces → n ≤ part.len → bytes_between byte pieces from done ++ bytes_at byte part.addr n ≡ bytes_between byte pieces from (done + n)
between_more byte kind pieces from done n part is after h le =
    rw (is, part_bytes byte kind pieces done n h (rw is at le)) (range-append (pieces_bytes byte pieces) from done n after)

-- bytes that were put, and then some of the next part
pub put_more : (byte : ℕ → ℕ) (kind : Kind) (pieces : List Piece) (from done n : ℕ) (part : Access) → part ≡ part_at kind pieces done → from ≤ done
    → done < asked pieces → n ≤ part.len → (old mid new : Option (List ℕ)) → is_some mid ≡ is_some old → IsPut byte pieces from done old mid
    → (IsSome mid → told new ≡ told mid ++ bytes_at byte part.addr n) → IsPut byte pieces from (done + n) old new
put_more byte kind pieces from done n part is after h le old mid new tells before next some =
    next (tells ∙ some)
    ∙ ap (λ (xs : List ℕ). xs ++ bytes_at byte part.addr n) (before some)
    ∙ append_assoc (told old) (bytes_between byte pieces from done) (bytes_at byte part.addr n)
    ∙ ap (λ (xs : List ℕ). told old ++ xs) (between_more byte kind pieces from done n part is after h le)

-- a front of the next part was put, where the sink tells: some front of the bytes was
pub put_front : (byte : ℕ → ℕ) (kind : Kind) (pieces : List Piece) (from done : ℕ) (part : Access) → part ≡ part_at kind pieces done → from ≤ done
    → done < asked pieces → (bytes : List ℕ) → length bytes ≡ part.len → bytes ≡ bytes_at byte part.addr part.len → (old mid new : Option (List ℕ))
    → is_some mid ≡ is_some old → IsPut byte pieces from done old mid
    → (IsSome mid → (n : ℕ) × (n ≤ length bytes) × (told new ≡ told mid ++ take n bytes))
    → (to : ℕ) × (from ≤ to) × (to ≤ asked pieces) × IsPut byte pieces from to old new
put_front byte kind pieces from done part is after h bytes len bytes_are old mid new tells before next = of mid refl
  where
    of : (o : Option (List ℕ)) → mid ≡ o → (to : ℕ) × (from ≤ to) × (to ≤ asked pieces) × IsPut byte pieces from to old new
    of None e = (done, after, omega arith, λ some. absurd (false≢true (sym (ap is_some e) ∙ tells ∙ some)))
    of (Some xs) e =
        let some : IsSome mid = ap is_some e in
        let front = next some in
        let le : front.0 ≤ part.len = omega (arith, len, front.1) in
        let within : done + part.len ≤ asked pieces = rw is (next_part kind pieces done h).within in (
          done + front.0,
          omega arith,
          omega (arith, le, within),
          put_more byte kind pieces from done front.0 part is after h le old mid new tells before
              (λ some. front.2 ∙ ap (λ (zs : List ℕ). told mid ++ zs) (ap (take front.0) bytes_are ∙ take_bytes byte part.addr part.len front.0 le)),
        )

pub put_none : (byte : ℕ → ℕ) (pieces : List Piece) (from : ℕ) (old : Option (List ℕ)) → IsPut byte pieces from from old old
put_none byte pieces from old some =
    let none : from - from ≡ 0 = omega arith in
    rw none (sym (append-nil (told old)))

-- ---- moves
pub moved_none : (pages : PagesValue) (pieces : List Piece) (from : ℕ) → from ≤ asked pieces → Moved pages pages pieces from []
moved_none pages pieces from within = record {
  within = omega arith;
  keeps = keeps_same pages;
  byte = λ swap. sym (spread_none (byte_of pages swap) (pieces_from pieces from));
}

-- what moved to pieces, and then to the next part
pub moved_more : (old mid new : PagesValue) (kind : Kind) (pieces : List Piece) (from : ℕ) (xs ys : List ℕ) (done : ℕ) (part : Access) → part ≡ part_at kind pieces done
    → Moved old mid pieces from xs → from + length xs ≡ done → done < asked pieces → length ys ≤ part.len → IsWritten mid new part.addr ys
    → Moved old new pieces from (xs ++ ys)
moved_more old mid new kind pieces from xs ys done part part_is moved count h le is =
    let next = next_part kind pieces done h in
    let short : length ys ≤ (part_at kind pieces done).len = rw part_is at le in
    let there : part.addr ≡ next.first.addr = rw part_is next.addr in
    let fits = next.fits in
    let within = next.within in
    let sum = length-append xs ys in
    let place : pieces_from (pieces_from pieces from) (length xs) ≡ next.first ∷ next.rest = from_from pieces from (length xs) ∙ rw count next.is in
    record {
      within = omega (arith, sum, count, short, within);
      keeps = keeps_on old mid new moved.keeps (keeps_written mid new part.addr ys is);
      byte = λ swap.
          is.byte swap
          ∙ ap (λ (addr : ℕ). written (byte_of mid swap) addr ys) there
          ∙ sym (spread_front (byte_of mid swap) next.first next.rest ys (omega (arith, short, fits)))
          ∙ ap (λ (left : List Piece). spread (byte_of mid swap) left ys) (sym place)
          ∙ ap (λ (byte : ℕ → ℕ). spread byte (pieces_from (pieces_from pieces from) (length xs)) ys) (moved.byte swap)
          ∙ spread-append (byte_of old swap) (pieces_from pieces from) xs ys;
    }

-- ---- parts that are ready
pub record IsPart (keeps : Access → Option Miss) : Type 0 where
  pub rest : (kind : Kind) (addr len i : ℕ) → i < len → addr % page_size + len ≤ page_size → keeps (record { kind = kind; addr = addr; len = len }) ≡ None
      → keeps (record { kind = kind; addr = addr + i; len = len - i }) ≡ None

pub ready_none : (keeps : Access → Option Miss) (kind : Kind) (pieces : List Piece) (from to : ℕ) → to ≤ from → AreReady keeps kind pieces from to
ready_none keeps kind pieces from to h done after before within = absurd (omega arith)

-- the rest of a part, behind some of its bytes, is the part of the byte there
pub part_rest : (kind : Kind) (pieces : List Piece) (done i : ℕ) → done < asked pieces → i < (part_at kind pieces done).len
    → part_at kind pieces (done + i) ≡ record { kind = kind; addr = (part_at kind pieces done).addr + i; len = (part_at kind pieces done).len - i }
part_rest kind pieces done i h less =
    let next = next_part kind pieces done h in
    let fits = next.fits in
    let page = next.one_page in
    let there : pieces_from pieces (done + i) ≡ record { addr = next.first.addr + i; len = next.first.len - i } ∷ next.rest =
    sym (from_from pieces done i) ∙ rw next.is (from_inside next.first next.rest i (omega arith)) in
    let len : min (next.first.len - i) (page_size - (next.first.addr + i) % page_size) ≡ (part_at kind pieces done).len - i =
    (let a = next.addr in let l = next.len in omega (arith, a, l, less, page, fits)) in
    rw (there, len, next.addr) refl

pub ready_more : (keeps : Access → Option Miss) → IsPart keeps → (kind : Kind) (pieces : List Piece) (from done to : ℕ) (part : Access) → part ≡ part_at kind pieces done
    → AreReady keeps kind pieces from done → done < asked pieces → keeps (record { kind = kind; addr = part.addr; len = part.len }) ≡ None → to ≤ done + part.len → AreReady keeps kind pieces from to
ready_more keeps parts kind pieces from done to part is ready h free le at after before within = ⊎_elim
    (λ (earlier : at < done). ready at after earlier within)
    (λ (here : done ≤ at).
    let next = next_part kind pieces done h in
    let short : to ≤ done + (part_at kind pieces done).len = rw is at le in
    let place : done + (at - done) ≡ at = omega arith in
    let whole : record { kind = kind; addr = (part_at kind pieces done).addr; len = (part_at kind pieces done).len } ≡ record { kind = kind; addr = part.addr; len = part.len } =
    ap (λ (p : Access). record { kind = kind; addr = p.addr; len = p.len }) (sym is) in
    let inside : at - done < (part_at kind pieces done).len = omega (arith, short) in
    let before_it : keeps (record { kind = kind; addr = (part_at kind pieces done).addr; len = (part_at kind pieces done).len }) ≡ None = ap keeps whole ∙ free in
    ap (λ (k : ℕ). keeps (part_at kind pieces k)) (sym place)
    ∙ ap keeps (part_rest kind pieces done (at - done) h inside)
    ∙ parts.rest kind (part_at kind pieces done).addr (part_at kind pieces done).len (at - done) inside next.one_page before_it)
    (cases_lt at done)

-- what keeps a part from being moved keeps its rest from it
pub blocked_rest : (table : Table) → IsPart (blocked_access table)
blocked_rest table = record {
  rest = λ kind addr len i less one_page free. blocked_part table kind addr len i (len - i) (omega arith) free;
}

pub is_away : (miss : Miss) (slot : ℕ) → miss ≡ Away slot → IsAway miss
is_away (Away other) slot e = tt
is_away (Unmapped addr) slot e = cc
is_away (Denied addr) slot e = cc
is_away (NonCanonical addr) slot e = cc

-- of an access that is allowed, nothing but a page that is away keeps it from being made
pub free-away : (table : Table) (kind : Kind) (addr len : ℕ) (miss : Miss) → first_miss (perms_in table) kind addr len ≡ None
    → blocked table kind addr len ≡ Some miss → IsAway miss
free-away table kind addr len miss free is =
    let away = first_away-away table addr len miss (rw free at is) in
    is_away miss away.0 away.1

-- a write of the first bytes of memory that is ready isn't refused
pub ready_write : (table : Table) (addr len n : ℕ) (result : Result (Unit {0}) Miss) (miss : Miss) → blocked table Write addr len ≡ None → n ≤ len
    → result ≡ answer_of (blocked table Write addr n) → result ≡ Err miss → ⊥
ready_write table addr len n result miss ready le answer refused =
    let none : blocked table Write addr n ≡ None = rw add-zero at (blocked_part table Write addr len 0 n (omega arith) ready) in
    no_error (sym refused ∙ rw none at answer)
  where
    no_error : Err miss ≡ Ok (tt {0}) → ⊥
    no_error h = cc

-- ---- from a source
pub took_none : (pages : PagesValue) (pieces : List Piece) (from : ℕ) (left : Option (List ℕ)) → from ≤ asked pieces → Took pages pages pieces from from left left
took_none pages pieces from left within = record {
  bytes = [];
  count = omega arith;
  moved = moved_none pages pieces from within;
  taken = λ some. refl;
}

-- bytes that were taken, and then some to the next part
pub took_more : (old mid new : PagesValue) (pieces : List Piece) (from done n : ℕ) (part : Access) → part ≡ part_at Write pieces done → done < asked pieces
    → (left mid_left left' : Option (List ℕ)) → is_some mid_left ≡ is_some left → Took old mid pieces from done left mid_left → TookPart mid new part.addr part.len n mid_left left'
    → Took old new pieces from (done + n) left left'
took_more old mid new pieces from done n part is h left mid_left left' tells took next = record {
  bytes = took.bytes ++ next.bytes;
  count = (let sum = length-append took.bytes next.bytes in let here = took.count in let there = next.count_is in omega (arith, sum, here, there));
  moved = moved_more old mid new Write pieces from took.bytes next.bytes done part is took.moved took.count h (rw next.count_is next.within) next.written;
  taken = λ some.
      took.taken some
      ∙ ap (λ (xs : List ℕ). took.bytes ++ xs) (next.taken (tells ∙ some))
      ∙ sym (append_assoc took.bytes next.bytes (told left'));
}

-- what a call's answer says of what keeps its access from being made
pub answered_ok : (o : Option Miss) (done : Unit {0}) → Ok done ≡ answer_of o → o ≡ None
answered_ok None done h = refl
answered_ok (Some miss) done h = cc

pub answered_err : (o : Option Miss) (miss : Miss) → Err miss ≡ answer_of o → o ≡ Some miss
answered_err None miss h = cc
answered_err (Some other) miss h = cc

pub away_rest : (table : Table) → IsPart (away_access table)
away_rest table = record {
  rest = λ kind addr len i less one_page free.
      let page : (addr + i) / page_size ≡ addr / page_size = omega arith in ap (λ (page : ℕ). away_at (table page)) page ∙ free;
}

-- ---- one piece
pub asked-single : (addr len : ℕ) → asked (single addr len) ≡ len
asked-single addr len = omega arith

pub single_part : (kind : Kind) (addr len done : ℕ) → done < len
    → part_at kind (single addr len) done ≡ record { kind = kind; addr = addr + done; len = min (len - done) (page_size - (addr + done) % page_size) }
single_part kind addr len done h = rw (from_inside (record { addr = addr; len = len }) [] done h) refl

-- a range of mapped pages ends in the lower half of the address space
pub low_range : (pages : PagesValue) (addr len : ℕ) → FitMemory pages → IsMappedRange (table_of pages) addr len → AreLow (single addr len)
low_range pages addr len fit mapped zero d within some =
    let last = mapped (addr + (len - 1)) (omega arith) (omega arith) in
    let low = fit.low ((addr + (len - 1)) / page_size) last in
    omega arith
low_range pages addr len fit mapped (suc k) d within some = absurd (omega arith)

-- an access within one page that isn't allowed: its first byte isn't
pub denied_first : (table : Table) (kind : Kind) (addr len : ℕ) (miss : Miss) → 0 < len → addr % page_size + len ≤ page_size → blocked table kind addr len ≡ Some miss
    → IsDenied miss → (first : Miss) × (miss_at (perms_in table) kind addr ≡ Some first)
denied_first table kind addr len miss some one_page is denied = of (miss_at (perms_in table) kind addr) refl
  where
    never : (miss : Miss) (slot : ℕ) → miss ≡ Away slot → IsDenied miss → ⊥
    never (Away other) slot e d = d
    never (Unmapped addr) slot e d = cc
    never (Denied addr) slot e d = cc
    never (NonCanonical addr) slot e d = cc

    of : (o : Option Miss) → miss_at (perms_in table) kind addr ≡ o → (first : Miss) × (miss_at (perms_in table) kind addr ≡ Some first)
    of None none =
        let away = away_at-away (table (addr / page_size)) miss (sym (blocked_within table kind addr len some one_page none) ∙ is) in
        absurd (never miss away.0 away.1 denied)
    of (Some first) e = (first, e)

-- each byte that is allowed is on a mapped page
pub mapped_range : (table : Table) (kind : Kind) (addr len : ℕ) → first_miss (perms_in table) kind addr len ≡ None → IsMappedRange table addr len
mapped_range table kind addr len none at from before =
    let place : addr + (at - addr) ≡ at = omega arith in
    let here : first_miss (perms_in table) kind at 1 ≡ None = rw place at (first_miss_part (perms_in table) kind addr len (at - addr) 1 (omega arith) none) in
    let free = (or_else_none _ _ (sym (first_miss-suc (perms_in table) kind at 0) ∙ here)).0 in
    mapped_of (table (at / page_size)) (allowed_case (is_noncanonical at) (perms_in table (at / page_size)) kind at free)

-- Reads and writes of files, in parts.
use Rattle.std.proofs.Common.{◌≡◌, ℕ, ◌+◌, ◌-◌, ◌≤◌, ◌<◌, ◌^◌, Bool, true, false, List, ◌++◌, length, drop, Option, Some, None, IsSome}
use Rattle.std.proofs.Common.{Result, Ok, Err, refl, sym, ap, ◌∙◌, subst, arith, zero-add, length-append, length-take, length-drop, ℤ}
use Rattle.std.proofs.Common.{pos}
use Rattle.std.proofs.lemmas.Bool.{lt-ltb}
use Rattle.std.proofs.lemmas.List.{drop-drop}
use Rattle.std.proofs.Math.Seq.{take-add}
use Rattle.machine_state.specs.Memory.{Swap}
use Rattle.machine_state.specs.World.{World, place_at}
use Rattle.machine_state.specs.declared.kinds.Kind.TheVariants.{Read, Write}
use Rattle.machine_state.specs.declared.kinds.Place.{Place}
use Rattle.guest_pages.specs.Table.{perms_in}
use Rattle.guest_pages.specs.Pages.{PagesValue, table_of, byte_of, memory_of}
use Rattle.guest_pages.specs.Changes.{KeepsTable}
use Rattle.guest_files.specs.Checks.{does_write, is_stream}
use Rattle.guest_files.specs.Content.{piece_of, count_below}
use Rattle.guest_files.specs.Files.{FilesValue, AreFiles}
use Rattle.guest_files.specs.Moves.{content_at, read_piece, written_at, seek_refusal, offset_after, offset_end}
use Rattle.guest_transfers.specs.Pieces.{asked, pieces_from, spread, bytes_between, pieces_bytes}
use Rattle.guest_transfers.specs.Moves.{Reads as ReadsTo, Writes as WritesTo, WritesFile, Stops, blocked_access}
use Rattle.guest_transfers.specs.declared.kinds.Piece.{Piece}
use Rattle.guest_transfers.specs.declared.kinds.Stop.{Stop}
use Rattle.guest_transfers.specs.declared.kinds.Stop.TheVariants.{Whole, Away, Failed}
use Rattle.guest_transfers.proofs.Along.{spread-append, from_from, length-pieces_bytes}
use Rattle.guest_transfers.proofs.FileLemmas.{content_short, written_at-append}
use Rattle.linux_calls.specs.declared.kinds.Halt.{Halt}
use Rattle.linux_calls.specs.declared.kinds.Halt.TheVariants.{Need}
use Rattle.linux_calls.specs.declared.kinds.Stage.TheVariants.{Moving}
use Rattle.linux_calls.specs.declared.kinds.Transfer.TheVariants.{Reads, Writes}
use Rattle.linux_calls.specs.Call.{Called, gives}
use Rattle.linux_calls.specs.Parts.{files_of, with_files}
use Rattle.linux_calls.specs.Transfers.{reads_rest, writes_rest, with_spread, left_at}
use Rattle.linux_calls.specs.Rest.{transfer_of}
use Rattle.linux_calls.specs.View.{View, with_parts}
use Rattle.linux_calls.specs.Following.{DoesPart, EndsAt, IsLowStop}
use Rattle.linux_calls.specs.Waiting.{CanMove, NeedsIn}
use Rattle.linux_calls.proofs.MoveLemmas.{needs_at_end, world_moved, moving_needs, rest_moving, between_on}

pub part_at_end : (work : World → Called) (old new same : View) (result value : Result ℕ Halt) → new ≡ same → result ≡ value
    → DoesPart work old same value → DoesPart work old new result
part_at_end work old new same result value is_new is_result does =
    subst (λ (v : View). DoesPart work old v result) (sym is_new) (subst (λ (r : Result ℕ Halt). DoesPart work old same r) (sym is_result) does)

-- ---- offsets
-- a move of an offset to a number that can be one
pub seek_start : (files : FilesValue) (fd at : ℕ) (to : ℤ) → to ≡ pos at → IsSome (place_at files.places fd) → is_stream (place_at files.places fd) ≡ false → at < 2 ^ 63
    → (seek_refusal files fd to 0 ≡ None) × (offset_after files fd to 0 ≡ at)
unfolding seek_refusal
seek_start files fd at to is_to some file low = rw is_to (here (place_at files.places fd) refl some file)
  where
    here : (place : Option Place) → place_at files.places fd ≡ place → IsSome place → is_stream place ≡ false
        → (seek_refusal files fd (pos at) 0 ≡ None) × (offset_after files fd (pos at) 0 ≡ at)
    here None is s f = cc
    here (Some place) is s f = (rw (is, f, zero-add, lt-ltb at offset_end low) refl, rw (zero-add, lt-ltb at offset_end low) refl)

-- what a file has from an offset on ends with the file
piece_ends : (content : List ℕ) (at most : ℕ) → length content < 2 ^ 32 → at < 2 ^ 63 → at + length (piece_of content at most) < 2 ^ 63
piece_ends content at most short low = omega (arith, length-take most (drop at content), length-drop at content)

pub reads_low : (old new : PagesValue) (pieces : List Piece) (from : ℕ) (files : FilesValue) (fd at : ℕ) (stop : Stop) → AreFiles files → files.cap < 2 ^ 32
    → at + from < 2 ^ 63 → ReadsTo old new pieces from files fd at stop → IsLowStop stop at
reads_low old new pieces from files fd at (Whole done) are cap low reads =
    let short = content_short files fd are in
    let ends = piece_ends (content_at files fd) (at + from) (asked pieces - from) (omega arith) low in
    omega (arith, reads.0)
reads_low old new pieces from files fd at (Away done slot) are cap low reads =
    let short = content_short files fd are in
    let ends = piece_ends (content_at files fd) (at + from) (done - from) (omega arith) low in
    omega (arith, reads.0)
reads_low old new pieces from files fd at Failed are cap low reads = reads

pub writes_low : (byte : ℕ → ℕ) (pieces : List Piece) (from : ℕ) (old new : FilesValue) (fd at : ℕ) (stop : Stop) → old.cap < 2 ^ 32
    → at + from < 2 ^ 63 → WritesTo byte pieces from old new fd at stop → IsLowStop stop at
writes_low byte pieces from old new fd at (Whole done) cap low writes = omega (arith, writes.0)
writes_low byte pieces from old new fd at (Away done slot) cap low writes = omega (arith, writes.0)
writes_low byte pieces from old new fd at Failed cap low writes = writes

-- ---- reads
abbrev with_byte : World → (ℕ → ℕ) → World
with_byte w byte = record w { state = record w.state { memory = record w.state.memory { byte = byte } } }

pub pieces_on : (content : List ℕ) (at from done to : ℕ) → from ≤ done → done ≤ to
    → piece_of content (at + from) (done - from) ++ piece_of content (at + done) (to - done) ≡ piece_of content (at + from) (to - from)
pieces_on content at from done to after before =
    let place : at + done ≡ at + from + (done - from) = omega arith in
    let there : drop (at + done) content ≡ drop (done - from) (drop (at + from) content) = ap (λ (n : ℕ). drop n content) place ∙ sym (drop-drop (done - from) (at + from) content) in
    let sum : to - from ≡ done - from + (to - done) = omega arith in
    rw (there, sum) (sym (take-add (done - from) (to - done) (drop (at + from) content)))

-- the world where a transfer leaves a descriptor
left_world : (moves : Bool) (v : View) (files : FilesValue) (fd at : ℕ) (swap : Swap) (base : World) → files.cap ≡ v.files.cap
    → with_files (with_parts swap v base) (left_at moves files fd at) ≡ with_parts swap (record v { files = left_at moves files fd at }) base
left_world true v files fd at swap base cap = ap (λ (n : ℕ). let w = with_files (with_parts swap v base) (left_at true files fd at) in record w { cap = n }) (sym cap)
left_world false v files fd at swap base cap = ap (λ (n : ℕ). let w = with_files (with_parts swap v base) (left_at false files fd at) in record w { cap = n }) (sym cap)

-- a read that goes on
reads_more : (fd at : ℕ) (moves : Bool) (pieces : List Piece) (from done : ℕ) (w : World) → from ≤ done → done ≤ asked pieces
    → done ≡ from + length (read_piece (files_of w) fd (at + from) (done - from))
    → reads_rest fd at moves pieces done (with_spread w (pieces_from pieces from) (read_piece (files_of w) fd (at + from) (done - from))) ≡ reads_rest fd at moves pieces from w
unfolding reads_rest
reads_more fd at moves pieces from done w after within count =
    let files = files_of w in
    let byte = w.state.memory.byte in
    let left = pieces_from pieces from in
    let bytes = read_piece files fd (at + from) (done - from) in
    let more = read_piece files fd (at + done) (asked pieces - done) in
    let place : pieces_from pieces done ≡ pieces_from left (length bytes) = ap (pieces_from pieces) count ∙ sym (from_from pieces from (length bytes)) in
    let both : spread (spread byte left bytes) (pieces_from pieces done) more ≡ spread byte left (bytes ++ more) =
    ap (λ (ps : List Piece). spread (spread byte left bytes) ps more) place ∙ spread-append byte left bytes more in
    let total : done + length more ≡ from + length (bytes ++ more) = omega (arith, length-append bytes more) in
    ap (λ (f : ℕ → ℕ). gives (done + length more) (with_files (with_byte w f) (left_at moves files fd (at + (done + length more))))) both
    ∙ ap (λ (n : ℕ). gives n (with_files (with_spread w left (bytes ++ more)) (left_at moves files fd (at + n)))) total
    ∙ ap (λ (xs : List ℕ). gives (from + length xs) (with_files (with_spread w left xs) (left_at moves files fd (at + (from + length xs))))) (pieces_on (content_at files fd) at from done (asked pieces) after within)

module _ (v : View) (fd at : ℕ) (moves : Bool) (from : ℕ) (pages : PagesValue) where
  abbrev read_mid : View
  read_mid = record v { pages = pages }

  pub reads_do : (stop : Stop) (new : View) (result : Result ℕ Halt) → ((done : ℕ) → transfer_of v.gprs v.files done ≡ Some (Reads fd at moves))
      → ReadsTo v.pages pages v.progress.pieces from v.files fd at stop → Stops (blocked_access (table_of v.pages)) Write v.progress.pieces from stop
      → EndsAt stop fd at moves read_mid new result → DoesPart (reads_rest fd at moves v.progress.pieces from) v new result
  unfolding reads_rest
  reads_do (Whole done) new result is reads stops ends =
      part_at_end (reads_rest fd at moves v.progress.pieces from) v new (record read_mid { files = left_at moves v.files fd (at + done) }) result (Ok done) ends.0 ends.1 (λ swap base.
      let bytes = read_piece v.files fd (at + from) (asked v.progress.pieces - from) in
      ap (λ (w : World). gives (from + length bytes) (with_files w (left_at moves v.files fd (at + (from + length bytes))))) (world_moved v pages swap base v.progress.pieces from bytes reads.1)
      ∙ ap (λ (n : ℕ). gives n (with_files (with_parts swap read_mid base) (left_at moves v.files fd (at + n)))) (sym reads.0)
      ∙ ap (gives done) (left_world moves read_mid v.files fd (at + done) swap base refl))
  reads_do (Away done slot) new result is reads stops ends =
      part_at_end (reads_rest fd at moves v.progress.pieces from) v new (record read_mid { progress = record { stage = Moving done; pieces = v.progress.pieces } }) result (Err (Need slot)) ends.0 ends.1 (λ swap base.
      let bytes = read_piece v.files fd (at + from) (done - from) in
      rest_moving done v.progress.pieces (with_parts swap read_mid base) (Reads fd at moves) (is done)
      ∙ ap (λ (w : World). reads_rest fd at moves v.progress.pieces done w) (sym (world_moved v pages swap base v.progress.pieces from bytes reads.1))
      ∙ reads_more fd at moves v.progress.pieces from done (with_parts swap v base) stops.0 (let less = stops.1 in omega arith) reads.0)
  reads_do Failed new result is reads stops ends = absurd reads

-- what was read leaves the table
pub reads_keep : (old new : PagesValue) (pieces : List Piece) (from : ℕ) (files : FilesValue) (fd at : ℕ) (stop : Stop) → ReadsTo old new pieces from files fd at stop → KeepsTable old new
reads_keep old new pieces from files fd at (Whole done) reads = let moved = reads.1 in moved.keeps
reads_keep old new pieces from files fd at (Away done slot) reads = let moved = reads.1 in moved.keeps
reads_keep old new pieces from files fd at Failed reads = absurd reads

-- ---- writes
length_between : (byte : ℕ → ℕ) (pieces : List Piece) (from done : ℕ) → from ≤ done → done ≤ asked pieces → length (bytes_between byte pieces from done) ≡ done - from
length_between byte pieces from done after within =
    omega (arith, length-take (done - from) (drop from (pieces_bytes byte pieces)), length-drop from (pieces_bytes byte pieces), length-pieces_bytes byte pieces)

-- a write that goes on
writes_more : (fd at : ℕ) (moves : Bool) (pieces : List Piece) (from done : ℕ) (w : World) → from ≤ done → done ≤ asked pieces
    → done ≡ from + count_below w.cap (at + from) (done - from)
    → writes_rest fd at moves pieces done (with_files w (written_at (files_of w) fd (at + from) (bytes_between w.state.memory.byte pieces from done))) ≡ writes_rest fd at moves pieces from w
unfolding writes_rest
writes_more fd at moves pieces from done w after within count =
    let files = files_of w in
    let byte = w.state.memory.byte in
    let bytes = bytes_between byte pieces from done in
    let more = bytes_between byte pieces done (asked pieces) in
    let len = length_between byte pieces from done after within in
    let place : at + done ≡ at + from + length bytes = omega arith in
    let fits : count_below files.cap (at + from) (length bytes) ≡ length bytes = omega arith in
    let total : done + count_below w.cap (at + done) (asked pieces - done) ≡ from + count_below w.cap (at + from) (asked pieces - from) = omega arith in
    let both : written_at (written_at files fd (at + from) bytes) fd (at + done) more ≡ written_at files fd (at + from) (bytes_between byte pieces from (asked pieces)) =
    ap (λ (n : ℕ). written_at (written_at files fd (at + from) bytes) fd n more) place ∙ written_at-append files fd (at + from) bytes more fits
    ∙ ap (λ (xs : List ℕ). written_at files fd (at + from) xs) (between_on (pieces_bytes byte pieces) from done (asked pieces) after within) in
    ap (λ (f : FilesValue). gives (done + count_below w.cap (at + done) (asked pieces - done)) (with_files w (left_at moves f fd (at + (done + count_below w.cap (at + done) (asked pieces - done)))))) both
    ∙ ap (λ (n : ℕ). gives n (with_files w (left_at moves (written_at files fd (at + from) (bytes_between byte pieces from (asked pieces))) fd (at + n)))) total

module _ (v : View) (fd at : ℕ) (moves : Bool) (from : ℕ) (files : FilesValue) where
  abbrev write_mid : View
  write_mid = record v { files = files }

  pub writes_do : (stop : Stop) (new : View) (result : Result ℕ Halt)
      → ((done slot : ℕ) → stop ≡ Away done slot → transfer_of v.gprs files done ≡ Some (Writes fd at moves))
      → ((swap : Swap) → WritesTo (byte_of v.pages swap) v.progress.pieces from v.files files fd at stop) → Stops (blocked_access (table_of v.pages)) Read v.progress.pieces from stop
      → EndsAt stop fd at moves write_mid new result → DoesPart (writes_rest fd at moves v.progress.pieces from) v new result
  unfolding writes_rest memory_of
  writes_do (Whole done) new result is writes stops ends =
      part_at_end (writes_rest fd at moves v.progress.pieces from) v new (record v { files = left_at moves files fd (at + done) }) result (Ok done) ends.0 ends.1 (λ swap base.
      let here = writes swap in
      let cap : files.cap ≡ v.files.cap = ap (λ (f : FilesValue). f.cap) here.1 in
      ap (λ (n : ℕ). gives n (with_files (with_parts swap v base) (left_at moves (written_at v.files fd (at + from) (bytes_between (byte_of v.pages swap) v.progress.pieces from (asked v.progress.pieces))) fd (at + n)))) (sym here.0)
      ∙ ap (λ (f : FilesValue). gives done (with_files (with_parts swap v base) (left_at moves f fd (at + done)))) (sym here.1)
      ∙ ap (gives done) (left_world moves v files fd (at + done) swap base cap))
  writes_do (Away done slot) new result is writes stops ends =
      part_at_end (writes_rest fd at moves v.progress.pieces from) v new (record v { files = files; progress = record { stage = Moving done; pieces = v.progress.pieces } }) result (Err (Need slot)) ends.0 ends.1 (λ swap base.
      let here = writes swap in
      let cap : files.cap ≡ v.files.cap = ap (λ (f : FilesValue). f.cap) here.1 in
      rest_moving done v.progress.pieces (with_parts swap (record v { files = files }) base) (Writes fd at moves) (is done slot refl)
      ∙ ap (λ (w : World). writes_rest fd at moves v.progress.pieces done w) (sym (left_world false v files fd 0 swap base cap))
      ∙ ap (λ (f : FilesValue). writes_rest fd at moves v.progress.pieces done (with_files (with_parts swap v base) f)) here.1
      ∙ writes_more fd at moves v.progress.pieces from done (with_parts swap v base) stops.0 (let less = stops.1 in omega arith) here.0)
  writes_do Failed new result is writes stops ends = absurd ends

-- a write leaves what descriptors stand for
pub writes_places : (byte : ℕ → ℕ) (pieces : List Piece) (from : ℕ) (old new : FilesValue) (fd at : ℕ) (stop : Stop) → WritesTo byte pieces from old new fd at stop
    → (new.places ≡ old.places)
writes_places byte pieces from old new fd at (Whole done) writes = ap (λ (f : FilesValue). f.places) writes.1
writes_places byte pieces from old new fd at (Away done slot) writes = ap (λ (f : FilesValue). f.places) writes.1
writes_places byte pieces from old new fd at Failed writes = absurd writes

pub writes_need : (v : View) (fd at : ℕ) (moves : Bool) (from : ℕ) (files : FilesValue) (stop : Stop) (new : View) (result : Result ℕ Halt)
    → CanMove (Writes fd at moves) (perms_in (table_of v.pages)) v.files v.progress.pieces from
    → ((done slot : ℕ) → stop ≡ Away done slot → transfer_of v.gprs files done ≡ Some (Writes fd at moves)) → files.places ≡ v.files.places → IsLowStop stop at
    → Stops (blocked_access (table_of v.pages)) Read v.progress.pieces from stop → EndsAt stop fd at moves (record v { files = files }) new result → NeedsIn new result
writes_need v fd at moves from files (Whole done) new result can is places low stops ends =
    needs_at_end new (record v { files = left_at moves files fd (at + done) }) result (Ok done) ends.0 ends.1 tt
writes_need v fd at moves from files (Away done slot) new result can is places low stops ends =
    let file = can.other.0 in
    let open_now : WritesFile files fd = record {
      writes = subst (λ (ps : List (Option Place)). does_write (place_at ps fd) ≡ true) (sym places) file.writes;
      file = subst (λ (ps : List (Option Place)). is_stream (place_at ps fd) ≡ false) (sym places) file.file;
    } in
    needs_at_end new (record v { files = files; progress = record { stage = Moving done; pieces = v.progress.pieces } }) result (Err (Need slot)) ends.0 ends.1
    (moving_needs (Writes fd at moves) v v.pages files v.random from done slot can refl (is done slot refl) (open_now, low) stops.1 stops.3)
writes_need v fd at moves from files Failed new result can is places low stops ends = absurd ends

-- Random bytes, in parts.
use Rattle.std.proofs.Common.{◌≡◌, ℕ, ◌+◌, ◌-◌, ◌*◌, ◌/◌, ◌%◌, ◌≤◌, List, [], ◌∷◌, ◌++◌, length, Some, Result, Ok, Err, sym, ap, ◌∙◌}
use Rattle.std.proofs.Common.{subst, arith, zero-add, get_or}
use Rattle.machine_state.specs.World.{World}
use Rattle.machine_state.specs.declared.kinds.Kind.TheVariants.{Write}
use Rattle.machine_state.proofs.MemoryLemmas.{length-bytes_at}
use Rattle.host_edge.specs.declared.outside.HostCall.{HostCall}
use Rattle.guest_pages.specs.Table.{perms_in}
use Rattle.guest_pages.specs.Pages.{PagesValue, table_of}
use Rattle.guest_pages.specs.Changes.{KeepsTable}
use Rattle.guest_transfers.specs.Pieces.{asked, pieces_from, single, spread}
use Rattle.guest_transfers.specs.Draws.{drawn, drawn_byte, number_after}
use Rattle.guest_transfers.specs.Moves.{Moved, Draws as DrawsTo, Stops, blocked_access}
use Rattle.guest_transfers.specs.declared.kinds.Piece.{Piece}
use Rattle.guest_transfers.specs.declared.kinds.Stop.{Stop}
use Rattle.guest_transfers.specs.declared.kinds.Stop.TheVariants.{Whole, Away, Failed}
use Rattle.guest_transfers.proofs.Along.{spread-append, from_from}
use Rattle.guest_transfers.proofs.DrawLemmas.{number_after-after, drawn-after, drawn-append}
use Rattle.linux_calls.specs.declared.kinds.Halt.{Halt}
use Rattle.linux_calls.specs.declared.kinds.Halt.TheVariants.{Need}
use Rattle.linux_calls.specs.declared.kinds.Stage.TheVariants.{Moving}
use Rattle.linux_calls.specs.declared.kinds.Transfer.TheVariants.{Draws}
use Rattle.linux_calls.specs.Call.{gives}
use Rattle.linux_calls.specs.Transfers.{draws_rest, with_spread}
use Rattle.linux_calls.specs.Rest.{transfer_of}
use Rattle.linux_calls.specs.View.{View, with_parts}
use Rattle.linux_calls.specs.Following.{DoesPart, Ends}
use Rattle.linux_calls.specs.Waiting.{CanMove, NeedsIn}
use Rattle.linux_calls.proofs.MoveLemmas.{needs_at_end, world_moved, moving_needs, rest_moving}
use Rattle.linux_calls.proofs.FileMoves.{part_at_end}

pub one_piece : (pieces : List Piece) (piece d : Piece) → length pieces ≡ 1 → piece ≡ get_or pieces 0 d → pieces ≡ single piece.addr piece.len
one_piece [] piece d e is = cc
one_piece (p ∷ []) piece d e is = ap (λ (q : Piece). q ∷ []) (sym is)
one_piece (p ∷ (q ∷ rest)) piece d e is = absurd (omega arith)

asked_single : (addr len : ℕ) → asked (single addr len) ≡ len
asked_single addr len = zero-add len

-- random bytes that go on
draws_more : (pieces : List Piece) (from done : ℕ) (w : World) → from ≤ done → done ≤ asked pieces
    → draws_rest pieces done (let now = with_spread w (pieces_from pieces from) (drawn w.random (from % 8) (done - from)) in record now { random = number_after w.random (done / 8 - from / 8) })
    ≡ draws_rest pieces from w
unfolding draws_rest
draws_more pieces from done w after within =
    let number = w.random in
    let draws = done / 8 - from / 8 in
    let left = pieces_from pieces from in
    let byte = w.state.memory.byte in
    let bytes = drawn number (from % 8) (done - from) in
    let more = drawn (number_after number draws) (done % 8) (asked pieces - done) in
    let len : length bytes ≡ done - from = length-bytes_at (drawn_byte number) (from % 8) (done - from) in
    let total : done ≡ from + length bytes = omega arith in
    let place : pieces_from pieces done ≡ pieces_from left (length bytes) = ap (pieces_from pieces) total ∙ sym (from_from pieces from (length bytes)) in
    let there : from % 8 + (done - from) ≡ draws * 8 + done % 8 = omega arith in
    let sum : asked pieces - from ≡ done - from + (asked pieces - done) = omega arith in
    let all : bytes ++ more ≡ drawn number (from % 8) (asked pieces - from) =
    ap (λ (xs : List ℕ). bytes ++ xs) (drawn-after number draws (done % 8) (from % 8 + (done - from)) (asked pieces - done) there)
    ∙ sym (drawn-append number (from % 8) (done - from) (asked pieces - done)) ∙ ap (λ (n : ℕ). drawn number (from % 8) n) (sym sum) in
    let both : spread (spread byte left bytes) (pieces_from pieces done) more ≡ spread byte left (drawn number (from % 8) (asked pieces - from)) =
    ap (λ (ps : List Piece). spread (spread byte left bytes) ps more) place ∙ spread-append byte left bytes more ∙ ap (spread byte left) all in
    let used : draws + ((asked pieces + 7) / 8 - done / 8) ≡ (asked pieces + 7) / 8 - from / 8 = omega arith in
    let last : number_after (number_after number draws) ((asked pieces + 7) / 8 - done / 8) ≡ number_after number ((asked pieces + 7) / 8 - from / 8) =
    number_after-after number draws ((asked pieces + 7) / 8 - done / 8) ∙ ap (number_after number) used in
    ap (λ (f : ℕ → ℕ). gives (asked pieces) (record w { state = record w.state { memory = record w.state.memory { byte = f } }; random = number_after (number_after number draws) ((asked pieces + 7) / 8 - done / 8) })) both
    ∙ ap (λ (n : ℕ). gives (asked pieces) (let now = with_spread w left (drawn number (from % 8) (asked pieces - from)) in record now { random = n })) last

module _ (v : View) (from : ℕ) (pages : PagesValue) (number addr len : ℕ) (one : v.progress.pieces ≡ single addr len) where
  abbrev drawn_mid : View
  drawn_mid = record v { pages = pages; random = number }

  moved : (n : ℕ) → Moved v.pages pages (single addr len) from (drawn v.random (from % 8) n) → Moved v.pages pages v.progress.pieces from (drawn v.random (from % 8) n)
  moved n m = subst (λ (ps : List Piece). Moved v.pages pages ps from (drawn v.random (from % 8) n)) (sym one) m

  -- what was drawn leaves the table
  pub draws_keep : (stop : Stop) → DrawsTo v.pages pages addr len from v.random number stop → KeepsTable v.pages pages
  draws_keep (Whole done) draws = let m = draws.2 in m.keeps
  draws_keep (Away done slot) draws = let m = draws.1 in m.keeps
  draws_keep Failed draws = absurd draws

  pub draws_do : (stop : Stop) (call : HostCall) (new : View) (result : Result ℕ Halt) → ((done : ℕ) → transfer_of v.gprs v.files done ≡ Some Draws)
      → DrawsTo v.pages pages addr len from v.random number stop → Stops (blocked_access (table_of v.pages)) Write v.progress.pieces from stop
      → Ends stop call drawn_mid new result → DoesPart (draws_rest v.progress.pieces from) v new result
  unfolding draws_rest
  draws_do (Whole done) call new result is draws stops ends =
      part_at_end (draws_rest v.progress.pieces from) v new drawn_mid result (Ok done) ends.0 ends.1 (λ swap base.
      let all : asked v.progress.pieces ≡ done = ap asked one ∙ asked_single addr len ∙ sym draws.0 in
      let bytes = drawn v.random (from % 8) (done - from) in
      ap (λ (n : ℕ). gives n (let now = with_spread (with_parts swap v base) (pieces_from v.progress.pieces from) (drawn v.random (from % 8) (n - from)) in record now { random = number_after v.random ((n + 7) / 8 - from / 8) })) all
      ∙ ap (λ (w : World). gives done (record w { random = number_after v.random ((done + 7) / 8 - from / 8) })) (world_moved v pages swap base v.progress.pieces from bytes (moved (done - from) draws.2))
      ∙ ap (λ (n : ℕ). gives done (with_parts swap (record v { pages = pages; random = n }) base)) (sym draws.1))
  draws_do (Away done slot) call new result is draws stops ends =
      part_at_end (draws_rest v.progress.pieces from) v new (record drawn_mid { progress = record { stage = Moving done; pieces = v.progress.pieces } }) result (Err (Need slot)) ends.0 ends.1 (λ swap base.
      let bytes = drawn v.random (from % 8) (done - from) in
      rest_moving done v.progress.pieces (with_parts swap drawn_mid base) Draws (is done)
      ∙ ap (λ (n : ℕ). draws_rest v.progress.pieces done (with_parts swap (record v { pages = pages; random = n }) base)) draws.0
      ∙ ap (λ (w : World). draws_rest v.progress.pieces done (record w { random = number_after v.random (done / 8 - from / 8) })) (sym (world_moved v pages swap base v.progress.pieces from bytes (moved (done - from) draws.1)))
      ∙ draws_more v.progress.pieces from done (with_parts swap v base) stops.0 (let less = stops.1 in omega arith))
  draws_do Failed call new result is draws stops ends = absurd draws

  pub draws_need : (stop : Stop) (call : HostCall) (new : View) (result : Result ℕ Halt) → CanMove Draws (perms_in (table_of v.pages)) v.files v.progress.pieces from
      → ((done : ℕ) → transfer_of v.gprs v.files done ≡ Some Draws)
      → DrawsTo v.pages pages addr len from v.random number stop → Stops (blocked_access (table_of v.pages)) Write v.progress.pieces from stop
      → Ends stop call drawn_mid new result → NeedsIn new result
  draws_need (Whole done) call new result can is draws stops ends = needs_at_end new drawn_mid result (Ok done) ends.0 ends.1 tt
  draws_need (Away done slot) call new result can is draws stops ends =
      needs_at_end new (record drawn_mid { progress = record { stage = Moving done; pieces = v.progress.pieces } }) result (Err (Need slot)) ends.0 ends.1
      (moving_needs Draws v pages v.files number from done slot can (let m = draws.1 in m.keeps.table) (is done) can.other stops.1 stops.3)
  draws_need Failed call new result can is draws stops ends = absurd draws

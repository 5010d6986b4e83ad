-- A read from the input, in parts.
use Rattle.std.proofs.Common.{◌≡◌, ℕ, ◌+◌, ◌-◌, ◌≤◌, ◌⊎◌, inl, inr, List, [], ◌++◌, length, take, drop, Option, Some, IsSome, Result, Ok}
use Rattle.std.proofs.Common.{Err, refl, sym, ap, ◌∙◌, arith, length-append, take-append-drop}
use Rattle.std.proofs.Math.Seq.{take-append-add, drop-append-add}
use Rattle.machine_state.specs.World.{World}
use Rattle.host_edge.specs.Streams.{told}
use Rattle.host_edge.specs.declared.outside.HostCall.TheVariants.{Take}
use Rattle.guest_pages.specs.Pages.{PagesValue, table_of}
use Rattle.guest_transfers.specs.Pieces.{asked, pieces_from}
use Rattle.guest_pages.specs.Changes.{KeepsTable}
use Rattle.guest_transfers.specs.Moves.{Takes as TakesTo, Stops, blocked_access}
use Rattle.guest_transfers.specs.declared.kinds.Piece.{Piece}
use Rattle.guest_transfers.specs.declared.kinds.Stop.{Stop}
use Rattle.guest_transfers.specs.declared.kinds.Stop.TheVariants.{Whole, Away, Failed}
use Rattle.guest_transfers.proofs.Along.{spread-append, from_from}
use Rattle.machine_state.specs.declared.kinds.Kind.TheVariants.{Write}
use Rattle.linux_calls.specs.declared.kinds.Halt.{Halt}
use Rattle.linux_calls.specs.declared.kinds.Halt.TheVariants.{Need, Failed as FailedHalt}
use Rattle.linux_calls.specs.declared.kinds.Stage.TheVariants.{Moving}
use Rattle.linux_calls.specs.declared.kinds.Transfer.TheVariants.{Takes}
use Rattle.linux_calls.specs.Call.{gives}
use Rattle.linux_calls.specs.Transfers.{takes_rest, with_spread}
use Rattle.linux_calls.specs.Rest.{transfer_of}
use Rattle.linux_calls.specs.View.{View, with_parts}
use Rattle.linux_calls.specs.Outside.{Standing, Streams, Grown, standing_in, with_standing}
use Rattle.linux_calls.specs.Following.{Comes, Ends}
use Rattle.linux_calls.proofs.MoveLemmas.{at_end, told_is, tells_itself, extends_none, world_moved, rest_moving, calls_made, taken_whole}
use Rattle.linux_calls.proofs.MoveLemmas.{dropped_whole}

takes_whole : (pieces : List Piece) (from done : ℕ) (w : World) (bytes rest : List ℕ) → from + length bytes ≡ done → done ≤ asked pieces
    → (done ≡ asked pieces) ⊎ (rest ≡ []) → w.left ≡ bytes ++ rest
    → takes_rest pieces from w ≡ gives done (let now = with_spread w (pieces_from pieces from) bytes in record now { left = rest })
unfolding takes_rest
takes_whole pieces from done w bytes rest count within ended left =
    let le : length bytes ≤ asked pieces - from = omega arith in
    let last = last_of ended in
    rw (left, taken_whole bytes rest (asked pieces - from) le last, dropped_whole bytes rest (asked pieces - from) le last, count) refl
  where
    last_of : (done ≡ asked pieces) ⊎ (rest ≡ []) → (length bytes ≡ asked pieces - from) ⊎ (rest ≡ [])
    last_of (inl e) = inl (omega arith)
    last_of (inr e) = inr e

takes_more : (pieces : List Piece) (from done : ℕ) (w : World) (bytes rest : List ℕ) → from + length bytes ≡ done → done ≤ asked pieces → w.left ≡ bytes ++ rest
    → takes_rest pieces done (let now = with_spread w (pieces_from pieces from) bytes in record now { left = rest }) ≡ takes_rest pieces from w
unfolding takes_rest
takes_more pieces from done w bytes rest count within left =
    let sum : asked pieces - from ≡ length bytes + (asked pieces - done) = omega arith in
    let place : pieces_from pieces done ≡ pieces_from (pieces_from pieces from) (length bytes) =
    ap (pieces_from pieces) (sym count) ∙ sym (from_from pieces from (length bytes)) in
    let more = take (asked pieces - done) rest in
    let total : done + length more ≡ from + length (bytes ++ more) = omega (arith, length-append bytes more) in
    rw (left, sum, take-append-add bytes rest (asked pieces - done), drop-append-add bytes rest (asked pieces - done), place, spread-append w.state.memory.byte (pieces_from pieces from) bytes more, total) refl

-- what was taken is no more than the call takes
within_takes : (pieces : List Piece) (from : ℕ) (w : World) (bytes rest : List ℕ) → w.left ≡ bytes ++ rest → from + length bytes ≤ asked pieces
    → Grown (record { left = rest; out = w.out; err = w.err }) (standing_in (takes_rest pieces from w).world)
unfolding takes_rest
within_takes pieces from w bytes rest left within =
    let more = asked pieces - from - length bytes in
    let sum : asked pieces - from ≡ length bytes + more = omega arith in
    let rest_left : drop (asked pieces - from) (bytes ++ rest) ≡ drop more rest = ap (λ (n : ℕ). drop n (bytes ++ rest)) sum ∙ drop-append-add bytes rest more in
    record {
      out = extends_none w.out;
      err = extends_none w.err;
      left = (
        take more rest,
        rw (left, rest_left) (sym (take-append-drop more rest)),
      );
    }

module _ (v : View) (from : ℕ) (pages : PagesValue) (s : Streams) (left : Option (List ℕ)) where
  abbrev mid : View
  mid = record v { pages = pages }

  abbrev after : Streams
  after = record s { left = left }

  pub takes_come : (stop : Stop) (new : View) (result : Result ℕ Halt) → ((done : ℕ) → transfer_of v.gprs v.files done ≡ Some Takes)
      → TakesTo v.pages pages v.progress.pieces from s.left left stop → Stops (blocked_access (table_of v.pages)) Write v.progress.pieces from stop
      → Ends stop Take mid new result
      → Comes (takes_rest v.progress.pieces from) (IsSome s.left) v new s after result
  takes_come (Whole done) new result is takes stops ends = at_end (takes_rest v.progress.pieces from) (IsSome s.left) v new mid s after result (Ok done) ends.0 ends.1 (λ swap base is_told some.
      let took = takes.0 in
      let here : base.left ≡ took.bytes ++ told left = told_is s.left base.left is_told.left some ∙ took.taken some in (
        record { left = told left; out = base.out; err = base.err },
        record { left = tells_itself left; out = is_told.out; err = is_told.err },
        takes_whole v.progress.pieces from done (with_parts swap v base) took.bytes (told left) took.count stops.1 (takes.1 some) here
            ∙ ap (λ (w : World). gives done (record w { left = told left })) (world_moved v pages swap base v.progress.pieces from took.bytes took.moved),
      ))
  takes_come (Away done slot) new result is takes stops ends = at_end (takes_rest v.progress.pieces from) (IsSome s.left) v new (record mid { progress = record { stage = Moving done; pieces = v.progress.pieces } }) s after result (Err (Need slot)) ends.0 ends.1 (λ swap base is_told some.
      let here : base.left ≡ takes.bytes ++ told left = told_is s.left base.left is_told.left some ∙ takes.taken some in
      let on : Standing = record { left = told left; out = base.out; err = base.err } in
      let more = stops.1 in (
        on,
        record { left = tells_itself left; out = is_told.out; err = is_told.err },
        (
          rest_moving done v.progress.pieces (with_parts swap mid (with_standing base on)) Takes (is done)
              ∙ ap (λ (w : World). takes_rest v.progress.pieces done (record w { left = told left })) (sym (world_moved v pages swap base v.progress.pieces from takes.bytes takes.moved))
              ∙ takes_more v.progress.pieces from done (with_parts swap v base) takes.bytes (told left) takes.count (omega arith) here,
          record { out = extends_none base.out; err = extends_none base.err; left = (takes.bytes, here) },
        ),
      ))
  takes_come Failed new result is takes stops ends = at_end (takes_rest v.progress.pieces from) (IsSome s.left) v new mid s after result (Err (FailedHalt Take)) ends.0 ends.1 (λ swap base is_told some.
      let took = takes.1 in
      let here : base.left ≡ took.bytes ++ told left = told_is s.left base.left is_told.left some ∙ took.taken some in
      let on : Standing = record { left = told left; out = base.out; err = base.err } in (
        on,
        record { left = tells_itself left; out = is_told.out; err = is_told.err },
        (
          calls_made (with_parts swap v base) Takes Take (is 0) (0, omega arith, refl),
          record {
            has = record { out = extends_none base.out; err = extends_none base.err; left = (took.bytes, here) };
            within = within_takes v.progress.pieces from (with_parts swap v base) took.bytes (told left) here took.moved.within;
          },
        ),
      ))

-- what was taken leaves the table
pub takes_keep : (old new : PagesValue) (pieces : List Piece) (from : ℕ) (left left' : Option (List ℕ)) (stop : Stop) → TakesTo old new pieces from left left' stop → KeepsTable old new
takes_keep old new pieces from left left' (Whole done) takes = let took = takes.0 in took.moved.keeps
takes_keep old new pieces from left left' (Away done slot) takes = takes.moved.keeps
takes_keep old new pieces from left left' Failed takes = let took = takes.1 in took.moved.keeps

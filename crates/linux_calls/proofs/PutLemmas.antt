-- A write to a stream, in parts.
use Rattle.std.proofs.Common.{◌≡◌, ℕ, ◌≤◌, List, ◌++◌, Option, Some, is_some, Result, Ok, Err, refl, sym, ap, ◌∙◌, arith, append_assoc}
use Rattle.machine_state.specs.Memory.{Swap}
use Rattle.host_edge.specs.declared.outside.HostCall.TheVariants.{PutOut, PutErr}
use Rattle.guest_pages.specs.Pages.{table_of, byte_of, memory_of}
use Rattle.guest_transfers.specs.Pieces.{asked, bytes_between, pieces_bytes}
use Rattle.guest_transfers.specs.Moves.{Puts, Stops, blocked_access}
use Rattle.guest_transfers.specs.declared.kinds.Piece.{Piece}
use Rattle.guest_transfers.specs.declared.kinds.Stop.{Stop}
use Rattle.guest_transfers.specs.declared.kinds.Stop.TheVariants.{Whole, Away, Failed}
use Rattle.machine_state.specs.declared.kinds.Kind.TheVariants.{Read}
use Rattle.linux_calls.specs.declared.kinds.Halt.{Halt}
use Rattle.linux_calls.specs.declared.kinds.Halt.TheVariants.{Need, Failed as FailedHalt}
use Rattle.linux_calls.specs.declared.kinds.Stage.TheVariants.{Moving}
use Rattle.linux_calls.specs.declared.kinds.Transfer.TheVariants.{PutsOut, PutsErr}
use Rattle.linux_calls.specs.Call.{gives}
use Rattle.linux_calls.specs.Transfers.{out_rest, err_rest}
use Rattle.linux_calls.specs.Rest.{transfer_of}
use Rattle.linux_calls.specs.View.{View, with_parts}
use Rattle.linux_calls.specs.Outside.{Standing, Streams, with_standing}
use Rattle.linux_calls.specs.Following.{Comes, Ends}
use Rattle.linux_calls.proofs.MoveLemmas.{at_end, put_told, extends_none, ends_none, rest_moving, calls_made, between_on}

-- what is put on a stream that has some bytes already
joined : (byte : ℕ → ℕ) (pieces : List Piece) (from done to : ℕ) (old : List ℕ) → from ≤ done → done ≤ to
    → old ++ bytes_between byte pieces from done ++ bytes_between byte pieces done to ≡ old ++ bytes_between byte pieces from to
joined byte pieces from done to old after before =
    append_assoc old (bytes_between byte pieces from done) (bytes_between byte pieces done to) ∙ ap (λ (xs : List ℕ). old ++ xs) (between_on (pieces_bytes byte pieces) from done to after before)

module _ (v : View) (from : ℕ) (s : Streams) (put : Option (List ℕ)) (within : from ≤ asked v.progress.pieces) where
  abbrev Put : (ℕ → ℕ) → Option (List ℕ) → Stop → Type 0
  Put byte old stop = Puts byte v.progress.pieces from old put stop

  pub out_comes : (stop : Stop) (new : View) (result : Result ℕ Halt) → ((done : ℕ) → transfer_of v.gprs v.files done ≡ Some PutsOut) → is_some put ≡ is_some s.out
      → ((swap : Swap) → Put (byte_of v.pages swap) s.out stop) → Stops (blocked_access (table_of v.pages)) Read v.progress.pieces from stop → Ends stop PutOut v new result
      → Comes (out_rest v.progress.pieces from) (Unit {0}) v new s (record s { out = put }) result
  unfolding out_rest memory_of
  out_comes (Whole done) new result is tells puts stops ends =
      at_end (out_rest v.progress.pieces from) (Unit {0}) v new v s (record s { out = put }) result (Ok done) ends.0 ends.1 (λ swap base is_told u.
      let here = puts swap in
      let more = bytes_between (byte_of v.pages swap) v.progress.pieces from done in (
        record { left = base.left; out = base.out ++ more; err = base.err },
        record { left = is_told.left; out = put_told s.out put base.out more tells here.1 is_told.out; err = is_told.err },
        rw here.0 refl,
      ))
  out_comes (Away done slot) new result is tells puts stops ends =
      at_end (out_rest v.progress.pieces from) (Unit {0}) v new (record v { progress = record { stage = Moving done; pieces = v.progress.pieces } }) s (record s { out = put }) result (Err (Need slot)) ends.0 ends.1 (λ swap base is_told u.
      let more = bytes_between (byte_of v.pages swap) v.progress.pieces from done in
      let on : Standing = record { left = base.left; out = base.out ++ more; err = base.err } in
      let less = stops.1 in (
        on,
        record { left = is_told.left; out = put_told s.out put base.out more tells (puts swap) is_told.out; err = is_told.err },
        (
          rest_moving done v.progress.pieces (with_parts swap v (with_standing base on)) PutsOut (is done)
              ∙ (ap (λ (out : List ℕ). let w = with_parts swap v base in gives (asked v.progress.pieces) (record w { out = out }))
              (joined (byte_of v.pages swap) v.progress.pieces from done (asked v.progress.pieces) base.out stops.0 (omega arith))),
          record { out = (more, refl); err = extends_none base.err; left = ends_none base.left },
        ),
      ))
  out_comes Failed new result is tells puts stops ends =
      at_end (out_rest v.progress.pieces from) (Unit {0}) v new v s (record s { out = put }) result (Err (FailedHalt PutOut)) ends.0 ends.1 (λ swap base is_told u.
      let here = puts swap in
      let more = bytes_between (byte_of v.pages swap) v.progress.pieces from here.0 in
      let rest = bytes_between (byte_of v.pages swap) v.progress.pieces here.0 (asked v.progress.pieces) in (
        record { left = base.left; out = base.out ++ more; err = base.err },
        record { left = is_told.left; out = put_told s.out put base.out more tells here.3 is_told.out; err = is_told.err },
        (
          calls_made (with_parts swap v base) PutsOut PutOut (is 0) (0, omega arith, refl),
          record {
            has = record { out = (more, refl); err = extends_none base.err; left = ends_none base.left };
            within = record {
              out = (rest, (sym (joined (byte_of v.pages swap) v.progress.pieces from here.0 (asked v.progress.pieces) base.out here.1 here.2)));
              err = extends_none base.err;
              left = ends_none base.left;
            };
          },
        ),
      ))

  pub err_comes : (stop : Stop) (new : View) (result : Result ℕ Halt) → ((done : ℕ) → transfer_of v.gprs v.files done ≡ Some PutsErr) → is_some put ≡ is_some s.err
      → ((swap : Swap) → Put (byte_of v.pages swap) s.err stop) → Stops (blocked_access (table_of v.pages)) Read v.progress.pieces from stop → Ends stop PutErr v new result
      → Comes (err_rest v.progress.pieces from) (Unit {0}) v new s (record s { err = put }) result
  unfolding err_rest memory_of
  err_comes (Whole done) new result is tells puts stops ends =
      at_end (err_rest v.progress.pieces from) (Unit {0}) v new v s (record s { err = put }) result (Ok done) ends.0 ends.1 (λ swap base is_told u.
      let here = puts swap in
      let more = bytes_between (byte_of v.pages swap) v.progress.pieces from done in (
        record { left = base.left; out = base.out; err = base.err ++ more },
        record { left = is_told.left; out = is_told.out; err = put_told s.err put base.err more tells here.1 is_told.err },
        rw here.0 refl,
      ))
  err_comes (Away done slot) new result is tells puts stops ends =
      at_end (err_rest v.progress.pieces from) (Unit {0}) v new (record v { progress = record { stage = Moving done; pieces = v.progress.pieces } }) s (record s { err = put }) result (Err (Need slot)) ends.0 ends.1 (λ swap base is_told u.
      let more = bytes_between (byte_of v.pages swap) v.progress.pieces from done in
      let on : Standing = record { left = base.left; out = base.out; err = base.err ++ more } in
      let less = stops.1 in (
        on,
        record { left = is_told.left; out = is_told.out; err = put_told s.err put base.err more tells (puts swap) is_told.err },
        (
          rest_moving done v.progress.pieces (with_parts swap v (with_standing base on)) PutsErr (is done)
              ∙ (ap (λ (err : List ℕ). let w = with_parts swap v base in gives (asked v.progress.pieces) (record w { err = err }))
              (joined (byte_of v.pages swap) v.progress.pieces from done (asked v.progress.pieces) base.err stops.0 (omega arith))),
          record { err = (more, refl); out = extends_none base.out; left = ends_none base.left },
        ),
      ))
  err_comes Failed new result is tells puts stops ends =
      at_end (err_rest v.progress.pieces from) (Unit {0}) v new v s (record s { err = put }) result (Err (FailedHalt PutErr)) ends.0 ends.1 (λ swap base is_told u.
      let here = puts swap in
      let more = bytes_between (byte_of v.pages swap) v.progress.pieces from here.0 in
      let rest = bytes_between (byte_of v.pages swap) v.progress.pieces here.0 (asked v.progress.pieces) in (
        record { left = base.left; out = base.out; err = base.err ++ more },
        record { left = is_told.left; out = is_told.out; err = put_told s.err put base.err more tells here.3 is_told.err },
        (
          calls_made (with_parts swap v base) PutsErr PutErr (is 0) (0, omega arith, refl),
          record {
            has = record { err = (more, refl); out = extends_none base.out; left = ends_none base.left };
            within = record {
              err = (rest, (sym (joined (byte_of v.pages swap) v.progress.pieces from here.0 (asked v.progress.pieces) base.err here.1 here.2)));
              out = extends_none base.out;
              left = ends_none base.left;
            };
          },
        ),
      ))

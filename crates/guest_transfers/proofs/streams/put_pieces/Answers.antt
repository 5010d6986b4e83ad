use Rattle.std.proofs.Common.{◌∙◌, ◌+◌, ◌<◌, ℕ, List, ◌++◌, ap, refl, arith}
use Rattle.machine_state.specs.declared.kinds.Kind.TheVariants.{Read}
use Rattle.host_edge.specs.Streams.{told}
use Rattle.guest_pages.specs.Pages.{byte_of, table_of}
use Rattle.guest_transfers.specs.Moves.{blocked_access}
use Rattle.guest_transfers.specs.Pieces.{asked}
use Rattle.guest_transfers.proofs.PartLemmas.{blocked_rest, free-away, put_more, put_none, ready_more, ready_none, put_front}
use Rattle.guest_transfers.proofs.streams.put_pieces.Goals as goal

pub loop-done-init : goal.loop-done-init
loop-done-init g c = record {
  after = omega arith;
  within = omega (arith, c.total_len-count.ensures);
  tells = refl;
  puts = λ w. put_none (byte_of c.args.pages.now w) c.args.pieces.now c.args.from (g.K.Sink.taken c.args.sink.now);
  ready = ready_none (blocked_access (table_of c.args.pages.now)) Read c.args.pieces.now c.args.from c.args.from (omega arith);
  kept = refl;
}

pub returns-in-Err-put-clause-puts : goal.returns-in-Err-put-clause-puts
returns-in-Err-put-clause-puts g c w =
    let less : c.loop-done.done < asked c.args.pieces.now = omega (arith, c.loop-done-test.true, c.total_len-count.ensures) in
    put_front (byte_of c.args.pages.now w) Read c.args.pieces.now c.args.from c.loop-done.done c.part-next.result c.part-next.ensures.value c.loop-done.invariant.after less
    c.in-Ok.bytes.now c.in-Ok.ensures.bytes.len_is (c.in-Ok.ensures.bytes.bytes w) (g.K.Sink.taken c.args.sink.now) (g.K.Sink.taken c.loop-done.sink) (g.K.Sink.taken c.put.new.self)
    c.loop-done.invariant.tells (c.loop-done.invariant.puts w) c.in-Err-put.ensures.bytes.front

pub returns-in-Err-put-clause-stops : goal.returns-in-Err-put-clause-stops
returns-in-Err-put-clause-stops g c =
    let less : c.loop-done.done < asked c.args.pieces.now = omega (arith, c.loop-done-test.true, c.total_len-count.ensures) in
    let some = c.part-next.ensures.some less in (
      c.loop-done.done,
      c.loop-done.invariant.after,
      less,
      ready_more (blocked_access (table_of c.args.pages.now)) (blocked_rest (table_of c.args.pages.now)) Read c.args.pieces.now c.args.from c.loop-done.done (c.loop-done.done + 1)
          c.part-next.result c.part-next.ensures.value c.loop-done.invariant.ready less c.in-Ok.ensures.answer (omega (arith, some)),
    )

pub away_slot-requires : goal.away_slot-requires
away_slot-requires g c =
    free-away (table_of c.args.pages.now) Read c.part-next.result.addr c.part-next.result.len c.in-Err.miss c.part-next.ensures.free c.in-Err.ensures.answer

pub loop-done-preserved : goal.loop-done-preserved
loop-done-preserved g c =
    let less = c.loop-done-test.true in
    record {
      after = omega (arith, c.loop-done.invariant.after);
      within = omega (arith, c.part-next.ensures.within, c.total_len-count.ensures, less);
      tells = c.in-Ok-put.ensures.bytes.tells ∙ c.loop-done.invariant.tells;
      puts = λ w.
          put_more (byte_of c.args.pages.now w) Read c.args.pieces.now c.args.from c.loop-done.done c.part-next.result.len c.part-next.result c.part-next.ensures.value
          c.loop-done.invariant.after (omega (arith, less, c.total_len-count.ensures)) (omega arith) (g.K.Sink.taken c.args.sink.now) (g.K.Sink.taken c.loop-done.sink) (g.K.Sink.taken c.put.new.self)
          c.loop-done.invariant.tells (c.loop-done.invariant.puts w)
          (λ some. c.in-Ok-put.ensures.bytes.all some ∙ ap (λ (xs : List ℕ). told (g.K.Sink.taken c.loop-done.sink) ++ xs) (c.in-Ok.ensures.bytes.bytes w));
      ready = ready_more (blocked_access (table_of c.args.pages.now)) (blocked_rest (table_of c.args.pages.now)) Read c.args.pieces.now c.args.from c.loop-done.done
          (c.loop-done.done + c.part-next.result.len) c.part-next.result c.part-next.ensures.value c.loop-done.invariant.ready (omega (arith, less, c.total_len-count.ensures)) c.in-Ok.ensures.answer (omega arith);
      kept = c.in-Ok-put.ensures.cause.kept ∙ c.loop-done.invariant.kept;
    }

use Rattle.std.proofs.Common.{◌≡◌, ◌∙◌, ◌+◌, ◌<◌, None, refl, arith}
use Rattle.machine_state.specs.declared.kinds.Kind.TheVariants.{Write}
use Rattle.guest_pages.specs.Pages.{table_of}
use Rattle.guest_pages.specs.Table.{blocked}
use Rattle.guest_transfers.specs.Moves.{blocked_access}
use Rattle.guest_transfers.specs.Pieces.{asked}
use Rattle.guest_transfers.proofs.PartLemmas.{answered_err, answered_ok, blocked_rest, free-away, ready_more, ready_none, took_more, took_none}
use Rattle.guest_transfers.proofs.streams.take_pieces.Goals as goal

pub loop-done-init : goal.loop-done-init
loop-done-init g c = record {
  after = omega arith;
  within = omega (arith, c.total_len-count.ensures);
  tells = refl;
  took = took_none c.args.pages.now c.args.pieces.now c.args.from (g.S.Source.left c.args.source.now) c.requires.within;
  ready = ready_none (blocked_access (table_of c.args.pages.now)) Write c.args.pieces.now c.args.from c.args.from (omega arith);
  kept = refl;
}

pub away_slot-requires : goal.away_slot-requires
away_slot-requires g c =
    free-away (table_of c.loop-done.pages) Write c.part-next.result.addr c.part-next.result.len c.in-Err.miss c.part-next.ensures.free
    (answered_err _ c.in-Err.miss c.in-Err.ensures.answer)

pub returns-in-Err-take_part-clause-stops : goal.returns-in-Err-take_part-clause-stops
returns-in-Err-take_part-clause-stops g c =
    let less : c.loop-done.done < asked c.args.pieces.now = omega (arith, c.loop-done-test.true, c.total_len-count.ensures) in
    let some = c.part-next.ensures.some less in
    let table = c.loop-done.invariant.took.moved.keeps.table in
    let free : blocked (table_of c.args.pages.now) Write c.part-next.result.addr c.part-next.result.len ≡ None = rw table at (answered_ok _ c.in-Ok.field-0 c.in-Ok.ensures.answer) in (
      c.loop-done.done,
      c.loop-done.invariant.after,
      less,
      ready_more (blocked_access (table_of c.args.pages.now)) (blocked_rest (table_of c.args.pages.now)) Write c.args.pieces.now c.args.from c.loop-done.done (c.loop-done.done + 1)
          c.part-next.result c.part-next.ensures.value c.loop-done.invariant.ready less free (omega (arith, some)),
    )

pub loop-done-preserved : goal.loop-done-preserved
loop-done-preserved g c =
    let less : c.loop-done.done < asked c.args.pieces.now = omega (arith, c.loop-done-test.true, c.total_len-count.ensures) in
    let part = c.in-Ok-take_part.ensures.ok in
    let short = part.within in
    let table = c.loop-done.invariant.took.moved.keeps.table in
    let free : blocked (table_of c.args.pages.now) Write c.part-next.result.addr c.part-next.result.len ≡ None = rw table at (answered_ok _ c.in-Ok.field-0 c.in-Ok.ensures.answer) in
    record {
      after = omega (arith, c.loop-done.invariant.after);
      within = omega (arith, c.part-next.ensures.within, c.total_len-count.ensures, less, short);
      tells = c.in-Ok-take_part.ensures.tells ∙ c.loop-done.invariant.tells;
      took =
          took_more c.args.pages.now c.loop-done.pages c.take_part.new.pages c.args.pieces.now c.args.from c.loop-done.done c.in-Ok-take_part.n c.part-next.result
          c.part-next.ensures.value less _ _ _ c.loop-done.invariant.tells c.loop-done.invariant.took part;
      ready =
          ready_more (blocked_access (table_of c.args.pages.now)) (blocked_rest (table_of c.args.pages.now)) Write c.args.pieces.now c.args.from c.loop-done.done
          (c.loop-done.done + c.in-Ok-take_part.n) c.part-next.result c.part-next.ensures.value c.loop-done.invariant.ready less free (omega (arith, short));
      kept = c.in-Ok-take_part.ensures.cause.kept ∙ c.loop-done.invariant.kept;
    }

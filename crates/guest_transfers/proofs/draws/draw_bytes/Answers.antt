use Rattle.std.proofs.Common.{◌≡◌, ◌∙◌, ◌+◌, ◌-◌, ◌/◌, ◌%◌, ◌<◌, ◌++◌, None, length, take, ap, sym, arith}
use Rattle.machine_state.specs.declared.kinds.Kind.TheVariants.{Write}
use Rattle.machine_state.proofs.MemoryLemmas.{bytes_at-zero, length-bytes_at}
use Rattle.guest_pages.specs.Pages.{table_of}
use Rattle.guest_pages.specs.Table.{blocked}
use Rattle.guest_transfers.specs.Draws.{drawn, drawn_byte}
use Rattle.guest_transfers.specs.Moves.{blocked_access}
use Rattle.guest_transfers.specs.Pieces.{asked, single}
use Rattle.guest_transfers.proofs.DrawLemmas.{drawn-after, drawn-append, number_after-after, number_after-next, number_after-zero}
use Rattle.guest_transfers.proofs.PartLemmas.{answered_err, answered_ok, blocked_rest, free-away, moved_more, moved_none, ready_more, ready_none}
use Rattle.guest_transfers.proofs.draws.draw_bytes.Goals as goal

pub loop-done-init : goal.loop-done-init
loop-done-init c =
    let none : c.args.from - c.args.from ≡ 0 = omega arith in
    let no_draw : c.args.from / 8 - c.args.from / 8 ≡ 0 = omega arith in
    record {
      after = omega arith;
      within = c.requires.within;
      number = rw no_draw (sym (number_after-zero c.args.random.now));
      moved = rw (none, bytes_at-zero (drawn_byte c.args.random.now) (c.args.from % 8)) (moved_none c.args.pages.now (single c.args.piece.addr c.args.piece.len) c.args.from (omega (arith, c.requires.within)));
      ready = ready_none (blocked_access (table_of c.args.pages.now)) Write (single c.args.piece.addr c.args.piece.len) c.args.from c.args.from (omega arith);
    }

pub away_slot-requires : goal.away_slot-requires
away_slot-requires c =
    let len : length (take c.part-next.result.len c.fill-number.new.into) ≡ c.part-next.result.len = ap length c.fill-number.ensures.bytes ∙ length-bytes_at _ _ c.part-next.result.len in
    free-away (table_of c.loop-done.pages) Write c.part-next.result.addr c.part-next.result.len c.in-Err.miss c.part-next.ensures.free
    (rw len at (answered_err _ c.in-Err.miss c.in-Err.ensures.answer))

pub loop-done-preserved : goal.loop-done-preserved
loop-done-preserved c =
    let less : c.loop-done.done < asked (single c.args.piece.addr c.args.piece.len) = omega (arith, c.loop-done-test.true) in
    let part = c.part-next.result in
    let done = c.loop-done.done in
    let draws = done / 8 - c.args.from / 8 in
    let first = drawn c.args.random.now (c.args.from % 8) (done - c.args.from) in
    let next = drawn c.args.random.now (c.args.from % 8 + (done - c.args.from)) part.len in
    let after = c.loop-done.invariant.after in
    let count : c.args.from + length first ≡ done = (let n = length-bytes_at (drawn_byte c.args.random.now) (c.args.from % 8) (done - c.args.from) in omega (arith, n, after)) in
    let len : length next ≡ part.len = length-bytes_at (drawn_byte c.args.random.now) (c.args.from % 8 + (done - c.args.from)) part.len in
    let bytes : take part.len c.fill-number.new.into ≡ next =
    c.fill-number.ensures.bytes
    ∙ rw c.loop-done.invariant.number (drawn-after c.args.random.now draws (done % 8) (c.args.from % 8 + (done - c.args.from)) part.len (omega (arith, after))) in
    let split : done + part.len - c.args.from ≡ done - c.args.from + part.len = omega (arith, after) in
    let on : drawn c.args.random.now (c.args.from % 8) (done + part.len - c.args.from) ≡ first ++ next =
    ap (drawn c.args.random.now (c.args.from % 8)) split ∙ drawn-append c.args.random.now (c.args.from % 8) (done - c.args.from) part.len in
    let table = c.loop-done.invariant.moved.keeps.table in
    let free : blocked (table_of c.args.pages.now) Write part.addr part.len ≡ None = rw (table, bytes, len) at (answered_ok _ c.in-Ok.field-0 c.in-Ok.ensures.answer) in
    let drawn_on : (done + part.len) / 8 - c.args.from / 8 ≡ draws + (done % 8 + part.len) / 8 = omega (arith, after) in
    let fits = c.part-next.ensures.within in
    record {
      after = omega (arith, after);
      within = omega (arith, fits, c.loop-done-test.true);
      number = c.fill-number.ensures.number ∙ rw (c.loop-done.invariant.number, drawn_on) (number_after-after c.args.random.now draws ((done % 8 + part.len) / 8));
      moved = rw on (moved_more c.args.pages.now c.loop-done.pages c.write.new.self Write (single c.args.piece.addr c.args.piece.len) c.args.from first next done part
          c.part-next.ensures.value c.loop-done.invariant.moved count less (omega (arith, len)) (rw bytes at c.in-Ok.ensures.ok));
      ready =
          ready_more (blocked_access (table_of c.args.pages.now)) (blocked_rest (table_of c.args.pages.now)) Write (single c.args.piece.addr c.args.piece.len) c.args.from done
          (done + part.len) part c.part-next.ensures.value c.loop-done.invariant.ready less free (omega arith);
    }

pub returns-then-done-ne0-clause-draws : goal.returns-then-done-ne0-clause-draws
returns-then-done-ne0-clause-draws c =
    let after = c.loop-done.invariant.after in
    let draws : (c.loop-done.done + 7) / 8 - c.args.from / 8 ≡ c.loop-done.done / 8 - c.args.from / 8 + 1 = omega (arith, after, c.if-done-ne0.true) in (
      omega (arith, c.loop-done-test.false, c.loop-done.invariant.within),
      c.next_random.ensures ∙ rw (c.loop-done.invariant.number, draws) (sym (number_after-next c.args.random.now (c.loop-done.done / 8 - c.args.from / 8))),
      c.loop-done.invariant.moved,
    )

use Rattle.std.proofs.Common.{◌≡◌, ◌+◌, ◌-◌, ◌≤◌, ◌<◌, None, length, arith}
use Rattle.std.proofs.lemmas.List.{length-append}
use Rattle.machine_state.specs.declared.kinds.Kind.TheVariants.{Write}
use Rattle.guest_pages.specs.Pages.{table_of}
use Rattle.guest_pages.specs.Table.{blocked}
use Rattle.guest_files.specs.Moves.{read_piece}
use Rattle.guest_transfers.specs.Moves.{blocked_access}
use Rattle.guest_transfers.specs.Pieces.{asked}
use Rattle.guest_transfers.proofs.FileLemmas.{piece_short, read_on}
use Rattle.guest_transfers.proofs.PartLemmas.{answered_err, answered_ok, blocked_rest, free-away, moved_more, moved_none, ready_more, ready_none}
use Rattle.guest_transfers.proofs.file_moves.read_file.Goals as goal

pub loop-done-init : goal.loop-done-init
loop-done-init c =
    let none : c.args.from - c.args.from ≡ 0 = omega arith in
    record {
      after = omega arith;
      within = omega (arith, c.total_len-count.ensures);
      came = rw none (omega arith);
      moved = rw none (moved_none c.args.pages.now c.args.pieces.now c.args.from c.requires.within);
      ready = ready_none (blocked_access (table_of c.args.pages.now)) Write c.args.pieces.now c.args.from c.args.from (omega arith);
    }

pub away_slot-requires : goal.away_slot-requires
away_slot-requires c =
    free-away (table_of c.loop-done.pages) Write c.part-next.result.addr c.part-next.result.len c.in-Err.miss c.part-next.ensures.free
    (answered_err _ c.in-Err.miss c.in-Err.ensures.answer)

pub loop-done-preserved : goal.loop-done-preserved
loop-done-preserved c =
    let less : c.loop-done.done < asked c.args.pieces.now = omega (arith, c.loop-done-test.true, c.total_len-count.ensures) in
    let next = read_piece c.args.files.now c.args.fd (c.args.at + c.loop-done.done) c.part-next.result.len in
    let came : c.read_part.result ≡ length next = c.read_part.ensures.count in
    let short : length next ≤ c.part-next.result.len = piece_short c.args.files.now c.args.fd (c.args.at + c.loop-done.done) c.part-next.result.len in
    let on = read_on c.args.files.now c.args.fd c.args.at c.args.from c.loop-done.done c.part-next.result.len c.loop-done.invariant.after in
    let table = c.loop-done.invariant.moved.keeps.table in
    let free : blocked (table_of c.args.pages.now) Write c.part-next.result.addr c.part-next.result.len ≡ None = rw table at (answered_ok _ c.in-Ok.field-0 c.in-Ok.ensures.answer) in
    let first = read_piece c.args.files.now c.args.fd (c.args.at + c.args.from) (c.loop-done.done - c.args.from) in
    record {
      after = omega (arith, c.loop-done.invariant.after);
      within = omega (arith, c.part-next.ensures.within, c.total_len-count.ensures, less, short, came);
      came = rw (came, ← on, length-append first next) (omega (arith, c.loop-done.invariant.came));
      moved = rw (came, ← on) (moved_more c.args.pages.now c.loop-done.pages c.read_part.new.pages Write c.args.pieces.now c.args.from first next c.loop-done.done c.part-next.result
          c.part-next.ensures.value c.loop-done.invariant.moved c.loop-done.invariant.came less short c.read_part.ensures.written);
      ready =
          ready_more (blocked_access (table_of c.args.pages.now)) (blocked_rest (table_of c.args.pages.now)) Write c.args.pieces.now c.args.from c.loop-done.done
          (c.loop-done.done + c.read_part.result) c.part-next.result c.part-next.ensures.value c.loop-done.invariant.ready less free (omega (arith, short, came));
    }

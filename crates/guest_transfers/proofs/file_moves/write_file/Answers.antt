use Rattle.std.proofs.Common.{◌≡◌, ◌∙◌, ◌+◌, ◌-◌, ◌≤◌, ◌<◌, ℕ, [], length, take, ap, sym, refl, arith}
use Rattle.machine_state.specs.declared.kinds.Kind.TheVariants.{Read}
use Rattle.machine_state.specs.Memory.{bytes_at}
use Rattle.guest_pages.specs.Pages.{byte_of, table_of}
use Rattle.guest_files.specs.Content.{count_below}
use Rattle.guest_files.specs.Moves.{written_at}
use Rattle.guest_transfers.specs.Moves.{blocked_access}
use Rattle.guest_transfers.specs.Pieces.{asked, bytes_between}
use Rattle.guest_transfers.proofs.Along.{length-between}
use Rattle.guest_transfers.proofs.FileLemmas.{written_nothing, written_at-append, written_front}
use Rattle.guest_transfers.proofs.PartLemmas.{between_more, take_bytes, blocked_rest, free-away, ready_more, ready_none}
use Rattle.guest_transfers.proofs.file_moves.write_file.Goals as goal

pub loop-done-init : goal.loop-done-init
loop-done-init c =
    let none : c.args.from - c.args.from ≡ 0 = omega arith in
    record {
      after = omega arith;
      within = omega (arith, c.total_len-count.ensures);
      file = c.requires.file;
      cap = refl;
      fits = rw none (omega arith);
      written = λ w. rw none (sym (written_nothing c.args.files.now c.args.fd (c.args.at + c.args.from) [] (omega arith)));
      ready = ready_none (blocked_access (table_of c.args.pages.now)) Read c.args.pieces.now c.args.from c.args.from (omega arith);
    }

pub loop-done-preserved : goal.loop-done-preserved
loop-done-preserved c =
    let less : c.loop-done.done < asked c.args.pieces.now = omega (arith, c.loop-done-test.true, c.total_len-count.ensures) in
    let cap = c.loop-done.invariant.cap in
    let shown = c.in-Ok.ensures.bytes in
    let n : c.write_front.result ≡ count_below c.args.files.now.cap (c.args.at + c.loop-done.done) (length c.in-Ok.bytes.now) = c.write_front.ensures.count ∙ rw cap refl in
    let short : c.write_front.result ≤ c.part-next.result.len = omega (arith, n, shown.len_is) in
    record {
      after = omega (arith, c.loop-done.invariant.after);
      within = omega (arith, c.part-next.ensures.within, c.total_len-count.ensures, less, short);
      file = rw c.write_front.ensures.written (record { writes = c.loop-done.invariant.file.writes; file = c.loop-done.invariant.file.file });
      cap = rw c.write_front.ensures.written cap;
      fits = omega (arith, n, c.loop-done.invariant.fits, c.loop-done.invariant.after);
      written = λ w.
          let byte = byte_of c.args.pages.now w in
          let before = bytes_between byte c.args.pieces.now c.args.from c.loop-done.done in
          let count : length before ≡ c.loop-done.done - c.args.from = length-between byte c.args.pieces.now c.args.from c.loop-done.done (omega (arith, less)) in
          let place : c.args.at + c.args.from + length before ≡ c.args.at + c.loop-done.done = omega (arith, count, c.loop-done.invariant.after) in
          let fits : count_below c.args.files.now.cap (c.args.at + c.args.from) (length before) ≡ length before = omega (arith, count, c.loop-done.invariant.fits, c.loop-done.invariant.after) in
          let some = bytes_at byte c.part-next.result.addr c.write_front.result in
          let part : take c.write_front.result c.in-Ok.bytes.now ≡ some =
          ap (take c.write_front.result) (shown.bytes w) ∙ take_bytes byte c.part-next.result.addr c.part-next.result.len c.write_front.result short in
          c.write_front.ensures.written
          ∙ sym (written_front c.loop-done.files c.args.fd (c.args.at + c.loop-done.done) c.write_front.result c.in-Ok.bytes.now (omega (arith, c.write_front.ensures.count)))
          ∙ ap (written_at c.loop-done.files c.args.fd (c.args.at + c.loop-done.done)) part
          ∙ ap (λ (at : ℕ). written_at c.loop-done.files c.args.fd at some) (sym place)
          ∙ ap (λ files. written_at files c.args.fd (c.args.at + c.args.from + length before) some) (c.loop-done.invariant.written w)
          ∙ written_at-append c.args.files.now c.args.fd (c.args.at + c.args.from) before some fits
          ∙ ap (written_at c.args.files.now c.args.fd (c.args.at + c.args.from))
          (between_more byte Read c.args.pieces.now c.args.from c.loop-done.done c.write_front.result c.part-next.result c.part-next.ensures.value c.loop-done.invariant.after less short);
      ready =
          ready_more (blocked_access (table_of c.args.pages.now)) (blocked_rest (table_of c.args.pages.now)) Read c.args.pieces.now c.args.from c.loop-done.done
          (c.loop-done.done + c.write_front.result) c.part-next.result c.part-next.ensures.value c.loop-done.invariant.ready less c.in-Ok.ensures.answer (omega (arith, short));
    }

pub away_slot-requires : goal.away_slot-requires
away_slot-requires c =
    free-away (table_of c.args.pages.now) Read c.part-next.result.addr c.part-next.result.len c.in-Err.miss c.part-next.ensures.free c.in-Err.ensures.answer

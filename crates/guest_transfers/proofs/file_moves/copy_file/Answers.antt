use Rattle.std.proofs.Common.{◌≡◌, ◌∙◌, ◌+◌, ◌-◌, ◌≤◌, ◌<◌, ◌/◌, None, length, ap, sym, arith}
use Rattle.std.proofs.lemmas.List.{length-append}
use Rattle.machine_state.specs.declared.kinds.Kind.TheVariants.{Write}
use Rattle.machine_state.specs.Memory.{page_size}
use Rattle.guest_pages.specs.Pages.{table_of}
use Rattle.guest_pages.specs.Table.{away_at}
use Rattle.guest_pages.proofs.Walks.{away_at-away}
use Rattle.guest_files.specs.Moves.{read_piece}
use Rattle.guest_transfers.specs.Moves.{away_access}
use Rattle.guest_transfers.specs.Pieces.{asked, single}
use Rattle.guest_transfers.proofs.FileLemmas.{piece_longer, piece_short, read_ended, read_on}
use Rattle.guest_transfers.proofs.PartLemmas.{asked-single, away_rest, is_away, low_range, moved_more, moved_none, next_part, ready_more, ready_none, single_part}
use Rattle.guest_transfers.proofs.file_moves.copy_file.Goals as goal

pub loop-done-init : goal.loop-done-init
loop-done-init c =
    let none : c.args.from - c.args.from ≡ 0 = omega arith in
    record {
      after = omega arith;
      within = c.requires.within;
      came = rw none (omega arith);
      moved = rw none (moved_none c.args.pages.now (single c.args.addr c.args.count) c.args.from (omega (arith, c.requires.within)));
      ready = ready_none (away_access (table_of c.args.pages.now)) Write (single c.args.addr c.args.count) c.args.from c.args.from (omega arith);
    }

pub part_of-next-requires : goal.part_of-next-requires
part_of-next-requires c = record { low = low_range c.args.pages.now c.args.addr c.args.count c.limit.ensures.memory c.requires.mapped }

pub copy_part-requires-clause-mapped : goal.copy_part-requires-clause-mapped
copy_part-requires-clause-mapped c =
    let place : c.part_of-next.result.addr ≡ c.args.addr + c.loop-done.done =
    ap (λ a. a.addr) (c.part_of-next.ensures ∙ single_part Write c.args.addr c.args.count c.loop-done.done c.loop-done-test.true) in
    rw (c.loop-done.invariant.moved.keeps.table, place) (c.requires.mapped (c.args.addr + c.loop-done.done) (omega arith) (omega (arith, c.loop-done-test.true)))

pub away_slot-requires : goal.away_slot-requires
away_slot-requires c = let away = away_at-away _ c.in-Err.miss c.in-Err.ensures.away in is_away c.in-Err.miss away.0 away.1

pub returns-in-Ok-eq0-clause-reads : goal.returns-in-Ok-eq0-clause-reads
returns-in-Ok-eq0-clause-reads c =
    let count : asked (single c.args.addr c.args.count) ≡ c.args.count = asked-single c.args.addr c.args.count in
    let some = (next_part Write (single c.args.addr c.args.count) c.loop-done.done (omega (arith, c.loop-done-test.true))).some in
    let len = ap (λ a. a.len) c.part_of-next.ensures in
    let ended = read_ended c.args.files.now c.args.fd c.args.at c.args.from c.loop-done.done c.part_of-next.result.len c.args.count c.loop-done.invariant.after
    (omega (arith, c.loop-done.invariant.within)) (omega (arith, some, len)) (sym c.in-Ok-eq0.ensures.count ∙ c.in-Ok-eq0.field-0-test) in
    rw (count, ended, c.in-Ok-eq0.ensures.none c.in-Ok-eq0.field-0-test) (sym c.loop-done.invariant.came, c.loop-done.invariant.moved)

pub overflow_add-done : goal.overflow_add-done
overflow_add-done c =
    let fits = (next_part Write (single c.args.addr c.args.count) c.loop-done.done (omega (arith, c.loop-done-test.true))).within in
    let short = piece_short c.args.files.now c.args.fd (c.args.at + c.loop-done.done) c.part_of-next.result.len in
    let len = ap (λ a. a.len) c.part_of-next.ensures in
    omega (arith, fits, short, len, c.in-Ok.ensures.count, c.ranges.count.fits)

pub loop-done-preserved : goal.loop-done-preserved
loop-done-preserved c =
    let less : c.loop-done.done < asked (single c.args.addr c.args.count) = omega (arith, c.loop-done-test.true) in
    let part = c.part_of-next.result in
    let fits = (next_part Write (single c.args.addr c.args.count) c.loop-done.done less).within in
    let len = ap (λ a. a.len) c.part_of-next.ensures in
    let next = read_piece c.args.files.now c.args.fd (c.args.at + c.loop-done.done) part.len in
    let came : c.in-Ok.n ≡ length next = c.in-Ok.ensures.count in
    let short : length next ≤ part.len = piece_short c.args.files.now c.args.fd (c.args.at + c.loop-done.done) part.len in
    let some : 0 < c.in-Ok.n = omega (arith, c.in-Ok.n-test) in
    let on = read_on c.args.files.now c.args.fd c.args.at c.args.from c.loop-done.done part.len c.loop-done.invariant.after in
    let table = c.loop-done.invariant.moved.keeps.table in
    let free : away_at (table_of c.args.pages.now (part.addr / page_size)) ≡ None = rw table at (c.in-Ok.ensures.there some) in
    let first = read_piece c.args.files.now c.args.fd (c.args.at + c.args.from) (c.loop-done.done - c.args.from) in
    record {
      after = omega (arith, c.loop-done.invariant.after);
      within = omega (arith, fits, len, short, came);
      came = rw (came, ← on, length-append first next) (omega (arith, c.loop-done.invariant.came));
      moved = rw (came, ← on) (moved_more c.args.pages.now c.loop-done.pages c.copy_part.new.pages Write (single c.args.addr c.args.count) c.args.from first next c.loop-done.done part
          c.part_of-next.ensures c.loop-done.invariant.moved c.loop-done.invariant.came less short (c.in-Ok.ensures.written some));
      ready =
          ready_more (away_access (table_of c.args.pages.now)) (away_rest (table_of c.args.pages.now)) Write (single c.args.addr c.args.count) c.args.from c.loop-done.done
          (c.loop-done.done + c.in-Ok.n) part c.part_of-next.ensures c.loop-done.invariant.ready less free (omega (arith, short, came));
    }

pub returns-in-Err-clause-next : goal.returns-in-Err-clause-next
returns-in-Err-clause-next c =
    let count : asked (single c.args.addr c.args.count) ≡ c.args.count = asked-single c.args.addr c.args.count in
    let fits = (next_part Write (single c.args.addr c.args.count) c.loop-done.done (omega (arith, count, c.loop-done-test.true))).within in
    let len = ap (λ a. a.len) c.part_of-next.ensures in
    let longer = piece_longer c.args.files.now c.args.fd (c.args.at + c.loop-done.done) c.part_of-next.result.len (c.args.count - c.loop-done.done) (omega (arith, count, fits, len)) in
    omega (arith, longer, c.in-Err.ensures.some)

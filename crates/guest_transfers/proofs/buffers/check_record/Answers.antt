use Rattle.std.proofs.Common.{◌≡◌, ◌∙◌, ◌+◌, ◌-◌, ◌%◌, min, inl, ap, sym, refl, arith}
use Rattle.machine_state.specs.declared.kinds.Kind.TheVariants.{Read}
use Rattle.machine_state.specs.Memory.{page_size}
use Rattle.machine_state.proofs.MemoryLemmas.{first_miss-zero}
use Rattle.guest_pages.specs.Pages.{table_of}
use Rattle.guest_pages.specs.Table.{blocked, perms_in}
use Rattle.guest_pages.proofs.Walks.{blocked_both, first_away-zero}
use Rattle.guest_transfers.specs.Buffers.{record_size}
use Rattle.guest_transfers.proofs.PartLemmas.{answered_err, answered_ok}
use Rattle.guest_transfers.proofs.buffers.check_record.Goals as goal

pub returns-in-Err-clause-answer : goal.returns-in-Err-clause-answer
returns-in-Err-clause-answer c =
    let place : c.args.addr + 0 ≡ c.args.addr = omega arith in
    let here : min (record_size - 0) (page_size - c.args.addr % page_size) ≡ c.min-here.result = omega (arith, c.min-here.ensures) in
    record {
      skip = 0;
      within = omega arith;
      begins = inl refl;
      low = omega (arith, c.ranges.addr);
      before = rw (first_miss-zero (perms_in (table_of c.args.pages.now)) Read c.args.addr) (first_away-zero (table_of c.args.pages.now) c.args.addr);
      stopped = rw (place, here) (answered_err _ c.in-Err.miss c.in-Err.ensures.answer);
    }

pub returns-in-Ok-ready-clause-answer : goal.returns-in-Ok-ready-clause-answer
returns-in-Ok-ready-clause-answer c =
    let sum : c.min-here.result + (record_size - c.min-here.result) ≡ record_size = omega (arith, c.min-here.ensures) in
    ap (blocked (table_of c.args.pages.now) Read c.args.addr) (sym sum)
    ∙ blocked_both (table_of c.args.pages.now) Read c.args.addr c.min-here.result (record_size - c.min-here.result) (answered_ok _ c.in-Ok.field-0 c.in-Ok.ensures.answer)
    (answered_ok _ c.in-Ok-ready.field-0 c.in-Ok-ready.ensures.answer)

use Rattle.machine_state.specs.declared.kinds.Kind.TheVariants.{Read}
use Rattle.guest_pages.proofs.Aways.{ready_away}
use Rattle.page_fixture.proofs.enter_at.Goals as goal

pub enter_zeros-requires : goal.enter_zeros-requires
enter_zeros-requires c = record {
  away = ready_away c.args.pages.now Read c.args.addr 1 c.in-Err-Away.slot c.ready.result c.ready.ensures.answer (rw c.in-Err-Away.field-0-is at c.in-Err-Away.is);
}

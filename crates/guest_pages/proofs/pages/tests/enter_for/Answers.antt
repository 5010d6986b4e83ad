use Rattle.guest_pages.proofs.Aways.{ready_away}
use Rattle.guest_pages.proofs.pages.tests.enter_for.Goals as goal

pub on_swap-on_swap-requires : goal.on_swap-on_swap-requires
on_swap-on_swap-requires c = record { away = ready_away c.args.pages.now c.args.kind c.args.addr 1 c.in-Err-Away.slot c.ready.result c.ready.ensures.answer (rw c.in-Err-Away.field-0-is at c.in-Err-Away.is) }

pub enter-requires-clause-away : goal.enter-requires-clause-away
enter-requires-clause-away c = ready_away c.args.pages.now c.args.kind c.args.addr 1 c.in-Err-Away.slot c.ready.result c.ready.ensures.answer (rw c.in-Err-Away.field-0-is at c.in-Err-Away.is)

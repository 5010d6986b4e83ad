use Rattle.guest_pages.proofs.Aways.{ready_away}
use Rattle.swap_pager.proofs.tests.reach_page.Goals as goal

pub bring-requires-clause-away : goal.bring-requires-clause-away
bring-requires-clause-away c =
    ready_away c.args.guest.now.pages c.args.kind c.args.addr c.args.len c.in-Err-Away.slot c.ready.result c.ready.ensures.answer (rw c.in-Err-Away.field-0-is at c.in-Err-Away.is)

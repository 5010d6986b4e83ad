use Rattle.guest_pages.proofs.Aways.{ready_away}
use Rattle.program_load.proofs.tests.reach.Goals as goal

pub bring-requires-clause-away : goal.bring-requires-clause-away
bring-requires-clause-away c =
    ready_away c.args.trial.now.loaded.pages _ c.args.addr 1 c.in-Err-Away.slot c.ready.result c.ready.ensures.answer (rw c.in-Err-Away.field-0-is at c.in-Err-Away.is)

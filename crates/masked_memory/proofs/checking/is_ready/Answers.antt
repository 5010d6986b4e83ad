use Rattle.guest_pages.specs.Table.{blocked}
use Rattle.guest_pages.specs.Pages.{table_of}
use Rattle.masked_memory.proofs.Free.{ready_none, part_asked}
use Rattle.masked_memory.proofs.checking.is_ready.Goals as goal

pub returns-in-Ok-clause-ready : goal.returns-in-Ok-clause-ready
returns-in-Ok-clause-ready c _ addr is =
    part_asked (table_of c.args.pages.now) c.args.kind addr c.args.width c.args.mask c.args.part.from c.args.part.len c.args.part.addr is
    (c.in-Ok.ensures.low c.requires.some)
    (ready_none (blocked (table_of c.args.pages.now) c.args.kind c.args.part.addr c.args.part.len) _ c.in-Ok.ensures.answer)

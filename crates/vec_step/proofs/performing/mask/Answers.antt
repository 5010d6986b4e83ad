use Rattle.guest_pages.specs.Pages.{table_of}
use Rattle.vec_step.specs.Plan.{source_accesses}
use Rattle.vec_step.proofs.VectorWalks.{both-free}
use Rattle.vec_step.proofs.performing.mask.Goals as goal

pub operand-first-requires-clause-ready : goal.operand-first-requires-clause-ready
operand-first-requires-clause-ready c =
    let i = c.args.i.now in (both-free (table_of c.args.pages.now) (source_accesses i.first) (source_accesses i.second) c.requires.ready).0

pub operand-second-requires-clause-ready : goal.operand-second-requires-clause-ready
operand-second-requires-clause-ready c =
    let i = c.args.i.now in (both-free (table_of c.args.pages.now) (source_accesses i.first) (source_accesses i.second) c.requires.ready).1

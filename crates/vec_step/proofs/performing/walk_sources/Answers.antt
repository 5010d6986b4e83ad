use Rattle.guest_pages.specs.Pages.{table_of}
use Rattle.vec_step.specs.Plan.{source_accesses}
use Rattle.vec_step.proofs.VectorWalks.{walk-behind, walk-before}
use Rattle.vec_step.proofs.performing.walk_sources.Goals as goal

pub returns-in-Ok : goal.returns-in-Ok
returns-in-Ok c =
    let i = c.args.i.now in
    rw (walk-behind (table_of c.args.pages.now) (source_accesses i.first) (source_accesses i.second) c.in-Ok.ensures) c.walk_source-in-Ok.ensures

pub returns-in-Err : goal.returns-in-Err
returns-in-Err c =
    let i = c.args.i.now in
    walk-before (table_of c.args.pages.now) (source_accesses i.first) (source_accesses i.second) _ c.in-Err.ensures

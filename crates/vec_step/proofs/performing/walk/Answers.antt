use Rattle.guest_pages.specs.Pages.{table_of}
use Rattle.vec_step.specs.Plan.{vector_access, read_accesses, target_accesses}
use Rattle.vec_step.proofs.VectorWalks.{walk-behind, walk-before}
use Rattle.vec_step.proofs.performing.walk.Goals as goal

pub returns-in-Ok : goal.returns-in-Ok
unfolding vector_access
returns-in-Ok c =
    let i = c.args.i.now in
    rw (walk-behind (table_of c.args.pages.now) (read_accesses i) (target_accesses i.target) c.in-Ok.ensures) c.walk_target.ensures

pub returns-in-Err : goal.returns-in-Err
unfolding vector_access
returns-in-Err c =
    let i = c.args.i.now in
    walk-before (table_of c.args.pages.now) (read_accesses i) (target_accesses i.target) _ c.in-Err.ensures

use Rattle.std.proofs.Common.{◌≡◌, None, subst}
use Rattle.guest_pages.specs.Pages.{table_of}
use Rattle.guest_pages.specs.Table.{Table}
use Rattle.guest_pages.specs.Walk.{walk}
use Rattle.vec_step.specs.declared.kinds.Target.{Target}
use Rattle.vec_step.specs.declared.kinds.VectorPlan.{VectorPlan}
use Rattle.vec_step.specs.Plan.{vector_access, read_accesses, target_accesses}
use Rattle.vec_step.proofs.VectorWalks.{both-free}
use Rattle.vec_step.proofs.performing.perform.Goals as goal

-- what is read can be, and what is written
read-free : (table : Table) (i : VectorPlan) → walk table (vector_access i) ≡ None → walk table (read_accesses i) ≡ None
unfolding vector_access
read-free table i ready = (both-free table (read_accesses i) (target_accesses i.target) ready).0

written-free : (table : Table) (i : VectorPlan) → walk table (vector_access i) ≡ None → walk table (target_accesses i.target) ≡ None
unfolding vector_access
written-free table i ready = (both-free table (read_accesses i) (target_accesses i.target) ready).1

pub value-value-requires-clause-ready : goal.value-value-requires-clause-ready
value-value-requires-clause-ready c = read-free (table_of c.args.pages.now) c.args.i.now c.requires.ready

pub value-value-requires-in-Memory-clause-ready : goal.value-value-requires-in-Memory-clause-ready
value-value-requires-in-Memory-clause-ready c = read-free (table_of c.args.pages.now) c.args.i.now c.requires.ready

pub mask-mask-requires-clause-ready : goal.mask-mask-requires-clause-ready
mask-mask-requires-clause-ready c = read-free (table_of c.args.pages.now) c.args.i.now c.requires.ready

pub number_for-number-requires-clause-ready : goal.number_for-number-requires-clause-ready
number_for-number-requires-clause-ready c = read-free (table_of c.args.pages.now) c.args.i.now c.requires.ready

pub mask-requires-clause-ready : goal.mask-requires-clause-ready
mask-requires-clause-ready c = read-free (table_of c.args.pages.now) c.args.i.now c.requires.ready

pub store_ready-requires-clause-ready : goal.store_ready-requires-clause-ready
store_ready-requires-clause-ready c =
    let table = table_of c.args.pages.now in
    subst (λ (t : Target). walk table (target_accesses t) ≡ None) c.in-Memory.is (written-free table c.args.i.now c.requires.ready)

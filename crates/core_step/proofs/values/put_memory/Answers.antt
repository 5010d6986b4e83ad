use Rattle.std.proofs.Common.{◌≡◌, None, Some, subst}
use Rattle.guest_pages.specs.Pages.{table_of}
use Rattle.guest_pages.specs.Walk.{walk}
use Rattle.machine_state.specs.declared.kinds.Kind.TheVariants.{Write}
use Rattle.core_step.specs.declared.kinds.Operand.{Operand}
use Rattle.core_step.specs.Access.{operand_access}
use Rattle.core_step.proofs.Walks.{free-memory}
use Rattle.core_step.proofs.values.put_memory.Goals as goal

pub store-requires-clause-ready : goal.store-requires-clause-ready
store-requires-clause-ready c =
    let P : Operand → Type 0 = λ o. walk (table_of c.args.pages.now) (operand_access Write o c.args.size) ≡ None in
    rw c.bytes.ensures.value
    (free-memory _ _ _ _ (subst P c.in-Memory-Some.is-0 (c.requires (λ e. let none : Some c.in-Memory-Some.number ≡ None = cc in cc))))

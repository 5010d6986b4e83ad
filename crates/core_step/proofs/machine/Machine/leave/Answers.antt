use Rattle.std.proofs.Common.{◌≡◌, None, ◌∙◌, subst}
use Rattle.guest_pages.specs.Pages.{table_of}
use Rattle.guest_pages.specs.Walk.{walk}
use Rattle.machine_state.specs.declared.kinds.Kind.{Kind}
use Rattle.core_step.specs.Access.{operand_access}
use Rattle.core_step.specs.Plain.{number_for}
use Rattle.core_step.proofs.Walks.{both-free, written-kind}
use Rattle.core_step.proofs.machine.Machine.leave.Goals as goal

pub put-requires-clause-ready : goal.put-requires-clause-ready
put-requires-clause-ready c some =
    let number : c.number_for-number.result ≡ number_for c.args.i.now.usage c.args.o.now.destination = c.number_for-number.ensures in
    let P : Kind → Type 0 = λ k. walk (table_of c.args.self.now.pages) (operand_access k c.args.i.now.destination c.args.i.now.size) ≡ None in
    subst P (written-kind c.args.i.now.usage c.args.o.now.destination (λ none. some (number ∙ none))) (both-free _ _ c.requires.ready).1

use Rattle.std.proofs.Common.{true, false, refl, sym, ap, ◌∙◌, subst}
use Rattle.guest_pages.specs.Table.{perms_in}
use Rattle.guest_pages.specs.Pages.{table_of, byte_of, memory_of}
use Rattle.guest_pages.specs.Changes.{KeepsTable}
use Rattle.core_step.specs.declared.machine.Machine.{Machine}
use Rattle.core_step.specs.declared.acted.Acted.TheVariants.{Done}
use Rattle.core_step.specs.Strings.{passed_over}
use Rattle.core_step.specs.Machine.{state_of, processor_in}
use Rattle.guest_pages.proofs.Carries.{keeps_same}
use Rattle.core_step.proofs.Steps.{left-is, left-strings, done-own}
use Rattle.core_step.proofs.machine.Machine.pass_strings.Goals as goal

-- nothing is done
pub returns-then-is_over : goal.returns-then-is_over
unfolding memory_of
returns-then-is_over c =
    let old = c.args.self.now in
    left-strings true old c.move_on.new.self Done c.args.i.now (sym c.is_over.ensures ∙ c.if-is_over.true)
    (record {
      after = λ w.
          left-is (passed_over c.args.i.now (processor_in old) (byte_of old.pages w)) (memory_of old.pages w) Done (state_of c.move_on.new.self w) refl
          (ap (λ (m : Machine). m.gprs) c.move_on.ensures) (ap (λ (m : Machine). m.flags) c.move_on.ensures)
          (ap (λ (m : Machine). m.rip) c.move_on.ensures) (ap (λ (m : Machine). m.vec) c.move_on.ensures) (ap (λ (m : Machine). m.fs) c.move_on.ensures)
          (ap (λ (m : Machine). m.gs) c.move_on.ensures) (ap (λ (m : Machine). m.steps) c.move_on.ensures)
          (ap (λ (m : Machine). perms_in (table_of m.pages)) c.move_on.ensures) (ap (λ (m : Machine). byte_of m.pages w) c.move_on.ensures);
      own = done-own;
      table = subst (λ (m : Machine). KeepsTable old.pages m.pages) (sym c.move_on.ensures) (keeps_same old.pages);
      counted = ap (λ (m : Machine). m.steps) c.move_on.ensures;
    })

-- an iteration
pub returns-else-is_over : goal.returns-else-is_over
returns-else-is_over c =
    left-strings false c.args.self.now c.repeat.new.self Done c.args.i.now (sym c.is_over.ensures ∙ c.if-is_over.false)
    (record { after = c.repeat.ensures.after; own = done-own; table = c.repeat.ensures.table; counted = c.repeat.ensures.counted })

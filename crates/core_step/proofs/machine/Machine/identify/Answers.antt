use Rattle.std.proofs.Common.{refl, ap, ◌∙◌, sym, subst}
use Rattle.guest_pages.specs.Table.{perms_in}
use Rattle.guest_pages.specs.Pages.{table_of, byte_of, memory_of}
use Rattle.guest_pages.specs.Changes.{KeepsTable}
use Rattle.core_step.specs.declared.machine.Machine.{Machine}
use Rattle.core_step.specs.declared.acted.Acted.TheVariants.{Done}
use Rattle.core_step.specs.Cpuid.{identify_effect}
use Rattle.core_step.specs.Machine.{state_of, processor_in}
use Rattle.guest_pages.proofs.Carries.{keeps_same}
use Rattle.core_step.proofs.Steps.{left-is, done-own}
use Rattle.core_step.proofs.machine.Machine.identify.Goals as goal

pub returns : goal.returns
unfolding memory_of
returns c =
    let old = c.args.self.now in
    record {
      after = λ w.
          left-is (identify_effect c.args.i.now (processor_in old) (byte_of old.pages w)) (memory_of old.pages w) Done (state_of c.move_on.new.self w) refl
          (ap (λ (m : Machine). m.gprs) c.move_on.ensures ∙ c.identify.ensures)
          (ap (λ (m : Machine). m.flags) c.move_on.ensures)
          (ap (λ (m : Machine). m.rip) c.move_on.ensures)
          (ap (λ (m : Machine). m.vec) c.move_on.ensures)
          (ap (λ (m : Machine). m.fs) c.move_on.ensures) (ap (λ (m : Machine). m.gs) c.move_on.ensures)
          (ap (λ (m : Machine). m.steps) c.move_on.ensures)
          (ap (λ (m : Machine). perms_in (table_of m.pages)) c.move_on.ensures)
          (ap (λ (m : Machine). byte_of m.pages w) c.move_on.ensures);
      own = done-own;
      table = subst (λ (m : Machine). KeepsTable old.pages m.pages) (sym c.move_on.ensures) (keeps_same old.pages);
      counted = ap (λ (m : Machine). m.steps) c.move_on.ensures;
    }

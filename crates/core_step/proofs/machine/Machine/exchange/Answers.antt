use Rattle.std.proofs.Common.{ℕ, Bool, refl, ap, ◌∙◌, sym, subst}
use Rattle.guest_pages.specs.Table.{perms_in}
use Rattle.guest_pages.specs.Pages.{table_of, byte_of, memory_of}
use Rattle.guest_pages.specs.Changes.{KeepsTable}
use Rattle.core_step.specs.declared.machine.Machine.{Machine}
use Rattle.core_step.specs.declared.acted.Acted.TheVariants.{Done}
use Rattle.core_step.specs.Effect.{left_by}
use Rattle.core_step.specs.Pair.{exchanged}
use Rattle.core_step.specs.Machine.{state_of, processor_in}
use Rattle.core_step.proofs.Steps.{left-is, done-own}
use Rattle.core_step.proofs.machine.Machine.exchange.Goals as goal

pub returns : goal.returns
unfolding memory_of
returns c =
    let old = c.args.self.now in
    let p = processor_in old in
    record {
      after = λ w.
          left-is (exchanged c.args.i.now c.load-found.result p (byte_of old.pages w)) (memory_of old.pages w) Done (state_of c.move_on.new.self w) refl
          (ap (λ (m : Machine). m.gprs) c.move_on.ensures ∙ c.exchange_registers.ensures)
          (ap (λ (m : Machine). m.flags) c.move_on.ensures ∙ ap (λ (b : Bool). record old.flags { zf = b }) c.is_equal-equal.ensures)
          (ap (λ (m : Machine). m.rip) c.move_on.ensures) (ap (λ (m : Machine). m.vec) c.move_on.ensures) (ap (λ (m : Machine). m.fs) c.move_on.ensures)
          (ap (λ (m : Machine). m.gs) c.move_on.ensures) (ap (λ (m : Machine). m.steps) c.move_on.ensures)
          (ap (λ (m : Machine). perms_in (table_of m.pages)) c.move_on.ensures ∙ ap perms_in c.exchange_memory.ensures.table.table)
          (ap (λ (m : Machine). byte_of m.pages w) c.move_on.ensures ∙ c.exchange_memory.ensures.byte w)
          ∙ ap (λ (found : ℕ). left_by (exchanged c.args.i.now found p (byte_of old.pages w)) (memory_of old.pages w)) (c.load-found.ensures w);
      own = done-own;
      table = subst (λ (m : Machine). KeepsTable old.pages m.pages) (sym c.move_on.ensures) c.exchange_memory.ensures.table;
      counted = ap (λ (m : Machine). m.steps) c.move_on.ensures;
    }

use Rattle.std.proofs.Common.{◌≡◌, refl, ap, ◌∙◌}
use Rattle.guest_pages.specs.Table.{perms_in}
use Rattle.guest_pages.specs.Pages.{byte_of, memory_of}
use Rattle.core_step.specs.declared.kinds.Outcome.{Outcome}
use Rattle.core_step.specs.Effect.{left_by}
use Rattle.core_step.specs.Plain.{old_value, value_of, register_value, effect_by, outcome_in}
use Rattle.core_step.specs.Result.{outcome_of}
use Rattle.core_step.specs.Machine.{state_of, processor_in}
use Rattle.core_step.proofs.Steps.{left-is, outcome-own}
use Rattle.core_step.proofs.machine.Machine.complete.Goals as goal

pub leave-requires-clause-ready : goal.leave-requires-clause-ready
leave-requires-clause-ready c = c.requires.taken.ready

pub returns : goal.returns
unfolding memory_of
returns c =
    let old = c.args.self.now in
    let p = processor_in old in
    let i = c.args.i.now in
    let taken = c.args.taken in
    let o = c.outcome-outcome.result in
    record {
      after = λ w.
          let a : taken.destination ≡ old_value i.usage i.destination i.size p (byte_of old.pages w) = c.requires.taken.destination.value w in
          let b : taken.source ≡ value_of i.source i.source_size p (byte_of old.pages w) = c.requires.taken.source.value w in
          let beside : c.beside_value-beside.result ≡ register_value i.beside i.beside_size p = c.beside_value-beside.ensures.value in
          let same : o ≡ outcome_in i p (byte_of old.pages w) =
          c.outcome-outcome.ensures.outcome ∙ (λ k. outcome_of i (a k) (b k) (beside k) old.flags old.steps) in
          left-is (effect_by i o p (byte_of old.pages w)) (memory_of old.pages w) o.acted (state_of c.leave.new.self w) refl c.leave.ensures.gprs
          c.leave.ensures.flags c.leave.ensures.rip c.leave.ensures.extended c.leave.ensures.fs c.leave.ensures.gs c.leave.ensures.steps
          (ap perms_in c.leave.ensures.pages.table) (c.leave.ensures.byte w)
          ∙ ap (λ (x : Outcome). left_by (effect_by i x p (byte_of old.pages w)) (memory_of old.pages w)) same;
      own = outcome-own o.acted o old.flags c.outcome-outcome.ensures.fits;
      table = c.leave.ensures.pages;
      counted = c.leave.ensures.steps;
    }

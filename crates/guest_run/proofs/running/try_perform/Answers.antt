use Rattle.std.proofs.Common.{sym, subst}
use Rattle.core_step.specs.declared.machine.Machine.{Machine}
use Rattle.guest_run.specs.declared.guest.Phase.{Phase}
use Rattle.guest_run.specs.declared.guest.Phase.TheVariants.{Answer}
use Rattle.guest_run.specs.Guests.{PhaseFits}
use Rattle.guest_run.proofs.TryLemmas.{tries-then}
use Rattle.guest_pages.specs.Order.{IsAwayIn}
use Rattle.guest_run.specs.Units.{no_swap}
use Rattle.guest_run.proofs.StepLemmas.{in_phase}
use Rattle.guest_run.proofs.UnitLemmas.{needed-away, perform-waits}
use Rattle.guest_run.proofs.LeftLemmas.{nearer-low, perform-high}
use Rattle.guest_run.proofs.PerformLemmas.{call-tries, needs-nearer, needs-tries, performed-tries, trapped-tries, with_machine, within-call}
use Rattle.guest_run.proofs.running.try_perform.Goals as goal

pub bring-requires-clause-away : goal.bring-requires-clause-away
bring-requires-clause-away g c =
    let same = c.perform.ensures.waits c.in-Need.slot c.in-Need.is in
    subst (λ (m : Machine). IsAwayIn m.pages c.in-Need.slot) (sym same)
    (needed-away c.args.guest.now.machine.pages _ c.in-Need.slot ((c.perform.ensures.need no_swap c.in-Need.slot).0 c.in-Need.is))

pub try_answer-requires-clause-within : goal.try_answer-requires-clause-within
try_answer-requires-clause-within g c =
    let fits = subst (λ (p : Phase). PhaseFits c.args.guest.now p) c.requires.phase c.requires.within.phase in
    within-call c.args.guest.now c.perform.new.self _ c.args.d.now c.args.len c.requires.phase c.in-Call.ensures.pages fits.0 c.requires.within.fit c.requires.within.pages

pub returns-in-Need-clause-tries : goal.returns-in-Need-clause-tries
returns-in-Need-clause-tries g c =
    needs-tries c.args.guest.now c.perform.new.self c.bring.new.guest c.in-Need.slot _ _ _ _ _ _ _ _ _ _ _ _ c.requires.within c.bring.ensures.grows
    (c.perform.ensures.waits c.in-Need.slot c.in-Need.is) _ c.bring.ensures.brings
    (perform-waits c.args.guest.now c.in-Need.slot c.args.d.now c.args.len c.requires.phase (c.perform.ensures.few no_swap)
    ((c.perform.ensures.need no_swap c.in-Need.slot).0 c.in-Need.is))

pub returns-in-Need-clause-nearer : goal.returns-in-Need-clause-nearer
returns-in-Need-clause-nearer g c =
    needs-nearer c.args.guest.now c.perform.new.self c.bring.new.guest c.in-Need.slot _ _ _ _ _ _ _ _ _ _ _ _ c.requires.within c.bring.ensures.grows
    (c.perform.ensures.waits c.in-Need.slot c.in-Need.is) _ c.bring.ensures.brings
    (perform-waits c.args.guest.now c.in-Need.slot c.args.d.now c.args.len c.requires.phase (c.perform.ensures.few no_swap)
    ((c.perform.ensures.need no_swap c.in-Need.slot).0 c.in-Need.is))

pub returns-in-Done-clause-tries : goal.returns-in-Done-clause-tries
returns-in-Done-clause-tries g c =
    let fits = subst (λ (p : Phase). PhaseFits c.args.guest.now p) c.requires.phase c.requires.within.phase in
    performed-tries c.args.guest.now c.perform.new.self _ c.args.d.now c.args.len c.requires.phase c.in-Done.ensures.pages fits.0 c.requires.within.fit c.requires.within.pages
    c.in-Done.ensures.whole c.in-Done.ensures.counted

pub returns-in-Call-clause-tries : goal.returns-in-Call-clause-tries
returns-in-Call-clause-tries g c =
    let fits = subst (λ (p : Phase). PhaseFits c.args.guest.now p) c.requires.phase c.requires.within.phase in
    tries-then c.args.guest.now (in_phase (with_machine c.args.guest.now c.perform.new.self) Answer) _ _ _ _
    (call-tries c.args.guest.now c.perform.new.self _ c.args.d.now c.args.len c.requires.phase c.in-Call.ensures.pages fits.0 c.requires.within.fit c.requires.within.pages
    c.in-Call.ensures.whole c.in-Call.ensures.counted)
    _ c.try_answer.ensures.tries

pub returns-in-Call-clause-nearer : goal.returns-in-Call-clause-nearer
returns-in-Call-clause-nearer g c =
    nearer-low c.args.guest.now _ c.try_answer.new.guest c.try_answer.result
    (perform-high c.args.guest.now c.args.d.now c.args.len c.requires.phase) c.try_answer.ensures.low c.try_answer.ensures.nearer

pub returns-in-Trap-clause-tries : goal.returns-in-Trap-clause-tries
returns-in-Trap-clause-tries g c =
    let fits = subst (λ (p : Phase). PhaseFits c.args.guest.now p) c.requires.phase c.requires.within.phase in
    rw (c.kill.ensures.guest, c.kill.ensures.done)
    (trapped-tries c.args.guest.now c.perform.new.self _ c.args.d.now c.args.len c.requires.phase c.in-Trap.ensures.pages fits.0 c.requires.within.fit c.requires.within.pages
    c.in-Trap.fault c.in-Trap.ensures.whole c.in-Trap.ensures.counted)

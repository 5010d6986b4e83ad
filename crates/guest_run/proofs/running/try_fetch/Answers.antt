use Rattle.std.proofs.Common.{refl, sym, ap, subst}
use Rattle.guest_pages.specs.Order.{IsAwayIn}
use Rattle.core_step.specs.declared.machine.Machine.{Machine}
use Rattle.core_step.specs.declared.prepared.Kept.{Kept}
use Rattle.core_step.specs.Fetch.{IsFetched}
use Rattle.core_step.specs.Kept.{fetched_of}
use Rattle.core_step.specs.Machine.{state_of}
use Rattle.guest_run.specs.declared.guest.Phase.TheVariants.{Perform}
use Rattle.guest_run.specs.Units.{no_swap}
use Rattle.guest_run.proofs.TryLemmas.{tries-then}
use Rattle.guest_run.proofs.StepLemmas.{cached, in_phase}
use Rattle.guest_run.proofs.UnitLemmas.{fetch-away, fetch-waits, needed-away, perform-waits}
use Rattle.guest_run.proofs.LeftLemmas.{fetch-above, nearer-low}
use Rattle.guest_run.proofs.FetchedLemmas.{fetch_fault-tries, fetch_needs-nearer, fetch_needs-tries, fetched_begun, fetched_call-tries, fetched_call-within, fetched_done-tries, fetched_needs-nearer, fetched_needs-tries, fetched_trap-tries, kept-fetched, kept-fits}
use Rattle.guest_run.proofs.running.try_fetch.Goals as goal

pub try_answer-requires-clause-within : goal.try_answer-requires-clause-within
try_answer-requires-clause-within g c =
    fetched_call-within c.args.guest.now _ c.perform_prepared.new.self _ c.in-Instr.instruction.decoded c.in-Instr.instruction.len c.requires.phase c.requires.within
    (kept-fetched _ _ _ c.in-Instr.is c.fetch_by.ensures.whole) (kept-fits _ _ c.in-Instr.is c.fetch_by.ensures.fits) c.perform_prepared.ensures.pages

pub bring-requires-clause-away : goal.bring-requires-clause-away
bring-requires-clause-away g c =
    let same = c.perform_prepared.ensures.waits c.in-Need-perform_prepared.slot c.in-Need-perform_prepared.is in
    subst (λ (m : Machine). IsAwayIn m.pages c.in-Need-perform_prepared.slot) (sym same)
    (needed-away c.args.guest.now.machine.pages _ c.in-Need-perform_prepared.slot
    ((c.perform_prepared.ensures.need no_swap c.in-Need-perform_prepared.slot).0 c.in-Need-perform_prepared.is))

pub bring-requires-in-Need-clause-away : goal.bring-requires-in-Need-clause-away
bring-requires-in-Need-clause-away g c =
    fetch-away c.args.guest.now.machine.pages _ c.args.guest.now.machine.rip c.in-Need.slot ((c.fetch_by.ensures.need no_swap c.in-Need.slot).0 (ap fetched_of c.in-Need.is))

pub returns-in-Need-perform_prepared-clause-tries : goal.returns-in-Need-perform_prepared-clause-tries
returns-in-Need-perform_prepared-clause-tries g c =
    let begun = fetched_begun c.args.guest.now _ c.perform_prepared.new.self _ c.in-Instr.instruction.decoded c.in-Instr.instruction.len c.requires.phase c.requires.within
    (kept-fetched _ _ _ c.in-Instr.is c.fetch_by.ensures.whole) (kept-fits _ _ c.in-Instr.is c.fetch_by.ensures.fits) c.perform_prepared.ensures.pages in
    fetched_needs-tries c.args.guest.now _ c.perform_prepared.new.self c.bring.new.guest c.in-Need-perform_prepared.slot _ _ _ _ _ _ _ _ _ _ _ _
    c.in-Instr.instruction.decoded c.in-Instr.instruction.len begun c.bring.ensures.grows
    (c.perform_prepared.ensures.waits c.in-Need-perform_prepared.slot c.in-Need-perform_prepared.is) _ c.bring.ensures.brings
    (perform-waits (in_phase (cached c.args.guest.now _) (Perform c.in-Instr.instruction.decoded c.in-Instr.instruction.len)) c.in-Need-perform_prepared.slot
    c.in-Instr.instruction.decoded c.in-Instr.instruction.len refl (c.perform_prepared.ensures.few no_swap)
    ((c.perform_prepared.ensures.need no_swap c.in-Need-perform_prepared.slot).0 c.in-Need-perform_prepared.is))

pub returns-in-Need-perform_prepared-clause-nearer : goal.returns-in-Need-perform_prepared-clause-nearer
returns-in-Need-perform_prepared-clause-nearer g c =
    let d = c.in-Instr.instruction.decoded in
    let len = c.in-Instr.instruction.len in
    let slot = c.in-Need-perform_prepared.slot in
    let begun = fetched_begun c.args.guest.now _ c.perform_prepared.new.self _ d len c.requires.phase c.requires.within
    (kept-fetched _ _ _ c.in-Instr.is c.fetch_by.ensures.whole) (kept-fits _ _ c.in-Instr.is c.fetch_by.ensures.fits) c.perform_prepared.ensures.pages in
    fetched_needs-nearer c.args.guest.now _ c.perform_prepared.new.self c.bring.new.guest slot _ _ _ _ _ _ _ _ _ _ _ _
    d len begun c.bring.ensures.grows
    (c.perform_prepared.ensures.waits slot c.in-Need-perform_prepared.is) _ c.bring.ensures.brings c.requires.phase
    (perform-waits (in_phase (cached c.args.guest.now _) (Perform d len)) slot d len refl (c.perform_prepared.ensures.few no_swap)
    ((c.perform_prepared.ensures.need no_swap slot).0 c.in-Need-perform_prepared.is))

pub returns-in-Done-clause-tries : goal.returns-in-Done-clause-tries
returns-in-Done-clause-tries g c =
    fetched_done-tries c.args.guest.now _ c.perform_prepared.new.self _ c.in-Instr.instruction.decoded c.in-Instr.instruction.len c.requires.phase c.requires.within
    (kept-fetched _ _ _ c.in-Instr.is c.fetch_by.ensures.whole) (kept-fits _ _ c.in-Instr.is c.fetch_by.ensures.fits) c.perform_prepared.ensures.pages c.in-Done.ensures.whole c.in-Done.ensures.counted

pub returns-in-Call-clause-tries : goal.returns-in-Call-clause-tries
returns-in-Call-clause-tries g c =
    tries-then c.args.guest.now _ _ _ _ _
    (fetched_call-tries c.args.guest.now _ c.perform_prepared.new.self _ c.in-Instr.instruction.decoded c.in-Instr.instruction.len c.requires.phase c.requires.within
    (kept-fetched _ _ _ c.in-Instr.is c.fetch_by.ensures.whole) (kept-fits _ _ c.in-Instr.is c.fetch_by.ensures.fits) c.perform_prepared.ensures.pages c.in-Call.ensures.whole c.in-Call.ensures.counted)
    _ c.try_answer.ensures.tries

pub returns-in-Call-clause-nearer : goal.returns-in-Call-clause-nearer
returns-in-Call-clause-nearer g c =
    nearer-low c.args.guest.now _ c.try_answer.new.guest c.try_answer.result (fetch-above c.args.guest.now c.requires.phase)
    c.try_answer.ensures.low c.try_answer.ensures.nearer

pub returns-in-Trap-perform_prepared-clause-tries : goal.returns-in-Trap-perform_prepared-clause-tries
returns-in-Trap-perform_prepared-clause-tries g c =
    rw (c.kill.ensures.guest, c.kill.ensures.done)
    (fetched_trap-tries c.args.guest.now _ c.perform_prepared.new.self _ c.in-Instr.instruction.decoded c.in-Instr.instruction.len c.requires.phase c.requires.within
    (kept-fetched _ _ _ c.in-Instr.is c.fetch_by.ensures.whole) (kept-fits _ _ c.in-Instr.is c.fetch_by.ensures.fits) c.perform_prepared.ensures.pages c.in-Trap-perform_prepared.fault c.in-Trap-perform_prepared.ensures.whole
    c.in-Trap-perform_prepared.ensures.counted)

pub returns-in-Trap-clause-tries : goal.returns-in-Trap-clause-tries
returns-in-Trap-clause-tries g c =
    rw (c.kill-in-Trap.ensures.guest, c.kill-in-Trap.ensures.done)
    (fetch_fault-tries c.args.guest.now _ _ c.in-Trap.fault c.requires.phase c.requires.within
    (λ swap. subst (λ (k : Kept). IsFetched (state_of c.args.guest.now.machine swap) (fetched_of k)) c.in-Trap.is (c.fetch_by.ensures.whole swap)))

pub returns-in-Need-clause-tries : goal.returns-in-Need-clause-tries
returns-in-Need-clause-tries g c =
    fetch_needs-tries c.args.guest.now _ c.bring-in-Need.new.guest c.in-Need.slot _ _ _ _ _ _ _ _ _ _ _ _ c.requires.within c.bring-in-Need.ensures.grows _
    c.bring-in-Need.ensures.brings
    (fetch-waits (cached c.args.guest.now _) c.in-Need.slot _ c.requires.phase c.fetch_by.ensures.few ((c.fetch_by.ensures.need no_swap c.in-Need.slot).0 (ap fetched_of c.in-Need.is)))

pub returns-in-Need-clause-nearer : goal.returns-in-Need-clause-nearer
returns-in-Need-clause-nearer g c =
    fetch_needs-nearer c.args.guest.now _ c.bring-in-Need.new.guest c.in-Need.slot _ _ _ _ _ _ _ _ _ _ _ _ c.requires.within c.bring-in-Need.ensures.grows _
    c.bring-in-Need.ensures.brings
    (fetch-waits (cached c.args.guest.now _) c.in-Need.slot _ c.requires.phase c.fetch_by.ensures.few ((c.fetch_by.ensures.need no_swap c.in-Need.slot).0 (ap fetched_of c.in-Need.is)))

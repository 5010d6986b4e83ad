use Rattle.std.proofs.Common.{ap, ◌∙◌}
use Rattle.guest_run.specs.declared.guest.Guest.{Guest}
use Rattle.guest_run.proofs.TryLemmas.{tries-then}
use Rattle.guest_run.proofs.StepLemmas.{brought-is_nearer, brought-tries}
use Rattle.guest_run.proofs.UnitLemmas.{answer-waits}
use Rattle.guest_run.proofs.LeftLemmas.{answer-low, answered-nearer, low-again, nearer-through}
use Rattle.guest_run.proofs.AnswerLemmas.{exit-tries, host-tries, value-tries, waiting-tries}
use Rattle.guest_run.proofs.running.try_answer.Goals as goal

pub returns-in-Need-clause-tries : goal.returns-in-Need-clause-tries
returns-in-Need-clause-tries g c =
    let waits = waiting-tries c.args.guest.now c.answer_call.new.guest _ _ _ _ _ _ _ _ _ _ _ _ _ _ _ c.requires.phase c.requires.within c.in-Need.slot c.in-Need.ensures in
    let phase = ap (λ (x : Guest). x.phase) c.in-Need.ensures.keeps ∙ c.requires.phase in
    tries-then _ _ _ _ _ _ waits _
    (brought-tries c.answer_call.new.guest c.bring.new.guest c.in-Need.slot _ _ _ _ _ _ _ _ _ _ _ _ waits.fits.0 c.bring.ensures.grows _ c.bring.ensures.brings
    (answer-waits c.answer_call.new.guest _ c.in-Need.slot phase c.in-Need.ensures.needs c.in-Need.ensures.waits))

pub returns-in-Need-clause-nearer : goal.returns-in-Need-clause-nearer
returns-in-Need-clause-nearer g c =
    let old = c.args.guest.now in
    let mid = c.answer_call.new.guest in
    let phase = ap (λ (x : Guest). x.phase) c.in-Need.ensures.keeps ∙ c.requires.phase in
    let waits = waiting-tries old mid _ _ _ _ _ _ _ _ _ _ _ _ _ _ _ c.requires.phase c.requires.within c.in-Need.slot c.in-Need.ensures in
    nearer-through old mid c.bring.new.guest c.bring.result (answered-nearer old mid c.in-Need.slot c.requires.phase phase c.in-Need.ensures.waits)
    (brought-is_nearer mid c.bring.new.guest c.in-Need.slot _ _ _ _ _ _ _ _ _ _ _ _ waits.fits.0 c.bring.ensures.grows _ c.bring.ensures.brings
    (answer-waits mid _ c.in-Need.slot phase c.in-Need.ensures.needs c.in-Need.ensures.waits))

pub returns-in-Need-clause-low : goal.returns-in-Need-clause-low
returns-in-Need-clause-low g c =
    low-again c.args.guest.now c.bring.result (answer-low c.args.guest.now c.requires.phase c.in-Need.ensures.waits.most)

pub returns-in-Value-clause-tries : goal.returns-in-Value-clause-tries
returns-in-Value-clause-tries g c =
    rw (c.complete.ensures.guest, c.complete.ensures.done)
    (value-tries c.args.guest.now c.answer_call.new.guest _ _ _ _ _ _ _ _ _ _ _ _ _ _ _ c.requires.phase c.requires.within c.in-Value.field-0 c.in-Value.ensures)

pub returns-in-Exit-clause-tries : goal.returns-in-Exit-clause-tries
returns-in-Exit-clause-tries g c =
    rw (c.complete-in-Exit.ensures.guest, c.complete-in-Exit.ensures.done)
    (exit-tries c.args.guest.now c.answer_call.new.guest _ _ _ _ _ _ _ _ _ _ _ _ _ _ _ c.requires.phase c.requires.within c.in-Exit.code c.in-Exit.ensures)

pub returns-in-Host-clause-tries : goal.returns-in-Host-clause-tries
returns-in-Host-clause-tries g c =
    host-tries c.args.guest.now c.answer_call.new.guest _ _ _ _ _ _ _ _ _ _ _ _ _ _ _ c.requires.phase c.requires.within c.in-Host.call c.in-Host.ensures

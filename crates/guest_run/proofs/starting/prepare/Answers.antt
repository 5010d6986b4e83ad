use Rattle.std.proofs.Common.{◌∙◌, ap, refl, length}
use Rattle.host_edge.specs.Causes.{Counts}
use Rattle.guest_run.specs.Tally.{Tally, tally}
use Rattle.guest_run.proofs.TryLemmas.{files-then}
use Rattle.guest_run.proofs.StartLemmas.{load-counted}
use Rattle.guest_run.proofs.starting.prepare.Goals as goal

pub returns-in-Ok-start-clause-prepared : goal.returns-in-Ok-start-clause-prepared
returns-in-Ok-start-clause-prepared g c =
    c.in-Ok-start.ensures.prepared _
    (record { bytes_are = refl; image_is = refl; stack_is = c.deref.ensures.value ∙ c.in-Ok.ensures.stack })
    (ap length c.deref.ensures.value ∙ c.in-Ok.ensures.size) refl

pub returns-in-Ok-start-clause-held : goal.returns-in-Ok-start-clause-held
returns-in-Ok-start-clause-held g c = files-then _ _ _ c.in-Ok-open_swap.ensures.held c.start.ensures.held

pub returns-in-Ok-start-clause-cause : goal.returns-in-Ok-start-clause-cause
returns-in-Ok-start-clause-cause g c =
    λ take out err. ap (λ (x : Counts). tally x take out err) c.in-Ok-start.ensures.cause ∙ c.in-Ok-open_swap.ensures.cause take out err

pub returns-in-Err-Host-clause-cause : goal.returns-in-Err-Host-clause-cause
returns-in-Err-Host-clause-cause g c = λ take out err.
    let failed = rw c.in-Err-Host.field-0-is at c.in-Err-Host.ensures.cause in
    let opened = ap (λ (x : Tally). x.host) (c.in-Ok-open_swap.ensures.cause take out err) in
    rw opened at (load-counted c.args.swap c.in-Err-Host.call _ _ failed take out err)

pub returns-clause-cause : goal.returns-clause-cause
returns-clause-cause g c = λ take out err.
    let unfailed = rw c.in-Err-Memory-start.field-0-is at c.in-Err-Memory-start.ensures.cause in
    ap (λ (x : Counts). tally x take out err) unfailed ∙ c.in-Ok-open_swap.ensures.cause take out err

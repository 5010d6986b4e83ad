use Rattle.guest_run.proofs.TryLemmas.{tries-then}
use Rattle.guest_run.proofs.GuestLemmas.{step-done, step-stopped}
use Rattle.guest_run.proofs.running.step.Goals as goal

pub tries-preserved : goal.tries-preserved
tries-preserved g c = record {
  so_far = tries-then _ _ _ _ _ _ c.tries.invariant.so_far _ (rw c.in-Ok-Again.field-0-is at c.in-Ok-Again.ensures.tries);
}

pub returns-in-Ok-Done : goal.returns-in-Ok-Done
returns-in-Ok-Done g c =
    step-done _ _ _ _ c.requires.between.phase c.in-Ok-Done.end
    (tries-then _ _ _ _ _ _ c.tries.invariant.so_far _ (rw c.in-Ok-Done.field-0-is at c.in-Ok-Done.ensures.tries))

pub returns-in-Err : goal.returns-in-Err
returns-in-Err g c =
    step-stopped _ _ _ _ c.requires.between.phase c.in-Err.call
    (tries-then _ _ _ _ _ _ c.tries.invariant.so_far _ c.in-Err.ensures.tries)

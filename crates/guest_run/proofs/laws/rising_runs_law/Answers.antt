use Rattle.guest_run.proofs.PartLemmas.{runs_then}
use Rattle.guest_run.proofs.laws.rising_runs_law.Goals as goal

pub returns : goal.returns
returns g = runs_then

use Rattle.linux_calls.proofs.UnitLemmas.{left_le}
use Rattle.linux_calls.proofs.GrowthLemmas.{rest_grows}
use Rattle.linux_calls.proofs.laws.growth_law.Goals as goal

pub returns : goal.returns
returns c = rest_grows

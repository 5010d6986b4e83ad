use Rattle.region_map.proofs.Swaps.{clean_changed, none_changed}
use Rattle.region_map.proofs.laws.swap_law.Goals as goal

pub returns-clause-clean : goal.returns-clause-clean
returns-clause-clean c = clean_changed

pub returns-clause-none : goal.returns-clause-none
returns-clause-none c = none_changed

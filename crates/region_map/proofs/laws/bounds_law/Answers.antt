use Rattle.region_map.proofs.Bounds.{changed_bounds}
use Rattle.region_map.proofs.laws.bounds_law.Goals as goal

pub returns : goal.returns
returns c = changed_bounds

use Rattle.std.proofs.Common.{refl, sym}
use Rattle.num_lanes.specs.Lane.{lane_of}
use Rattle.num_lanes.proofs.Same.{byte-below}
use Rattle.num_lanes.proofs.Joins.{joined-is, whole_lanes}
use Rattle.num_lanes.proofs.laws.lanes_law.Goals as goal

pub returns-clause-joined : goal.returns-clause-joined
returns-clause-joined c w n bytes len are = sym (joined-is w n bytes (lane_of w bytes) len (byte-below bytes are) (λ i h. refl))

pub returns-clause-whole : goal.returns-clause-whole
returns-clause-whole c = whole_lanes

use Rattle.std.proofs.Common.{◌*◌}
use Rattle.masked_memory.proofs.Copies.{AreCopiedTo}
use Rattle.masked_memory.proofs.parts.Part.copy_lanes.Given as goal

abbrev pub invariant-loop-lane : goal.invariant-loop-lane
invariant-loop-lane g l = AreCopiedTo g.row.W l.mask l.fn.self.from (l.lane * g.row.W) l.from l.initial.to l.to

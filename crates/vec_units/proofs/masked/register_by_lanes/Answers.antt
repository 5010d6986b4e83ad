use Rattle.num_lanes.proofs.Fill.{filled-none, filled-more, filled-is}
use Rattle.vec_units.proofs.masked.register_by_lanes.Goals as goal

pub loop-lane-init : goal.loop-lane-init
loop-lane-init g c = filled-none _ _

pub loop-lane-preserved : goal.loop-lane-preserved
loop-lane-preserved g c =
    filled-more g.row.W c.loop-lane.lane c.placed-value.result _ c.loop-lane.out _ c.loop-lane.invariant c.loop-lane-test.true
    c.set_lane.ensures.bytes c.placed-value.ensures.small c.placed-value.ensures.value

pub returns : goal.returns
returns g c = filled-is g.row.W c.loop-lane.lane _ c.loop-lane.out c.requires c.loop-lane-test.false c.loop-lane.invariant

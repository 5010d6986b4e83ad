use Rattle.std.proofs.Common.{◌≡◌, ◌+◌, ◌*◌, ◌/◌, ◌%◌, ◌≤◌, arith}
use Rattle.std.proofs.lemmas.Nat.{div-add-mod'}
use Rattle.num_lanes.proofs.LaneLemmas.{lane_fits}
use Rattle.std.proofs.Math.Nat.{add-mul, one-mul, zero-mul, mul-le-mul_right}
use Rattle.masked_memory.proofs.Copies.{none_copied, lane_copied, end_copied}
use Rattle.masked_memory.proofs.parts.Part.copy_lanes.Goals as goal

pub loop-lane-init : goal.loop-lane-init
loop-lane-init g c =
    let none : 0 * g.row.W ≡ 0 = zero-mul g.row.W in
    rw none (none_copied g.row.W c.args.mask c.args.self.from c.args.from.now c.args.to.now)

pub loop-lane-preserved : goal.loop-lane-preserved
loop-lane-preserved g c =
    let fits : c.loop-lane.lane * g.row.W + g.row.W ≤ c.args.self.len = lane_fits g.row.W c.loop-lane.lane c.args.self.len c.loop-lane-test.true in
    let next : c.loop-lane.lane * g.row.W + g.row.W ≡ (c.loop-lane.lane + 1) * g.row.W = omega (arith, add-mul c.loop-lane.lane 1 g.row.W, one-mul g.row.W) in
    rw next at
    (lane_copied g.row.W c.args.mask c.args.self.from c.loop-lane.lane c.args.from.now c.args.to.now c.loop-lane.to c.copy_lane.new.to c.requires.from_whole
    (omega (arith, c.requires.from_len)) (omega (arith, c.requires.to_len)) c.loop-lane.invariant c.copy_lane.ensures)

pub returns : goal.returns
returns g c =
    let parts : c.args.self.len / g.row.W * g.row.W + c.args.self.len % g.row.W ≡ c.args.self.len = div-add-mod' c.args.self.len g.row.W in
    let whole = c.requires.len_whole in
    let all : c.args.self.len / g.row.W * g.row.W ≤ c.loop-lane.lane * g.row.W = mul-le-mul_right g.row.W c.loop-lane-test.false in
    end_copied g.row.W c.args.mask c.args.self.from (c.loop-lane.lane * g.row.W) c.args.from.now c.args.to.now c.loop-lane.to
    (omega (arith, c.requires.to_len)) c.loop-lane.invariant

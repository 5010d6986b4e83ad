use Rattle.std.proofs.Common.{◌≡◌, ◌<◌, length, arith}
use Rattle.masked_memory.proofs.Places.{lanes_all, width_some}
use Rattle.masked_memory.proofs.Copies.{all_copied}
use Rattle.masked_memory.proofs.parts.Part.copy.Goals as goal

pub returns-then-not-has_lane-clause-copied : goal.returns-then-not-has_lane-clause-copied
returns-then-not-has_lane-clause-copied g c =
    let some : 0 < g.row.W = width_some g.row.W c.requires.width in
    let to_len : length c.args.to.now ≡ c.args.self.len = c.requires.to_len in
    all_copied g.row.W c.args.mask c.args.self.from c.args.from.now c.args.to.now c.copy_from_slice.new.self
    (λ k after before.
    lanes_all g.row.W c.args.mask c.args.self.from c.args.self.len some (omega arith) c.ranges.mask.fits
    (c.has_lane.ensures.none c.if-not-has_lane.true) k after (omega arith))
    c.copy_from_slice.ensures.len c.copy_from_slice.ensures.after

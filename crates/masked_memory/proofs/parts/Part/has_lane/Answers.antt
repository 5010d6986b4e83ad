use Rattle.std.proofs.lemmas.Bool.{leb-true, leb-false}
use Rattle.masked_memory.proofs.Places.{lane_found, lanes_out}
use Rattle.masked_memory.proofs.parts.Part.has_lane.Goals as goal

pub returns-clause-some : goal.returns-clause-some
returns-clause-some c found =
    lane_found c.args.width c.args.mask c.args.self.from c.args.self.len c.requires.width c.requires.some c.requires.most c.ranges.mask.fits
    (leb-true _ _ found)

pub returns-clause-none : goal.returns-clause-none
returns-clause-none c out =
    lanes_out c.args.width c.args.mask c.args.self.from c.args.self.len c.requires.width c.requires.some c.requires.most c.ranges.mask.fits
    (leb-false _ _ out)

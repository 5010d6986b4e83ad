use Rattle.opmask_unit.proofs.Halves.{halves_below, halves_or}
use Rattle.opmask_unit.proofs.combining.unpacked.Goals as goal

pub returns-clause-value : goal.returns-clause-value
returns-clause-value c =
    let joined = halves_or c.args.half c.cut.result c.cut-2.result c.requires c.cut.ensures.fits c.cut-2.ensures.fits in
    let upper = c.cut.ensures.value in
    let lower = c.cut-2.ensures.value in
    cc

pub returns-clause-fits : goal.returns-clause-fits
returns-clause-fits c =
    rw (halves_or c.args.half c.cut.result c.cut-2.result c.requires c.cut.ensures.fits c.cut-2.ensures.fits)
    (halves_below c.args.half c.cut.result c.cut-2.result c.cut.ensures.fits c.cut-2.ensures.fits)

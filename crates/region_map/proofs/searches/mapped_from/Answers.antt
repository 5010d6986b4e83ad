use Rattle.std.proofs.Common.{◌+◌, drop, get_or, arith}
use Rattle.region_map.proofs.Left.{no_region, left_at, left_below}
use Rattle.region_map.proofs.searches.mapped_from.Goals as goal

pub returns-then-from-region-clause-before : goal.returns-then-from-region-clause-before
returns-then-from-region-clause-before c page low high =
    let regions = c.args.regions.now in
    let i = c.loop-region.region-index in
    left_below regions (drop (i + 1) regions) (get_or regions i no_region) c.args.from page
    (left_at regions i c.args.from (omega arith) c.loop-region.invariant) low (omega arith)

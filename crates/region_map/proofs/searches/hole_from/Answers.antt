use Rattle.std.proofs.Common.{◌+◌, drop, get_or, arith}
use Rattle.region_map.proofs.Left.{no_region, left_at, left_below}
use Rattle.region_map.proofs.searches.hole_from.Goals as goal

pub returns-then-at-region-clause-hole : goal.returns-then-at-region-clause-hole
returns-then-at-region-clause-hole c =
    let regions = c.args.regions.now in
    let i = c.loop-region.region-index in
    left_below regions (drop (i + 1) regions) (get_or regions i no_region) c.loop-region.at c.loop-region.at
    (left_at regions i c.loop-region.at (omega arith) c.loop-region.invariant.left) (omega arith) (omega arith)

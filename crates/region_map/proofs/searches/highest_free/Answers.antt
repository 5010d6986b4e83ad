use Rattle.std.proofs.Math.ListN.{drop_of_length-le}
use Rattle.std.proofs.Common.{◌≡◌, ◌+◌, [], List, min, max, drop, get_or, subst, arith}
use Rattle.machine_state.specs.declared.kinds.Region.{Region}
use Rattle.machine_state.specs.Regions.{end_of}
use Rattle.region_map.proofs.Left.{no_region, AreLeft, left_at, left_one, best_next, best_last, reached_next}
use Rattle.region_map.proofs.searches.highest_free.Goals as goal

pub loop-region-preserved : goal.loop-region-preserved
loop-region-preserved c =
    let xs = c.args.regions.now in
    let i = c.loop-region.region-index in
    let low = c.loop-region.low in
    let x = get_or xs i no_region in
    let rest = drop (i + 1) xs in
    let left = left_at xs i low (omega arith) c.loop-region.invariant.left in
    let next : c.max-low.result ≡ max low (end_of x) = omega arith in
    let top : c.min.result ≡ min x.first c.args.end = omega arith in
    let best = best_next xs rest x low c.args.end c.args.count c.loop-region.found left c.loop-region.invariant.reached c.requires.some c.loop-region.invariant.best in
    record {
      left = left_one xs rest x low c.max-low.result left (omega arith) (omega arith);
      reached = rw next (reached_next xs rest x low left c.loop-region.invariant.reached);
      best = rw next (rw (c.later-found.ensures, top) best);
    }

pub returns : goal.returns
returns c =
    let xs = c.args.regions.now in
    let low = c.loop-region.low in
    let left : AreLeft xs [] low =
    subst (λ (ys : List Region). AreLeft xs ys low) (drop_of_length-le xs c.loop-region-test.false) c.loop-region.invariant.left in
    let best = best_last xs low c.args.end c.args.count c.loop-region.found left c.loop-region.invariant.reached c.requires.some c.loop-region.invariant.best in
    rw c.later.ensures best.highest

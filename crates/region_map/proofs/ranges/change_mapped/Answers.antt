use Rattle.std.proofs.Common.{◌+◌, ◌<◌, length, drop, subst}
use Rattle.machine_state.specs.Regions.{AreRegions}
use Rattle.region_map.proofs.Left.{drop_here}
use Rattle.region_map.proofs.Covers.{cover_next, cover_none, cover_can}
use Rattle.region_map.proofs.ranges.change_mapped.Goals as goal
use Rattle.region_map.proofs.ranges.change_mapped.Goals.{in-Some, in-None}

pub change_pages-requires-clause-can : goal.change_pages-requires-clause-can
change_pages-requires-clause-can c =
    cover_can c.args.change c.args.from c.args.to c.loop-region.region-index c.in-Some.part.first (c.in-Some.part.first + c.in-Some.part.count) c.args.regions.now
    c.args.pages.now c.loop-region.pages c.requires.none c.loop-region-test.true c.in-Some.ensures.span.0 c.in-Some.ensures.span.2 c.requires.mapped c.loop-region.invariant.changed

pub loop-region-preserved : goal.loop-region-preserved
loop-region-preserved c =
    let xs = c.args.regions.now in
    let i = c.loop-region.region-index in
    let lt : i < length xs = c.loop-region-test.true in
    let left : AreRegions (drop (i + 1) xs) = (subst AreRegions (drop_here xs i lt) c.loop-region.invariant.left).4 in
    elim c.match-part.branch [
      | in-Some w ↦
          let next = cover_next c.args.change c.args.from c.args.to i w.in-Some.part.first (w.in-Some.part.first + w.in-Some.part.count) xs c.args.pages.now c.loop-region.pages
          w.change_pages.new.pages lt w.in-Some.ensures.span.0 w.in-Some.ensures.span.2 c.loop-region.invariant.changed w.change_pages.ensures.changed in
          record {
            left = left;
            changed = rw w.pages-is next;
            tallied = rw w.pages-is (λ t. w.change_pages.ensures.tallied (c.loop-region.invariant.tallied t));
          }
      | in-None w ↦
          record {
            left = left;
            changed = rw w.pages-is (cover_none c.args.change c.args.from c.args.to i xs c.args.pages.now c.loop-region.pages lt w.in-None.ensures.span c.loop-region.invariant.changed);
            tallied = rw w.pages-is c.loop-region.invariant.tallied;
          }
    ]

use Rattle.std.proofs.Common.{arith}
use Rattle.region_map.proofs.Paging.{can_next, change_next}
use Rattle.region_map.proofs.ranges.change_pages.Goals as goal

pub change_page-requires-clause-can : goal.change_page-requires-clause-can
change_page-requires-clause-can c =
    can_next c.args.change c.args.from c.args.to c.loop-page.page c.args.pages.now c.loop-page.pages (omega arith) (omega arith) c.requires.low c.requires.can
    c.loop-page.invariant.changed c.loop-page.invariant.tallied

pub loop-page-preserved : goal.loop-page-preserved
loop-page-preserved c = record {
  changed = change_next c.args.change c.args.from c.loop-page.page c.args.pages.now c.loop-page.pages c.change_page.new.pages (omega arith) c.loop-page.invariant.changed c.change_page.ensures.changed;
  tallied = λ t. c.change_page.ensures.tallied (c.loop-page.invariant.tallied t);
}

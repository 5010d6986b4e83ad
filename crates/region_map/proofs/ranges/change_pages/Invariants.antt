use Rattle.region_map.specs.Ranges.{is_in}
use Rattle.region_map.specs.Changes.{AreChanged}
use Rattle.region_map.specs.Lists.{AreTallied}
use Rattle.region_map.proofs.ranges.change_pages.Given as goal

abbrev pub invariant-loop-page : goal.invariant-loop-page
invariant-loop-page l = record {
  changed : AreChanged l.change (is_in l.from l.page) l.fn.pages l.pages;
  tallied : AreTallied l.fn.pages → AreTallied l.pages;
}

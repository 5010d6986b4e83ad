use Rattle.std.proofs.Common.{sym, subst}
use Rattle.region_map.specs.Lists.{MapsNone}
use Rattle.region_map.proofs.Covers.{cover_all}
use Rattle.region_map.proofs.ranges.change_range.Goals as goal

pub returns-in-Unmap-clause-changed : goal.returns-in-Unmap-clause-changed
returns-in-Unmap-clause-changed c =
    cover_all c.args.change c.args.from c.args.to c.args.regions.now c.args.pages.now c.change_mapped.new.pages (subst MapsNone (sym c.in-Unmap.is) tt) c.requires.fit c.change_mapped.ensures.changed

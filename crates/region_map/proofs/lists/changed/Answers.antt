use Rattle.region_map.proofs.Ascents.{regions_short}
use Rattle.region_map.proofs.After.{is_after}
use Rattle.region_map.proofs.lists.changed.Goals as goal

pub fill-requires-clause-short : goal.fill-requires-clause-short
fill-requires-clause-short c = regions_short c.args.regions.now c.requires.listed

pub returns-in-Ok : goal.returns-in-Ok
returns-in-Ok c = is_after c.args.change c.args.from c.args.to c.args.regions.now _ c.requires.listed c.requires.range c.requires.may c.in-Ok.ensures.ok

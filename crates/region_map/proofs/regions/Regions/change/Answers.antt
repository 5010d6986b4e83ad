use Rattle.region_map.proofs.Fits.{room_for, fit_after}
use Rattle.region_map.proofs.regions.Regions.change.Goals as goal

pub change_range-requires-clause-room : goal.change_range-requires-clause-room
change_range-requires-clause-room c =
    room_for c.args.change c.args.from c.args.to c.args.pages.now c.args.self.now.regions c.in_ok-list.list.items c.requires.fit c.in_ok-list.ensures.0 c.in_ok-list.ensures.2

pub returns-clause-fit : goal.returns-clause-fit
returns-clause-fit c =
    fit_after c.args.change c.args.from c.args.to c.args.pages.now c.change_range.new.pages c.args.self.now.regions c.in_ok-list.list.items c.requires.fit c.in_ok-list.ensures.0
    c.in_ok-list.ensures.1 c.change_range.ensures.changed c.change_range.ensures.tallied

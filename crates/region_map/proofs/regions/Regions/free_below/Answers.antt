use Rattle.std.proofs.Common.{◌≡◌, ◌/◌, min, arith}
use Rattle.machine_state.specs.Memory.{page_size}
use Rattle.region_map.specs.Calls.{highest_end}
use Rattle.region_map.proofs.Left.{span_below, highest_below, none_below}
use Rattle.region_map.proofs.regions.Regions.free_below.Goals as goal

pub returns-in-Some : goal.returns-in-Some
returns-in-Some c =
    let end : c.min-end.result ≡ min (c.args.top / page_size) highest_end = omega arith in
    let xs = c.deref.result.now in
    let found = c.in-Some.ensures in
    rw (← c.self.view_is) (rw (← c.deref.ensures.0) (
      span_below xs c.args.top c.min-end.result c.args.count c.in-Some.first end found.0,
      highest_below xs c.args.top c.min-end.result c.args.count c.in-Some.first end found.1,
    ))

pub returns-in-None : goal.returns-in-None
returns-in-None c =
    let end : c.min-end.result ≡ min (c.args.top / page_size) highest_end = omega arith in
    rw (← c.self.view_is) (rw (← c.deref.ensures.0) (none_below c.deref.result.now c.args.top c.min-end.result c.args.count end c.in-None.ensures))

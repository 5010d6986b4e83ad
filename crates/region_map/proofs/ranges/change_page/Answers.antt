use Rattle.std.proofs.Common.{◌≡◌, ◌==◌, ℕ, subst, ◌<◌, ◌*◌, ◌/◌, arith}
use Rattle.machine_state.specs.Memory.{page_size}
use Rattle.region_map.specs.declared.kinds.Change.TheVariants.{Map}
use Rattle.region_map.specs.Changes.{AreChanged}
use Rattle.region_map.specs.Ranges.{page_end}
use Rattle.region_map.proofs.Paging.{map_changes, map_tallies, unmap_tallies}
use Rattle.region_map.proofs.ranges.change_page.Goals as goal

pub returns-in-Ok-clause-tallied : goal.returns-in-Ok-clause-tallied
returns-in-Ok-clause-tallied c =
    let low : c.args.page * page_size / page_size < page_end = omega arith in
    map_tallies c.args.pages.now c.map_page.new.self (c.args.page * page_size / page_size) c.in-Map.perms.0 low c.in-Ok.ensures.ok

pub returns-in-Unmap-clause-tallied : goal.returns-in-Unmap-clause-tallied
returns-in-Unmap-clause-tallied c =
    let low : c.args.page * page_size / page_size < page_end = omega arith in
    unmap_tallies c.args.pages.now c.unmap_page.new.self (c.args.page * page_size / page_size) low c.unmap_page.ensures.unmapped

pub returns-in-Ok-clause-changed : goal.returns-in-Ok-clause-changed
returns-in-Ok-clause-changed c =
    let page_is : c.args.page * page_size / page_size ≡ c.args.page = omega arith in
    rw c.in-Map.is (subst (λ (page : ℕ). AreChanged (Map c.in-Map.perms c.in-Map.field-1) (λ other. other == page) c.args.pages.now c.map_page.new.self) page_is
    (map_changes c.args.pages.now c.map_page.new.self (c.args.page * page_size / page_size) c.in-Map.perms c.in-Map.field-1 c.in-Ok.ensures.ok))

use Rattle.std.proofs.Common.{◌≡◌, ◌<◌, List, length, map, refl, None, subst, OnOk, OnErr}
use Rattle.machine_state.specs.declared.kinds.Region.{Region}
use Rattle.machine_state.specs.Regions.{most_regions}
use Rattle.region_map.specs.Ranges.{parts, middle, page_end, changed_regions}
use Rattle.region_map.specs.Lists.{appended_all, given}
use Rattle.region_map.proofs.Joins.{appended_three, longer_one, longer_two, on_err}
use Rattle.region_map.proofs.lists.fill.Goals as goal

pub returns-in_err-append_parts-clause-full : goal.returns-in_err-append_parts-clause-full
returns-in_err-append_parts-clause-full c =
    let regions = c.args.regions.now in
    on_err _ c.from_residual.result
    (longer_one (parts 0 c.args.from regions) (middle c.args.change c.args.from c.args.to regions) (parts c.args.to page_end regions) most_regions
    (rw c.requires.empty at c.in_err-append_parts.ensures.full))

pub returns-in_err-append_middle-clause-full : goal.returns-in_err-append_middle-clause-full
returns-in_err-append_middle-clause-full c =
    let regions = c.args.regions.now in
    on_err _ c.from_residual-in_err-append_middle.result
    (longer_two (parts 0 c.args.from regions) (middle c.args.change c.args.from c.args.to regions) (parts c.args.to page_end regions) c.append_parts.new.list.items most_regions
    (rw c.requires.empty at c.in_ok-append_parts.ensures.ok) c.in_err-append_middle.ensures.full)

pub returns-clause-ok : goal.returns-clause-ok
returns-clause-ok c =
    let regions = c.args.regions.now in
    let e : appended_all c.append_middle.new.list.items (map (given None) (parts c.args.to page_end regions)) ≡ changed_regions c.args.change c.args.from c.args.to regions =
    appended_three (parts 0 c.args.from regions) (middle c.args.change c.args.from c.args.to regions) (parts c.args.to page_end regions) c.append_parts.new.list.items c.append_middle.new.list.items _
    (rw c.requires.empty at c.in_ok-append_parts.ensures.ok) c.in_ok-append_middle.ensures.ok refl in
    subst (λ (xs : List Region). OnOk c.append_parts-2.result (c.append_parts-2.new.list.items ≡ xs)) e c.append_parts-2.ensures.ok

pub returns-clause-full : goal.returns-clause-full
returns-clause-full c =
    let regions = c.args.regions.now in
    let e : appended_all c.append_middle.new.list.items (map (given None) (parts c.args.to page_end regions)) ≡ changed_regions c.args.change c.args.from c.args.to regions =
    appended_three (parts 0 c.args.from regions) (middle c.args.change c.args.from c.args.to regions) (parts c.args.to page_end regions) c.append_parts.new.list.items c.append_middle.new.list.items _
    (rw c.requires.empty at c.in_ok-append_parts.ensures.ok) c.in_ok-append_middle.ensures.ok refl in
    subst (λ (xs : List Region). OnErr c.append_parts-2.result (most_regions < length xs)) e c.append_parts-2.ensures.full

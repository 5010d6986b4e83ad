use Rattle.std.proofs.Common.{◌≡◌, List, ◌∷◌, ◌+◌, get_or, drop, length, map, ap, false, arith, add-one}
use Rattle.std.proofs.Math.Seq.{drop-cons}
use Rattle.machine_state.specs.declared.kinds.Region.{Region}
use Rattle.region_map.specs.Lists.{appended_all, given}
use Rattle.region_map.specs.Ranges.{parts}
use Rattle.region_map.proofs.Joins.{parts_longer}
use Rattle.region_map.proofs.lists.append_parts.Goals as goal

pub returns-in-Err-clause-full : goal.returns-in-Err-clause-full
returns-in-Err-clause-full c =
    let none : Region = record { first = 0; count = 0; perms = record { 0 = 0 }; file = false } in
    let i = c.loop-region.region-index in
    let done = c.loop-region.list.items in
    let here : drop i c.args.regions.now ≡ get_or c.args.regions.now i none ∷ drop (i + 1) c.args.regions.now =
    rw add-one (drop-cons c.args.regions.now i none (omega arith)) in
    let long = c.in-Err.ensures.full in
    let more = parts_longer done (given c.args.perms) c.args.from c.args.to (get_or c.args.regions.now i none) (drop (i + 1) c.args.regions.now) in
    let all = ap (length {A = Region}) c.loop-region.invariant.list in
    let same = ap (λ (xs : List Region). length (appended_all done (map (given c.args.perms) (parts c.args.from c.args.to xs)))) here in
    omega arith

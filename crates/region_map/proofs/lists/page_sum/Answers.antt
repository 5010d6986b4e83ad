use Rattle.std.proofs.Common.{◌≡◌, ◌+◌, ◌∷◌, get_or, drop, ap, false, arith, add-one}
use Rattle.std.proofs.Math.Seq.{drop-cons}
use Rattle.machine_state.specs.declared.kinds.Region.{Region}
use Rattle.machine_state.specs.Regions.{page_sum}
use Rattle.region_map.proofs.Tallies.{sum_small}
use Rattle.region_map.proofs.lists.page_sum.Goals as goal

pub overflow_add-sum : goal.overflow_add-sum
overflow_add-sum c =
    let none : Region = record { first = 0; count = 0; perms = record { 0 = 0 }; file = false } in
    let i = c.loop-region.region-index in
    let here : drop i c.args.regions.now ≡ get_or c.args.regions.now i none ∷ drop (i + 1) c.args.regions.now =
    rw add-one (drop-cons c.args.regions.now i none (omega arith)) in
    let sums : page_sum (drop i c.args.regions.now) ≡ (get_or c.args.regions.now i none).count + page_sum (drop (i + 1) c.args.regions.now) = ap page_sum here in
    let all : c.loop-region.sum + page_sum (drop i c.args.regions.now) ≡ page_sum c.args.regions.now = c.loop-region.invariant in
    let small = sum_small c.args.regions.now c.requires in
    omega arith

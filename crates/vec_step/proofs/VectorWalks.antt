-- The walk along two lists of accesses, one after the other.
use Rattle.std.proofs.Common.{◌≡◌, List, ◌++◌, Option, Some, None, ap, sym, ◌∙◌}
use Rattle.machine_state.specs.declared.kinds.Access.{Access}
use Rattle.machine_state.specs.declared.kinds.Stop.{Stop}
use Rattle.guest_pages.specs.Table.{Table}
use Rattle.guest_pages.specs.Walk.{walk}
use Rattle.guest_pages.proofs.WalkLemmas.{walk-append, stop_then, stop_then-none}

-- where the first can be made, the walk is that along the second
pub walk-behind : (table : Table) (xs ys : List Access) → walk table xs ≡ None → walk table (xs ++ ys) ≡ walk table ys
walk-behind table xs ys free = walk-append table xs ys ∙ ap (λ (s : Option Stop). stop_then s (walk table ys)) free

-- and where they can't, it stops there
pub walk-before : (table : Table) (xs ys : List Access) (stop : Stop) → walk table xs ≡ Some stop → walk table (xs ++ ys) ≡ Some stop
walk-before table xs ys stop stops = walk-append table xs ys ∙ ap (λ (s : Option Stop). stop_then s (walk table ys)) stops

-- where the walk doesn't stop, neither part does
pub both-free : (table : Table) (xs ys : List Access) → walk table (xs ++ ys) ≡ None → (walk table xs ≡ None) × (walk table ys ≡ None)
both-free table xs ys free = stop_then-none _ _ (sym (walk-append table xs ys) ∙ free)

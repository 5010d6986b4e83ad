-- Lemmas on the walk along an access list.
use Rattle.std.proofs.Common.{◌≡◌, List, [], ◌∷◌, ◌++◌, Option, Some, None, refl, ap, ◌∙◌}
use Rattle.machine_state.specs.declared.kinds.Kind.{Kind}
use Rattle.machine_state.specs.declared.kinds.Miss.{Miss}
use Rattle.machine_state.specs.declared.kinds.Access.{Access}
use Rattle.machine_state.specs.declared.kinds.Stop.{Stop}
use Rattle.guest_pages.specs.Table.{Table, blocked}
use Rattle.guest_pages.specs.Walk.{walk, stop_or}

-- one access, or another one behind it, where nothing stops the walk
stop_or-both : (kind : Kind) (miss : Option Miss) (rest : Option Stop) → stop_or kind miss rest ≡ None → (miss ≡ None) × (rest ≡ None)
stop_or-both kind None rest e = (refl, e)
stop_or-both kind (Some miss) rest e = cc

-- where the walk doesn't stop, its first access can be made
pub first-free : (table : Table) (x : Access) (xs : List Access) → walk table (x ∷ xs) ≡ None → blocked table x.kind x.addr x.len ≡ None
unfolding walk
first-free table x xs e = (stop_or-both x.kind (blocked table x.kind x.addr x.len) (walk table xs) e).0

-- ---- two lists, one after the other
abbrev pub stop_then : Option Stop → Option Stop → Option Stop
stop_then None later = later
stop_then (Some stop) later = Some stop

-- the first stop of one access and of two lists
stop_or-then : (kind : Kind) (miss : Option Miss) (first later : Option Stop)
    → stop_or kind miss (stop_then first later) ≡ stop_then (stop_or kind miss first) later
stop_or-then kind None first later = refl
stop_or-then kind (Some miss) first later = refl

-- a walk along two lists in a row
pub walk-append : (table : Table) (xs ys : List Access) → walk table (xs ++ ys) ≡ stop_then (walk table xs) (walk table ys)
unfolding walk
walk-append table [] ys = refl
walk-append table (x ∷ xs) ys =
    ap (stop_or x.kind (blocked table x.kind x.addr x.len)) (walk-append table xs ys)
    ∙ stop_or-then x.kind (blocked table x.kind x.addr x.len) (walk table xs) (walk table ys)

-- where two walks in a row don't stop, neither does
pub stop_then-none : (first later : Option Stop) → stop_then first later ≡ None → (first ≡ None) × (later ≡ None)
stop_then-none None later e = (refl, e)
stop_then-none (Some stop) later e = cc

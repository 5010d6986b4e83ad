-- The walk along an access list.
use Rattle.std.specs.Prelude.{List, [], ◌∷◌, Option, Some, None}
use Rattle.machine_state.specs.declared.kinds.Kind.{Kind}
use Rattle.machine_state.specs.declared.kinds.Miss.{Miss}
use Rattle.machine_state.specs.declared.kinds.Access.{Access}
use Rattle.machine_state.specs.declared.kinds.Stop.{Stop}
use Rattle.guest_pages.specs.Table.{Table, blocked}

-- where a walk stops: at one access, or else later
abbrev pub stop_or : Kind → Option Miss → Option Stop → Option Stop
stop_or kind (Some miss) later = Some (record { kind = kind; miss = miss })
stop_or kind None later = later

-- the first access that can't be made now: of each access permissions are looked at first and then residency
unfoldable pub walk : Table → List Access → Option Stop
walk table [] = None
walk table (access ∷ rest) = stop_or access.kind (blocked table access.kind access.addr access.len) (walk table rest)

-- What the table of the mapped pages says of an access.
use Rattle.std.specs.Prelude.{ℕ, zero, suc, ◌+◌, ◌/◌, ◌==◌, Bool, false, if◌then◌else◌, Option, Some, None, Result, Ok, Err}
use Rattle.std.specs.Option.{option_map}
use Rattle.machine_state.specs.Memory.{page_size, Permissions, first_miss, or_else}
use Rattle.machine_state.specs.declared.kinds.Kind.{Kind}
use Rattle.machine_state.specs.declared.kinds.Miss.{Miss}
use Rattle.machine_state.specs.declared.kinds.Miss.TheVariants.{Away}

-- a mapped page: its slot, its permissions, and whether it is in a frame
pub record Mapped : Type 0 where
  pub slot : ℕ
  pub perms : ℕ
  pub resident : Bool

-- the mapped pages, by page number
abbrev pub Table : Type 0
Table = ℕ → Option Mapped

-- the permissions by page
abbrev pub perms_in : Table → Permissions
perms_in table page = option_map (λ m. m.perms) (table page)

-- why a mapped page's bytes can't be had now, if they can't
abbrev pub away_at : Option Mapped → Option Miss
away_at None = None
away_at (Some m) = if m.resident then None else Some (Away m.slot)

-- the first page under an access, from its lowest address up, that isn't in a frame
unfoldable pub first_away : Table → ℕ → ℕ → Option Miss
first_away table addr zero = None
first_away table addr (suc len) = or_else (away_at (table (addr / page_size))) (first_away table (addr + 1) len)

-- what keeps an access from being made now: permissions are looked at for all its bytes before residency
abbrev pub blocked : Table → Kind → ℕ → ℕ → Option Miss
blocked table kind addr len = or_else (first_miss (perms_in table) kind addr len) (first_away table addr len)

-- the answer of a call, by what keeps its access from being made
abbrev pub answer_of : Option Miss → Result (Unit {0}) Miss
answer_of None = Ok tt
answer_of (Some miss) = Err miss

-- a table with another entry at one page
abbrev pub with_entry : Table → ℕ → Option Mapped → Table
with_entry table page entry at = if at == page then entry else table at

-- whether a page is mapped and in a frame
abbrev pub in_frame : Option Mapped → Bool
in_frame None = false
in_frame (Some mapped) = mapped.resident

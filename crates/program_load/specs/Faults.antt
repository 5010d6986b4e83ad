-- Why a program isn't loaded, told by the counts of failed calls.
use Rattle.std.specs.Prelude.{◌≡◌, Result, Ok, Err}
use Rattle.host_edge.specs.declared.outside.HostCall.{HostCall}
use Rattle.host_edge.specs.Causes.{Counts}
use Rattle.swap_pager.specs.Bringing.{IsCaused}
use Rattle.program_load.specs.declared.kinds.LoadFault.{LoadFault}
use Rattle.program_load.specs.declared.kinds.LoadFault.TheVariants.{Host, Memory}

-- a call that failed is one on the pages of the swap, its count rose, and no other changed; where none failed no count changed
abbrev pub IsSwapCaused : Result (Unit {0}) HostCall → (old new : Counts) → Type 0
IsSwapCaused result old new = IsCaused (Unit {0}) (Unit {0}) result old new

-- the same of a load, in which memory may be wanting too
abbrev pub IsLoadCaused : {T : Type 0} → Result T LoadFault → (old new : Counts) → Type 0
IsLoadCaused (Ok loaded) old new = new ≡ old
IsLoadCaused (Err (Host call)) old new = IsSwapCaused (Err call) old new
IsLoadCaused (Err Memory) old new = new ≡ old

-- Vector registers whose upper parts become 0 (SDM volume 2, VZEROUPPER and VZEROALL).
use Rattle.std.specs.Prelude.{ℕ}
use Rattle.machine_state.specs.State.{Extended}
use Rattle.num_lanes.specs.Setters.{with_cleared}
use Rattle.vec_step.specs.declared.kinds.Clearing.{Clearing}
use Rattle.vec_step.specs.declared.kinds.Clearing.TheVariants.{Upper, All}

-- the first byte that becomes 0
abbrev pub first_cleared : Clearing → ℕ
first_cleared Upper = 16
first_cleared All = 0

-- registers 0 to 15, cleared; the components that change aren't kept any more
abbrev pub clearing_left : Clearing → Extended → Extended
clearing_left clearing e = with_cleared (first_cleared clearing) 16 e

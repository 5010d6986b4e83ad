-- What holds of every vector instruction that is found.
use Rattle.std.specs.Prelude.{◌*◌, ◌<◌, ◌≤◌, IsTrue, ⊤, Option, Some, None}
use Rattle.gpr_flags.specs.Registers.{is_size}
use Rattle.vec_units.specs.Form.{FormFits}
use Rattle.vec_step.specs.declared.kinds.Span.{Span}
use Rattle.vec_step.specs.declared.kinds.Source.{Source}
use Rattle.vec_step.specs.declared.kinds.Source.TheVariants.{Register as FromRegister, General as FromGeneral, Opmask as FromOpmask, Count, Memory as FromMemory, Broadcast, Whole, Nothing}
use Rattle.vec_step.specs.declared.kinds.Target.{Target}
use Rattle.vec_step.specs.declared.kinds.Target.TheVariants.{Register as ToRegister, Memory as ToMemory, Mask as ToMask, General as ToGeneral, Flags as ToFlags, Nowhere}
use Rattle.vec_step.specs.declared.kinds.VectorPlan.{VectorPlan}

pub record SpanFits (m : Span) : Type 0 where
  pub width : IsTrue (is_size m.width)
  pub most : m.lanes * m.width ≤ 64

-- lanes in memory, if there are some
abbrev pub LanesFit : Option Span → Type 0
LanesFit None = ⊤
LanesFit (Some m) = SpanFits m

abbrev pub SourceFits : Source → Type 0
SourceFits (FromRegister n) = n < 32
SourceFits (FromGeneral n) = n < 16
SourceFits (FromOpmask n) = n < 8
SourceFits (Count n) = ⊤
SourceFits (FromMemory m) = SpanFits m
SourceFits (Broadcast m) = SpanFits m
SourceFits (Whole addr len) = len ≤ 64
SourceFits Nothing = ⊤

-- the source in memory, if there is one
abbrev pub MemoryFits : Option Source → Type 0
MemoryFits None = ⊤
MemoryFits (Some source) = SourceFits source

abbrev pub TargetFits : Target → Type 0
TargetFits (ToRegister n) = n < 32
TargetFits (ToMemory m) = SpanFits m
TargetFits (ToMask n) = n < 8
TargetFits (ToGeneral n) = n < 16
TargetFits ToFlags = ⊤
TargetFits Nowhere = ⊤

pub record PlanFits (i : VectorPlan) : Type 0 where
  pub form : FormFits i.form
  pub old : i.old < 32
  pub first : SourceFits i.first
  pub second : SourceFits i.second
  pub target : TargetFits i.target

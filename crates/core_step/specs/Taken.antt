-- What stands in the operands of an instruction on numbers whose accesses can be made.
use Rattle.std.specs.Prelude.{ℕ, ◌≡◌, ◌<◌, ◌^◌, None}
use Rattle.machine_state.specs.declared.kinds.Kind.{Kind}
use Rattle.machine_state.specs.declared.kinds.Kind.TheVariants.{Read}
use Rattle.machine_state.specs.Memory.{Swap}
use Rattle.guest_pages.specs.Pages.{table_of, byte_of}
use Rattle.guest_pages.specs.Walk.{walk}
use Rattle.core_step.specs.declared.sizes.Size.{Size}
use Rattle.core_step.specs.declared.kinds.Operand.{Operand}
use Rattle.core_step.specs.declared.kinds.Use.{Use}
use Rattle.core_step.specs.declared.kinds.Instruction.{Instruction}
use Rattle.core_step.specs.declared.machine.Machine.{Machine}
use Rattle.core_step.specs.declared.taking.Taken.{Taken}
use Rattle.core_step.specs.Size.{bits_in}
use Rattle.core_step.specs.Access.{operand_access, kind_of, accesses_of}
use Rattle.core_step.specs.Plain.{value_of, old_value}
use Rattle.core_step.specs.Machine.{processor_in}

-- an operand, accessed so, has this number
pub record IsTaken (m : Machine) (kind : Kind) (operand : Operand) (size : Size) (number : ℕ) : Type 0 where
  pub ready : walk (table_of m.pages) (operand_access kind operand size) ≡ None
  pub value : (w : Swap) → number ≡ value_of operand size (processor_in m) (byte_of m.pages w)
  pub fits : number < 2 ^ bits_in size

-- a destination has this number; where it is only written, that doesn't count
pub record IsOld (m : Machine) (usage : Use) (operand : Operand) (size : Size) (number : ℕ) : Type 0 where
  pub ready : walk (table_of m.pages) (operand_access (kind_of usage) operand size) ≡ None
  pub value : (w : Swap) → number ≡ old_value usage operand size (processor_in m) (byte_of m.pages w)
  pub fits : number < 2 ^ bits_in size

-- an instruction's source and destination have these numbers
pub record AreTaken (m : Machine) (i : Instruction) (taken : Taken) : Type 0 where
  pub ready : walk (table_of m.pages) (accesses_of i) ≡ None
  pub source : IsTaken m Read i.source i.source_size taken.source
  pub destination : IsOld m i.usage i.destination i.size taken.destination

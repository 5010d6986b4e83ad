-- What an instruction accesses, in order, and why it can't, where it can't.
use Rattle.std.specs.Prelude.{Bool, true, false, List, [], ◌∷◌, ◌++◌, Option, Some, None}
use Rattle.machine_state.specs.declared.kinds.Kind.{Kind}
use Rattle.machine_state.specs.declared.kinds.Kind.TheVariants.{Read, Write, Execute}
use Rattle.machine_state.specs.declared.kinds.Miss.{Miss}
use Rattle.machine_state.specs.declared.kinds.Miss.TheVariants.{Unmapped, Denied, NonCanonical, Away}
use Rattle.gpr_flags.specs.declared.kinds.Fault.{Fault}
use Rattle.gpr_flags.specs.declared.kinds.Fault.TheVariants.{General, Page}
use Rattle.machine_state.specs.Memory.{Permissions, first_miss}
use Rattle.core_step.specs.declared.acted.Acted.{Acted}
use Rattle.core_step.specs.declared.acted.Acted.TheVariants.{Trap, Need}
use Rattle.core_step.specs.declared.sizes.Size.{Size}
use Rattle.core_step.specs.declared.kinds.Operand.{Operand}
use Rattle.core_step.specs.declared.kinds.Operand.TheVariants.{Absent, Register, HighByte, Memory, Number, Mxcsr, Opmask}
use Rattle.core_step.specs.declared.kinds.Use.{Use}
use Rattle.core_step.specs.declared.kinds.Use.TheVariants.{Read as Reads, Write as Writes, Update}
use Rattle.core_step.specs.declared.kinds.Instruction.{Instruction}
use Rattle.machine_state.specs.declared.kinds.Access.{Access}
use Rattle.machine_state.specs.declared.kinds.Stop.{Stop}
use Rattle.core_step.specs.Size.{bytes_in}

-- the access of an operand, which is one where it is in memory
abbrev pub operand_access : Kind → Operand → Size → List Access
operand_access kind (Memory addr) size = record { kind = kind; addr = addr; len = bytes_in size } ∷ []
operand_access kind Absent size = []
operand_access kind (Register number) size = []
operand_access kind (HighByte number) size = []
operand_access kind (Number number) size = []
operand_access kind Mxcsr size = []
operand_access kind (Opmask number) size = []

-- an operand that is read and written is accessed once, by a write
abbrev pub kind_of : Use → Kind
kind_of Reads = Read
kind_of Writes = Write
kind_of Update = Write

-- the access list: the source is read first, and the destination comes last
unfoldable pub accesses_of : Instruction → List Access
accesses_of i = operand_access Read i.source i.source_size ++ operand_access (kind_of i.usage) i.destination i.size

abbrev pub is_write : Kind → Bool
is_write Write = true
is_write Read = false
is_write Execute = false

-- the fault of an access by its first byte that isn't allowed, which is never Away: #PF names it (SDM volume 3, 4.7); a byte
-- that isn't canonical is #GP, on the stack too (SDM volume 3, 6.15; the stack's is this program's own)
abbrev pub access_fault : Kind → Miss → Fault
access_fault kind (Unmapped addr) = Page addr (is_write kind) false false
access_fault kind (Denied addr) = Page addr (is_write kind) false true
access_fault kind (NonCanonical addr) = General
access_fault kind (Away slot) = General

abbrev pub fault_or : Kind → Option Miss → Option Fault → Option Fault
fault_or kind (Some miss) later = Some (access_fault kind miss)
fault_or kind None later = later

-- the fault of the first access that isn't allowed
unfoldable pub first_fault : Permissions → List Access → Option Fault
first_fault perms [] = None
first_fault perms (access ∷ rest) = fault_or access.kind (first_miss perms access.kind access.addr access.len) (first_fault perms rest)

-- ---- where pages can be away
-- the answer of an instruction whose walk along its access list stops
abbrev pub acted_by_miss : Kind → Miss → Acted
acted_by_miss kind (Away slot) = Need slot
acted_by_miss kind miss = Trap (access_fault kind miss)

abbrev pub acted_by : Stop → Acted
acted_by stop = acted_by_miss stop.kind stop.miss

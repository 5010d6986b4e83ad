-- A vector instruction with its operands found, and what it accesses.
use Rattle.std.specs.Prelude.{ℕ, ◌-◌, ◌*◌, ◌/◌, ◌%◌, ◌^◌, ◌==◌, Bool, true, false, not, ◌||◌, if◌then◌else◌, List, [], ◌∷◌, ◌++◌, Option, Some, None, slice_index}
use Rattle.machine_state.specs.declared.kinds.Kind.{Kind}
use Rattle.machine_state.specs.declared.kinds.Kind.TheVariants.{Read, Write}
use Rattle.machine_state.specs.declared.kinds.Access.{Access}
use Rattle.machine_state.specs.State.{Extended}
use Rattle.row_table.specs.declared.kinds.Row.{Row}
use Rattle.row_table.specs.declared.kinds.Fields.{Fields}
use Rattle.row_table.specs.declared.kinds.MaskKind.{MaskKind}
use Rattle.row_table.specs.declared.kinds.MaskKind.TheVariants.{NoMask, MergeZero, ToMask, Blend, Compress, Expand, Required, Signs, SignsZero, Select}
use Rattle.row_table.specs.Tuples.{element_bytes, tuple_bytes}
use Rattle.row_table.specs.declared.kinds.Spot.{Spot}
use Rattle.row_table.specs.declared.kinds.Spot.TheVariants.{Absent, Reg, Rm, Vvvv, OpcodeReg, Rax, Cl, Memory as InMemory, VectorMemory, Offset, Immediate, Relative, One, VectorReg, VectorRm, VectorVvvv, VectorImmediate, Xmm0, OpmaskReg, OpmaskRm, OpmaskVvvv}
use Rattle.row_table.specs.declared.kinds.Layout.{Layout}
use Rattle.row_table.specs.Letters.{layout_of}
use Rattle.row_table.specs.declared.operations.Op.{Op}
use Rattle.row_table.specs.declared.operations.Op.TheVariants.{Core, Gpr, Bit, String, Lane, Cross, Width, Mac, Mask as OnMasks, Vector, Gather, Xsave}
use Rattle.row_table.specs.declared.operations.VectorOp.TheVariants.{Ptest, Pmovmskb, Movmskp}
use Rattle.vec_units.specs.declared.forms.Form.{Form}
use Rattle.vec_units.specs.Form.{form_of, is_expanded, chooses, memory_width}
use Rattle.vec_units.specs.Results.{sign_mask, packed, taken_by, fed}
use Rattle.num_lanes.specs.Setters.{zmm_in}
use Rattle.masked_memory.specs.Lanes.{lane_accesses}
use Rattle.vec_step.specs.declared.kinds.Spots.{Spots}
use Rattle.vec_step.specs.declared.kinds.Places.{Places}
use Rattle.vec_step.specs.declared.kinds.Span.{Span}
use Rattle.vec_step.specs.declared.kinds.Source.{Source}
use Rattle.vec_step.specs.declared.kinds.Source.TheVariants.{Register as FromRegister, General as FromGeneral, Opmask as FromOpmask, Count, Memory as FromMemory, Broadcast, Whole, Nothing}
use Rattle.vec_step.specs.declared.kinds.Target.{Target}
use Rattle.vec_step.specs.declared.kinds.Target.TheVariants.{Register as ToRegister, Memory as ToMemory, Mask as ToMask, General as ToGeneral, Flags as ToFlags, Nowhere}
use Rattle.vec_step.specs.declared.kinds.VectorPlan.{VectorPlan}

-- ---- the places of a list of operands (SDM volume 2, 3.1.1.4)
abbrev pub is_absent : Spot → Bool
is_absent Absent = true
is_absent spot = false

abbrev pub is_immediate : Spot → Bool
is_immediate Immediate = true
is_immediate spot = false

abbrev pub is_vvvv : Spot → Bool
is_vvvv VectorVvvv = true
is_vvvv spot = false

abbrev pub is_xmm0 : Spot → Bool
is_xmm0 Xmm0 = true
is_xmm0 spot = false

abbrev pub is_register_by_immediate : Spot → Bool
is_register_by_immediate VectorImmediate = true
is_register_by_immediate spot = false

-- a list has two sources beside the destination where a third place is there that is no immediate and not the XMM0 whose signs are a
-- mask, or where the destination is in vvvv, as in shifts by an immediate; else the destination is the first source, too
abbrev pub has_two_sources : Layout → Bool
has_two_sources layout =
    is_vvvv layout.first.spot
    || not (is_absent layout.third.spot || (is_immediate layout.third.spot || is_xmm0 layout.third.spot))

unfoldable pub spots_of : Layout → Spots
spots_of layout = record {
  destination = layout.first.spot;
  first = if has_two_sources layout then layout.second.spot else layout.first.spot;
  second = if has_two_sources layout then layout.third.spot else layout.second.spot;
}

-- the number of the register in a place
unfoldable pub number_in : Spot → Places → ℕ
number_in Reg p = p.reg
number_in VectorReg p = p.reg
number_in OpmaskReg p = p.reg
number_in Vvvv p = p.vvvv
number_in VectorVvvv p = p.vvvv
number_in OpmaskVvvv p = p.vvvv
number_in Rm p = p.rm
number_in VectorRm p = p.rm
number_in OpmaskRm p = p.rm
number_in Absent p = 0
number_in OpcodeReg p = 0
number_in Rax p = 0
number_in Cl p = 0
number_in InMemory p = 0
number_in VectorMemory p = 0
number_in Offset p = 0
number_in Immediate p = 0
number_in Relative p = 0
number_in One p = 0
number_in VectorImmediate p = 0
number_in Xmm0 p = 0

-- that of a vector register, below 32, of a general register, below 16, and of an opmask, below 8
abbrev pub vector_in : Spot → Places → ℕ
vector_in spot p = number_in spot p % 32

abbrev pub general_in : Spot → Places → ℕ
general_in spot p = number_in spot p % 16

abbrev pub opmask_in : Spot → Places → ℕ
opmask_in spot p = number_in spot p % 8

-- ---- lanes in memory
-- the bytes of a row's operand in memory, of vectors of the form's length
abbrev pub memory_bytes : Row → Form → ℕ
memory_bytes row f = tuple_bytes row.tuple f.width f.len

-- the elements of a source
abbrev pub element_count : Row → Form → ℕ
element_count row f = memory_bytes row f / memory_width row

-- those of them that are read feed lanes that are masked in; all are where the mask chooses between the sources
abbrev pub element_mask : Row → Form → (mask : ℕ) → ℕ
element_mask row f mask = if chooses row.mask then 2 ^ 64 - 1 else fed (element_count row f) f.lanes mask

abbrev pub element_span : Row → Form → (mask addr : ℕ) → Span
element_span row f mask addr =
    record { addr = addr; width = memory_width row; lanes = element_count row f; mask = element_mask row f mask }

-- but VPEXPAND reads as many lanes as are masked in, one after the other
abbrev pub packed_span : Form → (mask addr : ℕ) → Span
packed_span f mask addr = record { addr = addr; width = f.width; lanes = f.lanes; mask = packed f.lanes mask }

-- the lanes in memory of a source, and of the destination
abbrev pub source_span : Row → Form → (mask addr : ℕ) → Span
source_span row f mask addr = if is_expanded row.mask then packed_span f mask addr else element_span row f mask addr

abbrev pub target_span : Form → (mask addr : ℕ) → Span
target_span f mask addr = record { addr = addr; width = f.width; lanes = f.lanes; mask = taken_by f mask }

-- ---- the mask
-- rows whose mask is the signs of a register's elements (SDM volume 2, VMASKMOV, VPMASKMOV, PBLENDVB, BLENDVPS and BLENDVPD)
abbrev pub is_by_signs : MaskKind → Bool
is_by_signs Signs = true
is_by_signs SignsZero = true
is_by_signs Select = true
is_by_signs NoMask = false
is_by_signs MergeZero = false
is_by_signs ToMask = false
is_by_signs Blend = false
is_by_signs Compress = false
is_by_signs Expand = false
is_by_signs Required = false

-- the opmask that an instruction names, or all lanes (SDM volume 1, 15.6.1)
abbrev pub opmask_or_all : Fields → List ℕ → ℕ
opmask_or_all fields k = if fields.aaa == 0 then 2 ^ 64 - 1 else slice_index k (fields.aaa % 8)

-- the register whose signs are the mask: XMM0, the one that the upper half of the immediate names, or the one in vvvv
abbrev pub sign_register : Layout → Form → Places → ℕ
sign_register layout f p =
    if is_xmm0 layout.third.spot then 0
    else if is_register_by_immediate layout.fourth.spot then f.imm / 16 else vector_in VectorVvvv p

abbrev pub mask_in : Layout → Row → Fields → Form → Places → Extended → ℕ
mask_in layout row fields f p e =
    if is_by_signs row.mask then sign_mask f (zmm_in e (sign_register layout f p)) else opmask_or_all fields e.k

-- ---- the sources
-- one element of memory for all lanes (SDM volume 2, 2.7.5); it is accessed where a lane is masked in, and always in a row that reads
-- its operand whole
abbrev pub element_of : Row → Fields → Form → (mask addr : ℕ) → Span
element_of row fields f mask addr = record {
  addr = addr;
  width = element_bytes fields.w;
  lanes = 1;
  mask = if row.whole || not (mask % 2 ^ f.lanes == 0) then 1 else 0;
}

-- a row that reads its operand whole makes one access of it
abbrev pub source_at : Row → Fields → Form → (mask addr : ℕ) → Source
source_at row fields f mask addr =
    if fields.bc then Broadcast (element_of row fields f mask addr)
    else if row.whole then Whole addr (memory_bytes row f)
    else FromMemory (source_span row f mask addr)

-- the source in memory, if ModRM names memory
abbrev pub memory_source : Row → Fields → Form → (mask : ℕ) → Option ℕ → Option Source
memory_source row fields f mask None = None
memory_source row fields f mask (Some addr) = Some (source_at row fields f mask addr)

abbrev pub source_or : Source → (memory : Option Source) → Source
source_or register None = register
source_or register (Some memory) = memory

unfoldable pub source_in : Spot → Form → (memory : Option Source) → Places → Source
source_in VectorReg f memory p = FromRegister (vector_in VectorReg p)
source_in VectorVvvv f memory p = FromRegister (vector_in VectorVvvv p)
source_in VectorRm f memory p = source_or (FromRegister (vector_in VectorRm p)) memory
source_in Rm f memory p = source_or (FromGeneral (general_in Rm p)) memory
source_in InMemory f memory p = source_or Nothing memory
source_in Reg f memory p = FromGeneral (general_in Reg p)
source_in OpmaskRm f memory p = FromOpmask (opmask_in OpmaskRm p)
source_in Immediate f memory p = Count f.imm
source_in Absent f memory p = Nothing
source_in Vvvv f memory p = Nothing
source_in OpcodeReg f memory p = Nothing
source_in Rax f memory p = Nothing
source_in Cl f memory p = Nothing
source_in VectorMemory f memory p = Nothing
source_in Offset f memory p = Nothing
source_in Relative f memory p = Nothing
source_in One f memory p = Nothing
source_in VectorImmediate f memory p = Nothing
source_in Xmm0 f memory p = Nothing
source_in OpmaskReg f memory p = Nothing
source_in OpmaskVvvv f memory p = Nothing

-- the first source; where the list names only one other it is the destination's register, and no memory is read for it
abbrev pub first_in : (two : Bool) → Spot → Form → (memory : Option Source) → Places → Source
first_in true spot f memory p = source_in spot f memory p
first_in false spot f memory p = FromRegister (vector_in spot p)

-- ---- the destination
-- the lanes in memory, if ModRM names memory
abbrev pub memory_span : Form → (mask : ℕ) → Option ℕ → Option Span
memory_span f mask None = None
memory_span f mask (Some addr) = Some (target_span f mask addr)

abbrev pub target_or : Target → (memory : Option Span) → Target
target_or register None = register
target_or register (Some m) = ToMemory m

unfoldable pub target_in : Spot → (memory : Option Span) → Places → Target
target_in VectorReg memory p = ToRegister (vector_in VectorReg p)
target_in VectorVvvv memory p = ToRegister (vector_in VectorVvvv p)
target_in VectorRm memory p = target_or (ToRegister (vector_in VectorRm p)) memory
target_in Rm memory p = target_or (ToGeneral (general_in Rm p)) memory
target_in InMemory memory p = target_or Nowhere memory
target_in Reg memory p = ToGeneral (general_in Reg p)
target_in OpmaskReg memory p = ToMask (opmask_in OpmaskReg p)
target_in Absent memory p = Nowhere
target_in Vvvv memory p = Nowhere
target_in OpcodeReg memory p = Nowhere
target_in Rax memory p = Nowhere
target_in Cl memory p = Nowhere
target_in VectorMemory memory p = Nowhere
target_in Offset memory p = Nowhere
target_in Immediate memory p = Nowhere
target_in Relative memory p = Nowhere
target_in One memory p = Nowhere
target_in VectorImmediate memory p = Nowhere
target_in Xmm0 memory p = Nowhere
target_in OpmaskRm memory p = Nowhere
target_in OpmaskVvvv memory p = Nowhere

-- PTEST gives flags; its first operand is only read
unfoldable pub gives_flags : Op → Bool
gives_flags (Vector Ptest) = true
gives_flags (Vector Pmovmskb) = false
gives_flags (Vector Movmskp) = false
gives_flags (Lane op) = false
gives_flags (Core op) = false
gives_flags (Gpr op) = false
gives_flags (Bit op) = false
gives_flags (String op) = false
gives_flags (Cross op) = false
gives_flags (Width op) = false
gives_flags (Mac op) = false
gives_flags (OnMasks op) = false
gives_flags (Gather op) = false
gives_flags (Xsave op) = false

abbrev pub target_at : Op → Spot → (memory : Option Span) → Places → Target
target_at op spot memory p = if gives_flags op then ToFlags else target_in spot memory p

-- ---- the instruction
abbrev pub plan_by : Layout → Form → Row → Fields → (mask : ℕ) → Places → (next : ℕ) → VectorPlan
plan_by layout f row fields mask p next =
    let spots = spots_of layout in
    let memory = memory_source row fields f mask p.memory in
    record {
      form = f;
      mask = mask;
      old = vector_in spots.destination p;
      first = first_in (has_two_sources layout) spots.first f memory p;
      second = source_in spots.second f memory p;
      target = target_at row.op spots.destination (memory_span f mask p.memory) p;
      next = next;
    }

-- the instruction of a row and its fields, by the vector registers and opmasks
unfoldable pub vector_plan : Row → Fields → Places → (next : ℕ) → Extended → VectorPlan
vector_plan row fields p next e =
    let f = form_of row fields in
    let layout = layout_of row.operands in plan_by layout f row fields (mask_in layout row fields f p e) p next

-- ---- the access list: what is read first, and what is written last
abbrev pub span_accesses : Kind → Span → List Access
span_accesses kind m = lane_accesses kind m.addr m.width m.mask m.lanes

abbrev pub source_accesses : Source → List Access
source_accesses (FromRegister n) = []
source_accesses (FromGeneral n) = []
source_accesses (FromOpmask n) = []
source_accesses (Count n) = []
source_accesses (FromMemory m) = span_accesses Read m
source_accesses (Broadcast m) = span_accesses Read m
source_accesses (Whole addr len) = record { kind = Read; addr = addr; len = len } ∷ []
source_accesses Nothing = []

abbrev pub target_accesses : Target → List Access
target_accesses (ToMemory m) = span_accesses Write m
target_accesses (ToRegister n) = []
target_accesses (ToMask n) = []
target_accesses (ToGeneral n) = []
target_accesses ToFlags = []
target_accesses Nowhere = []

abbrev pub read_accesses : VectorPlan → List Access
read_accesses i = source_accesses i.first ++ source_accesses i.second

unfoldable pub vector_access : VectorPlan → List Access
vector_access i = read_accesses i ++ target_accesses i.target

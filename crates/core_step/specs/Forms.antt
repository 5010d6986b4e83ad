-- What the code keeps of an instruction once its bytes are known, and what that stands for in a state.
use Rattle.std.specs.Prelude.{ℕ, ◌≡◌, ◌<◌, ◌≤◌, ◌+◌, ◌*◌, ◌%◌, ◌^◌, Bool, false, List, slice_get, Option, Some, None, ⊤}
use Rattle.machine_state.specs.State.{State}
use Rattle.row_table.specs.declared.kinds.Row.{Row}
use Rattle.row_table.specs.declared.kinds.Fields.{Fields}
use Rattle.row_table.specs.Rows.{rows}
use Rattle.form_scan.specs.Shaped.{most_bytes}
use Rattle.x_decode.specs.Seeing.{IsDecoded}
use Rattle.vec_units.specs.Form.{IsVectorRow}
use Rattle.vec_step.specs.declared.kinds.Places.{Places}
use Rattle.vec_step.specs.Plan.{vector_plan}
use Rattle.core_step.specs.declared.sizes.Size.{Size}
use Rattle.core_step.specs.declared.sizes.Size.TheVariants.{Quad}
use Rattle.core_step.specs.declared.kinds.Bases.{Bases}
use Rattle.core_step.specs.declared.kinds.StackUse.{StackUse}
use Rattle.core_step.specs.declared.kinds.StackUse.TheVariants.{Aside}
use Rattle.core_step.specs.declared.kinds.Operand.{Operand}
use Rattle.core_step.specs.declared.kinds.Operand.TheVariants.{Memory, Number}
use Rattle.core_step.specs.declared.kinds.Instruction.{Instruction}
use Rattle.core_step.specs.declared.kinds.Plan.{Plan}
use Rattle.core_step.specs.declared.kinds.Plan.TheVariants.{Plain, OnStrings, OnPair, OnVectors, Clears, Identifies}
use Rattle.core_step.specs.declared.strings.StringPlan.{StringPlan}
use Rattle.vec_step.specs.declared.kinds.VectorPlan.{VectorPlan}
use Rattle.core_step.specs.declared.pair.PairPlan.{PairPlan}
use Rattle.core_step.specs.declared.forms.Base.{Base}
use Rattle.core_step.specs.declared.forms.Base.TheVariants.{Nothing, Next, Register}
use Rattle.core_step.specs.declared.forms.AddressForm.{AddressForm}
use Rattle.core_step.specs.declared.forms.BitForm.{BitForm}
use Rattle.core_step.specs.declared.forms.OperandForm.{OperandForm}
use Rattle.core_step.specs.declared.forms.OperandForm.TheVariants.{Fixed, Relative, Memory as InMemory, Bit, Address, Stack}
use Rattle.core_step.specs.declared.forms.PlainForm.{PlainForm}
use Rattle.core_step.specs.declared.forms.StringForm.{StringForm}
use Rattle.core_step.specs.declared.forms.PairForm.{PairForm}
use Rattle.core_step.specs.declared.forms.VectorForm.{VectorForm}
use Rattle.core_step.specs.declared.forms.PlanForm.{PlanForm}
use Rattle.core_step.specs.declared.forms.PlanForm.TheVariants.{Plain as PlainOf, OnStrings as StringsOf, OnPair as PairOf, OnVectors as VectorsOf, Clears as ClearsOf, Identifies as IdentifiesOf}
use Rattle.core_step.specs.declared.forms.Alignment.{Alignment}
use Rattle.core_step.specs.declared.prepared.Prepared.{Prepared}
use Rattle.core_step.specs.Fits.{OperandFits}
use Rattle.core_step.specs.Address.{register_for, wrapped_to, prefixed_base, in_prefixed}
use Rattle.core_step.specs.Operands.{bit_offset_by, stack_at, bases_for}
use Rattle.core_step.specs.Plan.{way_of, plan_by, next_of}
use Rattle.core_step.specs.Alignment.{breaks, is_misaligned}

-- ---- addresses
abbrev pub base_by : Base → List ℕ → Bases → ℕ
base_by Nothing gprs bases = 0
base_by Next gprs bases = bases.next
base_by (Register number) gprs bases = register_for gprs bases number

-- the index times its scale
abbrev pub index_by : Option ℕ → (scale : ℕ) → List ℕ → Bases → ℕ
index_by None scale gprs bases = 0
index_by (Some number) scale gprs bases = register_for gprs bases number * scale

-- the address within the segment
unfoldable pub offset_by : AddressForm → List ℕ → Bases → ℕ
offset_by a gprs bases = wrapped_to a.wrap32 (base_by a.base gprs bases + index_by a.index a.scale gprs bases + a.disp)

-- the effective address
unfoldable pub address_by : AddressForm → List ℕ → Bases → ℕ
address_by a gprs bases = in_prefixed a.segment bases (offset_by a gprs bases)

-- where the operand is that holds a bit
unfoldable pub bit_by : BitForm → List ℕ → Bases → ℕ
bit_by b gprs bases =
    in_prefixed b.address.segment bases
    (wrapped_to b.address.wrap32 (offset_by b.address gprs bases + bit_offset_by b.size b.register gprs))

-- ---- operands
unfoldable pub operand_by : OperandForm → (stack : ℕ) → List ℕ → Bases → Operand
operand_by (Fixed operand) stack gprs bases = operand
operand_by (Relative distance) stack gprs bases = Number ((bases.next + distance) % 2 ^ 64)
operand_by (InMemory address) stack gprs bases = Memory (address_by address gprs bases)
operand_by (Bit bit) stack gprs bases = Memory (bit_by bit gprs bases)
operand_by (Address address) stack gprs bases = Number (offset_by address gprs bases)
operand_by Stack stack gprs bases = Memory stack

abbrev pub operand_in : OperandForm → StackUse → Size → (next : ℕ) → State → Operand
operand_in form stack size next s = operand_by form (stack_at stack size s.gprs) s.gprs (bases_for stack size s next)

-- ---- instructions
unfoldable pub plain_by : PlainForm → (next : ℕ) → State → Instruction
plain_by f next s = record {
  op = f.op;
  size = f.size;
  destination = operand_in f.destination f.stack f.size next s;
  usage = f.usage;
  source = operand_in f.source f.stack f.size next s;
  source_size = f.source_size;
  beside = operand_in f.beside f.stack f.size next s;
  beside_size = f.beside_size;
  also = operand_in f.also f.stack f.size next s;
  condition = f.condition;
  stack = stack_at f.stack f.size s.gprs;
  freed = f.freed;
  rip = s.rip;
  next = next;
}

-- what addresses are made of in an instruction that leaves the stack alone, whatever the size of its operands
abbrev pub bases_in : (next : ℕ) → State → Bases
bases_in next s = bases_for Aside Quad s next

unfoldable pub strings_by : StringForm → (next : ℕ) → State → StringPlan
strings_by f next s = record {
  op = f.op;
  size = f.size;
  wrap32 = f.wrap32;
  base = prefixed_base f.segment (bases_in next s);
  repeat = f.repeat;
  next = next;
}

abbrev pub address_in_state : AddressForm → (next : ℕ) → State → ℕ
address_in_state a next s = address_by a s.gprs (bases_in next s)

unfoldable pub pair_by : PairForm → (next : ℕ) → State → PairPlan
pair_by f next s = record { half = f.half; addr = address_in_state f.address next s; next = next }

abbrev pub memory_by : Option AddressForm → (next : ℕ) → State → Option ℕ
memory_by None next s = None
memory_by (Some a) next s = Some (address_in_state a next s)

abbrev pub places_by : VectorForm → (next : ℕ) → State → Places
places_by f next s = record { reg = f.reg; vvvv = f.vvvv; rm = f.rm; memory = memory_by f.memory next s }

unfoldable pub vectors_by : VectorForm → Fields → (next : ℕ) → State → VectorPlan
vectors_by f fields next s = vector_plan f.row fields (places_by f next s) next s.extended

-- an instruction by the way in which it is performed
abbrev pub plan_by_form : PlanForm → Fields → (next : ℕ) → State → Plan
plan_by_form (PlainOf f) fields next s = Plain (plain_by f next s)
plan_by_form (StringsOf f) fields next s = OnStrings (strings_by f next s)
plan_by_form (PairOf f) fields next s = OnPair (pair_by f next s)
plan_by_form (VectorsOf f) fields next s = OnVectors (vectors_by f fields next s)
plan_by_form (ClearsOf clearing) fields next s = Clears (record { clearing = clearing; next = next })
plan_by_form IdentifiesOf fields next s = Identifies (record { next = next })

-- whether alignment is broken
unfoldable pub is_misaligned_by : Option Alignment → (next : ℕ) → State → Bool
is_misaligned_by None next s = false
is_misaligned_by (Some a) next s = breaks a.rule a.length (address_in_state a.address next s)

-- ---- the numbers of registers
abbrev pub BaseFits : Base → Type 0
BaseFits Nothing = ⊤
BaseFits Next = ⊤
BaseFits (Register number) = number < 16

abbrev pub IndexFits : Option ℕ → Type 0
IndexFits None = ⊤
IndexFits (Some number) = number < 16

abbrev pub AddressFits : AddressForm → Type 0
AddressFits a = BaseFits a.base × IndexFits a.index

abbrev pub OperandFormFits : OperandForm → Type 0
OperandFormFits (Fixed operand) = OperandFits operand
OperandFormFits (Relative distance) = ⊤
OperandFormFits (InMemory address) = AddressFits address
OperandFormFits (Bit bit) = AddressFits bit.address × (bit.register < 16)
OperandFormFits (Address address) = AddressFits address
OperandFormFits Stack = ⊤

abbrev pub PlainFormFits : PlainForm → Type 0
PlainFormFits f =
    OperandFormFits f.destination × OperandFormFits f.source × OperandFormFits f.beside × OperandFormFits f.also × (f.condition < 16)

abbrev pub MemoryFits : Option AddressForm → Type 0
MemoryFits None = ⊤
MemoryFits (Some a) = AddressFits a

abbrev pub PlanFormFits : PlanForm → Type 0
PlanFormFits (PlainOf f) = PlainFormFits f
PlanFormFits (StringsOf f) = ⊤
PlanFormFits (PairOf f) = AddressFits f.address
PlanFormFits (VectorsOf f) = IsVectorRow f.row × MemoryFits f.memory
PlanFormFits (ClearsOf clearing) = ⊤
PlanFormFits IdentifiesOf = ⊤

abbrev pub AlignmentFits : Option Alignment → Type 0
AlignmentFits None = ⊤
AlignmentFits (Some a) = AddressFits a.address

-- ---- the whole
-- an instruction was decoded, and what is kept of it stands for what its row and its fields say, in each state
pub record IsPrepared (p : Prepared) : Type 0 where
  pub spells : IsDecoded p.decoded.fields p.decoded
  pub some : 1 ≤ p.len
  pub most : p.len ≤ most_bytes
  pub row : Row
  pub row_is : slice_get rows p.decoded.row ≡ Some row
  pub plan : (next : ℕ) (s : State) → plan_by_form p.form p.decoded.fields next s ≡ plan_by (way_of row.op) row p.decoded next s
  pub alignment : (len : ℕ) (s : State) → is_misaligned_by p.alignment (next_of len s) s ≡ is_misaligned row p.decoded len s
  pub plan_fits : PlanFormFits p.form
  pub alignment_fits : AlignmentFits p.alignment

-- A vector instruction accesses 64 bytes at most from one address on.
use Rattle.std.proofs.Common.{◌≡◌, ℕ, zero, suc, ◌+◌, ◌*◌, ◌%◌, ◌^◌, ◌<◌, ◌≤◌, ◌⊎◌, inl, inr, Bool, true, false, cond, [], ◌∷◌, Option, Some, None, refl, sym, subst, arith}
use Rattle.std.specs.Prelude.{⊤}
use Rattle.std.specs.List.{All}
use Rattle.std.proofs.lemmas.Bool.{cases_lt}
use Rattle.std.proofs.lemmas.List.Elements.{All-nil, All-cons, All-append}
use Rattle.machine_state.specs.declared.kinds.Kind.{Kind}
use Rattle.machine_state.specs.declared.kinds.Kind.TheVariants.{Read, Write}
use Rattle.machine_state.specs.declared.kinds.Access.{Access}
use Rattle.machine_state.specs.State.{Extended}
use Rattle.gpr_flags.specs.Numbers.{has_bit}
use Rattle.row_table.specs.declared.kinds.Row.{Row}
use Rattle.row_table.specs.declared.kinds.Fields.{Fields}
use Rattle.row_table.specs.declared.kinds.Spot.{Spot}
use Rattle.row_table.specs.declared.kinds.Spot.TheVariants.{Rm, Memory as InMemory, VectorRm}
use Rattle.row_table.specs.Letters.{layout_of}
use Rattle.masked_memory.specs.Lanes.{lane_place, lane_access, lane_accesses}
use Rattle.vec_units.specs.declared.forms.Form.{Form}
use Rattle.vec_units.specs.Form.{form_of, is_expanded}
use Rattle.vec_step.specs.declared.kinds.Places.{Places}
use Rattle.vec_step.specs.declared.kinds.Span.{Span}
use Rattle.vec_step.specs.declared.kinds.Source.{Source}
use Rattle.vec_step.specs.declared.kinds.Source.TheVariants.{Register as FromRegister, General as FromGeneral, Opmask as FromOpmask, Count, Memory as FromMemory, Broadcast, Whole, Nothing}
use Rattle.vec_step.specs.declared.kinds.Target.{Target}
use Rattle.vec_step.specs.declared.kinds.Target.TheVariants.{Register as ToRegister, Memory as ToMemory, Mask as ToMask, General as ToGeneral, Flags as ToFlags, Nowhere}
use Rattle.vec_step.specs.Fits.{PlanFits, SourceFits, TargetFits}
use Rattle.vec_step.specs.Plan.{gives_flags, mask_in, has_two_sources, spots_of, vector_in, general_in, memory_bytes, element_of, packed_span, element_span, source_span, source_at, memory_source, source_or, source_in, first_in, memory_span, target_or, target_in, vector_plan, source_accesses, target_accesses, vector_access}

-- ---- where the operands are
-- an operand in memory is at this address
abbrev SourceAt : ℕ → Source → Type 0
SourceAt addr (FromMemory m) = m.addr ≡ addr
SourceAt addr (Broadcast m) = m.addr ≡ addr
SourceAt addr (Whole other len) = other ≡ addr
SourceAt addr (FromRegister n) = ⊤
SourceAt addr (FromGeneral n) = ⊤
SourceAt addr (FromOpmask n) = ⊤
SourceAt addr (Count n) = ⊤
SourceAt addr Nothing = ⊤

abbrev TargetAt : ℕ → Target → Type 0
TargetAt addr (ToMemory m) = m.addr ≡ addr
TargetAt addr (ToRegister n) = ⊤
TargetAt addr (ToMask n) = ⊤
TargetAt addr (ToGeneral n) = ⊤
TargetAt addr ToFlags = ⊤
TargetAt addr Nowhere = ⊤

memory-at : (addr len : ℕ) (spread whole : Bool) (element m : Span) → element.addr ≡ addr → m.addr ≡ addr
    → SourceAt addr (cond spread (Broadcast element) (cond whole (Whole addr len) (FromMemory m)))
memory-at addr len true whole element m there is = there
memory-at addr len false true element m there is = refl
memory-at addr len false false element m there is = is

span-at : (addr : ℕ) (b : Bool) (m n : Span) → m.addr ≡ addr → n.addr ≡ addr → (cond b m n).addr ≡ addr
span-at addr true m n is there = is
span-at addr false m n is there = there

flags_or-at : (addr : ℕ) (flags : Bool) (target : Target) → TargetAt addr target → TargetAt addr (cond flags ToFlags target)
flags_or-at addr true target is = tt
flags_or-at addr false target is = is

-- where the memory that an instruction names is at this address, if it names memory
abbrev MemoryAt : ℕ → Option Source → Type 0
MemoryAt addr None = ⊤
MemoryAt addr (Some source) = SourceAt addr source

source_or-at : (addr : ℕ) (register : Source) (memory : Option Source) → SourceAt addr register → MemoryAt addr memory
    → SourceAt addr (source_or register memory)
source_or-at addr register None is there = is
source_or-at addr register (Some source) is there = there

source_in-at : (addr : ℕ) (spot : Spot) (f : Form) (memory : Option Source) (p : Places) → MemoryAt addr memory
    → SourceAt addr (source_in spot f memory p)
unfolding source_in
source_in-at addr VectorRm f memory p there = source_or-at addr (FromRegister (vector_in VectorRm p)) memory tt there
source_in-at addr Rm f memory p there = source_or-at addr (FromGeneral (general_in Rm p)) memory tt there
source_in-at addr InMemory f memory p there = source_or-at addr Nothing memory tt there
source_in-at addr spot f memory p there = tt

first_in-at : (addr : ℕ) (two : Bool) (spot : Spot) (f : Form) (memory : Option Source) (p : Places) → MemoryAt addr memory
    → SourceAt addr (first_in two spot f memory p)
first_in-at addr true spot f memory p there = source_in-at addr spot f memory p there
first_in-at addr false spot f memory p there = tt

memory_source-at : (addr : ℕ) (row : Row) (fields : Fields) (f : Form) (mask : ℕ) (memory : Option ℕ)
    → ((a : ℕ) → memory ≡ Some a → a ≡ addr) → MemoryAt addr (memory_source row fields f mask memory)
memory_source-at addr row fields f mask None is = tt
memory_source-at addr row fields f mask (Some a) is =
    subst (λ (x : ℕ). SourceAt addr (source_at row fields f mask x)) (sym (is a refl))
    (memory-at addr (memory_bytes row f) fields.bc row.whole (element_of row fields f mask addr) (source_span row f mask addr) refl
    (span-at addr (is_expanded row.mask) (packed_span f mask addr) (element_span row f mask addr) refl refl))

-- the same of where the result goes
abbrev LanesAt : ℕ → Option Span → Type 0
LanesAt addr None = ⊤
LanesAt addr (Some m) = m.addr ≡ addr

memory_span-at : (addr : ℕ) (f : Form) (mask : ℕ) (memory : Option ℕ)
    → ((a : ℕ) → memory ≡ Some a → a ≡ addr) → LanesAt addr (memory_span f mask memory)
memory_span-at addr f mask None is = tt
memory_span-at addr f mask (Some a) is = is a refl

target_or-at : (addr : ℕ) (register : Target) (memory : Option Span) → TargetAt addr register → LanesAt addr memory
    → TargetAt addr (target_or register memory)
target_or-at addr register None is there = is
target_or-at addr register (Some m) is there = there

target_in-at : (addr : ℕ) (spot : Spot) (memory : Option Span) (p : Places) → LanesAt addr memory
    → TargetAt addr (target_in spot memory p)
unfolding target_in
target_in-at addr VectorRm memory p there = target_or-at addr (ToRegister (vector_in VectorRm p)) memory tt there
target_in-at addr Rm memory p there = target_or-at addr (ToGeneral (general_in Rm p)) memory tt there
target_in-at addr InMemory memory p there = target_or-at addr Nowhere memory tt there
target_in-at addr spot memory p there = tt

-- ---- accesses from an address on
-- each byte of an access is one of the 64 from this address on, modulo 2^64
abbrev pub IsNear : ℕ → Access → Type 0
IsNear addr access = (at : ℕ) → access.addr ≤ at → at < access.addr + access.len → ((addr ≤ at) × (at < addr + 64)) ⊎ (at < 64)

lane_near : (kind : Kind) (addr offset w : ℕ) → addr < 2 ^ 64 → offset + w ≤ 64
    → IsNear addr (record { kind = kind; addr = (addr + offset) % 2 ^ 64; len = w })
lane_near kind addr offset w below within at low high = elim (cases_lt (addr + offset) (2 ^ 64)) [
  | inl straight ↦ inl (omega arith, omega arith)
  | inr around ↦ inr (omega arith)
]

one_near : (has : Bool) (kind : Kind) (addr i w : ℕ) → addr < 2 ^ 64 → i * w + w ≤ 64
    → All (IsNear addr) (cond has (record { kind = kind; addr = lane_place addr w i; len = w } ∷ []) [])
one_near true kind addr i w below within = All-cons (IsNear addr) _ [] (lane_near kind addr (i * w) w below within) (All-nil (IsNear addr))
one_near false kind addr i w below within = All-nil (IsNear addr)

lanes_near : (kind : Kind) (addr w mask n : ℕ) → addr < 2 ^ 64 → n * w ≤ 64 → All (IsNear addr) (lane_accesses kind addr w mask n)
unfolding lane_accesses lane_access
lanes_near kind addr w mask zero below within = All-nil (IsNear addr)
lanes_near kind addr w mask (suc n) below within =
    let last : n * w + w ≤ 64 = omega (arith, within) in
    All-append (IsNear addr) (lane_accesses kind addr w mask n) (lane_access kind addr w mask n)
    (lanes_near kind addr w mask n below (omega (arith, last))) (one_near (has_bit mask n) kind addr n w below last)

source_near : (source : Source) (addr : ℕ) → addr < 2 ^ 64 → SourceFits source → SourceAt addr source
    → All (IsNear addr) (source_accesses source)
source_near (FromMemory m) addr below fits is = rw is (lanes_near Read addr m.width m.mask m.lanes below fits.most)
source_near (Broadcast m) addr below fits is = rw is (lanes_near Read addr m.width m.mask m.lanes below fits.most)
source_near (Whole other len) addr below fits is =
    subst (λ (x : ℕ). All (IsNear addr) (source_accesses (Whole x len))) (sym is)
    (All-cons (IsNear addr) (record { kind = Read; addr = addr; len = len }) [] (λ at low high. inl (low, omega (arith, fits))) (All-nil (IsNear addr)))
source_near (FromRegister n) addr below fits is = All-nil (IsNear addr)
source_near (FromGeneral n) addr below fits is = All-nil (IsNear addr)
source_near (FromOpmask n) addr below fits is = All-nil (IsNear addr)
source_near (Count n) addr below fits is = All-nil (IsNear addr)
source_near Nothing addr below fits is = All-nil (IsNear addr)

target_near : (target : Target) (addr : ℕ) → addr < 2 ^ 64 → TargetFits target → TargetAt addr target
    → All (IsNear addr) (target_accesses target)
target_near (ToMemory m) addr below fits is = rw is (lanes_near Write addr m.width m.mask m.lanes below fits.most)
target_near (ToRegister n) addr below fits is = All-nil (IsNear addr)
target_near (ToMask n) addr below fits is = All-nil (IsNear addr)
target_near (ToGeneral n) addr below fits is = All-nil (IsNear addr)
target_near ToFlags addr below fits is = All-nil (IsNear addr)
target_near Nowhere addr below fits is = All-nil (IsNear addr)

-- ---- the whole
pub vector-near : (row : Row) (fields : Fields) (p : Places) (next : ℕ) (e : Extended) (addr : ℕ) → addr < 2 ^ 64
    → ((a : ℕ) → p.memory ≡ Some a → a ≡ addr) → PlanFits (vector_plan row fields p next e)
    → All (IsNear addr) (vector_access (vector_plan row fields p next e))
unfolding vector_access vector_plan
vector-near row fields p next e addr below is fits =
    let f = form_of row fields in
    let layout = layout_of row.operands in
    let mask = mask_in layout row fields f p e in
    let spots = spots_of layout in
    let memory = memory_source row fields f mask p.memory in
    let there : MemoryAt addr memory = memory_source-at addr row fields f mask p.memory is in
    let lanes = memory_span f mask p.memory in
    let lanes_there : LanesAt addr lanes = memory_span-at addr f mask p.memory is in
    All-append (IsNear addr) _ _
    (All-append (IsNear addr) _ _
    (source_near _ addr below fits.first (first_in-at addr (has_two_sources layout) spots.first f memory p there))
    (source_near _ addr below fits.second (source_in-at addr spots.second f memory p there)))
    (target_near _ addr below fits.target
    (flags_or-at addr (gives_flags row.op) _ (target_in-at addr spots.destination lanes p lanes_there)))

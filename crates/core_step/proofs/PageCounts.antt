-- How many pages an instruction's accesses touch.
use Rattle.std.proofs.Common.{◌≡◌, ℕ, ◌+◌, ◌*◌, ◌/◌, ◌^◌, ◌<◌, ◌≤◌, inl, inr, Bool, true, false, cond, List, [], ◌∷◌, ◌++◌, Some, None, length, length-append, refl, arith}
use Rattle.std.specs.List.{All}
use Rattle.std.proofs.lemmas.Bool.{cases_lt}
use Rattle.std.proofs.lemmas.List.Elements.{All-nil, All-cons, All-head, All-tail, All-append, All-weaker, Contains-append_right}
use Rattle.machine_state.specs.Memory.{page_size}
use Rattle.machine_state.specs.State.{State}
use Rattle.machine_state.specs.declared.kinds.Kind.{Kind}
use Rattle.machine_state.specs.declared.kinds.Access.{Access}
use Rattle.row_table.specs.declared.kinds.Row.{Row}
use Rattle.row_table.specs.declared.kinds.Decoded.{Decoded}
use Rattle.row_table.specs.declared.operations.StringOp.{StringOp}
use Rattle.row_table.specs.declared.operations.StringOp.TheVariants.{Movs, Cmps, Stos, Lods, Scas}
use Rattle.string_unit.specs.Strings.{string_accesses}
use Rattle.core_step.specs.declared.sizes.Size.{Size}
use Rattle.core_step.specs.declared.sizes.Size.TheVariants.{Byte, Word, Double, Quad}
use Rattle.core_step.specs.declared.kinds.Operand.{Operand}
use Rattle.core_step.specs.declared.kinds.Operand.TheVariants.{Absent, Register, HighByte, Memory, Number, Mxcsr, Opmask}
use Rattle.core_step.specs.declared.kinds.Instruction.{Instruction}
use Rattle.core_step.specs.declared.pair.PairPlan.{PairPlan}
use Rattle.core_step.specs.declared.ways.Way.{Way}
use Rattle.core_step.specs.declared.ways.Way.TheVariants.{Numbers, Strings, Pair, Vectors, Clears, Identifies}
use Rattle.core_step.specs.Size.{bytes_in}
use Rattle.core_step.specs.Access.{operand_access, kind_of, accesses_of}
use Rattle.core_step.specs.Strings.{strings_of, is_over, source_of, destination_of, strings_access}
use Rattle.core_step.specs.Pair.{pair_of, pair_write}
use Rattle.core_step.specs.Plan.{way_of, next_of, plan_by, plan_of, plan_accesses}
use Rattle.core_step.specs.Vectors.{address_in, places_of, vectors_of}
use Rattle.core_step.specs.Address.{is_memory, address_of}
use Rattle.core_step.specs.Operands.{instruction_of}
use Rattle.core_step.specs.Fits.{PlanFits}
use Rattle.vec_step.specs.Plan.{vector_access}
use Rattle.vec_step.specs.Fits.{PlanFits as VectorPlanFits}
use Rattle.vec_step.proofs.Nearness.{IsNear, vector-near}
use Rattle.core_step.specs.Pages.{LiesOn, TouchesAtMost, fetch_accesses}

-- no access is longer than a page
abbrev IsShort : Access → Type 0
IsShort access = access.len ≤ page_size

-- so many accesses at most, and short ones
record AreFew (most : ℕ) (xs : List Access) : Type 0 where
  count : length xs ≤ most
  short : All IsShort xs

few-none : (most : ℕ) → AreFew most []
few-none most = record { count = omega arith; short = All-nil IsShort }

few-one : (access : Access) → IsShort access → AreFew 1 (access ∷ [])
few-one access short = record { count = omega arith; short = All-cons IsShort access [] short (All-nil IsShort) }

few-append : (m n : ℕ) (xs ys : List Access) → AreFew m xs → AreFew n ys → AreFew (m + n) (xs ++ ys)
few-append m n xs ys few more =
    record { count = omega (arith, few.count, more.count, length-append xs ys); short = All-append IsShort xs ys few.short more.short }

few-more : (m n : ℕ) (xs : List Access) → m ≤ n → AreFew m xs → AreFew n xs
few-more m n xs le few = record { count = omega (arith, few.count); short = few.short }

-- ---- the pages of short accesses: that of the first byte, and the next
pages_of : List Access → List ℕ
pages_of [] = []
pages_of (access ∷ rest) = (access.addr / page_size) ∷ (access.addr / page_size + 1) ∷ pages_of rest

length-pages_of : (xs : List Access) → length (pages_of xs) ≡ 2 * length xs
unfolding pages_of
length-pages_of [] = refl
length-pages_of (access ∷ rest) = omega (arith, length-pages_of rest)

lies-first : (access : Access) (rest : List ℕ) → IsShort access
    → LiesOn ((access.addr / page_size) ∷ (access.addr / page_size + 1) ∷ rest) access
lies-first access rest short at low high = elim (cases_lt (access.addr / page_size) (at / page_size)) [
  | inl above ↦ (1, omega arith, omega (arith, short))
  | inr below ↦ (0, omega arith, omega arith)
]

lies-all : (xs : List Access) → All IsShort xs → All (LiesOn (pages_of xs)) xs
unfolding pages_of
lies-all [] short = All-nil (LiesOn [])
lies-all (access ∷ rest) short =
    let here : ℕ = access.addr / page_size in
    All-cons (LiesOn (here ∷ (here + 1) ∷ pages_of rest)) access rest (lies-first access (pages_of rest) (All-head IsShort access rest short))
    (All-weaker (LiesOn (pages_of rest)) (LiesOn (here ∷ (here + 1) ∷ pages_of rest))
    (λ other lies at low high. Contains-append_right (here ∷ (here + 1) ∷ []) (pages_of rest) (at / page_size) (lies at low high)) rest
    (lies-all rest (All-tail IsShort access rest short)))

few-touch : (most : ℕ) (xs : List Access) → AreFew most xs → TouchesAtMost (2 * most) xs
few-touch most xs few = record {
  pages = pages_of xs;
  few = omega (arith, length-pages_of xs, few.count);
  lie = lies-all xs few.short;
}

-- ---- the accesses of each kind
bytes-short : (size : Size) → bytes_in size ≤ 8
bytes-short Byte = omega arith
bytes-short Word = omega arith
bytes-short Double = omega arith
bytes-short Quad = omega arith

operand-few : (kind : Kind) (operand : Operand) (size : Size) → AreFew 1 (operand_access kind operand size)
operand-few kind Absent size = few-none 1
operand-few kind (Register number) size = few-none 1
operand-few kind (HighByte number) size = few-none 1
operand-few kind (Memory addr) size = few-one _ (omega (arith, bytes-short size))
operand-few kind (Number number) size = few-none 1
operand-few kind Mxcsr size = few-none 1
operand-few kind (Opmask number) size = few-none 1

plain-few : (i : Instruction) → AreFew 2 (accesses_of i)
unfolding accesses_of
plain-few i = few-append 1 1 _ _ (operand-few _ i.source i.source_size) (operand-few (kind_of i.usage) i.destination i.size)

iteration-few : (op : StringOp) (size source destination : ℕ) → size ≤ 8 → AreFew 2 (string_accesses op size source destination)
unfolding string_accesses
iteration-few Movs size source destination short = few-append 1 1 (_ ∷ []) (_ ∷ []) (few-one _ (omega arith)) (few-one _ (omega arith))
iteration-few Cmps size source destination short = few-append 1 1 (_ ∷ []) (_ ∷ []) (few-one _ (omega arith)) (few-one _ (omega arith))
iteration-few Stos size source destination short = few-more 1 2 _ (omega arith) (few-one _ (omega arith))
iteration-few Lods size source destination short = few-more 1 2 _ (omega arith) (few-one _ (omega arith))
iteration-few Scas size source destination short = few-more 1 2 _ (omega arith) (few-one _ (omega arith))

strings-few : (over : Bool) (op : StringOp) (size source destination : ℕ) → size ≤ 8
    → AreFew 2 (cond over [] (string_accesses op size source destination))
strings-few true op size source destination short = few-none 2
strings-few false op size source destination short = iteration-few op size source destination short

pair-few : (i : PairPlan) → AreFew 2 (pair_write i ∷ [])
pair-few i = few-more 1 2 _ (omega arith) (few-one _ (omega (arith, bytes-short i.half)))

-- ---- vectors
-- the pages of 64 bytes from an address on, which may go on from 0
near_pages : (addr : ℕ) → List ℕ
near_pages addr = (addr / page_size) ∷ (addr / page_size + 1) ∷ 0 ∷ []

near-lies : (addr : ℕ) (access : Access) → IsNear addr access → LiesOn (near_pages addr) access
unfolding near_pages
near-lies addr access near at low high = elim (near at low high) [
  | inl inside ↦ elim (cases_lt (addr / page_size) (at / page_size)) [
    | inl above ↦ (1, omega arith, omega (arith, inside.0, inside.1))
    | inr below ↦ (0, omega arith, omega (arith, inside.0, inside.1))
  ]
  | inr first ↦ (2, omega arith, omega (arith, first))
]

near-touch : (addr : ℕ) (xs : List Access) → All (IsNear addr) xs → TouchesAtMost 4 xs
unfolding near_pages
near-touch addr xs near = record {
  pages = near_pages addr;
  few = omega arith;
  lie = All-weaker (IsNear addr) (LiesOn (near_pages addr)) (near-lies addr) xs near;
}

named-is : (named : Bool) (addr a : ℕ) → cond named (Some addr) None ≡ Some a → a ≡ addr
named-is true addr a e = cc
named-is false addr a e = cc

address-below : (row : Row) (d : Decoded) (next : ℕ) (s : State) → address_in row d next s < 2 ^ 64
unfolding address_of
address-below row d next s = omega arith

vectors-touch : (row : Row) (d : Decoded) (next : ℕ) (s : State) → VectorPlanFits (vectors_of row d next s)
    → TouchesAtMost 4 (vector_access (vectors_of row d next s))
unfolding vectors_of
vectors-touch row d next s fits =
    near-touch (address_in row d next s) _
    (vector-near row d.fields (places_of row d next s) next s.extended (address_in row d next s) (address-below row d next s)
    (named-is (is_memory d.fields) (address_in row d next s)) fits)

-- no access touches a page
pub none-touch : TouchesAtMost 4 []
none-touch = few-touch 2 [] (few-none 2)

-- ---- the whole
way-touch : (way : Way) (row : Row) (d : Decoded) (next : ℕ) (s : State) → PlanFits (plan_by way row d next s)
    → TouchesAtMost 4 (plan_accesses (plan_by way row d next s) s)
unfolding strings_access
way-touch Numbers row d next s fits = few-touch 2 _ (plain-few (instruction_of row d next s))
way-touch (Strings op) row d next s fits =
    let i = strings_of op row d next s in
    few-touch 2 _ (strings-few (is_over i s.gprs) i.op (bytes_in i.size) (source_of i s.gprs) (destination_of i s.gprs) (bytes-short i.size))
way-touch Pair row d next s fits = few-touch 2 _ (pair-few (pair_of row d next s))
way-touch Vectors row d next s fits = vectors-touch row d next s fits
way-touch (Clears clearing) row d next s fits = none-touch
way-touch Identifies row d next s fits = none-touch

-- the accesses of an instruction touch at most four pages
pub plan-touch : (row : Row) (d : Decoded) (len : ℕ) (s : State) → PlanFits (plan_of row d len s)
    → TouchesAtMost 4 (plan_accesses (plan_of row d len s) s)
unfolding plan_of
plan-touch row d len s fits = way-touch (way_of row.op) row d (next_of len s) s fits

-- and the fetch of one at most two
pub fetch-touches : (rip : ℕ) → TouchesAtMost 2 (fetch_accesses rip)
fetch-touches rip = few-touch 1 _ (few-one _ (omega arith))

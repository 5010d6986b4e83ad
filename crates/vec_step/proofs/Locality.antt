-- A vector instruction depends on its accesses alone, and writes within them alone.
use Rattle.std.proofs.Common.{◌≡◌, ℕ, zero, suc, ◌+◌, ◌*◌, ◌/◌, ◌%◌, ◌^◌, ◌<◌, ◌≤◌, ◌⊎◌, inl, inr, Bool, true, false, cond, ◌&&◌, nat_lt, List, [], ◌∷◌, refl, ap, ◌∙◌, arith}
use Rattle.std.specs.List.{All}
use Rattle.std.proofs.lemmas.List.Elements.{All-head}
use Rattle.std.proofs.lemmas.Bool.{cases_lt, ltb-true}
use Rattle.byteorder.specs.Endian.{little_number}
use Rattle.byteorder.specs.Numbers.{length-bytes_low_first}
use Rattle.machine_state.specs.declared.kinds.Kind.{Kind}
use Rattle.machine_state.specs.declared.kinds.Kind.TheVariants.{Read, Write}
use Rattle.machine_state.specs.declared.kinds.Access.{Access}
use Rattle.machine_state.specs.State.{Extended}
use Rattle.machine_state.specs.Memory.{bytes_at, written, number_at, number_bytes}
use Rattle.machine_state.proofs.MemoryLemmas.{bytes_at_same}
use Rattle.gpr_flags.specs.declared.kinds.Flags.{Flags}
use Rattle.gpr_flags.specs.Numbers.{has_bit}
use Rattle.num_lanes.specs.Lane.{lane_of}
use Rattle.num_lanes.proofs.Joins.{joined-same}
use Rattle.masked_memory.specs.Lanes.{lane_place, lane_access, lane_accesses, loaded_lane, loaded, lane_stored, stored}
use Rattle.vec_units.specs.Results.{vector_result, bits_of}
use Rattle.vec_step.specs.declared.kinds.Source.{Source}
use Rattle.vec_step.specs.declared.kinds.Source.TheVariants.{Register as FromRegister, General as FromGeneral, Opmask as FromOpmask, Count, Memory as FromMemory, Broadcast, Whole, Nothing}
use Rattle.vec_step.specs.declared.kinds.Target.{Target}
use Rattle.vec_step.specs.declared.kinds.Target.TheVariants.{Register as ToRegister, Memory as ToMemory, Mask as ToMask, General as ToGeneral, Flags as ToFlags, Nowhere}
use Rattle.vec_step.specs.declared.kinds.VectorPlan.{VectorPlan}
use Rattle.vec_step.specs.Plan.{vector_access, read_accesses, source_accesses, target_accesses}
use Rattle.num_lanes.specs.Setters.{zmm_in}
use Rattle.vec_step.specs.Left.{padded, spread, operand_of, value_of, mask_of, number_of, extended_at, gprs_at, flags_at, byte_at, extended_left, gprs_left, flags_left, byte_left}
use Rattle.vec_step.proofs.Accesses.{All_before, All_behind, written_outside, written_same}

-- what holds of the accesses of n lanes holds of that of each
pub lane_all : (P : Access → Type 0) (kind : Kind) (addr w mask i n : ℕ) → All P (lane_accesses kind addr w mask n) → i < n
    → All P (lane_access kind addr w mask i)
unfolding lane_accesses
lane_all P kind addr w mask i zero all h = absurd (omega arith)
lane_all P kind addr w mask i (suc n) all h = elim (cases_lt i n) as (λ _. All P (lane_access kind addr w mask i)) [
  | inl below ↦ lane_all P kind addr w mask i n (All_before P (lane_accesses kind addr w mask n) (lane_access kind addr w mask n) all) below
  | inr not_below ↦ (let same : i ≡ n = omega arith in rw same (All_behind P (lane_accesses kind addr w mask n) (lane_access kind addr w mask n) all))
]

-- what holds of the accesses of an instruction holds of those of each operand
module _ (P : Access → Type 0) (i : VectorPlan) (all : All P (vector_access i)) where
  read_part : All P (read_accesses i)
  unfolding vector_access
  read_part = All_before P (read_accesses i) (target_accesses i.target) all

  first_part : All P (source_accesses i.first)
  first_part = All_before P (source_accesses i.first) (source_accesses i.second) read_part

  second_part : All P (source_accesses i.second)
  second_part = All_behind P (source_accesses i.first) (source_accesses i.second) read_part

  target_part : All P (target_accesses i.target)
  unfolding vector_access
  target_part = All_behind P (read_accesses i) (target_accesses i.target) all

-- ---- loads
-- two memories have the same bytes in an access
abbrev pub SameIn : (ℕ → ℕ) → (ℕ → ℕ) → Access → Type 0
SameIn byte other access = (at : ℕ) → access.addr ≤ at → at < access.addr + access.len → byte at ≡ other at

bytes_same : (byte other : ℕ → ℕ) (access : Access) → SameIn byte other access
    → bytes_at byte access.addr access.len ≡ bytes_at other access.addr access.len
bytes_same byte other access same = bytes_at_same byte other access.addr access.len (λ i h. same (access.addr + i) (omega arith) (omega arith))

-- by cases: whether the lane is one of those that are loaded, and whether the mask has it
lane_by : (byte other : ℕ → ℕ) (kind : Kind) (addr w old : ℕ) (below has : Bool)
    → (below ≡ true → All (SameIn byte other) (cond has (record { kind = kind; addr = addr; len = w } ∷ []) []))
    → cond (below && has) (number_at byte addr w) old ≡ cond (below && has) (number_at other addr w) old
lane_by byte other kind addr w old false has same = refl
lane_by byte other kind addr w old true false same = refl
lane_by byte other kind addr w old true true same =
    ap (little_number w)
    (bytes_same byte other (record { kind = kind; addr = addr; len = w })
    (All-head (SameIn byte other) (record { kind = kind; addr = addr; len = w }) [] (same refl)))

lane_same : (byte other : ℕ → ℕ) (kind : Kind) (addr w n mask : ℕ) (old : ℕ → ℕ) (i : ℕ)
    → All (SameIn byte other) (lane_accesses kind addr w mask n)
    → loaded_lane byte addr w n mask old i ≡ loaded_lane other addr w n mask old i
unfolding loaded_lane lane_access
lane_same byte other kind addr w n mask old i same =
    lane_by byte other kind (lane_place addr w i) w (old i) (nat_lt i n) (has_bit mask i)
    (λ e. lane_all (SameIn byte other) kind addr w mask i n same (ltb-true i n e))

loaded_same : (byte other : ℕ → ℕ) (kind : Kind) (addr w n mask : ℕ) (old : ℕ → ℕ)
    → All (SameIn byte other) (lane_accesses kind addr w mask n) → loaded byte addr w n mask old ≡ loaded other addr w n mask old
unfolding loaded
loaded_same byte other kind addr w n mask old same =
    joined-same w (64 / w) _ _ (λ i h. lane_same byte other kind addr w n mask old i same)

-- where memories have the same bytes in what is read, the same comes of it
operand_same : (source : Source) (gprs : List ℕ) (e : Extended) (byte other : ℕ → ℕ) → All (SameIn byte other) (source_accesses source)
    → operand_of source gprs e byte ≡ operand_of source gprs e other
unfolding operand_of
operand_same (FromRegister n) gprs e byte other same = refl
operand_same (FromGeneral n) gprs e byte other same = refl
operand_same (FromOpmask n) gprs e byte other same = refl
operand_same (Count n) gprs e byte other same = refl
operand_same (FromMemory m) gprs e byte other same = loaded_same byte other Read m.addr m.width m.lanes m.mask (λ _. 0) same
operand_same (Broadcast m) gprs e byte other same =
    ap (λ (lanes : List ℕ). spread m.width lanes) (loaded_same byte other Read m.addr m.width m.lanes m.mask (λ _. 0) same)
operand_same (Whole addr len) gprs e byte other same =
    ap (λ (bytes : List ℕ). padded bytes len)
    (bytes_same byte other (record { kind = Read; addr = addr; len = len })
    (All-head (SameIn byte other) (record { kind = Read; addr = addr; len = len }) [] same))
operand_same Nothing gprs e byte other same = refl

module _ (i : VectorPlan) (gprs : List ℕ) (e : Extended) (byte other : ℕ → ℕ) (same : All (SameIn byte other) (vector_access i)) where
  first_same : operand_of i.first gprs e byte ≡ operand_of i.first gprs e other
  first_same = operand_same i.first gprs e byte other (first_part (SameIn byte other) i same)

  second_same : operand_of i.second gprs e byte ≡ operand_of i.second gprs e other
  second_same = operand_same i.second gprs e byte other (second_part (SameIn byte other) i same)

  value_same : value_of i gprs e byte ≡ value_of i gprs e other
  unfolding value_of
  value_same = λ k. vector_result i.form (zmm_in e i.old) (first_same k) (second_same k) i.mask

  mask_same : mask_of i gprs e byte ≡ mask_of i gprs e other
  unfolding mask_of
  mask_same = λ k. bits_of i.form (zmm_in e i.old) (first_same k) (second_same k) i.mask

  pub extended_same : extended_left i gprs e byte ≡ extended_left i gprs e other
  unfolding extended_left
  extended_same = λ k. extended_at i.target (value_same k) (mask_same k) e

  pub gprs_same : gprs_left i gprs e byte ≡ gprs_left i gprs e other
  unfolding gprs_left
  gprs_same = λ k. gprs_at i.target (number_of i (value_same k) (mask_same k)) gprs

  pub flags_same : (f : Flags) → flags_left i gprs e byte f ≡ flags_left i gprs e other f
  unfolding flags_left
  flags_same f = ap (λ (mask : ℕ). flags_at i.target mask f) mask_same

-- ---- stores
lane_stored_by : (has : Bool) (byte other : ℕ → ℕ) (addr : ℕ) (bytes : List ℕ) (at : ℕ) → byte at ≡ other at
    → cond has (written byte addr bytes) byte at ≡ cond has (written other addr bytes) other at
lane_stored_by true byte other addr bytes at same = written_same byte other addr bytes at same
lane_stored_by false byte other addr bytes at same = same

stored_same : (addr w mask : ℕ) (lanes : ℕ → ℕ) (n : ℕ) (byte other : ℕ → ℕ) (at : ℕ) → byte at ≡ other at
    → stored addr w mask lanes n byte at ≡ stored addr w mask lanes n other at
unfolding stored lane_stored
stored_same addr w mask lanes zero byte other at same = same
stored_same addr w mask lanes (suc n) byte other at same =
    lane_stored_by (has_bit mask n) (stored addr w mask lanes n byte) (stored addr w mask lanes n other) (lane_place addr w n)
    (number_bytes w (lanes n)) at (stored_same addr w mask lanes n byte other at same)

byte_at_same : (target : Target) (value : List ℕ) (byte other : ℕ → ℕ) (at : ℕ) → byte at ≡ other at
    → byte_at target value byte at ≡ byte_at target value other at
byte_at_same (ToMemory m) value byte other at same = stored_same m.addr m.width m.mask (lane_of m.width value) m.lanes byte other at same
byte_at_same (ToRegister n) value byte other at same = same
byte_at_same (ToMask n) value byte other at same = same
byte_at_same (ToGeneral n) value byte other at same = same
byte_at_same ToFlags value byte other at same = same
byte_at_same Nowhere value byte other at same = same

-- a byte that was the same is the same afterwards
pub byte_same : (i : VectorPlan) (gprs : List ℕ) (e : Extended) (byte other : ℕ → ℕ) → All (SameIn byte other) (vector_access i)
    → (at : ℕ) → byte at ≡ other at → byte_left i gprs e byte at ≡ byte_left i gprs e other at
unfolding byte_left
byte_same i gprs e byte other same at here =
    ap (λ (value : List ℕ). byte_at i.target value byte at) (value_same i gprs e byte other same)
    ∙ byte_at_same i.target (value_of i gprs e other) byte other at here

-- ---- the frame
-- an access doesn't write the byte at an address
abbrev pub Spares : ℕ → Access → Type 0
Spares at access = access.kind ≡ Write → (at < access.addr) ⊎ (access.addr + access.len ≤ at)

lane_spared : (has : Bool) (byte : ℕ → ℕ) (addr w number at : ℕ)
    → All (Spares at) (cond has (record { kind = Write; addr = addr; len = w } ∷ []) [])
    → cond has (written byte addr (number_bytes w number)) byte at ≡ byte at
lane_spared true byte addr w number at spared =
    written_outside byte addr w (number_bytes w number) at (length-bytes_low_first 0 w (number % 2 ^ (8 * w)))
    (All-head (Spares at) (record { kind = Write; addr = addr; len = w }) [] spared refl)
lane_spared false byte addr w number at spared = refl

stored_spared : (addr w mask : ℕ) (lanes : ℕ → ℕ) (n : ℕ) (byte : ℕ → ℕ) (at : ℕ) → All (Spares at) (lane_accesses Write addr w mask n)
    → stored addr w mask lanes n byte at ≡ byte at
unfolding stored lane_stored lane_accesses lane_access
stored_spared addr w mask lanes zero byte at spared = refl
stored_spared addr w mask lanes (suc n) byte at spared =
    lane_spared (has_bit mask n) (stored addr w mask lanes n byte) (lane_place addr w n) w (lanes n) at
    (All_behind (Spares at) (lane_accesses Write addr w mask n) (lane_access Write addr w mask n) spared)
    ∙ stored_spared addr w mask lanes n byte at (All_before (Spares at) (lane_accesses Write addr w mask n) (lane_access Write addr w mask n) spared)

byte_at_spared : (target : Target) (value : List ℕ) (byte : ℕ → ℕ) (at : ℕ) → All (Spares at) (target_accesses target)
    → byte_at target value byte at ≡ byte at
byte_at_spared (ToMemory m) value byte at spared = stored_spared m.addr m.width m.mask (lane_of m.width value) m.lanes byte at spared
byte_at_spared (ToRegister n) value byte at spared = refl
byte_at_spared (ToMask n) value byte at spared = refl
byte_at_spared (ToGeneral n) value byte at spared = refl
byte_at_spared ToFlags value byte at spared = refl
byte_at_spared Nowhere value byte at spared = refl

-- a byte that no access of kind write has stays
pub byte_spared : (i : VectorPlan) (gprs : List ℕ) (e : Extended) (byte : ℕ → ℕ) (at : ℕ) → All (Spares at) (vector_access i)
    → byte_left i gprs e byte at ≡ byte at
unfolding byte_left
byte_spared i gprs e byte at spared = byte_at_spared i.target (value_of i gprs e byte) byte at (target_part (Spares at) i spared)

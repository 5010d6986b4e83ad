-- The walk along lanes.
use Rattle.std.proofs.Common.{◌≡◌, ℕ, zero, suc, ◌+◌, ◌-◌, ◌<◌, Bool, true, [], ◌∷◌, Option, Some, None, refl, ap, sym, ◌∙◌, arith, add-one, inl, inr, cond}
use Rattle.gpr_flags.specs.Numbers.{has_bit}
use Rattle.std.proofs.lemmas.Bool.{cases_lt}
use Rattle.machine_state.specs.declared.kinds.Kind.{Kind}
use Rattle.machine_state.specs.declared.kinds.Stop.{Stop}
use Rattle.guest_pages.specs.Table.{Table, blocked}
use Rattle.guest_pages.specs.Walk.{walk}
use Rattle.guest_pages.proofs.WalkLemmas.{walk-append, stop_then, stop_then-none, first-free}
use Rattle.masked_memory.specs.Lanes.{lane_place, lane_access, lane_accesses, lane_stored, stored}

-- one lane more
walk-more : (table : Table) (kind : Kind) (addr w mask n : ℕ)
    → walk table (lane_accesses kind addr w mask (n + 1)) ≡ stop_then (walk table (lane_accesses kind addr w mask n)) (walk table (lane_access kind addr w mask n))
unfolding lane_accesses
walk-more table kind addr w mask n = rw add-one (walk-append table (lane_accesses kind addr w mask n) (lane_access kind addr w mask n))

-- no lane, no stop
pub walk-none : (table : Table) (kind : Kind) (addr w mask : ℕ) → walk table (lane_accesses kind addr w mask 0) ≡ None
unfolding lane_accesses walk
walk-none table kind addr w mask = refl

-- a walk that goes on
pub walk-on : (table : Table) (kind : Kind) (addr w mask n : ℕ) → walk table (lane_accesses kind addr w mask n) ≡ None
    → walk table (lane_access kind addr w mask n) ≡ None → walk table (lane_accesses kind addr w mask (n + 1)) ≡ None
walk-on table kind addr w mask n e f =
    walk-more table kind addr w mask n ∙ ap (λ (s : Option Stop). stop_then s (walk table (lane_access kind addr w mask n))) e ∙ f

stops-after : (table : Table) (kind : Kind) (addr w mask n more : ℕ) (stop : Stop) → walk table (lane_accesses kind addr w mask n) ≡ Some stop
    → walk table (lane_accesses kind addr w mask (n + more)) ≡ Some stop
stops-after table kind addr w mask n zero stop e = let z : n + 0 ≡ n = omega arith in rw z e
stops-after table kind addr w mask n (suc more) stop e =
    let z : n + suc more ≡ n + more + 1 = omega arith in
    ap (λ (m : ℕ). walk table (lane_accesses kind addr w mask m)) z ∙ walk-more table kind addr w mask (n + more)
    ∙ ap (λ (s : Option Stop). stop_then s (walk table (lane_access kind addr w mask (n + more)))) (stops-after table kind addr w mask n more stop e)

-- a walk that stops at a lane
pub walk-stops : (table : Table) (kind : Kind) (addr w mask i n : ℕ) (stop : Stop) → i < n → walk table (lane_accesses kind addr w mask i) ≡ None
    → walk table (lane_access kind addr w mask i) ≡ Some stop → walk table (lane_accesses kind addr w mask n) ≡ Some stop
walk-stops table kind addr w mask i n stop h e f =
    let z : i + 1 + (n - (i + 1)) ≡ n = omega arith in
    let here : walk table (lane_accesses kind addr w mask (i + 1)) ≡ Some stop =
    walk-more table kind addr w mask i ∙ ap (λ (s : Option Stop). stop_then s (walk table (lane_access kind addr w mask i))) e ∙ f in
    ap (λ (m : ℕ). walk table (lane_accesses kind addr w mask m)) (sym z) ∙ stops-after table kind addr w mask (i + 1) (n - (i + 1)) stop here

-- where the walk doesn't stop, each lane can be accessed
pub lane_free : (table : Table) (kind : Kind) (addr w mask i n : ℕ) → walk table (lane_accesses kind addr w mask n) ≡ None → i < n
    → walk table (lane_access kind addr w mask i) ≡ None
unfolding lane_accesses
lane_free table kind addr w mask i zero e h = absurd (omega arith)
lane_free table kind addr w mask i (suc n) e h =
    let both = stop_then-none (walk table (lane_accesses kind addr w mask n)) (walk table (lane_access kind addr w mask n))
    (sym (walk-append table (lane_accesses kind addr w mask n) (lane_access kind addr w mask n)) ∙ e) in
    elim (cases_lt i n) as (λ _. walk table (lane_access kind addr w mask i) ≡ None) [
      | inl below ↦ lane_free table kind addr w mask i n both.0 below
      | inr not_below ↦ (let same : i ≡ n = omega arith in rw same both.1)
    ]

-- a lane that the mask has can be accessed where its walk doesn't stop
pub lane-blocked : (table : Table) (kind : Kind) (addr w mask i : ℕ) → walk table (lane_access kind addr w mask i) ≡ None
    → has_bit mask i ≡ true → blocked table kind (lane_place addr w i) w ≡ None
unfolding lane_access
lane-blocked table kind addr w mask i e has =
    first-free table (record { kind = kind; addr = lane_place addr w i; len = w }) []
    (sym (ap (λ (b : Bool). walk table (cond b (record { kind = kind; addr = lane_place addr w i; len = w } ∷ []) [])) has) ∙ e)

-- one lane more is stored
pub stored-more : (addr w mask : ℕ) (lanes : ℕ → ℕ) (n : ℕ) (byte : ℕ → ℕ)
    → stored addr w mask lanes (n + 1) byte ≡ lane_stored addr w mask lanes n (stored addr w mask lanes n byte)
unfolding stored
stored-more addr w mask lanes n byte = rw add-one refl

pub stored-none : (addr w mask : ℕ) (lanes : ℕ → ℕ) (byte : ℕ → ℕ) → byte ≡ stored addr w mask lanes 0 byte
unfolding stored
stored-none addr w mask lanes byte = refl

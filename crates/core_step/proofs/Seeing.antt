-- What an instruction sees of memory by its access list, and what it puts there.
use Rattle.std.proofs.Common.{◌≡◌, ℕ, ◌+◌, ◌-◌, ◌<◌, ◌≤◌, ◌⊎◌, inl, inr, Bool, true, false, cond, ◌||◌, List, [], ◌∷◌, refl, sym, ap, ◌∙◌, arith, length}
use Rattle.std.specs.List.{All, list_any}
use Rattle.std.proofs.lemmas.Bool.{cases_lt}
use Rattle.std.proofs.lemmas.List.Elements.{All-nil, All-cons, All-head, All-tail, All-weaker}
use Rattle.machine_state.specs.declared.kinds.Kind.{Kind}
use Rattle.machine_state.specs.declared.kinds.Kind.TheVariants.{Read, Write, Execute}
use Rattle.machine_state.specs.declared.kinds.Access.{Access}
use Rattle.machine_state.specs.Memory.{Memory, bytes_at, written}
use Rattle.machine_state.proofs.MemoryLemmas.{length-bytes_at, below_write, in_write, above_write, written_in}
use Rattle.core_step.specs.Access.{is_write}
use Rattle.core_step.specs.Effect.{covers, seen_in, put_by, put_in}
use Rattle.core_step.specs.Machine.{AgreeOn, SparesByte}
use Rattle.masked_memory.proofs.Loads.{byte-at}
use Rattle.vec_step.proofs.Accesses.{written_outside, written_same}

-- ---- what is seen
-- memories that agree on a list have the same byte at each address in it
agreed : (xs : List Access) (memory other : Memory) → All (AgreeOn memory other) xs → (at : ℕ) → list_any (covers at) xs ≡ true
    → memory.byte at ≡ other.byte at
agreed [] memory other agree at e = absurd (let clash : false ≡ true = e in cc)
agreed (x ∷ xs) memory other agree at e = elim (cases_lt at x.addr) [
  | inl below ↦ agreed xs memory other (All-tail (AgreeOn memory other) x xs agree) at (later x xs at (apart-below x at below) e)
  | inr low ↦ elim (cases_lt at (x.addr + x.len)) [
    | inl high ↦ (All-head (AgreeOn memory other) x xs agree at low high).1
    | inr above ↦ agreed xs memory other (All-tail (AgreeOn memory other) x xs agree) at (later x xs at (apart-above x at low above) e)
  ]
]
  where
    apart-below : (x : Access) (at : ℕ) → at < x.addr → covers at x ≡ false
    apart-below x at h = below_write x.addr at (x.addr + x.len) h

    apart-above : (x : Access) (at : ℕ) → x.addr ≤ at → x.addr + x.len ≤ at → covers at x ≡ false
    apart-above x at low h = above_write x.addr at (x.addr + x.len) low h

    later : (x : Access) (xs : List Access) (at : ℕ) → covers at x ≡ false → list_any (covers at) (x ∷ xs) ≡ true → list_any (covers at) xs ≡ true
    later x xs at apart e = ap (λ (b : Bool). b || list_any (covers at) xs) (sym apart) ∙ e

seen_at : (inside : Bool) (m n : ℕ) → (inside ≡ true → m ≡ n) → cond inside m 0 ≡ cond inside n 0
seen_at true m n same = same refl
seen_at false m n same = refl

-- so the same is seen of both
pub seen_same : (xs : List Access) (memory other : Memory) → All (AgreeOn memory other) xs → seen_in xs memory.byte ≡ seen_in xs other.byte
seen_same xs memory other agree =
    λ k at. seen_at (list_any (covers at) xs) (memory.byte at) (other.byte at) (agreed xs memory other agree at) k

or-left : (a b : Bool) → a ≡ true → (a || b) ≡ true
or-left true b e = refl
or-left false b e = cc

or-right : (a b : Bool) → b ≡ true → (a || b) ≡ true
or-right true b e = refl
or-right false b e = e

-- whether an access lies in a list
abbrev LiesIn : List Access → Access → Type 0
LiesIn xs access = (at : ℕ) → covers at access ≡ true → list_any (covers at) xs ≡ true

lie-in : (xs : List Access) → All (LiesIn xs) xs
lie-in [] = All-nil (LiesIn [])
lie-in (x ∷ xs) =
    All-cons (LiesIn (x ∷ xs)) x xs (λ at e. or-left (covers at x) (list_any (covers at) xs) e)
    (All-weaker (LiesIn xs) (LiesIn (x ∷ xs)) (λ access h at e. or-right (covers at x) (list_any (covers at) xs) (h at e)) xs (lie-in xs))

-- a memory of which other bytes than those of a list are 0
abbrev pub seen_memory : List Access → Memory → Memory
seen_memory xs memory = record memory { byte = seen_in xs memory.byte }

-- it agrees with the whole one on the list
pub agree-seen : (xs : List Access) (memory : Memory) → All (AgreeOn memory (seen_memory xs memory)) xs
agree-seen xs memory =
    All-weaker (LiesIn xs) (AgreeOn memory (seen_memory xs memory))
    (λ access lies at low high. (
      refl,
      ap (λ (b : Bool). cond b (memory.byte at) 0) (sym (lies at (in_write access.addr at (access.addr + access.len) low high))),
    )) xs (lie-in xs)

-- ---- what is put
-- a write has its own bytes
written_inside : (byte new : ℕ → ℕ) (addr len at : ℕ) → addr ≤ at → at < addr + len → written byte addr (bytes_at new addr len) at ≡ new at
written_inside byte new addr len at low high =
    let count : length (bytes_at new addr len) ≡ len = length-bytes_at new addr len in
    let place : addr + (at - addr) ≡ at = omega arith in
    written_in byte addr (bytes_at new addr len) at low (rw count high) ∙ byte-at new addr len (at - addr) (omega arith) ∙ ap new place

-- by the kind of an access
by_kind-spared : (kind : Kind) (addr len : ℕ) (new old : ℕ → ℕ) (at : ℕ) → (kind ≡ Write → (at < addr) ⊎ (addr + len ≤ at))
    → cond (is_write kind) (written old addr (bytes_at new addr len)) old at ≡ old at
by_kind-spared Read addr len new old at spared = refl
by_kind-spared Write addr len new old at spared = written_outside old addr len (bytes_at new addr len) at (length-bytes_at new addr len) (spared refl)
by_kind-spared Execute addr len new old at spared = refl

by_kind-same : (kind : Kind) (addr len : ℕ) (new old other : ℕ → ℕ) (at : ℕ) → old at ≡ other at
    → cond (is_write kind) (written old addr (bytes_at new addr len)) old at ≡ cond (is_write kind) (written other addr (bytes_at new addr len)) other at
by_kind-same Read addr len new old other at same = same
by_kind-same Write addr len new old other at same = written_same old other addr (bytes_at new addr len) at same
by_kind-same Execute addr len new old other at same = same

by_kind-is : (kind : Kind) (addr len : ℕ) (new old : ℕ → ℕ) (at value : ℕ) → (kind ≡ Write → addr ≤ at → at < addr + len → new at ≡ value)
    → ((kind ≡ Write → (at < addr) ⊎ (addr + len ≤ at)) → old at ≡ value)
    → cond (is_write kind) (written old addr (bytes_at new addr len)) old at ≡ value
by_kind-is Read addr len new old at value inside outside = outside (λ e. cc)
by_kind-is Execute addr len new old at value inside outside = outside (λ e. cc)
by_kind-is Write addr len new old at value inside outside = elim (cases_lt at addr) [
  | inl below ↦ written_outside old addr len _ at (length-bytes_at new addr len) (inl below) ∙ outside (λ e. inl below)
  | inr low ↦ elim (cases_lt at (addr + len)) [
    | inl high ↦ written_inside old new addr len at low high ∙ inside refl low high
    | inr above ↦ written_outside old addr len _ at (length-bytes_at new addr len) (inr above) ∙ outside (λ e. inr above)
  ]
]

-- a byte that no write access has stays
pub put_in-spared : (xs : List Access) (new old : ℕ → ℕ) (at : ℕ) → All (SparesByte at) xs → put_in xs new old at ≡ old at
put_in-spared [] new old at spared = refl
put_in-spared (x ∷ xs) new old at spared =
    put_in-spared xs new (put_by x new old) at (All-tail (SparesByte at) x xs spared)
    ∙ by_kind-spared x.kind x.addr x.len new old at (All-head (SparesByte at) x xs spared)

-- a byte that two memories share is the same in both afterwards
pub put_in-same : (xs : List Access) (new old other : ℕ → ℕ) (at : ℕ) → old at ≡ other at → put_in xs new old at ≡ put_in xs new other at
put_in-same [] new old other at same = same
put_in-same (x ∷ xs) new old other at same =
    put_in-same xs new (put_by x new old) (put_by x new other) at (by_kind-same x.kind x.addr x.len new old other at same)

-- a write access has what is put, at each address
abbrev pub HasAt : (new : ℕ → ℕ) (at value : ℕ) → Access → Type 0
HasAt new at value access = access.kind ≡ Write → access.addr ≤ at → at < access.addr + access.len → new at ≡ value

pub put_in-is : (xs : List Access) (new old : ℕ → ℕ) (at value : ℕ) → All (HasAt new at value) xs
    → (All (SparesByte at) xs → old at ≡ value) → put_in xs new old at ≡ value
put_in-is [] new old at value inside outside = outside (All-nil (SparesByte at))
put_in-is (x ∷ xs) new old at value inside outside =
    put_in-is xs new (put_by x new old) at value (All-tail (HasAt new at value) x xs inside)
    (λ rest. by_kind-is x.kind x.addr x.len new old at value (All-head (HasAt new at value) x xs inside)
    (λ here. outside (All-cons (SparesByte at) x xs here rest)))

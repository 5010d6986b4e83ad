-- Lemmas on pages that an access waits for.
use Rattle.std.proofs.Common.{◌≡◌, ℕ, ◌+◌, ◌/◌, ◌==◌, List, [], ◌∷◌, ◌++◌, Bool, true, false, cond, ◌||◌, Option, Some, None, Result, Err, ◌⊎◌, inl, inr, ⊎_elim, zero, suc, refl, sym, ap, ◌∙◌}
use Rattle.std.specs.List.{list_any}
use Rattle.std.proofs.lemmas.Bool.{eq-eqb}
use Rattle.std.proofs.lemmas.List.Folds.{list_any-append}
use Rattle.machine_state.specs.declared.kinds.Kind.{Kind}
use Rattle.machine_state.specs.declared.kinds.Miss.{Miss}
use Rattle.machine_state.specs.declared.kinds.Miss.TheVariants.{Denied, NonCanonical, Away}
use Rattle.machine_state.specs.declared.kinds.Access.{Access}
use Rattle.machine_state.specs.declared.kinds.Stop.{Stop}
use Rattle.machine_state.specs.Memory.{page_size, Permissions, first_miss, miss_at, miss_in, permits, is_noncanonical, or_else}
use Rattle.guest_pages.specs.Table.{Mapped, Table, perms_in, away_at, first_away, blocked, answer_of}
use Rattle.guest_pages.specs.Pages.{PagesValue, table_of}
use Rattle.guest_pages.specs.Order.{AreOrdered, IsFirstBrought, IsResidentIn, IsAwayIn, is_recent}
use Rattle.guest_pages.specs.Walk.{walk, stop_or}

-- a mapped page in this slot is away
AwayFrom : Table → ℕ → Type 0
AwayFrom table slot = (page : ℕ) × (mapped : Mapped) × (table page ≡ Some mapped) × (mapped.slot ≡ slot) × (mapped.resident ≡ false)

never_case : (b : Bool) (perms : Option ℕ) (kind : Kind) (addr slot : ℕ) → cond b (Some (NonCanonical addr)) (miss_in perms kind addr) ≡ Some (Away slot) → ⊥
never_case true perms kind addr slot h = cc
never_case false None kind addr slot h = cc
never_case false (Some perms) kind addr slot h = denied (permits kind perms) addr slot h
  where
    denied : (b : Bool) (addr slot : ℕ) → cond b None (Some (Denied addr)) ≡ Some (Away slot) → ⊥
    denied true addr slot h = cc
    denied false addr slot h = cc

one_of : (first rest : Option Miss) (miss : Miss) → or_else first rest ≡ Some miss → (first ≡ Some miss) ⊎ (rest ≡ Some miss)
one_of (Some other) rest miss h = inl h
one_of None rest miss h = inr h

never_away : (perms : Permissions) (kind : Kind) (addr len slot : ℕ) → first_miss perms kind addr len ≡ Some (Away slot) → ⊥
unfolding first_miss
never_away perms kind addr zero slot h = cc
never_away perms kind addr (suc len) slot h = ⊎_elim
    (λ (here : miss_at perms kind addr ≡ Some (Away slot)). never_case (is_noncanonical addr) (perms (addr / page_size)) kind addr slot here)
    (λ (later : first_miss perms kind (addr + 1) len ≡ Some (Away slot)). never_away perms kind (addr + 1) len slot later)
    (one_of (miss_at perms kind addr) (first_miss perms kind (addr + 1) len) (Away slot) h)

away_case : (entry : Option Mapped) (slot : ℕ) → away_at entry ≡ Some (Away slot) → (mapped : Mapped) × (entry ≡ Some mapped) × (mapped.slot ≡ slot) × (mapped.resident ≡ false)
away_case None slot h = cc
away_case (Some mapped) slot h = (mapped, refl, (by_resident mapped.resident mapped.slot slot h).0, (by_resident mapped.resident mapped.slot slot h).1)
  where
    by_resident : (resident : Bool) (here slot : ℕ) → cond resident None (Some (Away here)) ≡ Some (Away slot) → (here ≡ slot) × (resident ≡ false)
    by_resident true here slot h = cc
    by_resident false here slot h = (let same : here ≡ slot = cc in same, refl)

first_away_in : (table : Table) (addr len slot : ℕ) → first_away table addr len ≡ Some (Away slot) → AwayFrom table slot
unfolding first_away AwayFrom
first_away_in table addr zero slot h = cc
first_away_in table addr (suc len) slot h = ⊎_elim
    (λ (here : away_at (table (addr / page_size)) ≡ Some (Away slot)).
    let there = away_case (table (addr / page_size)) slot here in (addr / page_size, there.0, there.1, there.2, there.3))
    (λ (later : first_away table (addr + 1) len ≡ Some (Away slot)). first_away_in table (addr + 1) len slot later)
    (one_of (away_at (table (addr / page_size))) (first_away table (addr + 1) len) (Away slot) h)

blocked_in : (table : Table) (kind : Kind) (addr len slot : ℕ) → blocked table kind addr len ≡ Some (Away slot) → AwayFrom table slot
blocked_in table kind addr len slot h = ⊎_elim
    (λ (here : first_miss (perms_in table) kind addr len ≡ Some (Away slot)). absurd (never_away (perms_in table) kind addr len slot here))
    (λ (later : first_away table addr len ≡ Some (Away slot)). first_away_in table addr len slot later)
    (one_of (first_miss (perms_in table) kind addr len) (first_away table addr len) (Away slot) h)

has_away : (pages : PagesValue) (slot : ℕ) → AwayFrom (table_of pages) slot → IsAwayIn pages slot
unfolding AwayFrom
has_away pages slot there = record { page = there.0; mapped = there.1; there = record { is = there.2; slot_is = there.3 }; resident_is = there.4 }

-- the page that an access waits for is away
pub blocked_away : (pages : PagesValue) (kind : Kind) (addr len slot : ℕ) → blocked (table_of pages) kind addr len ≡ Some (Away slot) → IsAwayIn pages slot
blocked_away pages kind addr len slot h = has_away pages slot (blocked_in (table_of pages) kind addr len slot h)

pub ready_away : (pages : PagesValue) (kind : Kind) (addr len slot : ℕ) (answer : Result (Unit {0}) Miss) → answer ≡ answer_of (blocked (table_of pages) kind addr len) → answer ≡ Err (Away slot)
    → IsAwayIn pages slot
ready_away pages kind addr len slot answer is away = blocked_away pages kind addr len slot (by_miss (blocked (table_of pages) kind addr len) (sym away ∙ is))
  where
    by_miss : (miss : Option Miss) → ◌≡◌ {A = Result (Unit {0}) Miss} (Err (Away slot)) (answer_of miss) → miss ≡ Some (Away slot)
    by_miss None h = cc
    by_miss (Some m) h = let same : Away slot ≡ m = err_same (Away slot) m h in ap (λ (x : Miss). let o : Option Miss = Some x in o) (sym same)
      where
        err_same : (a b : Miss) → ◌≡◌ {A = Result (Unit {0}) Miss} (Err a) (Err b) → a ≡ b
        err_same a b e = cc

some_same : (a b : Stop) → ◌≡◌ {A = Option Stop} (Some a) (Some b) → a ≡ b
some_same a b e = cc

walk_in : (table : Table) (accesses : List Access) (kind : Kind) (slot : ℕ) → walk table accesses ≡ Some (record { kind = kind; miss = Away slot }) → AwayFrom table slot
unfolding walk
walk_in table [] kind slot h = cc
walk_in table (access ∷ rest) kind slot h =
    by_miss (blocked table access.kind access.addr access.len) refl h (λ later. walk_in table rest kind slot later)
  where
    by_miss : (miss : Option Miss) → blocked table access.kind access.addr access.len ≡ miss → stop_or access.kind miss (walk table rest) ≡ Some (record { kind = kind; miss = Away slot })
        → (walk table rest ≡ Some (record { kind = kind; miss = Away slot }) → AwayFrom table slot) → AwayFrom table slot
    by_miss None is h again = again h
    by_miss (Some miss) is h again =
        let same : record { kind = access.kind; miss = miss } ≡ record { kind = kind; miss = Away slot } = some_same _ _ h in
        blocked_in table access.kind access.addr access.len slot (is ∙ ap (λ (stop : Stop). let o : Option Miss = Some stop.miss in o) same)

-- and so is the one that a walk waits for
pub walk_away : (pages : PagesValue) (accesses : List Access) (kind : Kind) (slot : ℕ) → walk (table_of pages) accesses ≡ Some (record { kind = kind; miss = Away slot }) → IsAwayIn pages slot
walk_away pages accesses kind slot h = has_away pages slot (walk_in (table_of pages) accesses kind slot h)

any_right : (a : Bool) → (a || true) ≡ true
any_right true = refl
any_right false = refl

pub last_recent : (later : List ℕ) (slot : ℕ) → is_recent (later ++ slot ∷ []) slot ≡ true
last_recent later slot =
    list_any-append (λ other. slot == other) later (slot ∷ []) ∙ rw (eq-eqb slot slot refl) (any_right (list_any (λ other. slot == other) later))

-- the page brought first is in a frame
pub first_resident : (pages : PagesValue) (slot : ℕ) → AreOrdered pages → IsFirstBrought pages.recent slot → IsResidentIn pages slot
first_resident pages slot ordered first = let is = first.is in ordered.only slot (rw is (last_recent first.later slot))

-- A page that accesses wait for is one of the pages under them.
use Rattle.std.proofs.Common.{◌≡◌, ◌∙◌, ℕ, zero, suc, ◌+◌, ◌/◌, ◌≤◌, ◌<◌, ◌==◌, ◌||◌, ◌++◌, Bool, true, false, cond, List, [], ◌∷◌, length, Option, Some, None, refl, sym, ap, arith, get_or}
use Rattle.std.specs.List.{Contains, list_any}
use Rattle.std.proofs.lemmas.Bool.{eq-eqb}
use Rattle.std.proofs.lemmas.List.Folds.{list_any-append}
use Rattle.machine_state.specs.Memory.{page_size, or_else, first_miss}
use Rattle.machine_state.specs.declared.kinds.Access.{Access}
use Rattle.machine_state.specs.declared.kinds.Kind.{Kind}
use Rattle.machine_state.specs.declared.kinds.Miss.{Miss}
use Rattle.machine_state.specs.declared.kinds.Miss.TheVariants.{Away}
use Rattle.machine_state.specs.declared.kinds.Stop.{Stop}
use Rattle.machine_state.proofs.MemoryLemmas.{first_miss_never_away}
use Rattle.guest_pages.specs.Table.{Mapped, Table, away_at, blocked, first_away, perms_in}
use Rattle.guest_pages.specs.Walk.{stop_or, walk}
use Rattle.guest_run.specs.Units.{is_of, is_slot, pages_of, pages_under}

either-right : (a : Bool) → (a || true) ≡ true
either-right true = refl
either-right false = refl

some_stop : (a b : Stop) → ◌≡◌ {A = Option Stop} (Some a) (Some b) → a ≡ b
some_stop a b e = cc

same_slot : (a b : ℕ) → ◌≡◌ {A = Option Miss} (Some (Away a)) (Some (Away b)) → a ≡ b
same_slot a b e = cc

-- the slot of a page that is away
pub slot-away : (o : Option Mapped) (slot : ℕ) → away_at o ≡ Some (Away slot) → is_slot o slot ≡ true
slot-away None slot h = cc
slot-away (Some mapped) slot h = here mapped.resident h
  where
    here : (b : Bool) → ◌≡◌ {A = Option Miss} (cond b None (Some (Away mapped.slot))) (Some (Away slot)) → (slot == mapped.slot) ≡ true
    here true h = cc
    here false h = eq-eqb slot mapped.slot (sym (same_slot mapped.slot slot h))

-- the page under a byte of an access
pub under-at : (table : Table) (addr len i slot : ℕ) → i < len → is_slot (table ((addr + i) / page_size)) slot ≡ true → is_of table (pages_under addr len) slot ≡ true
unfolding is_of pages_under
under-at table addr zero i slot below is = absurd (omega (arith, below))
under-at table addr (suc len) zero slot below is = rw (let at : addr + 0 ≡ addr = omega arith in ap (λ (n : ℕ). is_slot (table (n / page_size)) slot) (sym at) ∙ is) refl
under-at table addr (suc len) (suc i) slot below is =
    let at : addr + suc i ≡ addr + 1 + i = omega arith in
    let later : is_of table (pages_under (addr + 1) len) slot ≡ true =
    under-at table (addr + 1) len i slot (omega (arith, below)) (ap (λ (n : ℕ). is_slot (table (n / page_size)) slot) (sym at) ∙ is) in
    rw later (either-right (is_slot (table (addr / page_size)) slot))

first-under : (table : Table) (addr len slot : ℕ) → first_away table addr len ≡ Some (Away slot) → is_of table (pages_under addr len) slot ≡ true
unfolding first_away is_of pages_under
first-under table addr zero slot h = cc
first-under table addr (suc len) slot h = here (table (addr / page_size)) (away_at (table (addr / page_size))) refl refl h (first-under table (addr + 1) len slot)
  where
    here : (o : Option Mapped) (miss : Option Miss) → table (addr / page_size) ≡ o → away_at (table (addr / page_size)) ≡ miss
        → or_else miss (first_away table (addr + 1) len) ≡ Some (Away slot)
        → (first_away table (addr + 1) len ≡ Some (Away slot) → list_any (λ page. is_slot (table page) slot) (pages_under (addr + 1) len) ≡ true)
        → (is_slot (table (addr / page_size)) slot || list_any (λ page. is_slot (table page) slot) (pages_under (addr + 1) len)) ≡ true
    here o None is away h again = rw (again h) (either-right (is_slot (table (addr / page_size)) slot))
    here o (Some miss) is away h again = rw (slot-away (table (addr / page_size)) slot (away ∙ h)) refl

pub blocked-under : (table : Table) (kind : Kind) (addr len slot : ℕ) → blocked table kind addr len ≡ Some (Away slot) → is_of table (pages_under addr len) slot ≡ true
blocked-under table kind addr len slot h = here (first_miss (perms_in table) kind addr len) refl h
  where
    here : (miss : Option Miss) → first_miss (perms_in table) kind addr len ≡ miss → or_else miss (first_away table addr len) ≡ Some (Away slot)
        → is_of table (pages_under addr len) slot ≡ true
    here None is h = first-under table addr len slot h
    here (Some miss) is h = absurd (first_miss_never_away (perms_in table) kind addr len slot (is ∙ h))

pub is_of-append : (table : Table) (xs ys : List ℕ) (slot : ℕ) → is_of table (xs ++ ys) slot ≡ (is_of table xs slot || is_of table ys slot)
unfolding is_of
is_of-append table xs ys slot = list_any-append (λ page. is_slot (table page) slot) xs ys

pub walk-under : (table : Table) (accesses : List Access) (stop : Stop) (slot : ℕ) → walk table accesses ≡ Some stop → stop.miss ≡ Away slot → is_of table (pages_of accesses) slot ≡ true
unfolding walk pages_of
walk-under table [] stop slot h away = cc
walk-under table (access ∷ rest) stop slot h away =
    is_of-append table (pages_under access.addr access.len) (pages_of rest) slot
    ∙ here (blocked table access.kind access.addr access.len) refl h (λ later. walk-under table rest stop slot later away)
  where
    here : (miss : Option Miss) → blocked table access.kind access.addr access.len ≡ miss → stop_or access.kind miss (walk table rest) ≡ Some stop
        → (walk table rest ≡ Some stop → is_of table (pages_of rest) slot ≡ true)
        → (is_of table (pages_under access.addr access.len) slot || is_of table (pages_of rest) slot) ≡ true
    here None is h again = rw (again h) (either-right (is_of table (pages_under access.addr access.len) slot))
    here (Some miss) is h again =
        let same : record { kind = access.kind; miss = miss } ≡ stop = some_stop _ _ h in
        let waits : miss ≡ Away slot = ap (λ (x : Stop). x.miss) same ∙ away in
        rw (blocked-under table access.kind access.addr access.len slot (is ∙ ap (λ (x : Miss). let o : Option Miss = Some x in o) waits)) refl

-- ---- the pages of a list on which each byte lies
pub is_of-has : (table : Table) (pages : List ℕ) (page slot : ℕ) → Contains pages page → is_slot (table page) slot ≡ true → is_of table pages slot ≡ true
unfolding is_of
is_of-has table [] page slot has is = absurd (omega (arith, has.1))
is_of-has table (x ∷ xs) page slot has is = at has.0 has.1 has.2 (λ more. is_of-has table xs page slot more is)
  where
    at : (n : ℕ) → n < suc (length xs) → get_or (x ∷ xs) n page ≡ page → (Contains xs page → list_any (λ page. is_slot (table page) slot) xs ≡ true)
        → (is_slot (table x) slot || list_any (λ page. is_slot (table page) slot) xs) ≡ true
    at zero below found again = rw (ap (λ (n : ℕ). is_slot (table n) slot) found ∙ is) refl
    at (suc n) below found again = rw (again (n, omega (arith, below), found)) (either-right (is_slot (table x) slot))

pub under-on : (table : Table) (addr len slot : ℕ) (pages : List ℕ) → ((at : ℕ) → addr ≤ at → at < addr + len → Contains pages (at / page_size))
    → is_of table (pages_under addr len) slot ≡ true → is_of table pages slot ≡ true
unfolding is_of pages_under
under-on table addr zero slot pages lies is = cc
under-on table addr (suc len) slot pages lies is =
    here (is_slot (table (addr / page_size)) slot) refl is
    (λ later. under-on table (addr + 1) len slot pages (λ at above below. lies at (omega (arith, above)) (omega (arith, below))) later)
  where
    here : (b : Bool) → is_slot (table (addr / page_size)) slot ≡ b → (b || is_of table (pages_under (addr + 1) len) slot) ≡ true
        → (is_of table (pages_under (addr + 1) len) slot ≡ true → is_of table pages slot ≡ true) → is_of table pages slot ≡ true
    here true first h again = is_of-has table pages (addr / page_size) slot (lies addr (omega arith) (omega arith)) first
    here false first h again = again h

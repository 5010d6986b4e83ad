-- The pages of a guest's next unit of work: that there are few, and that a page which is waited for is one of them.
use Rattle.std.proofs.Common.{◌≡◌, ◌∙◌, ℕ, ◌+◌, ◌/◌, ◌^◌, ◌≤◌, ◌||◌, Bool, true, false, if◌then◌else◌, List, [], ◌∷◌, Option, Some, None, refl, sym, ap, arith, subst}
use Rattle.std.specs.List.{All}
use Rattle.std.proofs.lemmas.Bool.{eq-eqb}
use Rattle.std.proofs.lemmas.List.Elements.{All-head, All-tail}
use Rattle.machine_state.specs.Memory.{page_size, Memory, first_miss}
use Rattle.machine_state.specs.State.{State}
use Rattle.machine_state.specs.declared.kinds.Access.{Access}
use Rattle.machine_state.specs.declared.kinds.Kind.TheVariants.{Execute}
use Rattle.machine_state.specs.declared.kinds.Miss.{Miss}
use Rattle.machine_state.specs.declared.kinds.Miss.TheVariants.{Unmapped, Denied, NonCanonical, Away}
use Rattle.machine_state.specs.declared.kinds.Stop.{Stop}
use Rattle.row_table.specs.declared.kinds.Row.{Row}
use Rattle.row_table.specs.declared.kinds.Decoded.{Decoded}
use Rattle.form_scan.specs.Shaped.{most_bytes}
use Rattle.guest_pages.specs.Table.{Mapped, Table, first_away}
use Rattle.guest_pages.specs.Pages.{PagesValue, table_of}
use Rattle.guest_pages.specs.Order.{IsAwayIn}
use Rattle.guest_pages.specs.Walk.{walk}
use Rattle.guest_pages.proofs.Aways.{blocked_away, walk_away}
use Rattle.core_step.specs.declared.ways.Way.{Way}
use Rattle.core_step.specs.declared.ways.Way.TheVariants.{Numbers, Strings, Pair, Vectors, Clears, Identifies}
use Rattle.core_step.specs.declared.kinds.Plan.{Plan}
use Rattle.core_step.specs.declared.kinds.Plan.TheVariants.{Plain, OnStrings, OnPair, OnVectors, Clears as Cleared, Identifies as Identified}
use Rattle.core_step.specs.Plan.{plan_of, plan_by, plan_accesses, way_of, next_of}
use Rattle.core_step.specs.Alignment.{is_misaligned}
use Rattle.core_step.specs.Fetch.{NeedsPage}
use Rattle.core_step.specs.Operands.{instruction_of, instruction_by}
use Rattle.core_step.specs.Strings.{strings_of}
use Rattle.core_step.specs.Pair.{pair_of}
use Rattle.core_step.specs.Vectors.{vectors_of}
use Rattle.core_step.specs.Machine.{accesses, accesses_by, needed, away_in, state_of}
use Rattle.core_step.specs.Pages.{LiesOn, TouchesAtMost, fetch_accesses}
use Rattle.linux_calls.specs.Units.{WaitsFor, unit_pages, unit_rank}
use Rattle.linux_calls.specs.View.{View}
use Rattle.linux_calls.specs.Waiting.{IsNeeded}
use Rattle.linux_calls.proofs.RankLemmas.{needs-unit}
use Rattle.guest_run.specs.declared.guest.Guest.{Guest}
use Rattle.guest_run.specs.declared.guest.Phase.{Phase}
use Rattle.guest_run.specs.declared.guest.Phase.TheVariants.{Fetch, Perform, Answer}
use Rattle.guest_run.specs.Guests.{view_in}
use Rattle.guest_run.specs.Units.{AreFew, UnitWaits, is_of, is_slot, no_swap, pages_of, pages_under, phase_pages, phase_rank}
use Rattle.guest_run.proofs.Waits.{is_of-append, is_of-has, slot-away, under-at, under-on, walk-under}

-- ---- an access list doesn't depend on memory
module _ (s : State) (m : Memory) where
  abbrev other : State
  other = record s { memory = m }

  plan-same : (row : Row) (d : Decoded) (len : ℕ) → plan_of row d len other ≡ plan_of row d len s
  unfolding plan_of instruction_of instruction_by strings_of pair_of vectors_of
  plan-same row d len = by_way (way_of row.op)
    where
      by_way : (way : Way) → plan_by way row d (next_of len other) other ≡ plan_by way row d (next_of len s) s
      by_way Numbers = refl
      by_way (Strings op) = refl
      by_way Pair = refl
      by_way Vectors = refl
      by_way (Clears clearing) = refl
      by_way Identifies = refl

  aligned-same : (row : Row) (d : Decoded) (len : ℕ) → is_misaligned row d len other ≡ is_misaligned row d len s
  unfolding is_misaligned
  aligned-same row d len = refl

  accesses-in : (plan : Plan) → plan_accesses plan other ≡ plan_accesses plan s
  accesses-in (Plain i) = refl
  accesses-in (OnStrings i) = refl
  accesses-in (OnPair i) = refl
  accesses-in (OnVectors i) = refl
  accesses-in (Cleared i) = refl
  accesses-in (Identified i) = refl

  row-same : (row : Option Row) (d : Decoded) (len : ℕ) → accesses_by row d len other ≡ accesses_by row d len s
  row-same None d len = refl
  row-same (Some row) d len =
      let xs = plan_accesses (plan_of row d len other) other in
      let same : xs ≡ plan_accesses (plan_of row d len s) s =
      accesses-in (plan_of row d len other) ∙ ap (λ (plan : Plan). plan_accesses plan s) (plan-same row d len) in
      ap (λ (b : Bool). if b then [] else xs) (aligned-same row d len) ∙ ap (λ (ys : List Access). if is_misaligned row d len s then [] else ys) same

  pub accesses-same : (d : Decoded) (len : ℕ) → accesses d len other ≡ accesses d len s
  unfolding accesses
  accesses-same d len = row-same _ d len

-- ---- the units that are few
few-on : (table : Table) (pages : List ℕ) (xs : List Access) (slot : ℕ) → All (LiesOn pages) xs → is_of table (pages_of xs) slot ≡ true → is_of table pages slot ≡ true
unfolding pages_of is_of
few-on table pages [] slot lie is = cc
few-on table pages (x ∷ xs) slot lie is =
    here (is_of table (pages_under x.addr x.len) slot) refl (sym (is_of-append table (pages_under x.addr x.len) (pages_of xs) slot) ∙ is)
    (few-on table pages xs slot (All-tail (LiesOn pages) x xs lie))
  where
    here : (b : Bool) → is_of table (pages_under x.addr x.len) slot ≡ b → (b || is_of table (pages_of xs) slot) ≡ true
        → (is_of table (pages_of xs) slot ≡ true → is_of table pages slot ≡ true) → is_of table pages slot ≡ true
    here true first h again = under-on table x.addr x.len slot pages (All-head (LiesOn pages) x xs lie) first
    here false first h again = again h

pub touched-few : (table : Table) (most : ℕ) (xs : List Access) → most ≤ 4 → TouchesAtMost most xs → AreFew table (pages_of xs)
touched-few table most xs four touches = record {
  of = touches.pages;
  few = let few = touches.few in omega (arith, few, four);
  are = λ slot is. few-on table touches.pages xs slot touches.lie is;
}

-- ---- a page that is waited for is one of the unit's
-- in a fetch
pub fetch-waits : (g : Guest) (slot : ℕ) (byte : ℕ → ℕ) → g.phase ≡ Fetch → TouchesAtMost 2 (fetch_accesses g.machine.rip)
    → NeedsPage (table_of g.machine.pages) byte g.machine.rip slot → UnitWaits g slot
unfolding pages_of
fetch-waits g slot byte phase touches needs =
    let table = table_of g.machine.pages in
    let pages : phase_pages g.phase g ≡ pages_of (fetch_accesses g.machine.rip) = ap (λ (p : Phase). phase_pages p g) phase in
    let few : AreFew table (pages_of (fetch_accesses g.machine.rip)) = touched-few table 2 _ (omega arith) touches in
    let under = under-at table g.machine.rip most_bytes needs.count slot needs.fewer (slot-away (table ((g.machine.rip + needs.count) / page_size)) slot needs.away) in
    let is : is_of table (pages_of (fetch_accesses g.machine.rip)) slot ≡ true =
    is_of-append table (pages_under g.machine.rip most_bytes) [] slot ∙ rw under refl in
    record {
      few = subst (AreFew table) (sym pages) few;
      of = ap (λ (xs : List ℕ). is_of table xs slot) pages ∙ is;
      left = let rank : phase_rank g.phase g ≡ 2 ^ 64 + 2 = ap (λ (p : Phase). phase_rank p g) phase in omega (arith, rank);
    }

pub fetch-away : (pages : PagesValue) (byte : ℕ → ℕ) (rip slot : ℕ) → NeedsPage (table_of pages) byte rip slot → IsAwayIn pages slot
unfolding first_miss first_away
fetch-away pages byte rip slot needs = blocked_away pages Execute (rip + needs.count) 1 slot (rw (needs.allowed, needs.away) refl)

-- where an instruction is performed
some_slot : (a b : ℕ) → ◌≡◌ {A = Option ℕ} (Some a) (Some b) → a ≡ b
some_slot a b e = cc

away-slot : (miss : Miss) (slot : ℕ) → away_in miss ≡ Some slot → miss ≡ Away slot
away-slot (Unmapped addr) slot h = cc
away-slot (Denied addr) slot h = cc
away-slot (NonCanonical addr) slot h = cc
away-slot (Away at) slot h = ap Away (some_slot at slot h)

needed-stop : (o : Option Stop) (slot : ℕ) → needed o ≡ Some slot → (stop : Stop) × (o ≡ Some stop) × (stop.miss ≡ Away slot)
needed-stop None slot h = cc
needed-stop (Some stop) slot h = (stop, refl, away-slot stop.miss slot h)

pub needed-away : (pages : PagesValue) (xs : List Access) (slot : ℕ) → needed (walk (table_of pages) xs) ≡ Some slot → IsAwayIn pages slot
needed-away pages xs slot h =
    let stop = needed-stop (walk (table_of pages) xs) slot h in
    walk_away pages xs stop.0.kind slot (stop.1 ∙ ap (λ (miss : Miss). let o : Option Stop = Some (record { kind = stop.0.kind; miss = miss }) in o) stop.2)

pub perform-waits : (g : Guest) (slot : ℕ) (d : Decoded) (len : ℕ) → g.phase ≡ Perform d len → TouchesAtMost 4 (accesses d len (state_of g.machine no_swap))
    → needed (walk (table_of g.machine.pages) (accesses d len (state_of g.machine no_swap))) ≡ Some slot → UnitWaits g slot
perform-waits g slot d len phase touches needs =
    let table = table_of g.machine.pages in
    let xs = accesses d len (state_of g.machine no_swap) in
    let pages : phase_pages g.phase g ≡ pages_of xs = ap (λ (p : Phase). phase_pages p g) phase in
    let stop = needed-stop (walk table xs) slot needs in
    record {
      few = subst (AreFew table) (sym pages) (touched-few table 4 xs (omega arith) touches);
      of = ap (λ (ps : List ℕ). is_of table ps slot) pages ∙ walk-under table xs stop.0 slot stop.1 stop.2;
      left = let rank : phase_rank g.phase g ≡ 2 ^ 64 + 1 = ap (λ (p : Phase). phase_rank p g) phase in omega (arith, rank);
    }

-- in a call
pub answer-waits : (g : Guest) (old : View) (slot : ℕ) → g.phase ≡ Answer → IsNeeded (view_in g) slot → WaitsFor old (view_in g) slot → UnitWaits g slot
answer-waits g old slot phase needs waits =
    let table = table_of g.machine.pages in
    let pages : phase_pages g.phase g ≡ unit_pages (view_in g) = ap (λ (p : Phase). phase_pages p g) phase in
    let is : is_slot (table waits.away.page) slot ≡ true =
    ap (λ (o : Option Mapped). is_slot o slot) waits.away.there.is ∙ eq-eqb slot waits.away.mapped.slot (sym waits.away.there.slot_is) in
    record {
      few = subst (AreFew table) (sym pages) (record { of = unit_pages (view_in g); few = waits.few; are = λ slot is. is });
      of = ap (λ (ps : List ℕ). is_of table ps slot) pages ∙ is_of-has table (unit_pages (view_in g)) waits.away.page slot waits.of is;
      left =
          let rank : phase_rank g.phase g ≡ unit_rank (view_in g) = ap (λ (p : Phase). phase_rank p g) phase in
          let some = needs-unit (view_in g) slot needs in omega (arith, rank, some);
    }

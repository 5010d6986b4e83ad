-- What is left of a step: it is nearer to its end once a page of its next unit was brought, and the pages that may still be brought are
-- fewer.
use Rattle.std.proofs.Common.{◌≡◌, ◌∙◌, inl, inr, ℕ, ◌+◌, ◌-◌, ◌*◌, ◌^◌, ◌≤◌, ◌<◌, min, List, Result, Ok, Err, refl, sym, ap, arith, subst}
use Rattle.machine_state.specs.Memory.{Memory, Swap}
use Rattle.host_edge.specs.declared.outside.HostCall.{HostCall}
use Rattle.row_table.specs.declared.kinds.Decoded.{Decoded}
use Rattle.guest_pages.specs.Table.{Table}
use Rattle.host_edge.specs.Causes.{raised}
use Rattle.guest_pages.specs.Pages.{table_of, memory_of}
use Rattle.guest_pages.specs.Order.{AreOrdered, IsAwayIn}
use Rattle.swap_pager.specs.Bringing.{IsBrought}
use Rattle.core_step.specs.Act.{act, performed}
use Rattle.core_step.specs.Machine.{state_of}
use Rattle.linux_calls.specs.Units.{SameUnit, WaitsFor, unit_pages, unit_rank}
use Rattle.guest_run.specs.declared.guest.Guest.{Guest}
use Rattle.guest_run.specs.declared.guest.Phase.{Phase}
use Rattle.guest_run.specs.declared.guest.Phase.TheVariants.{Fetch, Perform, Answer}
use Rattle.guest_run.specs.declared.running.Tried.{Tried}
use Rattle.guest_run.specs.declared.running.Tried.TheVariants.{Again, Done}
use Rattle.guest_run.specs.Guests.{view_in}
use Rattle.guest_run.specs.Loads.{units_after}
use Rattle.guest_run.specs.Units.{IsLow, IsNearer, UnitWaits, no_swap, pages_of, phase_pages, phase_rank, phase_units, ready, ready_of, loads_left, tries_left}
use Rattle.guest_run.proofs.Ready.{ready-brought}
use Rattle.guest_run.proofs.UnitLemmas.{accesses-same}

-- ---- a step is nearer to its end
-- the same guest with other pages
abbrev repaged : Guest → Guest → Guest
repaged g new = record g { machine = record g.machine { pages = new.machine.pages }; pager = new.pager }

rank-repaged : (g new : Guest) (p : Phase) → phase_rank p (repaged g new) ≡ phase_rank p g
unfolding unit_rank
rank-repaged g new Fetch = refl
rank-repaged g new (Perform d len) = refl
rank-repaged g new Answer = refl

pages-repaged : (g new : Guest) (p : Phase) → phase_pages p (repaged g new) ≡ phase_pages p g
unfolding unit_pages
pages-repaged g new Fetch = refl
pages-repaged g new (Perform d len) = ap pages_of (accesses-same (state_of g.machine no_swap) (state_of (repaged g new).machine no_swap).memory d len)
pages-repaged g new Answer = refl

-- a page of its unit is one more of those brought last
pub brought-ready : (g new : Guest) (slot : ℕ) → AreOrdered g.machine.pages → IsAwayIn g.machine.pages slot → 8 ≤ g.machine.pages.frames
    → new ≡ repaged g new → IsBrought g.machine.pages new.machine.pages slot → UnitWaits g slot → (ready g ≤ 3) × (ready new ≡ ready g + 1)
unfolding ready
brought-ready g new slot ordered away least keeps brought waits =
    let pages = pages-repaged g new g.phase in
    let both = ready-brought g.machine.pages new.machine.pages (phase_pages g.phase g) slot ordered away waits.few waits.of least brought in
    let now : ready (repaged g new) ≡ ready g + 1 =
    ap (λ (ps : List ℕ). ready_of (table_of new.machine.pages) ps new.machine.pages.recent) pages ∙ both.1 in
    (both.0, subst (λ (x : Guest). ready x ≡ ready g + 1) (sym keeps) now)

-- so the step is nearer to its end
pub brought-nearer : (g new : Guest) → new ≡ repaged g new → (ready g ≤ 3) × (ready new ≡ ready g + 1) → tries_left new < tries_left g
unfolding tries_left
brought-nearer g new keeps now =
    let rank : phase_rank new.phase new ≡ phase_rank g.phase g =
    ap (λ (x : Guest). phase_rank x.phase x) keeps ∙ rank-repaged g new g.phase in
    less (phase_rank new.phase new) (phase_rank g.phase g) (ready new) (ready g) rank now.1 now.0
  where
    less : (rank rank' ready ready' : ℕ) → rank ≡ rank' → ready ≡ ready' + 1 → ready' ≤ 3 → 5 * rank + (5 - ready) < 5 * rank' + (5 - ready')
    less rank rank' ready ready' same now most = omega (arith, same, now, most)

-- and one page less may be brought
units-repaged : (g new : Guest) (before after : Swap) → memory_of new.machine.pages after ≡ memory_of g.machine.pages before → (p : Phase)
    → phase_units p after (repaged g new) ≡ phase_units p before g
unfolding unit_rank
units-repaged g new before after same Fetch = ap (λ (m : Memory). 2 + units_after (act (record (state_of g.machine before) { memory = m }))) same
units-repaged g new before after same (Perform d len) =
    ap (λ (m : Memory). 1 + units_after (performed d len (record (state_of g.machine before) { memory = m }))) same
units-repaged g new before after same Answer = refl

units-some : (g : Guest) (swap : Swap) (p : Phase) → 1 ≤ phase_rank p g → 1 ≤ phase_units p swap g
units-some g swap Fetch left = omega arith
units-some g swap (Perform d len) left = omega arith
units-some g swap Answer left = left

pub brought-loads : (g new : Guest) (slot : ℕ) (before after : Swap) → new ≡ repaged g new → memory_of new.machine.pages after ≡ memory_of g.machine.pages before
    → UnitWaits g slot → (ready g ≤ 3) × (ready new ≡ ready g + 1) → new.pager.loads ≡ raised g.pager.loads
    → new.pager.loads + loads_left after new ≤ g.pager.loads + loads_left before g
unfolding loads_left
brought-loads g new slot before after keeps same waits now loads =
    let units : phase_units new.phase after new ≡ phase_units g.phase before g =
    ap (λ (x : Guest). phase_units x.phase after x) keeps ∙ units-repaged g new before after same g.phase in
    one-less (phase_units new.phase after new) (phase_units g.phase before g) (ready new) (ready g) new.pager.loads g.pager.loads
    units (units-some g before g.phase waits.left) now.1 now.0 loads
  where
    one-less : (units units' ready ready' loads loads' : ℕ) → units ≡ units' → 1 ≤ units' → ready ≡ ready' + 1 → ready' ≤ 3 → loads ≡ raised loads'
        → loads + (4 * units - min ready 4) ≤ loads' + (4 * units' - min ready' 4)
    one-less units units' ready ready' loads loads' same some now most is = grind (arith, same, some, now, most, is)

-- ---- fewer units, or as many
same-loads : (units units' ready ready' : ℕ) → units ≡ units' → ready ≡ ready' → 4 * units - min ready 4 ≤ 4 * units' - min ready' 4
same-loads units units' ready ready' same now = rw (same, now) (omega arith)

pub fewer-loads : (units units' ready ready' : ℕ) → units + 1 ≤ units' → 4 * units - min ready 4 ≤ 4 * units' - min ready' 4
fewer-loads units units' ready ready' fewer = grind (arith, fewer)

-- ---- a call goes on
rank-answer : (g : Guest) → g.phase ≡ Answer → phase_rank g.phase g ≡ unit_rank (view_in g)
rank-answer g phase = ap (λ (p : Phase). phase_rank p g) phase

ready-answer : (g : Guest) → g.phase ≡ Answer → ready g ≡ ready_of (table_of g.machine.pages) (unit_pages (view_in g)) g.machine.pages.recent
unfolding ready
ready-answer g phase = ap (λ (p : Phase). ready_of (table_of g.machine.pages) (phase_pages p g) g.machine.pages.recent) phase

units-answer : (g : Guest) (swap : Swap) → g.phase ≡ Answer → phase_units g.phase swap g ≡ unit_rank (view_in g)
units-answer g swap phase = ap (λ (p : Phase). phase_units p swap g) phase

-- the same unit has as many pages that were brought last
same-ready : (g mid : Guest) → g.phase ≡ Answer → mid.phase ≡ Answer → SameUnit (view_in g) (view_in mid) → ready mid ≡ ready g
same-ready g mid phase mid_phase same =
    ready-answer mid mid_phase
    ∙ ap (λ (t : Table). ready_of t (unit_pages (view_in mid)) mid.machine.pages.recent) same.table
    ∙ ap (λ (ps : List ℕ). ready_of (table_of g.machine.pages) ps mid.machine.pages.recent) same.pages
    ∙ ap (λ (xs : List ℕ). ready_of (table_of g.machine.pages) (unit_pages (view_in g)) xs) same.recent
    ∙ sym (ready-answer g phase)

pub answered-nearer : (g mid : Guest) (slot : ℕ) → g.phase ≡ Answer → mid.phase ≡ Answer → WaitsFor (view_in g) (view_in mid) slot → tries_left mid ≤ tries_left g
unfolding tries_left
answered-nearer g mid slot phase mid_phase waits = elim waits.unit as (λ _. tries_left mid ≤ tries_left g) [
  | inl fewer ↦ let is = rank-answer g phase in let mid_is = rank-answer mid mid_phase in
      fewer-left (phase_rank mid.phase mid) (phase_rank g.phase g) (ready mid) (ready g) (rw (is, mid_is) fewer)
  | inr same ↦
      let rank : phase_rank mid.phase mid ≡ phase_rank g.phase g = rank-answer mid mid_phase ∙ same.rank ∙ sym (rank-answer g phase) in
      same-left (phase_rank mid.phase mid) (phase_rank g.phase g) (ready mid) (ready g) rank (same-ready g mid phase mid_phase same)
]
  where
    fewer-left : (rank rank' ready ready' : ℕ) → rank < rank' → 5 * rank + (5 - ready) ≤ 5 * rank' + (5 - ready')
    fewer-left rank rank' ready ready' fewer = omega (arith, fewer)

    same-left : (rank rank' ready ready' : ℕ) → rank ≡ rank' → ready ≡ ready' → 5 * rank + (5 - ready) ≤ 5 * rank' + (5 - ready')
    same-left rank rank' ready ready' is left = omega (arith, is, left)

pub answered-loads : (g mid : Guest) (slot : ℕ) → g.phase ≡ Answer → mid.phase ≡ Answer → WaitsFor (view_in g) (view_in mid) slot → (swap : Swap)
    → loads_left swap mid ≤ loads_left swap g
unfolding loads_left
answered-loads g mid slot phase mid_phase waits swap = elim waits.unit as (λ _. loads_left swap mid ≤ loads_left swap g) [
  | inl fewer ↦
      let is = units-answer g swap phase in let mid_is = units-answer mid swap mid_phase in
      fewer-loads (phase_units mid.phase swap mid) (phase_units g.phase swap g) (ready mid) (ready g) (omega (arith, is, mid_is, fewer))
  | inr same ↦
      let units : phase_units mid.phase swap mid ≡ phase_units g.phase swap g = units-answer mid swap mid_phase ∙ same.rank ∙ sym (units-answer g swap phase) in
      same-loads (phase_units mid.phase swap mid) (phase_units g.phase swap g) (ready mid) (ready g) units (same-ready g mid phase mid_phase same)
]

-- a call is nearer to the end than its instruction
pub answer-low : (g : Guest) → g.phase ≡ Answer → unit_rank (view_in g) ≤ 2 ^ 64 → tries_left g ≤ 5 * 2 ^ 64 + 5
unfolding tries_left
answer-low g phase most = let is = rank-answer g phase in low (phase_rank g.phase g) (ready g) (rw is most)
  where
    low : (rank ready : ℕ) → rank ≤ 2 ^ 64 → 5 * rank + (5 - ready) ≤ 5 * 2 ^ 64 + 5
    low rank ready most = omega (arith, most)

pub perform-high : (g : Guest) (d : Decoded) (len : ℕ) → g.phase ≡ Perform d len → 5 * 2 ^ 64 + 5 ≤ tries_left g
unfolding tries_left
perform-high g d len phase = let is : phase_rank g.phase g ≡ 2 ^ 64 + 1 = ap (λ (p : Phase). phase_rank p g) phase in high (phase_rank g.phase g) (ready g) is
  where
    high : (rank ready : ℕ) → rank ≡ 2 ^ 64 + 1 → 5 * 2 ^ 64 + 5 ≤ 5 * rank + (5 - ready)
    high rank ready is = omega (arith, is)

pub fetch-high : (g mid : Guest) (d : Decoded) (len : ℕ) → g.phase ≡ Fetch → mid.phase ≡ Perform d len → tries_left mid ≤ tries_left g
unfolding tries_left
fetch-high g mid d len phase mid_phase =
    let is : phase_rank g.phase g ≡ 2 ^ 64 + 2 = ap (λ (p : Phase). phase_rank p g) phase in
    let mid_is : phase_rank mid.phase mid ≡ 2 ^ 64 + 1 = ap (λ (p : Phase). phase_rank p mid) mid_phase in
    high (phase_rank g.phase g) (phase_rank mid.phase mid) (ready g) (ready mid) is mid_is
  where
    high : (rank mid_rank ready mid_ready : ℕ) → rank ≡ 2 ^ 64 + 2 → mid_rank ≡ 2 ^ 64 + 1 → 5 * mid_rank + (5 - mid_ready) ≤ 5 * rank + (5 - ready)
    high rank mid_rank ready mid_ready is mid_is = omega (arith, is, mid_is)

pub fetch-above : (g : Guest) → g.phase ≡ Fetch → 5 * 2 ^ 64 + 5 ≤ tries_left g
unfolding tries_left
fetch-above g phase = let is : phase_rank g.phase g ≡ 2 ^ 64 + 2 = ap (λ (p : Phase). phase_rank p g) phase in high (phase_rank g.phase g) (ready g) is
  where
    high : (rank ready : ℕ) → rank ≡ 2 ^ 64 + 2 → 5 * 2 ^ 64 + 5 ≤ 5 * rank + (5 - ready)
    high rank ready is = omega (arith, is)

-- ---- tries, one after the other
pub low-again : (g : Guest) (result : Result Tried HostCall) → tries_left g ≤ 5 * 2 ^ 64 + 5 → IsLow g result
low-again g (Ok Again) low = low
low-again g (Ok (Done end)) low = tt
low-again g (Err call) low = tt

pub nearer-through : (g mid new : Guest) (result : Result Tried HostCall) → tries_left mid ≤ tries_left g → IsNearer mid new result → IsNearer g new result
nearer-through g mid new (Ok Again) no_further nearer = omega (arith, no_further, nearer)
nearer-through g mid new (Ok (Done end)) no_further nearer = tt
nearer-through g mid new (Err call) no_further nearer = tt

pub nearer-low : (g mid new : Guest) (result : Result Tried HostCall) → 5 * 2 ^ 64 + 5 ≤ tries_left g → IsLow mid result → IsNearer mid new result → IsNearer g new result
nearer-low g mid new (Ok Again) high low nearer = far (tries_left new) (tries_left mid) (tries_left g) high low nearer
  where
    far : (a b c : ℕ) → 5 * 2 ^ 64 + 5 ≤ c → b ≤ 5 * 2 ^ 64 + 5 → a < b → a < c
    far a b c high low nearer = omega (arith, high, low, nearer)
nearer-low g mid new (Ok (Done end)) high low nearer = tt
nearer-low g mid new (Err call) high low nearer = tt

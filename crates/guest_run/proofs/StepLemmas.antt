-- The tries of the phases of a step.
use Rattle.std.proofs.Common.{◌≡◌, ◌∙◌, ℕ, zero, suc, ◌+◌, ◌-◌, ◌*◌, ◌≤◌, ◌<◌, ◌++◌, min, List, [], ◌∷◌, length, Option, Some, None, IsSome, is_some, Result, Ok, Err, refl, sym, ap, arith, subst, get_or}
use Rattle.std.specs.Option.{option_map}
use Rattle.std.specs.List.{Contains}
use Rattle.gpr_flags.specs.declared.kinds.Fault.{Fault}
use Rattle.host_edge.specs.declared.outside.HostCall.{HostCall}
use Rattle.host_edge.specs.declared.outside.HostCall.TheVariants.{Take, PutOut, PutErr}
use Rattle.host_edge.specs.Causes.{Counts}
use Rattle.host_edge.specs.Files.{Held}
use Rattle.machine_state.specs.declared.kinds.GuestEnd.TheVariants.{Killed}
use Rattle.machine_state.specs.Memory.{Swap, Memory}
use Rattle.machine_state.specs.State.{State}
use Rattle.machine_state.specs.World.{World}
use Rattle.row_table.specs.declared.kinds.Decoded.{Decoded}
use Rattle.guest_pages.specs.Table.{Mapped, perms_in}
use Rattle.guest_pages.specs.Pages.{PagesValue, table_of, memory_of}
use Rattle.core_step.specs.declared.acted.Acted.{Acted}
use Rattle.core_step.specs.declared.acted.Acted.TheVariants.{Done as ActedDone, Call, Trap, Need}
use Rattle.core_step.specs.declared.fetching.Fetched.{Fetched}
use Rattle.core_step.specs.declared.fetching.Fetched.TheVariants.{Instr, Trap as FetchTrap}
use Rattle.core_step.specs.Act.{After, act, act_on, performed, trapped}
use Rattle.core_step.specs.Fetch.{fetched}
use Rattle.core_step.proofs.FetchLemmas.{act-fetched}
use Rattle.form_scan.specs.Shaped.{most_bytes}
use Rattle.x_decode.specs.Seeing.{IsDecoded}
use Rattle.core_step.specs.Machine.{state_of}
use Rattle.linux_calls.specs.Call.{Called}
use Rattle.linux_calls.specs.Outside.{Streams, Grown, standing_in}
use Rattle.linux_calls.specs.Rest.{ProgressValue, rest_of}
use Rattle.linux_calls.specs.Table.{called}
use Rattle.linux_calls.specs.View.{FitParts}
use Rattle.linux_calls.specs.declared.kinds.Stage.{Stage}
use Rattle.linux_calls.specs.declared.kinds.Stage.TheVariants.{Start, Listing, Moving, Copying}
use Rattle.linux_calls.specs.Waiting.{CanGoOnBy}
use Rattle.swap_pager.specs.Bringing.{IsBrought, framed_by}
use Rattle.guest_run.specs.declared.guest.Guest.{Guest}
use Rattle.guest_run.specs.declared.guest.Phase.{Phase}
use Rattle.guest_run.specs.declared.guest.Phase.TheVariants.{Fetch, Perform, Answer}
use Rattle.guest_run.specs.declared.running.Tried.{Tried}
use Rattle.guest_run.specs.declared.running.Tried.TheVariants.{Again, Done}
use Rattle.guest_run.specs.Step.{Ran, step, after_act, after_part, counted_world, calls_in_step, calls_after_part, paging_calls, signal_of}
use Rattle.guest_run.specs.Outside.{outside}
use Rattle.guest_run.specs.Guests.{Around, StandsFor, IsWithin, PhaseFits, around, view_in, with_guest}
use Rattle.swap_pager.specs.Paging.{CanPage}
use Rattle.guest_run.specs.Tally.{Tally, IsCounted}
use Rattle.guest_run.specs.Following.{Course, GoesOn, KeepsEnd, Tries, failed_in, run_calls, phase_calls, phase_rest, step_rest}
use Rattle.guest_run.proofs.RunLemmas.{signal_of-most}
use Rattle.guest_run.proofs.TryLemmas.{again-here, done-here, grown-none, some-held, tell-none}
use Rattle.guest_run.specs.Paging.{Brings, Grows}
use Rattle.guest_run.specs.Loads.{units_after}
use Rattle.guest_run.specs.Units.{IsNearer, UnitWaits, loads_left, phase_pages, phase_rank, phase_units, ready, ready_of, tries_left}
use Rattle.guest_run.proofs.LeftLemmas.{brought-loads, brought-nearer, fewer-loads}

-- ---- what a world is by the guest that stands for it
pub state-is : (swap : Swap) (g : Guest) (s : Streams) (w : World) → StandsFor swap g s w → state_of g.machine swap ≡ w.state
state-is swap g s w stands = ap (λ (x : World). x.state) stands.parts

-- the same guest with another state of its machine
abbrev pub with_state : World → State → World
with_state w s = record w { state = s }

-- a step by its instruction's own part
pub step-is : (w : World) (after : After) → act w.state ≡ after → after_part after w ≡ step w
unfolding step
step-is w after is = ap (λ (a : After). after_part a w) (sym is)

pub calls-are : (w : World) (after : After) → act w.state ≡ after → (paging_calls ++ calls_after_part after w) ≡ calls_in_step w
unfolding calls_in_step
calls-are w after is = ap (λ (a : After). paging_calls ++ calls_after_part a w) (sym is)

-- a call that begins is left whole
pub rest-begins : (progress : ProgressValue) (w : World) → progress.stage ≡ Start → rest_of progress w ≡ called w
unfolding rest_of
rest-begins progress w start = rw start refl

-- ---- a step that is completed
abbrev pub completed : Guest → Guest
completed g = record g { machine = record g.machine { steps = g.machine.steps + 1 }; phase = Fetch }

pub stands-counted : (swap : Swap) (g : Guest) (s : Streams) (w : World) → StandsFor swap g s w → StandsFor swap (completed g) s (counted_world w)
stands-counted swap g s w stands = record { parts = ap counted_world stands.parts; streams_are = stands.streams_are }

-- a fault ends the guest: what is left of its step is that end
pub killed : (swap : Swap) (g : Guest) (s : Streams) (from : World) (fault : Fault) (after : After) → StandsFor swap g s from → trapped fault from.state ≡ after
    → (Some (Killed (signal_of fault)) ≡ (after_part after from).end) × StandsFor swap (completed g) s (after_part after from).world
killed swap g s from fault after stands is =
    subst (λ (a : After). (Some (Killed (signal_of fault)) ≡ (after_part a from).end) × StandsFor swap (completed g) s (after_part a from).world) is
    (refl, stands-counted swap g s from stands)

-- ---- a fetch
-- what was fetched is what the world that a guest stands for gives
pub fetched-act : (swap : Swap) (g : Guest) (s : Streams) (from : World) (answer : Fetched) → StandsFor swap g s from → answer ≡ fetched (state_of g.machine swap)
    → act from.state ≡ act_on answer from.state
fetched-act swap g s from answer stands is = act-fetched from.state answer (is ∙ ap fetched (state-is swap g s from stands))

-- the same guest with another cache
abbrev pub cached : Guest → ℕ → Guest
cached g cache = record g { cache = cache }

-- and with this phase
abbrev pub in_phase : Guest → Phase → Guest
in_phase g phase = record g { phase = phase }

pub keeps-end : (g : Guest) → KeepsEnd g g
keeps-end g = record { end = refl; failed = refl }

-- which changes nothing of what is left of a step
pub cached-left : (g : Guest) (cache : ℕ) → tries_left (cached g cache) ≡ tries_left g
unfolding tries_left ready
cached-left g cache = by_phase g.phase
  where
    left : Phase → Guest → ℕ
    left p x = 5 * phase_rank p x + (5 - ready_of (table_of x.machine.pages) (phase_pages p x) x.machine.pages.recent)

    by_phase : (p : Phase) → left p (cached g cache) ≡ left p g
    by_phase Fetch = refl
    by_phase (Perform d len) = refl
    by_phase Answer = refl

cached-loads : (g : Guest) (cache : ℕ) (swap : Swap) → g.pager.loads + loads_left swap (cached g cache) ≤ g.pager.loads + loads_left swap g
unfolding loads_left ready
cached-loads g cache swap = let same = by_phase g.phase in omega (arith, same)
  where
    left : Phase → Guest → ℕ
    left p x = 4 * phase_units p swap x - min (ready_of (table_of x.machine.pages) (phase_pages p x) x.machine.pages.recent) 4

    by_phase : (p : Phase) → left p (cached g cache) ≡ left p g
    by_phase Fetch = refl
    by_phase (Perform d len) = refl
    by_phase Answer = refl

pub cached-tries : (g : Guest) (cache : ℕ) (a : Around) → IsWithin g a → Tries g (cached g cache) a a (Ok Again)
cached-tries g cache a within =
    again-here g (cached g cache) a (record { end = refl; failed = refl })
    (λ swap from stands. (record { parts = stands.parts; streams_are = stands.streams_are }, refl, refl))
    (cached-loads g cache) (record { phase = phase-cached g.phase within.phase; fit = within.fit; pages = within.pages }) refl
  where
    phase-cached : (p : Phase) → PhaseFits g p → PhaseFits (cached g cache) p
    phase-cached Fetch h = h
    phase-cached (Perform d len) h = h
    phase-cached Answer h = h

-- an instruction was fetched: the fetch isn't left any more
fetched-loads : (g : Guest) (d : Decoded) (len : ℕ) (swap : Swap) → g.phase ≡ Fetch → Instr d len ≡ fetched (state_of g.machine swap)
    → g.pager.loads + loads_left swap (in_phase g (Perform d len)) ≤ g.pager.loads + loads_left swap g
unfolding loads_left
fetched-loads g d len swap phase is =
    let s = state_of g.machine swap in
    let whole : phase_units g.phase swap g ≡ 2 + units_after (performed d len s) =
    ap (λ (p : Phase). phase_units p swap g) phase ∙ ap (λ (a : After). 2 + units_after a) (act-fetched s (Instr d len) is) in
    let fewer = fewer-loads (1 + units_after (performed d len s)) (phase_units g.phase swap g) (ready (in_phase g (Perform d len))) (ready g) (omega (arith, whole)) in
    omega (arith, fewer)

-- an instruction was fetched
pub fetched-tries : (g : Guest) (a : Around) (d : Decoded) (len : ℕ) → g.phase ≡ Fetch → g.progress.stage ≡ Start → FitParts (view_in g) → CanPage g.machine.pages a.held a.opened
    → ((swap : Swap) → Instr d len ≡ fetched (state_of g.machine swap)) → IsDecoded d.fields d × (1 ≤ len) × (len ≤ most_bytes)
    → Tries g (in_phase g (Perform d len)) a a (Ok Again)
fetched-tries g a d len phase begins fit pages is fits =
    again-here g (in_phase g (Perform d len)) a (record { end = refl; failed = refl })
    (λ swap from stands.
    let acts = fetched-act swap g a.streams from (Instr d len) stands (is swap) in (
      record { parts = stands.parts; streams_are = stands.streams_are },
      step-is from (performed d len from.state) acts ∙ sym (ap (λ (p : Phase). phase_rest p g.progress from) phase),
      calls-are from (performed d len from.state) acts ∙ sym (ap (λ (p : Phase). phase_calls p from) phase),
    ))
    (λ swap. fetched-loads g d len swap phase (is swap)) (record { phase = (begins, fits.0, fits.1, fits.2); fit = fit; pages = pages }) refl

-- a fetch that faults
pub fetch_killed-tries : (g : Guest) (a : Around) (fault : Fault) → g.phase ≡ Fetch → g.progress.stage ≡ Start → FitParts (view_in g) → CanPage g.machine.pages a.held a.opened
    → ((swap : Swap) → FetchTrap fault ≡ fetched (state_of g.machine swap))
    → Tries g (completed g) a a (Ok (Done (Some (Killed (signal_of fault)))))
fetch_killed-tries g a fault phase begins fit pages is =
    done-here g (completed g) a (record { end = refl; failed = refl }) (Some (Killed (signal_of fault)))
    (λ swap from stands.
    let acts = fetched-act swap g a.streams from (FetchTrap fault) stands (is swap) in
    let whole : after_part (trapped fault from.state) from ≡ step_rest g from =
    step-is from (trapped fault from.state) acts ∙ sym (ap (λ (p : Phase). phase_rest p g.progress from) phase) in
    subst (λ (to : Ran). (Some (Killed (signal_of fault)) ≡ to.end) × StandsFor swap (completed g) a.streams to.world) whole
    (refl, stands-counted swap g a.streams from stands))
    refl (record { phase = refl; begins = begins; fit = fit; pages = pages }) refl (signal_of-most fault)

-- ---- a page that is brought
pub perms-brought : (old new : PagesValue) (slot : ℕ) → IsBrought old new slot → perms_in (table_of new) ≡ perms_in (table_of old)
perms-brought old new slot brought = λ i page. (ap (option_map (λ m. m.perms)) (brought.table page) ∙ framed (table_of old page)) i
  where
    framed : (o : Option Mapped) → option_map (λ m. m.perms) (option_map (framed_by new.recent) o) ≡ option_map (λ m. m.perms) o
    framed None = refl
    framed (Some m) = refl

mapped-brought : (old new : PagesValue) (slot page : ℕ) → IsBrought old new slot → IsSome (table_of old page) → IsSome (table_of new page)
mapped-brought old new slot page brought is = ap is_some (brought.table page) ∙ framed (table_of old page) ∙ is
  where
    framed : (o : Option Mapped) → is_some (option_map (framed_by new.recent) o) ≡ is_some o
    framed None = refl
    framed (Some m) = refl

-- the same guest with other pages
abbrev pub with_pages : Guest → Guest → Guest
with_pages g other = record g { machine = record g.machine { pages = other.machine.pages }; pager = other.pager }

module _ (g other : Guest) (slot : ℕ) (brought : IsBrought g.machine.pages other.machine.pages slot) where
  abbrev perms_same : perms_in (table_of other.machine.pages) ≡ perms_in (table_of g.machine.pages)
  perms_same = perms-brought g.machine.pages other.machine.pages slot brought

  can-go-on-brought : (stage : Stage) → CanGoOnBy stage (view_in g) → CanGoOnBy stage (view_in (with_pages g other))
  can-go-on-brought Start can = tt
  can-go-on-brought Listing can = can
  can-go-on-brought (Moving done) can = rw perms_same can
  can-go-on-brought (Copying at done) can = record {
    low = can.low;
    mapped = λ addr above below. mapped-brought g.machine.pages other.machine.pages slot _ brought (can.mapped addr above below);
    within = can.within;
    file = can.file;
    offset = can.offset;
  }

  phase-brought : (p : Phase) → PhaseFits g p → PhaseFits (with_pages g other) p
  phase-brought Fetch h = h
  phase-brought (Perform d len) h = h
  phase-brought Answer h = can-go-on-brought g.progress.stage h

  pub fit-brought : FitParts (view_in g) → FitParts (view_in (with_pages g other))
  fit-brought fit = record { perms = rw perms_same fit.perms; count = brought.count ∙ fit.count }

-- a guest goes on standing for its world
pub brought-stands : (g new : Guest) (slot : ℕ) (s : Streams) (before after : Swap) (from : World) → IsBrought g.machine.pages new.machine.pages slot
    → memory_of new.machine.pages after ≡ memory_of g.machine.pages before → StandsFor before g s from → StandsFor after (with_pages g new) s from
brought-stands g new slot s before after from brought memory stands =
    let put : Memory → ℕ → World = λ m n.
    let w = with_guest before g from in record w { state = record w.state { memory = m }; pages = n } in
    record {
      parts = ap (λ (m : Memory). put m (length new.machine.pages.slots)) memory ∙ ap (λ (n : ℕ). put (memory_of g.machine.pages before) n) brought.size.pages ∙ stands.parts;
      streams_are = stands.streams_are;
    }

-- ---- what a step does to the streams: it only puts more, and takes from the front
grown-act : Grows → (progress : ProgressValue) → progress.stage ≡ Start → (acted : Acted) (w : World) → Grown (standing_in w) (standing_in (after_act acted w).world)
grown-act grows progress start ActedDone w = grown-none (standing_in w)
grown-act grows progress start Call w = subst (λ (c : Called). Grown (standing_in w) (standing_in c.world)) (rest-begins progress w start) (grows progress w)
grown-act grows progress start (Trap fault) w = grown-none (standing_in w)
grown-act grows progress start (Need slot) w = grown-none (standing_in w)

abbrev no_progress : ProgressValue
no_progress = record { stage = Start; pieces = [] }

pub grown-rest : Grows → (p : Phase) (progress : ProgressValue) (w : World) → Grown (standing_in w) (standing_in (phase_rest p progress w).world)
unfolding step
grown-rest grows Fetch progress w = grown-act grows no_progress refl (act w.state).acted (record w { state = (act w.state).state })
grown-rest grows (Perform d len) progress w = grown-act grows no_progress refl (performed d len w.state).acted (record w { state = (performed d len w.state).state })
grown-rest grows Answer progress w = grows progress w

in-front : (xs ys : List HostCall) (call : HostCall) → Contains xs call → Contains (xs ++ ys) call
in-front [] ys call has = absurd (omega (arith, has.1))
in-front (x ∷ xs) ys call has = at has.0 has.1 has.2 (λ more. in-front xs ys call more)
  where
    at : (n : ℕ) → n < suc (length xs) → get_or (x ∷ xs) n call ≡ call → (Contains xs call → Contains (xs ++ ys) call) → Contains (x ∷ (xs ++ ys)) call
    at zero below is again = (0, omega arith, is)
    at (suc n) below is again = let more = again (n, omega (arith, below), is) in (suc more.0, omega (arith, more.1), more.2)

pub in-back : (xs ys : List HostCall) (call : HostCall) → Contains ys call → Contains (xs ++ ys) call
in-back [] ys call has = has
in-back (x ∷ xs) ys call has = let more = in-back xs ys call has in (suc more.0, omega (arith, more.1), more.2)

pub made-paging : (p : Phase) (w : World) (call : HostCall) → Contains paging_calls call → Contains (phase_calls p w) call
unfolding calls_in_step
made-paging Fetch w call has = in-front paging_calls _ call has
made-paging (Perform d len) w call has = in-front paging_calls _ call has
made-paging Answer w call has = in-front paging_calls _ call has

-- ---- a page is brought, or can't be
counted-paging : (failed : Option HostCall) (old new : Tally) → IsCounted paging_calls failed old new → IsCounted run_calls failed old new
counted-paging None old new h = h
counted-paging (Some call) old new h = (in-front paging_calls (Take ∷ PutOut ∷ PutErr ∷ []) call h.0, h.1, h.2)

module _ (g new : Guest) (slot : ℕ) (h h' : Option Held) (o o' : ℕ) (f f' : Counts) (left out err : Option (List ℕ)) (take puts err_puts : ℕ)
    (within : IsWithin g (around h o f left take out puts err err_puts)) (grows : Grows) where
  abbrev before : Around
  before = around h o f left take out puts err err_puts

  abbrev after : Around
  after = around h' o' f' left take out puts err err_puts

  abbrev told : Streams
  told = before.streams

  abbrev Bringing : Result Tried HostCall → Type 0
  Bringing result = Brings g new slot h h' o o' f f' result

  brought-course : (result : Result Tried HostCall) → Bringing result → Course before after (failed_in result)
  brought-course result b = record {
    held = b.files.tells;
    streams = tell-none told;
    opened = b.opened_is;
    cause = counted-paging (failed_in result) before.tally after.tally (b.cause take puts err_puts);
  }

  brought-end : (result : Result Tried HostCall) → Bringing result → KeepsEnd g new
  brought-end result b = record { end = ap (λ (x : Guest). x.end) b.keeps; failed = ap (λ (x : Guest). x.failed) b.keeps }

  pub brought-tries : (result : Result Tried HostCall) → Bringing result → UnitWaits g slot → Tries g new before after result
  brought-tries (Ok Again) b waits = record {
    follows = record {
      keeps = b.files;
      leads = λ held now is is' given from stands.
          let mem = b.memory.related held is in
          let same : mem.0 ≡ now = some-held mem.0 now (sym mem.1 ∙ is') in
          let memory : memory_of new.machine.pages now.page ≡ memory_of g.machine.pages held.page =
          subst (λ (x : Held). memory_of new.machine.pages x.page ≡ memory_of g.machine.pages held.page) same mem.2.memory in
          subst (λ (x : Guest). GoesOn (StandsFor now.page x told) (step_rest g from) (phase_calls g.phase from) from x) (sym b.keeps) (record {
            now = from;
            stands = brought-stands g new slot told held.page now.page from b.brought memory stands;
            rest = refl;
            calls_are = refl;
            grown = grown-none (standing_in from);
          });
    };
    fits =
        let pages : CanPage (with_pages g new).machine.pages h' o' = b.pages in (
          subst (λ (x : Guest). IsWithin x after) (sym b.keeps) (record {
            phase = phase-brought g new slot b.brought g.phase within.phase;
            fit = fit-brought g new slot b.brought within.fit;
            pages = pages;
          }),
          ap (λ (x : Guest). x.machine.steps) b.keeps,
        );
    loads = λ held now is is'.
        let mem = b.memory.related held is in
        let same : mem.0 ≡ now = some-held mem.0 now (sym mem.1 ∙ is') in
        let memory : memory_of new.machine.pages now.page ≡ memory_of g.machine.pages held.page =
        subst (λ (x : Held). memory_of new.machine.pages x.page ≡ memory_of g.machine.pages held.page) same mem.2.memory in
        brought-loads g new slot held.page now.page b.keeps memory waits (b.ready waits) b.loads;
    course = brought-course (Ok Again) b;
    signal = tt;
    end = brought-end (Ok Again) b;
  }
  brought-tries (Ok (Done end)) b waits = absurd (let e = b.again in cc)
  brought-tries (Err call) b waits = record {
    follows = record {
      keeps = b.files;
      leads = λ held now is is' given from stands.
          let kept = b.files.related held is in
          record {
            now = outside held.file from;
            stands = record { files_are = rw kept.1 (sym kept.2); streams_are = stands.streams_are };
            may = record {
              made = made-paging g.phase from call (b.cause take puts err_puts).0;
              streams = record { has = grown-none (standing_in from); within = grown-rest grows g.phase g.progress from };
              files = refl;
            };
          };
    };
    fits = ap (λ (x : Guest). x.machine.steps) b.keeps;
    loads = λ held now is is'. let still = b.still in omega (arith, still);
    course = brought-course (Err call) b;
    signal = tt;
    end = brought-end (Err call) b;
  }

  pub brought-is_nearer : (result : Result Tried HostCall) → Bringing result → UnitWaits g slot → IsNearer g new result
  brought-is_nearer (Ok Again) b waits = brought-nearer g new b.keeps (b.ready waits)
  brought-is_nearer (Ok (Done end)) b waits = absurd (let e = b.again in cc)
  brought-is_nearer (Err call) b waits = tt

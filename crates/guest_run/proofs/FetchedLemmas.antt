-- An instruction that is fetched and performed at once, as a try of a step's phase.
use Rattle.std.proofs.Common.{◌≡◌, ℕ, ◌+◌, ◌≤◌, List, Option, Some, None, Result, Ok, refl, sym, arith, subst}
use Rattle.gpr_flags.specs.declared.kinds.Fault.{Fault}
use Rattle.host_edge.specs.declared.outside.HostCall.{HostCall}
use Rattle.host_edge.specs.Causes.{Counts}
use Rattle.host_edge.specs.Files.{Held}
use Rattle.machine_state.specs.declared.kinds.GuestEnd.TheVariants.{Killed}
use Rattle.machine_state.specs.Memory.{Swap}
use Rattle.row_table.specs.declared.kinds.Decoded.{Decoded}
use Rattle.guest_pages.specs.Changes.{KeepsTable}
use Rattle.form_scan.specs.Shaped.{most_bytes}
use Rattle.x_decode.specs.Seeing.{IsDecoded}
use Rattle.core_step.specs.declared.acted.Acted.{Acted}
use Rattle.core_step.specs.declared.acted.Acted.TheVariants.{Done as ActedDone, Call, Trap}
use Rattle.core_step.specs.declared.fetching.Fetched.TheVariants.{Instr, Trap as FetchTrap}
use Rattle.core_step.specs.declared.machine.Machine.{Machine}
use Rattle.core_step.specs.Act.{performed}
use Rattle.core_step.specs.declared.prepared.Kept.{Kept}
use Rattle.core_step.specs.declared.prepared.Kept.TheVariants.{Instr as KeptInstr}
use Rattle.core_step.specs.declared.prepared.Prepared.{Prepared}
use Rattle.core_step.specs.Fetch.{IsFetched, IsFetchFit}
use Rattle.core_step.specs.Kept.{fetched_of}
use Rattle.core_step.specs.Machine.{after_of, state_of}
use Rattle.linux_calls.specs.declared.kinds.Stage.TheVariants.{Start}
use Rattle.guest_run.specs.declared.guest.Guest.{Guest}
use Rattle.guest_run.specs.declared.guest.Phase.{Phase}
use Rattle.guest_run.specs.declared.guest.Phase.TheVariants.{Fetch, Perform, Answer}
use Rattle.guest_run.specs.declared.running.Tried.{Tried}
use Rattle.guest_run.specs.declared.running.Tried.TheVariants.{Again, Done}
use Rattle.guest_run.specs.Step.{signal_of}
use Rattle.guest_run.specs.Guests.{Around, IsWithin, PhaseFits, around}
use Rattle.guest_run.specs.Following.{Tries}
use Rattle.guest_run.specs.Paging.{Brings, Grows}
use Rattle.guest_run.specs.Units.{IsNearer, UnitWaits}
use Rattle.guest_run.proofs.TryLemmas.{tries-then}
use Rattle.guest_run.proofs.StepLemmas.{brought-is_nearer, brought-tries, cached, cached-left, cached-tries, completed, fetched-tries, fetch_killed-tries, in_phase}
use Rattle.guest_run.proofs.PerformLemmas.{call-tries, needs-nearer, needs-tries, performed-tries, trapped-tries, with_machine, within-call}
use Rattle.guest_run.proofs.LeftLemmas.{fetch-high, nearer-through}

-- a guest whose fetch begins a step stands before a call
pub before-call : (g : Guest) (a : Around) → g.phase ≡ Fetch → IsWithin g a → g.progress.stage ≡ Start
before-call g a phase within = subst (λ (p : Phase). PhaseFits g p) phase within.phase

-- a fetch that faults
pub fetch_fault-tries : (g : Guest) (cache : ℕ) (a : Around) (fault : Fault) → g.phase ≡ Fetch → IsWithin g a
    → ((swap : Swap) → IsFetched (state_of g.machine swap) (FetchTrap fault))
    → Tries g (completed (cached g cache)) a a (Ok (Done (Some (Killed (signal_of fault)))))
fetch_fault-tries g cache a fault phase within is =
    tries-then g (cached g cache) (completed (cached g cache)) a a a (cached-tries g cache a within) (Ok (Done (Some (Killed (signal_of fault)))))
    (fetch_killed-tries (cached g cache) a fault phase (before-call g a phase within) within.fit within.pages is)

-- a fetch that waits for a page
module _ (g : Guest) (cache : ℕ) (new : Guest) (slot : ℕ) (h h' : Option Held) (o o' : ℕ) (f f' : Counts) (left out err : Option (List ℕ)) (take puts err_puts : ℕ)
    (within : IsWithin g (around h o f left take out puts err err_puts)) (grows : Grows) where
  pub fetch_needs-tries : (result : Result Tried HostCall) → Brings (cached g cache) new slot h h' o o' f f' result → UnitWaits (cached g cache) slot
      → Tries g new (around h o f left take out puts err err_puts) (around h' o' f' left take out puts err err_puts) result
  fetch_needs-tries result brings waits =
      let before = around h o f left take out puts err err_puts in
      let first = cached-tries g cache before within in
      tries-then g (cached g cache) new before before (around h' o' f' left take out puts err err_puts) first result
      (brought-tries (cached g cache) new slot h h' o o' f f' left out err take puts err_puts first.fits.0 grows result brings waits)

  pub fetch_needs-nearer : (result : Result Tried HostCall) → Brings (cached g cache) new slot h h' o o' f f' result → UnitWaits (cached g cache) slot
      → IsNearer g new result
  fetch_needs-nearer result brings waits =
      let first = cached-tries g cache (around h o f left take out puts err err_puts) within in
      nearer-through g (cached g cache) new result (let same = cached-left g cache in omega (arith, same))
      (brought-is_nearer (cached g cache) new slot h h' o o' f f' left out err take puts err_puts first.fits.0 grows result brings waits)

-- what a cache kept of a fetch is what was fetched
pub kept-fetched : (m : Machine) (kept : Kept) (p : Prepared) → kept ≡ KeptInstr p → ((swap : Swap) → IsFetched (state_of m swap) (fetched_of kept))
    → (swap : Swap) → IsFetched (state_of m swap) (Instr p.decoded p.len)
kept-fetched m kept p is whole swap = subst (λ (k : Kept). IsFetched (state_of m swap) (fetched_of k)) is (whole swap)

pub kept-fits : (kept : Kept) (p : Prepared) → kept ≡ KeptInstr p → IsFetchFit (fetched_of kept) → IsDecoded p.decoded.fields p.decoded × (1 ≤ p.len) × (p.len ≤ most_bytes)
kept-fits kept p is fits = subst (λ (k : Kept). IsFetchFit (fetched_of k)) is fits

-- an instruction that was fetched
module _ (g : Guest) (cache : ℕ) (m : Machine) (a : Around) (d : Decoded) (len : ℕ) (phase : g.phase ≡ Fetch) (within : IsWithin g a)
    (is : (swap : Swap) → IsFetched (state_of g.machine swap) (Instr d len)) (fits : IsDecoded d.fields d × (1 ≤ len) × (len ≤ most_bytes))
    (keeps : KeepsTable g.machine.pages m.pages) where
  abbrev begun : Guest
  begun = in_phase (cached g cache) (Perform d len)

  begun-tries : Tries g begun a a (Ok Again)
  begun-tries =
      tries-then g (cached g cache) begun a a a (cached-tries g cache a within) (Ok Again)
      (fetched-tries (cached g cache) a d len phase (before-call g a phase within) within.fit within.pages is fits)

  abbrev IsLeftBy : Acted → Type 0
  IsLeftBy acted = (swap : Swap) → after_of acted m swap ≡ performed d len (state_of g.machine swap)

  pub fetched_done-tries : IsLeftBy ActedDone → m.steps ≡ g.machine.steps + 1 → Tries g (with_machine (cached g cache) m) a a (Ok (Done None))
  fetched_done-tries left steps =
      let done = in_phase (with_machine begun m) Fetch in
      let same : done ≡ with_machine (cached g cache) m = λ i. record (with_machine (cached g cache) m) { phase = sym phase i } in
      subst (λ (x : Guest). Tries g x a a (Ok (Done None))) same
      (tries-then g begun done a a a begun-tries (Ok (Done None))
      (performed-tries begun m a d len refl keeps (before-call g a phase within) within.fit within.pages left steps))

  pub fetched_trap-tries : (fault : Fault) → IsLeftBy (Trap fault) → m.steps ≡ g.machine.steps
      → Tries g (completed (with_machine (cached g cache) m)) a a (Ok (Done (Some (Killed (signal_of fault)))))
  fetched_trap-tries fault left steps =
      tries-then g begun (completed (with_machine (cached g cache) m)) a a a begun-tries (Ok (Done (Some (Killed (signal_of fault)))))
      (trapped-tries begun m a d len refl keeps (before-call g a phase within) within.fit within.pages fault left steps)

  pub fetched_call-within : IsWithin (in_phase (with_machine (cached g cache) m) Answer) a
  fetched_call-within = within-call begun m a d len refl keeps (before-call g a phase within) within.fit within.pages

  pub fetched_call-tries : IsLeftBy Call → m.steps ≡ g.machine.steps → Tries g (in_phase (with_machine (cached g cache) m) Answer) a a (Ok Again)
  fetched_call-tries left steps =
      tries-then g begun (in_phase (with_machine (cached g cache) m) Answer) a a a begun-tries (Ok Again)
      (call-tries begun m a d len refl keeps (before-call g a phase within) within.fit within.pages left steps)

  pub fetched_begun : Tries g begun a a (Ok Again)
  fetched_begun = begun-tries

-- an instruction that was fetched waits for a page
module _ (g : Guest) (cache : ℕ) (m : Machine) (new : Guest) (slot : ℕ) (h h' : Option Held) (o o' : ℕ) (f f' : Counts) (left out err : Option (List ℕ))
    (take puts err_puts : ℕ) (d : Decoded) (len : ℕ) (begun : Tries g (in_phase (cached g cache) (Perform d len)) (around h o f left take out puts err err_puts)
    (around h o f left take out puts err err_puts) (Ok Again)) (grows : Grows) (same : m ≡ g.machine) (result : Result Tried HostCall)
    (brings : Brings (with_machine (in_phase (cached g cache) (Perform d len)) m) new slot h h' o o' f f' result) where
  abbrev waiting : Guest
  waiting = in_phase (cached g cache) (Perform d len)

  pub fetched_needs-tries : UnitWaits waiting slot → Tries g new (around h o f left take out puts err err_puts) (around h' o' f' left take out puts err err_puts) result
  fetched_needs-tries waits =
      tries-then g waiting new (around h o f left take out puts err err_puts) (around h o f left take out puts err err_puts)
      (around h' o' f' left take out puts err err_puts) begun result
      (needs-tries waiting m new slot h h' o o' f f' left out err take puts err_puts begun.fits.0 grows same result brings waits)

  pub fetched_needs-nearer : g.phase ≡ Fetch → UnitWaits waiting slot → IsNearer g new result
  fetched_needs-nearer phase waits =
      nearer-through g waiting new result (fetch-high g waiting d len phase refl)
      (needs-nearer waiting m new slot h h' o o' f f' left out err take puts err_puts begun.fits.0 grows same result brings waits)

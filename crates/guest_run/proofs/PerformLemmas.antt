-- An instruction that is performed, as a try of a step's phase.
use Rattle.std.proofs.Common.{◌≡◌, ◌∙◌, ℕ, ◌+◌, ◌≤◌, ◌++◌, List, Option, Some, None, Result, Ok, refl, sym, ap, arith, subst}
use Rattle.gpr_flags.specs.declared.kinds.Fault.{Fault}
use Rattle.host_edge.specs.declared.outside.HostCall.{HostCall}
use Rattle.host_edge.specs.Files.{Held}
use Rattle.machine_state.specs.declared.kinds.GuestEnd.{GuestEnd}
use Rattle.machine_state.specs.declared.kinds.GuestEnd.TheVariants.{Killed}
use Rattle.machine_state.specs.Memory.{Swap}
use Rattle.machine_state.specs.State.{State}
use Rattle.machine_state.specs.World.{World}
use Rattle.row_table.specs.declared.kinds.Decoded.{Decoded}
use Rattle.guest_pages.specs.Table.{perms_in}
use Rattle.guest_pages.specs.Pages.{PagesValue}
use Rattle.guest_pages.specs.Changes.{KeepsTable}
use Rattle.guest_pages.proofs.Togethers.{clean_table, none_table}
use Rattle.core_step.specs.declared.acted.Acted.{Acted}
use Rattle.core_step.specs.declared.acted.Acted.TheVariants.{Done as ActedDone, Call, Trap}
use Rattle.core_step.specs.declared.machine.Machine.{Machine}
use Rattle.core_step.specs.Act.{After, performed}
use Rattle.core_step.specs.Machine.{after_of, state_of}
use Rattle.linux_calls.specs.Call.{Called}
use Rattle.linux_calls.specs.Outside.{Streams, standing_in}
use Rattle.linux_calls.specs.View.{FitParts}
use Rattle.linux_calls.specs.Waiting.{CanGoOnBy}
use Rattle.linux_calls.specs.declared.kinds.Stage.{Stage}
use Rattle.linux_calls.specs.declared.kinds.Stage.TheVariants.{Start}
use Rattle.guest_run.specs.declared.guest.Guest.{Guest}
use Rattle.guest_run.specs.declared.guest.Phase.{Phase}
use Rattle.guest_run.specs.declared.guest.Phase.TheVariants.{Fetch, Perform, Answer}
use Rattle.guest_run.specs.declared.running.Tried.TheVariants.{Again, Done}
use Rattle.guest_run.specs.Step.{Ran, after_part, calls_after_part, counted, paging_calls, ran_by, signal_of}
use Rattle.guest_run.specs.Guests.{Around, StandsFor, IsWithin, IsBetween, around, view_in, with_guest}
use Rattle.swap_pager.specs.Paging.{CanPage}
use Rattle.guest_run.specs.Following.{Tries, phase_calls, phase_rest, step_rest}
use Rattle.guest_run.proofs.RunLemmas.{signal_of-most}
use Rattle.guest_run.proofs.TryLemmas.{again-at, done-here, grown-none}
use Rattle.guest_run.specs.declared.running.Tried.{Tried}
use Rattle.guest_run.specs.Paging.{Brings, Grows}
use Rattle.linux_calls.specs.Units.{stage_rank, unit_rank}
use Rattle.guest_run.specs.Loads.{units_after, units_in_call}
use Rattle.guest_run.specs.Units.{IsNearer, UnitWaits, loads_left, phase_units, ready}
use Rattle.guest_run.proofs.LeftLemmas.{fewer-loads}
use Rattle.host_edge.specs.Causes.{Counts}
use Rattle.guest_run.proofs.StepLemmas.{brought-is_nearer, brought-tries, completed, in_phase, rest-begins, stands-counted, with_state}

pub page-kept : (old new : PagesValue) (held : Option Held) (opened : ℕ) → KeepsTable old new → CanPage old held opened → CanPage new held opened
page-kept old new held opened keeps can = record {
  least = rw keeps.size.frames can.least;
  fit = rw (keeps.size.frames, keeps.size.pages) can.fit;
  none = λ whole. none_table old new keeps (can.none (sym keeps.size.frames ∙ whole ∙ keeps.size.pages));
  over = λ over. rw keeps.size.pages (can.over (rw (keeps.size.frames, keeps.size.pages) at over));
  clean = λ told is. clean_table old new told.page keeps (can.clean told is);
}

-- the guest with another machine
abbrev pub with_machine : Guest → Machine → Guest
with_machine g m = record g { machine = m }

module _ (g : Guest) (m : Machine) (keeps : KeepsTable g.machine.pages m.pages) where
  pub fit-kept : FitParts (view_in g) → FitParts (view_in (with_machine g m))
  fit-kept fit = record {
    perms = rw (ap perms_in keeps.table) fit.perms;
    count = keeps.count ∙ fit.count;
  }

  pub machine-stands : (swap : Swap) (s : Streams) (from : World) → StandsFor swap g s from
      → StandsFor swap (with_machine g m) s (with_state from (state_of m swap))
  machine-stands swap s from stands =
      let put : ℕ → World = λ n. record (with_guest swap g from) { state = state_of m swap; pages = n } in
      record {
        parts = ap put keeps.size.pages ∙ ap (λ (w : World). with_state w (state_of m swap)) stands.parts;
        streams_are = stands.streams_are;
      }

module _ (g : Guest) (m : Machine) (a : Around) (d : Decoded) (len : ℕ) (phase : g.phase ≡ Perform d len) (keeps : KeepsTable g.machine.pages m.pages)
    (begins : g.progress.stage ≡ Start) (fit : FitParts (view_in g)) (pages : CanPage g.machine.pages a.held a.opened) where
  abbrev IsLeft : Acted → Type 0
  IsLeft acted = (swap : Swap) → after_of acted m swap ≡ performed d len (state_of g.machine swap)

  -- what is left of the step, from a world that the guest stands for
  rest-is : (acted : Acted) → IsLeft acted → (swap : Swap) (from : World) → StandsFor swap g a.streams from
      → after_part (after_of acted m swap) from ≡ step_rest g from
  rest-is acted left swap from stands =
      ap (λ (x : After). after_part x from) (left swap ∙ ap (λ (s : State). performed d len s) (ap (λ (w : World). w.state) stands.parts))
      ∙ sym (ap (λ (p : Phase). phase_rest p g.progress from) phase)

  calls-is : (acted : Acted) → IsLeft acted → (swap : Swap) (from : World) → StandsFor swap g a.streams from
      → (paging_calls ++ calls_after_part (after_of acted m swap) from) ≡ phase_calls g.phase from
  calls-is acted left swap from stands =
      ap (λ (x : After). paging_calls ++ calls_after_part x from) (left swap ∙ ap (λ (s : State). performed d len s) (ap (λ (w : World). w.state) stands.parts))
      ∙ sym (ap (λ (p : Phase). phase_calls p from) phase)

  between-kept : IsBetween (in_phase (with_machine g m) Fetch) a
  between-kept = record {
    phase = refl;
    begins = begins;
    fit = fit-kept g m keeps fit;
    pages = page-kept g.machine.pages m.pages a.held a.opened keeps pages;
  }

  pub performed-tries : IsLeft ActedDone → m.steps ≡ g.machine.steps + 1 → Tries g (in_phase (with_machine g m) Fetch) a a (Ok (Done None))
  performed-tries left steps =
      done-here g (in_phase (with_machine g m) Fetch) a (record { end = refl; failed = refl }) None
      (λ swap from stands.
      let at = machine-stands g m keeps swap a.streams from stands in
      subst (λ (to : Ran). (let none : Option GuestEnd = None in none ≡ to.end) × StandsFor swap (in_phase (with_machine g m) Fetch) a.streams to.world)
      (rest-is ActedDone left swap from stands)
      (refl, record { parts = at.parts; streams_are = at.streams_are }))
      refl between-kept steps tt

  pub trapped-tries : (fault : Fault) → IsLeft (Trap fault) → m.steps ≡ g.machine.steps
      → Tries g (completed (with_machine g m)) a a (Ok (Done (Some (Killed (signal_of fault)))))
  trapped-tries fault left steps =
      done-here g (completed (with_machine g m)) a (record { end = refl; failed = refl }) (Some (Killed (signal_of fault)))
      (λ swap from stands.
      subst (λ (to : Ran). (Some (Killed (signal_of fault)) ≡ to.end) × StandsFor swap (completed (with_machine g m)) a.streams to.world)
      (rest-is (Trap fault) left swap from stands)
      (refl, stands-counted swap (with_machine g m) a.streams _ (machine-stands g m keeps swap a.streams from stands)))
      refl (record { phase = refl; begins = begins; fit = fit-kept g m keeps fit; pages = page-kept g.machine.pages m.pages a.held a.opened keeps pages })
      (ap (λ (n : ℕ). n + 1) steps) (signal_of-most fault)

  pub within-call : IsWithin (in_phase (with_machine g m) Answer) a
  within-call = record {
    phase = let P : Stage → Type 0 = λ stage. CanGoOnBy stage (view_in (with_machine g m)) in subst P (sym begins) tt;
    fit = fit-kept g m keeps fit;
    pages = page-kept g.machine.pages m.pages a.held a.opened keeps pages;
  }

  -- the instruction isn't left any more
  call-loads : IsLeft Call → (swap : Swap) → g.pager.loads + loads_left swap (in_phase (with_machine g m) Answer) ≤ g.pager.loads + loads_left swap g
  unfolding loads_left unit_rank
  call-loads left swap =
      let whole : phase_units g.phase swap g ≡ 1 + units_in_call m.gprs =
      ap (λ (p : Phase). phase_units p swap g) phase ∙ ap (λ (x : After). 1 + units_after x) (sym (left swap)) in
      let now : phase_units Answer swap (with_machine g m) ≡ units_in_call m.gprs =
      ap (λ (stage : Stage). stage_rank stage g.progress.pieces m.gprs) begins in
      let fewer = fewer-loads (phase_units Answer swap (with_machine g m)) (phase_units g.phase swap g) (ready (in_phase (with_machine g m) Answer)) (ready g)
      (omega (arith, whole, now)) in
      omega (arith, fewer)

  pub call-tries : IsLeft Call → m.steps ≡ g.machine.steps → Tries g (in_phase (with_machine g m) Answer) a a (Ok Again)
  call-tries left steps =
      again-at g (in_phase (with_machine g m) Answer) a (record { end = refl; failed = refl })
      (λ swap from stands.
      let at = machine-stands g m keeps swap a.streams from stands in
      let now = with_state from (state_of m swap) in
      record {
        now = now;
        stands = record { parts = at.parts; streams_are = at.streams_are };
        rest = ap (λ (c : Called). counted (ran_by c)) (rest-begins g.progress now begins) ∙ rest-is Call left swap from stands;
        calls_are = calls-is Call left swap from stands;
        grown = grown-none (standing_in from);
      })
      (call-loads left) within-call steps

-- a page is needed, and nothing has changed
module _ (g : Guest) (m : Machine) (new : Guest) (slot : ℕ) (h h' : Option Held) (o o' : ℕ) (f f' : Counts) (left out err : Option (List ℕ)) (take puts err_puts : ℕ)
    (within : IsWithin g (around h o f left take out puts err err_puts)) (grows : Grows) (same : m ≡ g.machine)
    (result : Result Tried HostCall) (brings : Brings (with_machine g m) new slot h h' o o' f f' result) where
  same-brings : Brings g new slot h h' o o' f f' result
  same-brings = subst (λ (x : Machine). Brings (with_machine g x) new slot h h' o o' f f' result) same brings

  pub needs-tries : UnitWaits g slot → Tries g new (around h o f left take out puts err err_puts) (around h' o' f' left take out puts err err_puts) result
  needs-tries waits = brought-tries g new slot h h' o o' f f' left out err take puts err_puts within grows result same-brings waits

  pub needs-nearer : UnitWaits g slot → IsNearer g new result
  needs-nearer waits = brought-is_nearer g new slot h h' o o' f f' left out err take puts err_puts within grows result same-brings waits

-- A system call that goes on, as a try of a step's phase.
use Rattle.std.proofs.Common.{◌≡◌, ◌∙◌, ℕ, ℤ, ◌+◌, ◌≤◌, ◌++◌, List, Option, Some, None, IsSome, Ok, Err, refl, sym, ap, subst, arith}
use Rattle.host_edge.specs.declared.outside.HostCall.{HostCall}
use Rattle.host_edge.specs.declared.outside.HostCall.TheVariants.{Load, Store, SwapOpen, SwapGet, SwapPut, Take, PutOut, PutErr}
use Rattle.host_edge.specs.Causes.{Counts}
use Rattle.host_edge.specs.Files.{Held}
use Rattle.machine_state.specs.declared.kinds.GuestEnd.{GuestEnd}
use Rattle.machine_state.specs.declared.kinds.GuestEnd.TheVariants.{Exit}
use Rattle.machine_state.specs.Memory.{Swap}
use Rattle.machine_state.specs.World.{World}
use Rattle.linux_calls.specs.declared.kinds.CallEnd.{CallEnd}
use Rattle.linux_calls.specs.declared.kinds.CallEnd.TheVariants.{Value, Exit as ExitEnd, Need as NeedEnd, Host}
use Rattle.linux_calls.specs.declared.kinds.Stage.TheVariants.{Start}
use Rattle.linux_calls.specs.Call.{Called}
use Rattle.linux_calls.specs.Outside.{Streams}
use Rattle.linux_calls.specs.Parts.{files_of as files_in}
use Rattle.linux_calls.specs.Rest.{calls_in_call, outside_calls, rest_of, transfer_of}
use Rattle.linux_calls.specs.Following.{Faults, IsCaused, KeepsAside, failed_by, faults}
use Rattle.linux_calls.specs.View.{StandsFor as PartsStandFor, View, with_parts}
use Rattle.guest_run.specs.declared.guest.Guest.{Guest}
use Rattle.guest_run.specs.declared.guest.Phase.{Phase}
use Rattle.guest_run.specs.declared.guest.Phase.TheVariants.{Answer}
use Rattle.guest_run.specs.declared.running.Tried.TheVariants.{Again, Done}
use Rattle.guest_run.specs.Step.{Ran, counted, counted_world, ended_by, paging_calls, ran_by}
use Rattle.guest_run.specs.Outside.{outside_with}
use Rattle.guest_run.specs.Trail.{FailsIn, piece_of}
use Rattle.guest_run.specs.Tally.{IsCounted, tally}
use Rattle.guest_run.specs.Guests.{Around, StandsFor, IsWithin, PhaseFits, around, view_in, with_guest}
use Rattle.swap_pager.specs.Paging.{CanPage}
use Rattle.guest_run.specs.Following.{Course, HasSignal, KeepsEnd, Tries, phase_calls, phase_rest, run_calls, step_rest}
use Rattle.guest_run.specs.Paging.{Answers}
use Rattle.guest_run.specs.Units.{loads_left}
use Rattle.guest_run.proofs.LeftLemmas.{answered-loads}
use Rattle.guest_run.proofs.TryLemmas.{files-same, some-held}
use Rattle.guest_run.proofs.StepLemmas.{completed, in-back, stands-counted}

-- ---- a guest's parts and the world that it stands for
pub parts-stand : (swap : Swap) (g : Guest) (s : Streams) (w : World) → StandsFor swap g s w → PartsStandFor swap (view_in g) s w
parts-stand swap g s w stands = record {
  parts = subst (λ (x : World). with_parts swap (view_in g) x ≡ x) stands.parts refl;
  streams_are = stands.streams_are;
}

-- what no part of a call holds is the guest's, too, where it stays
pub guest-stands : (swap : Swap) (g new : Guest) (s s' : Streams) (from now : World) → StandsFor swap g s from → KeepsAside from now → PartsStandFor swap (view_in new) s' now
    → new.machine.flags ≡ g.machine.flags → new.machine.rip ≡ g.machine.rip → new.machine.vec ≡ g.machine.vec → StandsFor swap new s' now
guest-stands swap g new s s' from now stands aside parts flags rip vec =
    let is_flags : new.machine.flags ≡ now.state.flags = flags ∙ ap (λ (w : World). w.state.flags) stands.parts ∙ sym aside.flags in
    let is_rip : new.machine.rip ≡ now.state.rip = rip ∙ ap (λ (w : World). w.state.rip) stands.parts ∙ sym aside.rip in
    let is_vec : new.machine.vec ≡ now.state.extended = vec ∙ ap (λ (w : World). w.state.extended) stands.parts ∙ sym aside.extended in
    let whole : with_guest swap new now ≡ with_parts swap (view_in new) now =
    λ i. with_parts swap (view_in new) (record now { state = record now.state { flags = is_flags i; rip = is_rip i; extended = is_vec i } }) in
    record { parts = whole ∙ parts.parts; streams_are = parts.streams_are }

-- the calls on the outside in a call are those of its registers and descriptors
calls-stand : (swap : Swap) (v : View) (s : Streams) (w : World) → PartsStandFor swap v s w → outside_calls (transfer_of v.gprs v.files 0) ≡ calls_in_call w
unfolding calls_in_call
calls-stand swap v s w stands = ap (λ (x : World). outside_calls (transfer_of x.state.gprs (files_in x) 0)) stands.parts

-- ---- how often calls have failed
answer-counted : (end : Option HostCall) (h : Counts) (f f' : Faults) → IsCaused end f f' → IsCounted run_calls end (tally h f.take f.out f.err) (tally h f'.take f'.out f'.err)
answer-counted None h f f' cause = ap (λ (x : Faults). tally h x.take x.out x.err) cause
answer-counted (Some Take) h f f' cause = ((2, omega arith, refl), cause.0, ap (λ (x : Faults). tally h x.take x.out x.err) cause.1)
answer-counted (Some PutOut) h f f' cause = ((3, omega arith, refl), cause.0, ap (λ (x : Faults). tally h x.take x.out x.err) cause.1)
answer-counted (Some PutErr) h f f' cause = ((4, omega arith, refl), cause.0, ap (λ (x : Faults). tally h x.take x.out x.err) cause.1)
answer-counted (Some (Load word)) h f f' cause = absurd cause
answer-counted (Some (Store word)) h f f' cause = absurd cause
answer-counted (Some SwapOpen) h f f' cause = absurd cause
answer-counted (Some SwapGet) h f f' cause = absurd cause
answer-counted (Some SwapPut) h f f' cause = absurd cause

module _ (g new : Guest) (h : Option Held) (o : ℕ) (counts : Counts) (left out err left' out' err' : Option (List ℕ)) (take puts err_puts take' puts' err_puts' : ℕ)
    (phase : g.phase ≡ Answer) (within : IsWithin g (around h o counts left take out puts err err_puts)) where
  abbrev before : Around
  before = around h o counts left take out puts err err_puts

  abbrev after : Around
  after = around h o counts left' take' out' puts' err' err_puts'

  abbrev Answered : CallEnd → Type 0
  Answered end = Answers g new before.streams after.streams (faults take puts err_puts) (faults take' puts' err_puts') end

  answered-course : (end : CallEnd) → Answered end → Course before after (failed_by end)
  answered-course end a = record {
    held = refl;
    streams = a.tells;
    opened = refl;
    cause = answer-counted (failed_by end) counts (faults take puts err_puts) (faults take' puts' err_puts') a.cause;
  }

  answered-end : (end : CallEnd) → Answered end → KeepsEnd g new
  answered-end end a = record { end = ap (λ (x : Guest). x.end) a.keeps; failed = ap (λ (x : Guest). x.failed) a.keeps }

  answered-still : (end : CallEnd) → Answered end → new.pager.loads ≡ g.pager.loads
  answered-still end a = ap (λ (x : Guest). x.pager.loads) a.keeps

  answered-pages : (end : CallEnd) → Answered end → CanPage new.machine.pages h o
  answered-pages end a = record {
    least = rw a.pages.size.frames within.pages.least;
    fit = rw (a.pages.size.frames, a.pages.size.pages) within.pages.fit;
    none = λ whole. a.swap.none (within.pages.none (sym a.pages.size.frames ∙ whole ∙ a.pages.size.pages));
    over = λ over. rw a.pages.size.pages (within.pages.over (rw (a.pages.size.frames, a.pages.size.pages) at over));
    clean = λ told is. a.swap.clean told.page (within.pages.clean told is);
  }

  step-is-answer : (from : World) → counted (ran_by (rest_of g.progress from)) ≡ step_rest g from
  step-is-answer from = sym (ap (λ (p : Phase). phase_rest p g.progress from) phase)

  stands-now : (end : CallEnd) → Answered end → (swap : Swap) (from now : World) → StandsFor swap g before.streams from → KeepsAside from now
      → PartsStandFor swap (view_in new) after.streams now → StandsFor swap new after.streams now
  stands-now end a swap from now stands aside parts =
      guest-stands swap g new before.streams after.streams from now stands aside parts
      (ap (λ (x : Guest). x.machine.flags) a.keeps) (ap (λ (x : Guest). x.machine.rip) a.keeps) (ap (λ (x : Guest). x.machine.vec) a.keeps)

  -- the call waits for a page
  pub waiting-tries : (slot : ℕ) → Answered (NeedEnd slot) → Tries g new before after (Ok Again)
  waiting-tries slot a = record {
    follows = record {
      keeps = files-same h;
      leads = λ held now is is' told from stands.
          let same : held ≡ now = some-held held now (sym is ∙ is') in
          let waits = a.follows held.page from (parts-stand held.page g before.streams from stands) (λ takes. told) in
          let at = stands-now (NeedEnd slot) a held.page from waits.now stands waits.aside waits.stands in
          let phases : new.phase ≡ Answer = ap (λ (x : Guest). x.phase) a.keeps ∙ phase in
          record {
            now = waits.now;
            stands = subst (λ (x : Held). StandsFor x.page new after.streams waits.now) same at;
            rest = ap (λ (p : Phase). phase_rest p new.progress waits.now) phases ∙ ap (λ (c : Called). counted (ran_by c)) waits.rest ∙ step-is-answer from;
            calls_are = ap (λ (p : Phase). phase_calls p waits.now) phases
                ∙ ap (λ (xs : List HostCall). paging_calls ++ xs)
                (sym (calls-stand held.page (view_in new) after.streams waits.now waits.stands) ∙ a.waits.calls
                ∙ calls-stand held.page (view_in g) before.streams from (parts-stand held.page g before.streams from stands))
                ∙ sym (ap (λ (p : Phase). phase_calls p from) phase);
            grown = waits.grown;
          };
    };
    fits = (
      record {
        phase = let P : Phase → Type 0 = λ p. PhaseFits new p in subst P (sym (ap (λ (x : Guest). x.phase) a.keeps ∙ phase)) a.needs.can_go_on;
        fit = a.pages.fit;
        pages = answered-pages (NeedEnd slot) a;
      },
      ap (λ (x : Guest). x.machine.steps) a.keeps,
    );
    loads = λ held now is is'.
        let same : held ≡ now = some-held held now (sym is ∙ is') in
        let phases : new.phase ≡ Answer = ap (λ (x : Guest). x.phase) a.keeps ∙ phase in
        let still = answered-still (NeedEnd slot) a in
        let few = answered-loads g new slot phase phases a.waits held.page in
        subst (λ (x : Held). new.pager.loads + loads_left x.page new ≤ g.pager.loads + loads_left held.page g) same (omega (arith, still, few));
    course = answered-course (NeedEnd slot) a;
    signal = tt;
    end = answered-end (NeedEnd slot) a;
  }

  -- it is over, and so is the step
  over-tries : (end : CallEnd) (ended : Option GuestEnd) → Answered end → failed_by end ≡ None → new.progress.stage ≡ Start → HasSignal ended
      → ((swap : Swap) (from : World) → PartsStandFor swap (view_in g) before.streams from → IsSome before.streams.left
      → (ended ≡ ended_by (rest_of g.progress from).outcome) × PartsStandFor swap (view_in new) after.streams (rest_of g.progress from).world × KeepsAside from (rest_of g.progress from).world)
      → Tries g (completed new) before after (Ok (Done ended))
  over-tries end ended a own begins signal comes = record {
    follows = record {
      keeps = files-same h;
      leads = λ held now is is' told from stands.
          let same : held ≡ now = some-held held now (sym is ∙ is') in
          let came = comes held.page from (parts-stand held.page g before.streams from stands) told in
          let at = stands-counted held.page new after.streams _ (stands-now end a held.page from _ stands came.2 came.1) in
          let P : Ran → Type 0 = λ to. (ended ≡ to.end) × StandsFor now.page (completed new) after.streams to.world in
          subst P (step-is-answer from) (came.0, subst (λ (x : Held). StandsFor x.page (completed new) after.streams (counted_world (rest_of g.progress from).world)) same at);
    };
    fits = (
      record { phase = refl; begins = begins; fit = a.pages.fit; pages = answered-pages end a },
      ap (λ (x : Guest). x.machine.steps + 1) a.keeps,
    );
    loads = λ held now is is'. let still = answered-still end a in omega (arith, still);
    course = rw own at (answered-course end a);
    signal = signal;
    end = let kept = answered-end end a in record { end = kept.end; failed = kept.failed };
  }

  pub value-tries : (value : ℤ) → Answered (Value value) → Tries g (completed new) before after (Ok (Done None))
  value-tries value a =
      over-tries (Value value) None a refl a.needs tt
      (λ swap from stands told. let f = a.follows swap from stands (λ takes. told) in (sym (ap ended_by f.0), f.1, f.2))

  pub exit-tries : (code : ℕ) → Answered (ExitEnd code) → Tries g (completed new) before after (Ok (Done (Some (Exit code))))
  exit-tries code a =
      over-tries (ExitEnd code) (Some (Exit code)) a refl a.needs tt
      (λ swap from stands told. let f = a.follows swap from stands (λ takes. told) in (sym (ap ended_by f.0), f.1, f.2))

  -- a call on the outside failed in it
  pub host-tries : (call : HostCall) → Answered (Host call) → Tries g new before after (Err call)
  host-tries call a = record {
    follows = record {
      keeps = files-same h;
      leads = λ held now is is' told from stands.
          let same : held ≡ now = some-held held now (sym is ∙ is') in
          let fails = a.follows held.page from (parts-stand held.page g before.streams from stands) (λ takes. told) in
          let calls : (paging_calls ++ calls_in_call from) ≡ phase_calls g.phase from = sym (ap (λ (p : Phase). phase_calls p from) phase) in
          let P : Ran → List HostCall → Type 0 = λ to xs. FailsIn (piece_of held.file from to xs) call (outside_with held.file fails.on) in
          record {
            now = outside_with held.file fails.on;
            stands = record { files_are = rw is refl; streams_are = fails.told };
            may = subst (λ (to : Ran). P to (phase_calls g.phase from)) (step-is-answer from)
                (subst (λ (xs : List HostCall). P (counted (ran_by (rest_of g.progress from))) xs) calls (record {
                  made = in-back paging_calls (calls_in_call from) call fails.made;
                  streams = fails.between;
                  files = refl;
                }));
          };
    };
    fits = ap (λ (x : Guest). x.machine.steps) a.keeps;
    loads = λ held now is is'. let still = answered-still (Host call) a in omega (arith, still);
    course = answered-course (Host call) a;
    signal = tt;
    end = answered-end (Host call) a;
  }

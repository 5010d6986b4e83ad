-- Steps and runs of a guest, by the tries of phases and by steps.
use Rattle.std.proofs.Common.{◌≡◌, ◌∙◌, ℕ, suc, ◌+◌, ◌≤◌, ◌-◌, ◌*◌, if◌then◌else◌, Bool, false, true, is_some, List, Option, Some, None, IsSome, Ok, Err, refl, sym, ap, subst, arith}
use Rattle.host_edge.specs.declared.outside.HostCall.{HostCall}
use Rattle.host_edge.specs.Files.{Held}
use Rattle.machine_state.specs.declared.kinds.GuestEnd.{GuestEnd}
use Rattle.machine_state.specs.Memory.{Swap}
use Rattle.machine_state.specs.State.{State}
use Rattle.machine_state.specs.World.{World}
use Rattle.core_step.specs.Act.{act}
use Rattle.linux_calls.specs.Outside.{Streams}
use Rattle.guest_run.specs.declared.ends.RunEnd.{RunEnd}
use Rattle.guest_run.specs.declared.guest.Guest.{Guest}
use Rattle.guest_run.specs.declared.guest.Phase.{Phase}
use Rattle.guest_run.specs.declared.guest.Phase.TheVariants.{Fetch}
use Rattle.guest_run.specs.declared.running.Tried.TheVariants.{Again, Done}
use Rattle.guest_run.specs.Step.{Ran, step, calls_in_step}
use Rattle.guest_run.specs.Outside.{Files, IsOutside, Leaves}
use Rattle.guest_run.specs.Trail.{FailsIn, piece_of}
use Rattle.guest_run.specs.Guests.{Around, StandsFor, IsWithin, IsBetween, PhaseFits}
use Rattle.guest_run.specs.Loads.{units_after, units_in_run, units_in_step, units_on}
use Rattle.guest_run.specs.Units.{loads_left, phase_units}
use Rattle.guest_run.specs.Following.{Course, Follows, HasSignal, IsGuest, Leads, LoadsAtMost, Makes, Runs, RunsTo, Stepped, Steps, Tries, phase_calls, phase_rest, run_end, step_rest, steps_made}
use Rattle.guest_run.proofs.RunLemmas.{IsSoFar, no_end, ended-runs, loads-step, runs-budget, runs-ends, runs-stopped, so_far-start, so_far-step, stopped_by-end, units-none}
use Rattle.guest_run.proofs.StepLemmas.{state-is}
use Rattle.guest_run.proofs.TryLemmas.{again-here, course-none, files-same, files-then, some-held}

pub is-within : (g : Guest) (a : Around) → IsBetween g a → IsWithin g a
is-within g a between = record {
  phase = subst (λ (p : Phase). PhaseFits g p) (sym between.phase) between.begins;
  fit = between.fit;
  pages = between.pages;
}

pub tries-start : (g : Guest) (a : Around) → IsBetween g a → Tries g g a a (Ok Again)
tries-start g a between =
    again-here g g a (record { end = refl; failed = refl }) (λ swap from stands. (stands, refl, refl)) (λ swap. omega arith) (is-within g a between) refl

-- ---- tries that complete a step, or stop in it
module _ (g new : Guest) (before after : Around) (phase : g.phase ≡ Fetch) where
  rest-is : (from : World) → step_rest g from ≡ step from
  rest-is from = ap (λ (p : Phase). phase_rest p g.progress from) phase

  calls-is : (from : World) → phase_calls g.phase from ≡ calls_in_step from
  calls-is from = ap (λ (p : Phase). phase_calls p from) phase

  -- the pages that are brought for a step
  step-loads : (held : Swap) (from : World) → StandsFor held g before.streams from → loads_left held g ≤ 4 * units_in_step from
  unfolding loads_left units_in_step
  step-loads held from stands =
      let units : phase_units g.phase held g ≡ 2 + units_after (act from.state) =
      ap (λ (p : Phase). phase_units p held g) phase ∙ ap (λ (s : State). 2 + units_after (act s)) (state-is held g before.streams from stands) in
      omega (arith, units)

  pub step-done : (end : Option GuestEnd) → Tries g new before after (Ok (Done end)) → Steps g new before after (Ok end)
  step-done end tries = record {
    follows = record {
      keeps = tries.follows.keeps;
      leads = λ held now is is' told from stands.
          let at = tries.follows.leads held now is is' told from stands in
          record {
            end = at.0 ∙ ap (λ (to : Ran). to.end) (rest-is from);
            whole = subst (λ (to : Ran). StandsFor now.page new after.streams to.world) (rest-is from) at.1;
            failed = tt;
          };
    };
    between = tries.fits.0;
    counted = tries.fits.1;
    loads = record {
      keeps = tries.follows.keeps;
      leads = λ held now is is' told from stands.
          let most = tries.loads held now is is' in
          let all = step-loads held.page from stands in
          omega (arith, most, all);
    };
    course = tries.course;
    signal = tries.signal;
    end = tries.end;
  }

  pub step-stopped : (call : HostCall) → Tries g new before after (Err call) → Steps g new before after (Err call)
  step-stopped call tries = record {
    follows = record {
      keeps = tries.follows.keeps;
      leads = λ held now is is' told from stands.
          let at = tries.follows.leads held now is is' told from stands in
          let P : Ran → List HostCall → Type 0 = λ to calls. Leaves (IsOutside after.held after.streams) (FailsIn (piece_of held.file from to calls) call) in
          record {
            end = tt;
            whole = tt;
            failed = subst (λ (calls : List HostCall). P (step from) calls) (calls-is from) (subst (λ (to : Ran). P to (phase_calls g.phase from)) (rest-is from) at);
          };
    };
    between = tt;
    counted = let still = tries.fits in omega (arith, still);
    loads = record {
      keeps = tries.follows.keeps;
      leads = λ held now is is' told from stands.
          let most = tries.loads held now is is' in
          let all = step-loads held.page from stands in
          omega (arith, most, all);
    };
    course = tries.course;
    signal = tt;
    end = tries.end;
  }

-- ---- a run so far
abbrev pub RanSoFar : (old now : Guest) → (before after : Around) → (all rest : ℕ) → Type 0
RanSoFar old now before after all rest = Leads old now before after (λ Stands Told files from. IsSoFar Stands files from all rest old.pager.loads now.pager.loads)

pub ran-start : (g : Guest) (a : Around) (all : ℕ) → RanSoFar g g a a all all
ran-start g a all = record {
  keeps = files-same a.held;
  leads = λ held now is is' told from stands.
      let same : held ≡ now = some-held held now (sym is ∙ is') in
      subst (λ (h : Held). IsSoFar (StandsFor h.page g a.streams) held.file from all all g.pager.loads g.pager.loads) same (so_far-start _ held.file from all g.pager.loads stands);
}

module _ (old mid new : Guest) (before between after : Around) (all rest left : ℕ) (more : rest ≡ suc left) (so_far : RanSoFar old mid before between all rest)
    (course : Course before between None) where
  -- what a step leads to from the world that stands so far
  abbrev Turned : Stepped → (files : Files) → Held → (now : Held) → Type 0
  Turned result files mid_held now =
      (w : World) → StandsFor mid_held.page mid between.streams w
      → Follows (StandsFor now.page new after.streams) (IsOutside after.held after.streams) files w (step w) (calls_in_step w) result

  turned : (result : Stepped) → Steps mid new between after result → (held now : Held) (is : before.held ≡ Some held) → after.held ≡ Some now
      → IsSome before.streams.left → Turned result held.file (so_far.keeps.related held is).0 now
  turned result steps held now is is' told w stands =
      let mid_held = so_far.keeps.related held is in
      let still : IsSome between.streams.left = course.streams.left ∙ told in
      subst (λ (files : Files). Follows (StandsFor now.page new after.streams) (IsOutside after.held after.streams) files w (step w) (calls_in_step w) result) mid_held.2
      (steps.follows.leads mid_held.0 now mid_held.1 is' still w stands)

  -- the pages that a step brings
  few : (result : Stepped) → Steps mid new between after result → (held now : Held) (is : before.held ≡ Some held) → after.held ≡ Some now → IsSome before.streams.left
      → (w : World) → StandsFor (so_far.keeps.related held is).0.page mid between.streams w → new.pager.loads ≤ mid.pager.loads + 4 * units_in_step w
  few result steps held now is is' told w stands =
      let mid_held = so_far.keeps.related held is in
      let still : IsSome between.streams.left = course.streams.left ∙ told in
      steps.loads.leads mid_held.0 now mid_held.1 is' still w stands

  pub ran-loads : (result : Stepped) → Steps mid new between after result → LoadsAtMost old new before after (λ from. units_in_run from (all - rest + 1))
  ran-loads result steps = record {
    keeps = files-then before.held between.held after.held so_far.keeps steps.follows.keeps;
    leads = λ held now is is' told from stands.
        let mid_held = so_far.keeps.related held is in
        rw more (loads-step _ (StandsFor now.page new after.streams) (IsOutside after.held after.streams) held.file from all rest left old.pager.loads mid.pager.loads more
        (so_far.leads held mid_held.0 is mid_held.1 told from stands) new.pager.loads (few result steps held now is is' told));
  }

  pub ran-on : Steps mid new between after (Ok None) → RanSoFar old new before after all left
  ran-on steps = record {
    keeps = files-then before.held between.held after.held so_far.keeps steps.follows.keeps;
    leads = λ held now is is' told from stands.
        let mid_held = so_far.keeps.related held is in
        so_far-step _ _ (IsOutside after.held after.streams) held.file from all rest left old.pager.loads mid.pager.loads more
        (so_far.leads held mid_held.0 is mid_held.1 told from stands) new.pager.loads (few (Ok None) steps held now is is' told)
        (turned (Ok None) steps held now is is' told);
  }

  pub ran-ends : (end : GuestEnd) → Steps mid new between after (Ok (Some end))
      → Leads old new before after (λ Stands Told files from. RunsTo Stands Told files from no_end all (Some end) (run_end (Some end)))
  ran-ends end steps = record {
    keeps = files-then before.held between.held after.held so_far.keeps steps.follows.keeps;
    leads = λ held now is is' told from stands.
        let mid_held = so_far.keeps.related held is in
        runs-ends _ _ (IsOutside after.held after.streams) held.file from all rest left old.pager.loads mid.pager.loads more (so_far.leads held mid_held.0 is mid_held.1 told from stands) end
        (turned (Ok (Some end)) steps held now is is' told);
  }

  pub ran-stopped : (call : HostCall) (was : Option GuestEnd) → Steps mid new between after (Err call)
      → Leads old new before after (λ Stands Told files from. RunsTo Stands Told files from no_end all was (RunEnd.Host call))
  ran-stopped call was steps = record {
    keeps = files-then before.held between.held after.held so_far.keeps steps.follows.keeps;
    leads = λ held now is is' told from stands.
        let mid_held = so_far.keeps.related held is in
        runs-stopped _ _ (IsOutside after.held after.streams) held.file from all rest left old.pager.loads mid.pager.loads more (so_far.leads held mid_held.0 is mid_held.1 told from stands) call was
        (turned (Err call) steps held now is is' told);
  }

pub ran-budget : (old now : Guest) (before after : Around) (all rest : ℕ) → rest ≡ 0 → RanSoFar old now before after all rest
    → Leads old now before after (λ Stands Told files from. RunsTo Stands Told files from no_end all no_end RunEnd.Budget)
ran-budget old now before after all rest none so_far = record {
  keeps = so_far.keeps;
  leads = λ held h is is' told from stands. runs-budget _ (IsOutside after.held after.streams) held.file from all rest old.pager.loads now.pager.loads none (so_far.leads held h is is' told from stands);
}

-- ---- a run that is over
-- the guest with its end, and whether a call failed
abbrev pub marked : Guest → Option GuestEnd → Bool → Guest
marked g end failed = record g { end = end; failed = failed }

marked-stands : (swap : Swap) (g : Guest) (end : Option GuestEnd) (failed : Bool) (s : Streams) (w : World) → StandsFor swap g s w
    → StandsFor swap (marked g end failed) s w
marked-stands swap g end failed s w stands = record { parts = stands.parts; streams_are = stands.streams_are }

marked-between : (g : Guest) (end : Option GuestEnd) (failed : Bool) (a : Around) → IsBetween g a → IsBetween (marked g end failed) a
marked-between g end failed a b = record { phase = b.phase; begins = b.begins; fit = b.fit; pages = b.pages }

marked-leads : (old new : Guest) (end : Option GuestEnd) (failed : Bool) (before after : Around) (was is : Option GuestEnd) (steps : ℕ) (result : RunEnd)
    → Leads old new before after (λ Stands Told files from. RunsTo Stands Told files from was steps is result)
    → Leads old (marked new end failed) before after (λ Stands Told files from. RunsTo Stands Told files from was steps is result)
marked-leads old new end failed before after was is steps result ran = record {
  keeps = ran.keeps;
  leads = λ held now h h' told from stands.
      let at = ran.leads held now h h' told from stands in
      record { end = at.end; whole = λ own. marked-stands now.page new end failed after.streams _ (at.whole own); failed = at.failed };
}

marked-loads : (old new : Guest) (end : Option GuestEnd) (failed : Bool) (before after : Around) (units : World → ℕ) → LoadsAtMost old new before after units
    → LoadsAtMost old (marked new end failed) before after units
marked-loads old new end failed before after units few = record { keeps = few.keeps; leads = λ held now h h' told from stands. few.leads held now h h' told from stands }

-- the steps that were made
made-ended : (old new : Guest) (end : GuestEnd) → steps_made old new (run_end (Some end)) ≡ new.machine.steps - old.machine.steps
made-ended old new end =
    let made : Option HostCall → ℕ = λ stopped. new.machine.steps - old.machine.steps + (if is_some stopped then 1 else 0) in
    ap made (stopped_by-end end) ∙ omega arith

no_budget : (end : GuestEnd) → run_end (Some end) ≡ RunEnd.Budget → ⊥
no_budget (GuestEnd.Exit code) h = cc
no_budget (GuestEnd.Killed signal) h = cc

makes-ended : (steps : ℕ) (old new : Guest) (end : GuestEnd) → old.machine.steps ≤ new.machine.steps → new.machine.steps - old.machine.steps ≤ steps
    → Makes steps old new (run_end (Some end))
makes-ended steps old new end later most = record {
  later = later;
  most = let made = made-ended old new end in omega (arith, made, most);
  all = λ budget. absurd (no_budget end budget);
}

-- where the guest stood before its end
module _ (old new : Guest) (before after : Around) (all : ℕ) (goes : old.end ≡ no_end) where
  abbrev LeadsTo : Option GuestEnd → Option GuestEnd → RunEnd → Type 0
  LeadsTo was is result = Leads old new before after (λ Stands Told files from. RunsTo Stands Told files from was all is result)

  abbrev Few : (made : ℕ) → Type 0
  Few made = LoadsAtMost old new before after (λ from. units_in_run from made)

  few-on : (made all : ℕ) → made ≡ all → Few made → LoadsAtMost old new before after (λ from. units_on from old.end all)
  few-on made all same few = record {
    keeps = few.keeps;
    leads = λ held now h h' told from stands.
        subst (λ (was : Option GuestEnd). new.pager.loads ≤ old.pager.loads + 4 * units_on from was all) (sym goes)
        (subst (λ (n : ℕ). new.pager.loads ≤ old.pager.loads + 4 * units_in_run from n) same (few.leads held now h h' told from stands));
  }

  pub run-ended : (end : GuestEnd) → LeadsTo no_end (Some end) (run_end (Some end)) → Few (new.machine.steps - old.machine.steps)
      → old.machine.steps ≤ new.machine.steps → new.machine.steps - old.machine.steps ≤ all → IsBetween new after → new.failed ≡ false → HasSignal (Some end)
      → Course before after None → Runs all old (marked new (Some end) new.failed) before after (run_end (Some end))
  run-ended end ran few later most between works signal course = record {
    follows = marked-leads old new (Some end) new.failed before after old.end (Some end) all (run_end (Some end))
        (subst (λ (was : Option GuestEnd). LeadsTo was (Some end) (run_end (Some end))) (sym goes) ran);
    guest = λ own. record { between = marked-between new (Some end) new.failed after between; works = works; signal = signal };
    failed = works ∙ sym (ap (λ (o : Option HostCall). is_some o) (stopped_by-end end));
    course = rw (stopped_by-end end) course;
    makes = makes-ended all old (marked new (Some end) new.failed) end later most;
    loads = marked-loads old new (Some end) new.failed before after _
        (few-on (new.machine.steps - old.machine.steps) (steps_made old new (run_end (Some end))) (sym (made-ended old new end)) few);
  }

  pub run-stopped : (call : HostCall) → LeadsTo no_end new.end (RunEnd.Host call) → Few (new.machine.steps - old.machine.steps + 1)
      → old.machine.steps ≤ new.machine.steps → new.machine.steps - old.machine.steps + 1 ≤ all → Course before after (Some call)
      → Runs all old (marked new new.end true) before after (RunEnd.Host call)
  run-stopped call ran few later most course = record {
    follows = marked-leads old new new.end true before after old.end new.end all (RunEnd.Host call)
        (subst (λ (was : Option GuestEnd). LeadsTo was new.end (RunEnd.Host call)) (sym goes) ran);
    guest = λ own. cc;
    failed = refl;
    course = course;
    makes = record { later = later; most = most; all = λ budget. cc };
    loads = marked-loads old new new.end true before after _ (few-on (new.machine.steps - old.machine.steps + 1) (new.machine.steps - old.machine.steps + 1) refl few);
  }

  pub run-budget : new.end ≡ no_end → LeadsTo no_end no_end RunEnd.Budget → Few all → old.machine.steps ≤ new.machine.steps
      → new.machine.steps - old.machine.steps ≡ all → IsGuest new after → Course before after None → Runs all old new before after RunEnd.Budget
  run-budget still ran few later whole guest course = record {
    follows = subst (λ (was : Option GuestEnd). LeadsTo was new.end RunEnd.Budget) (sym goes)
        (subst (λ (is : Option GuestEnd). LeadsTo no_end is RunEnd.Budget) (sym still) ran);
    guest = λ own. guest;
    failed = guest.works;
    course = course;
    makes = record { later = later; most = omega (arith, whole); all = λ budget. omega (arith, whole) };
    loads = few-on all (new.machine.steps - old.machine.steps + 0) (omega (arith, whole)) few;
  }

pub ran-loads_so_far : (old now : Guest) (before after : Around) (all rest : ℕ) → RanSoFar old now before after all rest
    → LoadsAtMost old now before after (λ from. units_in_run from (all - rest))
ran-loads_so_far old now before after all rest so_far = record {
  keeps = so_far.keeps;
  leads = λ held h is is' told from stands.
      let here = so_far.leads held h is is' told from stands in
      let few = here.few 0 in
      let none = units-none here.now in
      let count : all - rest + 0 ≡ all - rest = omega arith in
      subst (λ (n : ℕ). now.pager.loads ≤ old.pager.loads + 4 * units_in_run from n) count (omega (arith, few, none));
}

pub loads-made : (old new : Guest) (before after : Around) (made all : ℕ) → made ≡ all → LoadsAtMost old new before after (λ from. units_in_run from made)
    → LoadsAtMost old new before after (λ from. units_in_run from all)
loads-made old new before after made all same few = record {
  keeps = few.keeps;
  leads = λ held now h h' told from stands.
      subst (λ (n : ℕ). new.pager.loads ≤ old.pager.loads + 4 * units_in_run from n) same (few.leads held now h h' told from stands);
}

-- a guest that has ended
pub ended-guest : (steps : ℕ) (g : Guest) (end : GuestEnd) (a : Around) → g.end ≡ Some end → IsGuest g a → Runs steps g g a a (run_end (Some end))
ended-guest steps g end a is guest = record {
  follows = record {
    keeps = files-same a.held;
    leads = λ held now is_held is' told from stands.
        let same : held ≡ now = some-held held now (sym is_held ∙ is') in
        subst (λ (h : Held). RunsTo (StandsFor h.page g a.streams) (IsOutside a.held a.streams) held.file from g.end steps g.end (run_end (Some end))) same
        (subst (λ (o : Option GuestEnd). RunsTo (StandsFor held.page g a.streams) (IsOutside a.held a.streams) held.file from o steps o (run_end (Some end))) (sym is)
        (ended-runs _ _ held.file from end steps stands));
  };
  guest = λ own. guest;
  failed = guest.works ∙ sym (ap (λ (o : Option HostCall). is_some o) (stopped_by-end end));
  course = rw (stopped_by-end end) (course-none a);
  makes = makes-ended steps g g end (omega arith) (omega arith);
  loads = record { keeps = files-same a.held; leads = λ held now is_held is' told from stands. omega arith };
}

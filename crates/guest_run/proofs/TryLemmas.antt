-- What comes of tries of a step's phases, one after the other.
use Rattle.std.proofs.Common.{◌≡◌, ◌∙◌, ℕ, ◌+◌, ◌≤◌, ◌++◌, List, [], Option, Some, None, IsSome, Result, Ok, Err, refl, sym, ap, arith, subst, append-nil, append_assoc}
use Rattle.host_edge.specs.declared.outside.HostCall.{HostCall}
use Rattle.host_edge.specs.Files.{Held, Becomes, KeepsFiles}
use Rattle.machine_state.specs.declared.kinds.GuestEnd.{GuestEnd}
use Rattle.machine_state.specs.Memory.{Swap}
use Rattle.machine_state.specs.World.{World}
use Rattle.linux_calls.specs.Outside.{Standing, Streams, Grown, standing_in}
use Rattle.linux_calls.specs.Following.{StillTell}
use Rattle.guest_run.specs.declared.guest.Guest.{Guest}
use Rattle.guest_run.specs.declared.running.Tried.{Tried}
use Rattle.guest_run.specs.declared.running.Tried.TheVariants.{Again, Done}
use Rattle.guest_run.specs.Step.{Ran}
use Rattle.guest_run.specs.Outside.{Files, Outside, IsOutside}
use Rattle.guest_run.specs.Guests.{Around, StandsFor, IsWithin, IsBetween}
use Rattle.guest_run.specs.Units.{LoadsFew, LoadsFit, loads_left}
use Rattle.guest_run.specs.Following.{Course, GoesOn, HasSignal, KeepsEnd, Tries, TriedFits, TriedTo, failed_in, phase_calls, step_rest}

-- ---- streams
pub grown-none : (on : Standing) → Grown on on
grown-none on = record { out = ([], sym (append-nil on.out)); err = ([], sym (append-nil on.err)); left = ([], refl) }

pub grown-then : (a b c : Standing) → Grown a b → Grown b c → Grown a c
grown-then a b c first second = record {
  out = (first.out.0 ++ second.out.0, second.out.1 ∙ ap (λ (xs : List ℕ). xs ++ second.out.0) first.out.1 ∙ append_assoc a.out first.out.0 second.out.0);
  err = (first.err.0 ++ second.err.0, second.err.1 ∙ ap (λ (xs : List ℕ). xs ++ second.err.0) first.err.1 ∙ append_assoc a.err first.err.0 second.err.0);
  left = (first.left.0 ++ second.left.0, first.left.1 ∙ ap (λ (xs : List ℕ). first.left.0 ++ xs) second.left.1 ∙ sym (append_assoc first.left.0 second.left.0 c.left));
}

-- ---- courses
pub tell-none : (s : Streams) → StillTell s s
tell-none s = record { left = refl; out = refl; err = refl }

pub course-none : (a : Around) → Course a a None
course-none a = record { held = refl; streams = tell-none a.streams; opened = refl; cause = refl }

pub course-then : (a b c : Around) (failed : Option HostCall) → Course a b None → Course b c failed → Course a c failed
course-then a b c failed first second = record {
  held = second.held ∙ first.held;
  streams = record {
    left = second.streams.left ∙ first.streams.left;
    out = second.streams.out ∙ first.streams.out;
    err = second.streams.err ∙ first.streams.err;
  };
  opened = second.opened ∙ first.opened;
  cause = rw (← first.cause) second.cause;
}

pub end-then : (a b c : Guest) → KeepsEnd a b → KeepsEnd b c → KeepsEnd a c
end-then a b c first second = record { end = second.end ∙ first.end; failed = second.failed ∙ first.failed }

-- ---- hosts
pub files-same : (held : Option Held) → Becomes KeepsFiles held held
files-same held = record { tells = refl; related = λ h is. (h, is, refl) }

pub some-held : (a b : Held) → ◌≡◌ {A = Option Held} (Some a) (Some b) → a ≡ b
some-held a b e = cc

pub files-then : (a b c : Option Held) → Becomes KeepsFiles a b → Becomes KeepsFiles b c → Becomes KeepsFiles a c
files-then a b c first second = record {
  tells = second.tells ∙ first.tells;
  related = λ held is.
      let mid = first.related held is in
      let last = second.related mid.0 mid.1 in
      (last.0, last.1, last.2 ∙ mid.2);
}

-- ---- tries without the host and the streams
module _ (old new : Guest) (a : Around) (end : KeepsEnd old new) where
  -- no more pages may be brought than before
  abbrev NoFurther : Type 0
  NoFurther = (swap : Swap) → new.pager.loads + loads_left swap new ≤ old.pager.loads + loads_left swap old

  same-swap : NoFurther → LoadsFew old new a.held a.held (Ok Again)
  same-swap few held now is is' =
      let same : held ≡ now = some-held held now (sym is ∙ is') in
      subst (λ (h : Held). new.pager.loads + loads_left h.page new ≤ old.pager.loads + loads_left held.page old) same (few held.page)

  pub again-here : ((swap : Swap) (from : World) → StandsFor swap old a.streams from
      → StandsFor swap new a.streams from × (step_rest new from ≡ step_rest old from) × (phase_calls new.phase from ≡ phase_calls old.phase from))
      → NoFurther → IsWithin new a → new.machine.steps ≡ old.machine.steps → Tries old new a a (Ok Again)
  again-here goes few within steps = record {
    follows = record {
      keeps = files-same a.held;
      leads = λ held now is is' told from stands.
          let same : held ≡ now = some-held held now (sym is ∙ is') in
          let at = goes held.page from stands in
          record {
            now = from;
            stands = subst (λ (h : Held). StandsFor h.page new a.streams from) same at.0;
            rest = at.1;
            calls_are = at.2;
            grown = grown-none (standing_in from);
          };
    };
    fits = (within, steps);
    loads = same-swap few;
    course = course-none a;
    signal = tt;
    end = end;
  }

  -- the same, from another world on
  pub again-at : ((swap : Swap) (from : World) → StandsFor swap old a.streams from → GoesOn (StandsFor swap new a.streams) (step_rest old from) (phase_calls old.phase from) from new)
      → NoFurther → IsWithin new a → new.machine.steps ≡ old.machine.steps → Tries old new a a (Ok Again)
  again-at goes few within steps = record {
    follows = record {
      keeps = files-same a.held;
      leads = λ held now is is' told from stands.
          let same : held ≡ now = some-held held now (sym is ∙ is') in
          subst (λ (h : Held). GoesOn (StandsFor h.page new a.streams) (step_rest old from) (phase_calls old.phase from) from new) same (goes held.page from stands);
    };
    fits = (within, steps);
    loads = same-swap few;
    course = course-none a;
    signal = tt;
    end = end;
  }

  pub done-here : (ended : Option GuestEnd)
      → ((swap : Swap) (from : World) → StandsFor swap old a.streams from
      → (ended ≡ (step_rest old from).end) × StandsFor swap new a.streams (step_rest old from).world)
      → new.pager.loads ≡ old.pager.loads → IsBetween new a → new.machine.steps ≡ old.machine.steps + 1 → HasSignal ended
      → Tries old new a a (Ok (Done ended))
  done-here ended goes still between steps signal = record {
    follows = record {
      keeps = files-same a.held;
      leads = λ held now is is' told from stands.
          let same : held ≡ now = some-held held now (sym is ∙ is') in
          let at = goes held.page from stands in
          (at.0, subst (λ (h : Held). StandsFor h.page new a.streams (step_rest old from).world) same at.1);
    };
    fits = (between, steps);
    loads = λ held now is is'. omega (arith, still);
    course = course-none a;
    signal = signal;
    end = end;
  }

-- ---- one try after another
module _ (old mid new : Guest) (before between after : Around) (first : Tries old mid before between (Ok Again)) where
  -- what both lead to, by what the second leads to
  abbrev Follows-then : (result : Result Tried HostCall) → Type 1
  Follows-then result =
      (Stands : World → Type 0) (Told : Outside → Type 0) (files : Files) (from now : World) → Grown (standing_in from) (standing_in now)
      → TriedTo (step_rest old from) (phase_calls old.phase from) new result Stands Told files now
      → TriedTo (step_rest old from) (phase_calls old.phase from) new result Stands Told files from

  follows-then : (result : Result Tried HostCall) → Follows-then result
  follows-then (Ok Again) Stands Told files from now grown goes = record {
    now = goes.now;
    stands = goes.stands;
    rest = goes.rest;
    calls_are = goes.calls_are;
    grown = grown-then (standing_in from) (standing_in now) (standing_in goes.now) grown goes.grown;
  }
  follows-then (Ok (Done end)) Stands Told files from now grown goes = goes
  follows-then (Err call) Stands Told files from now grown goes = record {
    now = goes.now;
    stands = goes.stands;
    may = record {
      made = goes.may.made;
      streams = record {
        has = grown-then (standing_in from) (standing_in now) _ grown goes.may.streams.has;
        within = goes.may.streams.within;
      };
      files = goes.may.files;
    };
  }

  fits-then : (result : Result Tried HostCall) → TriedFits mid new after result → TriedFits old new after result
  fits-then (Ok Again) fits = (fits.0, fits.1 ∙ first.fits.1)
  fits-then (Ok (Done end)) fits = (fits.0, fits.1 ∙ ap (λ (n : ℕ). n + 1) first.fits.1)
  fits-then (Err call) fits = fits ∙ first.fits.1

  loads-then : (result : Result Tried HostCall) (held mid_held now : Swap) → LoadsFit old mid held mid_held (Ok Again) → LoadsFit mid new mid_held now result
      → LoadsFit old new held now result
  loads-then (Ok Again) held mid_held now few more = omega (arith, few, more)
  loads-then (Ok (Done end)) held mid_held now few more = omega (arith, few, more)
  loads-then (Err call) held mid_held now few more = omega (arith, few, more)

  pub tries-then : (result : Result Tried HostCall) → Tries mid new between after result → Tries old new before after result
  tries-then result second = record {
    follows = record {
      keeps = files-then before.held between.held after.held first.follows.keeps second.follows.keeps;
      leads = λ held now is is' told from stands.
          let mid_held = first.follows.keeps.related held is in
          let goes = first.follows.leads held mid_held.0 is mid_held.1 told from stands in
          let still : IsSome between.streams.left = first.course.streams.left ∙ told in
          let at = second.follows.leads mid_held.0 now mid_held.1 is' still goes.now goes.stands in
          let Stands : World → Type 0 = StandsFor now.page new after.streams in
          let Told : Outside → Type 0 = IsOutside after.held after.streams in
          let by_files : TriedTo (step_rest mid goes.now) (phase_calls mid.phase goes.now) new result Stands Told held.file goes.now =
          subst (λ (files : Files). TriedTo (step_rest mid goes.now) (phase_calls mid.phase goes.now) new result Stands Told files goes.now) mid_held.2 at in
          let by_rest : TriedTo (step_rest old from) (phase_calls mid.phase goes.now) new result Stands Told held.file goes.now =
          subst (λ (to : Ran). TriedTo to (phase_calls mid.phase goes.now) new result Stands Told held.file goes.now) goes.rest by_files in
          let by_calls : TriedTo (step_rest old from) (phase_calls old.phase from) new result Stands Told held.file goes.now =
          subst (λ (calls : List HostCall). TriedTo (step_rest old from) calls new result Stands Told held.file goes.now) goes.calls_are by_rest in
          follows-then result Stands Told held.file from goes.now goes.grown by_calls;
    };
    fits = fits-then result second.fits;
    loads = λ held now is is'.
        let mid_held = first.follows.keeps.related held is in
        loads-then result held.page mid_held.0.page now.page (first.loads held mid_held.0 is mid_held.1) (second.loads mid_held.0 now mid_held.1 is');
    course = course-then before between after (failed_in result) first.course second.course;
    signal = second.signal;
    end = end-then old mid new first.end second.end;
  }

-- A run in parts: so many steps and then more are as many in one run.
use Rattle.std.proofs.Common.{◌≡◌, ◌∙◌, ℕ, zero, suc, ◌+◌, ◌-◌, ◌*◌, ◌≤◌, ◌++◌, if◌then◌else◌, Bool, false, List, [], ◌∷◌, Option, Some, None, IsSome, refl, sym, ap, arith, subst}
use Rattle.host_edge.specs.declared.outside.HostCall.{HostCall}
use Rattle.host_edge.specs.Files.{Held}
use Rattle.machine_state.specs.declared.kinds.GuestEnd.{GuestEnd}
use Rattle.machine_state.specs.World.{World}
use Rattle.guest_run.specs.declared.ends.RunEnd.{RunEnd}
use Rattle.guest_run.specs.declared.guest.Guest.{Guest}
use Rattle.guest_run.specs.Step.{Ran, step}
use Rattle.guest_run.specs.Run.{run, run_on}
use Rattle.guest_run.specs.Outside.{Files, Outside, IsOutside}
use Rattle.guest_run.specs.Trail.{FailsOn, Piece, run_trail, trail_on}
use Rattle.guest_run.specs.Loads.{units_in_run, units_on}
use Rattle.guest_run.specs.Guests.{Around, StandsFor}
use Rattle.guest_run.specs.Following.{Runs, RunsTo, is_stopped, run_end, steps_made, stopped_by}
use Rattle.guest_run.proofs.RunLemmas.{fails-later, run-ends, run-goes_on, run-none, run_trail-ends, run_trail-goes_on, run_trail-none, step_piece, units-ends, units-goes_on, units-none}
use Rattle.guest_run.proofs.TryLemmas.{course-then, files-then}

-- ---- the written machine
-- the run behind the first steps
abbrev pub behind : {T : Type 0} → (World → Option GuestEnd → ℕ → T) → World → Option GuestEnd → (first more : ℕ) → T
behind work w end first more = work (run_on w end first).world (run_on w end first).end more

run-more : (w : World) (first more : ℕ) → run_on (run w first).world (run w first).end more ≡ run w (first + more)
run-more w zero more = let same : 0 + more ≡ more = omega arith in rw (run-none w, same) refl
run-more w (suc first) more = let count : suc first + more ≡ suc (first + more) = omega arith in rw count (by_end (step w).end refl (run-more (step w).world first more))
  where
    by_end : (end : Option GuestEnd) → (step w).end ≡ end
        → run_on (run (step w).world first).world (run (step w).world first).end more ≡ run (step w).world (first + more)
        → run_on (run w (suc first)).world (run w (suc first)).end more ≡ run w (suc (first + more))
    by_end None is later = rw (run-goes_on w first is, run-goes_on w (first + more) is) later
    by_end (Some end) is later = rw (run-ends w first end is, run-ends w (first + more) end is, is) refl

pub run_on_more : (w : World) (end : Option GuestEnd) (first more : ℕ) → behind run_on w end first more ≡ run_on w end (first + more)
run_on_more w None first more = run-more w first more
run_on_more w (Some end) first more = refl

trail-more : (files : Files) (w : World) (first more : ℕ)
    → run_trail files w (first + more) ≡ (run_trail files w first ++ trail_on files (run w first).world (run w first).end more)
trail-more files w zero more = let same : 0 + more ≡ more = omega arith in rw (run-none w, run_trail-none files w, same) refl
trail-more files w (suc first) more = let count : suc first + more ≡ suc (first + more) = omega arith in rw count (by_end (step w).end refl (trail-more files (step w).world first more))
  where
    by_end : (end : Option GuestEnd) → (step w).end ≡ end
        → run_trail files (step w).world (first + more)
        ≡ (run_trail files (step w).world first ++ trail_on files (run (step w).world first).world (run (step w).world first).end more)
        → run_trail files w (suc (first + more)) ≡ (run_trail files w (suc first) ++ trail_on files (run w (suc first)).world (run w (suc first)).end more)
    by_end None is later =
        rw (run-goes_on w first is, run_trail-goes_on files w first is, run_trail-goes_on files w (first + more) is)
        (ap (λ (rest : List Piece). step_piece files w ∷ rest) later)
    by_end (Some end) is later = rw (run-ends w first end is, run_trail-ends files w first end is, run_trail-ends files w (first + more) end is, is) refl

pub trail_on_more : (files : Files) (w : World) (end : Option GuestEnd) (first more : ℕ)
    → trail_on files w end (first + more) ≡ (trail_on files w end first ++ behind (trail_on files) w end first more)
trail_on_more files w None first more = trail-more files w first more
trail_on_more files w (Some end) first more = refl

units-more : (w : World) (first more : ℕ) → units_in_run w (first + more) ≡ units_in_run w first + units_on (run w first).world (run w first).end more
units-more w zero more = let same : 0 + more ≡ more = omega arith in rw (run-none w, units-none w, same) (omega arith)
units-more w (suc first) more = let count : suc first + more ≡ suc (first + more) = omega arith in rw count (by_end (step w).end refl (units-more (step w).world first more))
  where
    by_end : (end : Option GuestEnd) → (step w).end ≡ end
        → units_in_run (step w).world (first + more)
        ≡ units_in_run (step w).world first + units_on (run (step w).world first).world (run (step w).world first).end more
        → units_in_run w (suc (first + more)) ≡ units_in_run w (suc first) + units_on (run w (suc first)).world (run w (suc first)).end more
    by_end None is later = rw (run-goes_on w first is, units-goes_on w first is, units-goes_on w (first + more) is) (omega (arith, later))
    by_end (Some end) is later = rw (run-ends w first end is, units-ends w first end is, units-ends w (first + more) end is, is) (omega arith)

pub units_on_more : (w : World) (end : Option GuestEnd) (first more : ℕ) → units_on w end (first + more) ≡ units_on w end first + behind units_on w end first more
units_on_more w None first more = units-more w first more
units_on_more w (Some end) first more = refl

-- ---- a call that failed behind the first pieces
fails-behind : (first rest : List Piece) (call : HostCall) (now : Outside) → FailsOn rest call now → FailsOn (first ++ rest) call now
fails-behind [] rest call now h = h
fails-behind (piece ∷ first) rest call now h = fails-later piece (first ++ rest) call now (fails-behind first rest call now h)

-- what comes of the steps behind the first ones is what comes of all
runs_to-behind : (Stands : World → Type 0) (Told : Outside → Type 0) (files : Files) (from : World) (was : Option GuestEnd) (first more : ℕ) (new : Option GuestEnd)
    (result : RunEnd) → RunsTo Stands Told files (run_on from was first).world (run_on from was first).end more new result
    → RunsTo Stands Told files from was (first + more) new result
runs_to-behind Stands Told files from was first more new result to =
    let same = run_on_more from was first more in
    record {
      end = λ own. ((to.end own).0 ∙ ap (λ (ran : Ran). ran.end) same, (to.end own).1);
      whole = λ own. subst (λ (ran : Ran). Stands ran.world) same (to.whole own);
      failed = λ call is.
          let left = to.failed call is in
          record {
            now = left.now;
            stands = left.stands;
            may = subst (λ (trail : List Piece). FailsOn trail call left.now) (sym (trail_on_more files from was first more))
                (fails-behind (trail_on files from was first) (behind (trail_on files) from was first more) call left.now left.may);
          };
    }

-- ---- two runs, one after the other
own-stopped : (result : RunEnd) → is_stopped result ≡ false → stopped_by result ≡ None
own-stopped (RunEnd.Exit code) own = refl
own-stopped (RunEnd.Killed signal) own = refl
own-stopped RunEnd.Budget own = refl
own-stopped (RunEnd.Host call) own = cc

made-own : (old new : Guest) (result : RunEnd) → is_stopped result ≡ false → steps_made old new result ≡ new.machine.steps - old.machine.steps
made-own old new result own =
    ap (λ (stopped : Bool). new.machine.steps - old.machine.steps + (if stopped then 1 else 0)) own ∙ omega arith

module _ (old mid new : Guest) (before between after : Around) (first last : ℕ) (one two : RunEnd) (below : old.machine.steps ≤ first) (rises : first ≤ last)
    (own : is_stopped one ≡ false) (runs : Runs (first - old.machine.steps) old mid before between one)
    (more : Runs (last - mid.machine.steps) mid new between after two) where
  abbrev begun : ℕ
  begun = first - old.machine.steps

  abbrev all : ℕ
  all = last - old.machine.steps

  -- where the guest hasn't ended, all of the first steps were made
  whole-made : one ≡ RunEnd.Budget → mid.machine.steps ≡ first
  whole-made budget =
      let made = made-own old mid one own in
      let whole = runs.makes.all budget in
      let later = runs.makes.later in
      omega (arith, made, whole, later, below)

  within : mid.machine.steps ≤ first
  within = let made = made-own old mid one own in let most = runs.makes.most in let later = runs.makes.later in omega (arith, made, most, later, below)

  -- what is left of all steps is what the second run makes, or the guest has ended
  rest-runs : (Stands : World → Type 0) (Told : Outside → Type 0) (files : Files) (w : World) (end : Option GuestEnd) → one ≡ run_end end
      → RunsTo Stands Told files w end (last - mid.machine.steps) new.end two → RunsTo Stands Told files w end (all - begun) new.end two
  rest-runs Stands Told files w None is to =
      let made = whole-made is in
      let same : last - mid.machine.steps ≡ all - begun = omega (arith, made, below, rises) in
      subst (λ (n : ℕ). RunsTo Stands Told files w None n new.end two) same to
  rest-runs Stands Told files w (Some end) is to = record { end = to.end; whole = to.whole; failed = to.failed }

  abbrev Joined : Held → Held → World → Type 0
  Joined held now from = RunsTo (StandsFor now.page new after.streams) (IsOutside after.held after.streams) held.file from old.end all new.end two

  joined-to : (held now : Held) → before.held ≡ Some held → after.held ≡ Some now → IsSome before.streams.left → (from : World)
      → StandsFor held.page old before.streams from → Joined held now from
  joined-to held now is is' told from stands =
      let stage = runs.follows.keeps.related held is in
      let to = runs.follows.leads held stage.0 is stage.1 told from stands in
      let Stands : World → Type 0 = StandsFor now.page new after.streams in
      let Told : Outside → Type 0 = IsOutside after.held after.streams in
      let ran = run_on from old.end begun in
      let next = more.follows.leads stage.0 now stage.1 is' (runs.course.streams.left ∙ told) ran.world (to.whole own) in
      let by_files = subst (λ (files : Files). RunsTo Stands Told files ran.world mid.end (last - mid.machine.steps) new.end two) stage.2 next in
      let rest = rest-runs Stands Told held.file ran.world mid.end (to.end own).1 by_files in
      let by_end = subst (λ (end : Option GuestEnd). RunsTo Stands Told held.file ran.world end (all - begun) new.end two) (to.end own).0 rest in
      let count : begun + (all - begun) ≡ all = omega (arith, below, rises) in
      subst (λ (n : ℕ). RunsTo Stands Told held.file from old.end n new.end two) count
      (runs_to-behind Stands Told held.file from old.end begun (all - begun) new.end two by_end)

  -- the pages that were brought
  made-joined : steps_made old mid one + steps_made mid new two ≡ steps_made old new two
  made-joined =
      let made = made-own old mid one own in
      let first_later = runs.makes.later in
      let later = more.makes.later in
      omega (arith, made, first_later, later)

  units-rest : (from : World) (end : Option GuestEnd) → one ≡ run_end end → end ≡ (run_on from old.end begun).end
      → units_on from old.end (steps_made old mid one) + units_on (run_on from old.end begun).world end (steps_made mid new two)
      ≤ units_on from old.end (steps_made old mid one + steps_made mid new two)
  units-rest from None is ended =
      let made = made-own old mid one own in
      let whole = whole-made is in
      let count : steps_made old mid one ≡ begun = omega (arith, made, whole) in
      rw count (subst (λ (end : Option GuestEnd). units_on from old.end begun + units_on (run_on from old.end begun).world end (steps_made mid new two)
      ≤ units_on from old.end (begun + steps_made mid new two)) (sym ended)
      (let joined = units_on_more from old.end begun (steps_made mid new two) in omega (arith, joined)))
  units-rest from (Some end) is ended = let joined = units_on_more from old.end (steps_made old mid one) (steps_made mid new two) in omega (arith, joined)

  joined-loads : (held now : Held) → before.held ≡ Some held → after.held ≡ Some now → IsSome before.streams.left → (from : World)
      → StandsFor held.page old before.streams from → new.pager.loads ≤ old.pager.loads + 4 * units_on from old.end (steps_made old new two)
  joined-loads held now is is' told from stands =
      let stage = runs.follows.keeps.related held is in
      let to = runs.follows.leads held stage.0 is stage.1 told from stands in
      let few = runs.loads.leads held stage.0 is stage.1 told from stands in
      let last_few = more.loads.leads stage.0 now stage.1 is' (runs.course.streams.left ∙ told) _ (to.whole own) in
      let units = units-rest from mid.end (to.end own).1 (to.end own).0 in
      subst (λ (n : ℕ). new.pager.loads ≤ old.pager.loads + 4 * units_on from old.end n) made-joined (omega (arith, few, last_few, units))

  pub runs_then : Runs (last - old.machine.steps) old new before after two
  runs_then =
      let keeps = files-then before.held between.held after.held runs.follows.keeps more.follows.keeps in
      let first_later = runs.makes.later in
      let later = more.makes.later in
      record {
        follows = record { keeps = keeps; leads = joined-to };
        guest = more.guest;
        failed = more.failed;
        course = course-then before between after (stopped_by two) (rw (own-stopped one own) at runs.course) more.course;
        makes = record {
          later = omega (arith, first_later, later);
          most = let most = more.makes.most in let least = within in omega (arith, most, least, first_later, later, rises);
          all = λ budget. let whole = more.makes.all budget in let least = within in omega (arith, whole, least, first_later, later, rises);
        };
        loads = record { keeps = keeps; leads = joined-loads };
      }

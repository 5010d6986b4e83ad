-- A run, step by step.
use Rattle.std.proofs.Common.{◌≡◌, ◌≤◌, ◌+◌, ◌-◌, ◌*◌, ℕ, suc, List, [], ◌∷◌, Option, Some, None, Ok, Err, refl, sym, ◌∙◌, ap, subst, arith}
use Rattle.gpr_flags.specs.declared.kinds.Fault.{Fault}
use Rattle.gpr_flags.specs.declared.kinds.Fault.TheVariants.{Divide, Breakpoint, Undefined, General, Page}
use Rattle.machine_state.specs.declared.kinds.GuestEnd.{GuestEnd}
use Rattle.machine_state.specs.declared.kinds.GuestEnd.TheVariants.{Exit, Killed}
use Rattle.host_edge.specs.declared.outside.HostCall.{HostCall}
use Rattle.guest_run.specs.declared.ends.RunEnd.{RunEnd}
use Rattle.machine_state.specs.World.{World}
use Rattle.guest_run.specs.Step.{Ran, step, calls_in_step, signal_of}
use Rattle.guest_run.specs.Run.{run}
use Rattle.guest_run.specs.Outside.{Files, Outside, Leaves}
use Rattle.guest_run.specs.Trail.{Piece, piece_of, FailsIn, FailsOn, run_trail}
use Rattle.guest_run.specs.Loads.{units_in_run, units_in_step}
use Rattle.guest_run.specs.Following.{Follows, RunsTo, Stepped, run_end, stopped_by}

-- signals of faults are among Linux's 64
pub signal_of-most : (fault : Fault) → signal_of fault ≤ 64
signal_of-most Divide = omega arith
signal_of-most Breakpoint = omega arith
signal_of-most Undefined = omega arith
signal_of-most General = omega arith
signal_of-most (Page addr write fetch mapped) = omega arith

-- ---- the run and its trail
-- one step that doesn't end, and then the rest
pub run-goes_on : (w : World) (steps : ℕ) → (step w).end ≡ None → run w (suc steps) ≡ run (step w).world steps
unfolding run
run-goes_on w steps on = rw (on, run) refl

-- one step that ends
pub run-ends : (w : World) (steps : ℕ) (end : GuestEnd) → (step w).end ≡ Some end → run w (suc steps) ≡ step w
unfolding run
run-ends w steps end is =
    let P : Option GuestEnd → Type 0 = λ v. elim v [ None ↦ run (step w).world steps | Some end ↦ step w ] ≡ step w in
    subst P (sym is) refl

pub run-none : (w : World) → run w 0 ≡ record { world = w; end = None }
unfolding run
run-none w = refl

abbrev pub step_piece : Files → World → Piece
step_piece files w = piece_of files w (step w) (calls_in_step w)

pub run_trail-goes_on : (files : Files) (w : World) (steps : ℕ) → (step w).end ≡ None
    → run_trail files w (suc steps) ≡ step_piece files w ∷ run_trail files (step w).world steps
unfolding run_trail
run_trail-goes_on files w steps on =
    let P : Option GuestEnd → Type 0 = λ v.
    (step_piece files w ∷ elim v [ None ↦ run_trail files (step w).world steps | Some end ↦ [] ])
    ≡ (step_piece files w ∷ run_trail files (step w).world steps) in
    subst P (sym on) refl

pub run_trail-ends : (files : Files) (w : World) (steps : ℕ) (end : GuestEnd) → (step w).end ≡ Some end
    → run_trail files w (suc steps) ≡ step_piece files w ∷ []
unfolding run_trail
run_trail-ends files w steps end is =
    let P : Option GuestEnd → Type 0 = λ v.
    (step_piece files w ∷ elim v [ None ↦ run_trail files (step w).world steps | Some end ↦ [] ]) ≡ (step_piece files w ∷ []) in
    subst P (sym is) refl

pub run_trail-none : (files : Files) (w : World) → run_trail files w 0 ≡ []
unfolding run_trail
run_trail-none files w = refl

-- ---- the units of a run
pub units-none : (w : World) → units_in_run w 0 ≡ 0
unfolding units_in_run
units-none w = refl

pub units-goes_on : (w : World) (steps : ℕ) → (step w).end ≡ None → units_in_run w (suc steps) ≡ units_in_step w + units_in_run (step w).world steps
unfolding units_in_run
units-goes_on w steps on =
    let P : Option GuestEnd → Type 0 = λ v.
    units_in_step w + elim v [ None ↦ units_in_run (step w).world steps | Some end ↦ 0 ] ≡ units_in_step w + units_in_run (step w).world steps in
    subst P (sym on) refl

pub units-ends : (w : World) (steps : ℕ) (end : GuestEnd) → (step w).end ≡ Some end → units_in_run w (suc steps) ≡ units_in_step w
unfolding units_in_run
units-ends w steps end is =
    let P : Option GuestEnd → Type 0 = λ v.
    units_in_step w + elim v [ None ↦ units_in_run (step w).world steps | Some end ↦ 0 ] ≡ units_in_step w in
    subst P (sym is) (omega arith)

pub units-one : (w : World) → units_in_run w 1 ≡ units_in_step w
units-one w = by_end (step w).end refl
  where
    by_end : (end : Option GuestEnd) → (step w).end ≡ end → units_in_run w 1 ≡ units_in_step w
    by_end None is = let more = units-goes_on w 0 is in let none = units-none (step w).world in omega (arith, more, none)
    by_end (Some end) is = units-ends w 0 end is

-- ---- a call that failed
-- in a later piece
pub fails-later : (piece : Piece) (rest : List Piece) (call : HostCall) (now : Outside) → FailsOn rest call now
    → FailsOn (piece ∷ rest) call now
fails-later piece rest call now h = record { index = suc h.index; piece = h.piece; is = h.is; fails = h.fails }

-- in this step
fails-now : (files : Files) (w : World) (steps : ℕ) (call : HostCall) (now : Outside) → FailsIn (step_piece files w) call now
    → FailsOn (run_trail files w (suc steps)) call now
unfolding run_trail
fails-now files w steps call now h = record { index = 0; piece = step_piece files w; is = refl; fails = h }

-- ---- a run so far: the world that stands, and what is left to run from there is what was to run
-- and the pages that were brought are at most four for each unit of the steps so far
pub record IsSoFar (Stands : World → Type 0) (files : Files) (from : World) (all rest first loads : ℕ) : Type 0 where
  pub now : World
  pub stands : Stands now
  pub within : rest ≤ all
  pub same : run now rest ≡ run from all
  pub fails : (call : HostCall) (x : Outside) → FailsOn (run_trail files now rest) call x → FailsOn (run_trail files from all) call x
  pub few : (more : ℕ) → loads + 4 * units_in_run now more ≤ first + 4 * units_in_run from (all - rest + more)

pub so_far-start : (Stands : World → Type 0) (files : Files) (from : World) (all loads : ℕ) → Stands from → IsSoFar Stands files from all all loads loads
so_far-start Stands files from all loads stands = record {
  now = from;
  stands = stands;
  within = omega arith;
  same = refl;
  fails = λ call x h. h;
  few = λ more. let same : more ≡ all - all + more = omega arith in
      subst (λ (n : ℕ). loads + 4 * units_in_run from more ≤ loads + 4 * units_in_run from n) same (omega arith);
}

-- the guest's own end is no failed call
pub stopped_by-end : (end : GuestEnd) → stopped_by (run_end (Some end)) ≡ None
stopped_by-end (Exit code) = refl
stopped_by-end (Killed signal) = refl

no_call : (end : GuestEnd) (call : HostCall) → run_end (Some end) ≡ RunEnd.Host call → ⊥
no_call end call is = let none : None ≡ Some call = sym (stopped_by-end end) ∙ ap stopped_by is in cc

some_end : (a b : GuestEnd) → ◌≡◌ {A = Option GuestEnd} (Some a) (Some b) → a ≡ b
some_end a b h = cc

abbrev pub no_end : Option GuestEnd
no_end = None

module _ (Stands Stands' : World → Type 0) (Told : Outside → Type 0) (files : Files) (from : World) (all rest left first loads : ℕ) (more : rest ≡ suc left)
    (so_far' : IsSoFar Stands files from all rest first loads) where
  so_far : IsSoFar Stands files from all (suc left) first loads
  so_far = rw more at so_far'

  abbrev Turned : World → Stepped → Type 0
  Turned now result = Follows Stands' Told files now (step now) (calls_in_step now) result

  -- pages are brought for the next step
  abbrev Few : (loads' : ℕ) → Type 0
  Few loads' = (now : World) → Stands now → loads' ≤ loads + 4 * units_in_step now

  pub loads-step : (loads' : ℕ) → Few loads' → loads' ≤ first + 4 * units_in_run from (all - suc left + 1)
  loads-step loads' few =
      let before = so_far.few 1 in
      let now = few so_far.now so_far.stands in
      let one = units-one so_far.now in
      omega (arith, before, now, one)

  pub so_far-step : (loads' : ℕ) → Few loads' → ((now : World) → Stands now → Turned now (Ok None)) → IsSoFar Stands' files from all left first loads'
  so_far-step loads' few turned =
      let follows = turned so_far.now so_far.stands in
      let on : (step so_far.now).end ≡ None = sym follows.end in
      record {
        now = (step so_far.now).world;
        stands = follows.whole;
        same = sym (run-goes_on so_far.now left on) ∙ so_far.same;
        fails = λ call x h.
            so_far.fails call x (rw (run_trail-goes_on files so_far.now left on) (fails-later (step_piece files so_far.now) _ call x h));
        within = let within = so_far.within in omega (arith, within);
        few = λ rest.
            let before = so_far.few (suc rest) in
            let now = few so_far.now so_far.stands in
            let one = units-goes_on so_far.now rest on in
            let within = so_far.within in
            let count : all - suc left + suc rest ≡ all - left + rest = omega (arith, within) in
            subst (λ (n : ℕ). loads' + 4 * units_in_run (step so_far.now).world rest ≤ first + 4 * units_in_run from n) count (omega (arith, before, now, one));
      }

  pub runs-ends : (end : GuestEnd) → ((now : World) → Stands now → Turned now (Ok (Some end)))
      → RunsTo Stands' Told files from no_end all (Some end) (run_end (Some end))
  runs-ends end turned =
      let follows = turned so_far.now so_far.stands in
      let last : step so_far.now ≡ run from all = sym (run-ends so_far.now left end (sym follows.end)) ∙ so_far.same in
      record {
        end = λ own. (follows.end ∙ ap (λ (r : Ran). r.end) last, refl);
        whole = λ own. subst (λ (r : Ran). Stands' r.world) last follows.whole;
        failed = λ call is. absurd (no_call end call is);
      }

  pub runs-stopped : (call : HostCall) (was : Option GuestEnd) → ((now : World) → Stands now → Turned now (Err call))
      → RunsTo Stands' Told files from no_end all was (RunEnd.Host call)
  runs-stopped call was turned =
      let follows = turned so_far.now so_far.stands in
      record {
        end = λ own. cc;
        whole = λ own. cc;
        failed = λ other is.
            let same : call ≡ other = cc in
            subst (λ (c : HostCall). Leaves Told (FailsOn (run_trail files from all) c)) same (record {
              now = follows.failed.now;
              stands = follows.failed.stands;
              may = so_far.fails call _ (fails-now files so_far.now left call _ follows.failed.may);
            });
      }

pub runs-budget : (Stands : World → Type 0) (Told : Outside → Type 0) (files : Files) (from : World) (all rest first loads : ℕ) → rest ≡ 0
    → IsSoFar Stands files from all rest first loads → RunsTo Stands Told files from no_end all no_end RunEnd.Budget
runs-budget Stands Told files from all rest first loads none so_far' =
    let so_far : IsSoFar Stands files from all 0 first loads = rw none at so_far' in
    let last : record { world = so_far.now; end = None } ≡ run from all = sym (run-none so_far.now) ∙ so_far.same in
    record {
      end = λ own. (ap (λ (r : Ran). r.end) last, refl);
      whole = λ own. subst (λ (r : Ran). Stands r.world) last so_far.stands;
      failed = λ call is. cc;
    }

-- a guest that has ended runs no more
pub ended-runs : (Stands : World → Type 0) (Told : Outside → Type 0) (files : Files) (from : World) (end : GuestEnd) (steps : ℕ) → Stands from
    → RunsTo Stands Told files from (Some end) steps (Some end) (run_end (Some end))
ended-runs Stands Told files from end steps stands = record {
  end = λ own. (refl, refl);
  whole = λ own. stands;
  failed = λ call is. absurd (no_call end call is);
}

-- How a step and a run of the code follow the written machine, over the pages that come and go.
use Rattle.std.specs.Prelude.{◌≡◌, ◌≤◌, ℕ, ◌+◌, ◌-◌, ◌*◌, ◌++◌, ⊤, if◌then◌else◌, Bool, false, List, [], ◌∷◌, Option, Some, None, IsSome, is_some, Result, Ok, Err, OnOk, IfOk, IfErr}
use Rattle.machine_state.specs.declared.kinds.GuestEnd.{GuestEnd}
use Rattle.host_edge.specs.declared.outside.HostCall.{HostCall}
use Rattle.host_edge.specs.declared.outside.HostCall.TheVariants.{SwapGet, SwapPut, Take, PutOut, PutErr}
use Rattle.machine_state.specs.World.{World}
use Rattle.host_edge.specs.Files.{Held, Becomes, KeepsFiles}
use Rattle.core_step.specs.Act.{performed}
use Rattle.linux_calls.specs.Outside.{Grown, standing_in}
use Rattle.linux_calls.specs.Rest.{ProgressValue, rest_of, calls_in_call}
use Rattle.linux_calls.specs.Following.{StillTell}
use Rattle.guest_run.specs.declared.ends.RunEnd.{RunEnd}
use Rattle.guest_run.specs.declared.guest.Guest.{Guest}
use Rattle.guest_run.specs.declared.guest.Phase.{Phase}
use Rattle.guest_run.specs.declared.guest.Phase.TheVariants.{Fetch, Perform, Answer}
use Rattle.guest_run.specs.declared.running.Tried.{Tried}
use Rattle.guest_run.specs.declared.running.Tried.TheVariants.{Again, Done}
use Rattle.guest_run.specs.Step.{Ran, step, after_part, counted, ran_by, calls_in_step, calls_after_part, paging_calls}
use Rattle.guest_run.specs.Run.{run_on}
use Rattle.guest_run.specs.Outside.{Files, Outside, IsOutside, Leaves}
use Rattle.guest_run.specs.Trail.{piece_of, FailsIn, FailsOn, trail_on}
use Rattle.guest_run.specs.Tally.{IsCounted}
use Rattle.guest_run.specs.Guests.{Around, StandsFor, IsWithin, IsBetween}
use Rattle.guest_run.specs.Loads.{units_in_step, units_on}
use Rattle.guest_run.specs.Units.{LoadsFew}

-- ---- what is left of a step, by its phase
abbrev pub phase_rest : Phase → ProgressValue → World → Ran
phase_rest Fetch progress w = step w
phase_rest (Perform d len) progress w = after_part (performed d len w.state) w
phase_rest Answer progress w = counted (ran_by (rest_of progress w))

abbrev pub step_rest : Guest → World → Ran
step_rest g w = phase_rest g.phase g.progress w

-- and the calls on the outside in it
abbrev pub phase_calls : Phase → World → List HostCall
phase_calls Fetch w = calls_in_step w
phase_calls (Perform d len) w = paging_calls ++ calls_after_part (performed d len w.state) w
phase_calls Answer w = paging_calls ++ calls_in_call w

-- ---- what some work leads to
-- from each world that a guest stands for, where its host tells what it holds and its source what is left; the host's files stay
pub record Leads (old new : Guest) (before after : Around) (Comes : (Stands : World → Type 0) → (Told : Outside → Type 0) → Files → World → Type 0) : Type 0 where
  pub keeps : Becomes KeepsFiles before.held after.held
  pub leads : (held now : Held) → before.held ≡ Some held → after.held ≡ Some now → IsSome before.streams.left
      → (from : World) → StandsFor held.page old before.streams from
      → Comes (StandsFor now.page new after.streams) (IsOutside after.held after.streams) held.file from

-- the call on the outside that failed
abbrev pub failed_in : {T : Type 0} → Result T HostCall → Option HostCall
failed_in (Ok done) = None
failed_in (Err call) = Some call

-- the calls that a run makes
abbrev pub run_calls : List HostCall
run_calls = SwapGet ∷ SwapPut ∷ Take ∷ PutOut ∷ PutErr ∷ []

-- the course of some work: what is told before it is told after it, the number of the open swap's pages stays, no count rose but that
-- of the call that failed, if one did
pub record Course (before after : Around) (failed : Option HostCall) : Type 0 where
  pub held : is_some after.held ≡ is_some before.held
  pub streams : StillTell before.streams after.streams
  pub opened : after.opened ≡ before.opened
  pub cause : IsCounted run_calls failed before.tally after.tally

-- ---- a try of the next phase of a step
-- it goes on: what is left of the step is what was left of it, and the streams have grown
pub record GoesOn (Stands : World → Type 0) (to : Ran) (calls : List HostCall) (from : World) (new : Guest) : Type 0 where
  pub now : World
  pub stands : Stands now
  pub rest : step_rest new now ≡ to
  pub calls_are : phase_calls new.phase now ≡ calls
  pub grown : Grown (standing_in from) (standing_in now)

abbrev pub TriedTo : (to : Ran) → (calls : List HostCall) → (new : Guest) → Result Tried HostCall
    → (Stands : World → Type 0) → (Told : Outside → Type 0) → Files → World → Type 0
TriedTo to calls new (Ok Again) Stands Told files from = GoesOn Stands to calls from new
TriedTo to calls new (Ok (Done end)) Stands Told files from = (end ≡ to.end) × Stands to.world
TriedTo to calls new (Err call) Stands Told files from = Leaves Told (FailsIn (piece_of files from to calls) call)

-- what stands then: the step goes on, or it is completed, and then the guest stands between two steps unless it has ended
abbrev pub TriedFits : (old new : Guest) → Around → Result Tried HostCall → Type 0
TriedFits old new after (Ok Again) = IsWithin new after × (new.machine.steps ≡ old.machine.steps)
TriedFits old new after (Ok (Done end)) = IsBetween new after × (new.machine.steps ≡ old.machine.steps + 1)
TriedFits old new after (Err call) = new.machine.steps ≡ old.machine.steps

-- the end of a run by that of its guest
abbrev pub run_end : Option GuestEnd → RunEnd
run_end None = RunEnd.Budget
run_end (Some (GuestEnd.Exit code)) = RunEnd.Exit code
run_end (Some (GuestEnd.Killed signal)) = RunEnd.Killed signal

-- a guest that was killed was so by one of Linux's 64 signals
abbrev pub HasSignal : Option GuestEnd → Type 0
HasSignal None = ⊤
HasSignal (Some (GuestEnd.Exit code)) = ⊤
HasSignal (Some (GuestEnd.Killed signal)) = signal ≤ 64

abbrev pub TriedSignal : Result Tried HostCall → Type 0
TriedSignal (Ok Again) = ⊤
TriedSignal (Ok (Done end)) = HasSignal end
TriedSignal (Err call) = ⊤

-- the ends of a guest and whether it failed are the run's
pub record KeepsEnd (old new : Guest) : Type 0 where
  pub end : new.end ≡ old.end
  pub failed : new.failed ≡ old.failed

pub record Tries (old new : Guest) (before after : Around) (result : Result Tried HostCall) : Type 0 where
  pub follows : Leads old new before after (λ Stands Told files from.
      TriedTo (step_rest old from) (phase_calls old.phase from) new result Stands Told files from)
  pub fits : TriedFits old new after result
  pub loads : LoadsFew old new before.held after.held result
  pub course : Course before after (failed_in result)
  pub signal : TriedSignal result
  pub end : KeepsEnd old new

-- ---- pages that are brought
-- at most four for each of so many units of work, by the world that a guest goes on from
abbrev pub LoadsAtMost : (old new : Guest) → (before after : Around) → (units : World → ℕ) → Type 0
LoadsAtMost old new before after units = Leads old new before after (λ Stands Told files from. new.pager.loads ≤ old.pager.loads + 4 * units from)

-- ---- a step
abbrev pub Stepped : Type 0
Stepped = Result (Option GuestEnd) HostCall

-- it did as the written machine does, or a call failed, and what stands is what may stand then
pub record Follows (Stands : World → Type 0) (Told : Outside → Type 0) (files : Files) (from : World) (to : Ran) (calls : List HostCall) (result : Stepped) : Type 0 where
  pub end : IfOk result (λ end. end ≡ to.end)
  pub whole : OnOk result (Stands to.world)
  pub failed : IfErr result (λ call. Leaves Told (FailsIn (piece_of files from to calls) call))

-- how many steps it completed
abbrev pub completed_by : Stepped → ℕ
completed_by (Ok end) = 1
completed_by (Err call) = 0

pub record Steps (old new : Guest) (before after : Around) (result : Stepped) : Type 0 where
  pub follows : Leads old new before after (λ Stands Told files from. Follows Stands Told files from (step from) (calls_in_step from) result)
  pub between : OnOk result (IsBetween new after)
  pub counted : new.machine.steps ≡ old.machine.steps + completed_by result
  pub loads : LoadsAtMost old new before after units_in_step
  pub course : Course before after (failed_in result)
  pub signal : IfOk result HasSignal
  pub end : KeepsEnd old new

-- ---- a run
-- the call on the outside that failed, where one did
abbrev pub stopped_by : RunEnd → Option HostCall
stopped_by (RunEnd.Host call) = Some call
stopped_by other = None

abbrev pub is_stopped : RunEnd → Bool
is_stopped end = is_some (stopped_by end)

-- so many steps were run as the written machine runs them, unless the guest had ended before, or a call failed in one of them
pub record RunsTo (Stands : World → Type 0) (Told : Outside → Type 0) (files : Files) (from : World) (was : Option GuestEnd) (steps : ℕ) (new : Option GuestEnd) (result : RunEnd) : Type 0 where
  pub end : is_stopped result ≡ false → (new ≡ (run_on from was steps).end) × (result ≡ run_end new)
  pub whole : is_stopped result ≡ false → Stands (run_on from was steps).world
  pub failed : (call : HostCall) → result ≡ RunEnd.Host call → Leaves Told (FailsOn (trail_on files from was steps) call)

-- the steps that a run made: those that it completed, and the one in which a call failed
abbrev pub steps_made : (old new : Guest) → RunEnd → ℕ
steps_made old new result = new.machine.steps - old.machine.steps + (if is_stopped result then 1 else 0)

-- they are no more than it was to make, and all of them where the guest hasn't ended
pub record Makes (steps : ℕ) (old new : Guest) (result : RunEnd) : Type 0 where
  pub later : old.machine.steps ≤ new.machine.steps
  pub most : steps_made old new result ≤ steps
  pub all : result ≡ RunEnd.Budget → steps_made old new result ≡ steps

-- the condition of the calls that take a guest and a host: the guest stands between two steps, and hasn't failed
pub record IsGuest (g : Guest) (a : Around) : Type 0 where
  pub between : IsBetween g a
  pub works : g.failed ≡ false
  pub signal : HasSignal g.end

pub record Runs (steps : ℕ) (old new : Guest) (before after : Around) (result : RunEnd) : Type 0 where
  pub follows : Leads old new before after (λ Stands Told files from. RunsTo Stands Told files from old.end steps new.end result)
  pub guest : is_stopped result ≡ false → IsGuest new after
  pub failed : new.failed ≡ is_stopped result
  pub makes : Makes steps old new result
  pub loads : LoadsAtMost old new before after (λ from. units_on from old.end (steps_made old new result))
  pub course : Course before after (stopped_by result)

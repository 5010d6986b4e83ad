-- The run of a guest, and what follows it.
use Rattle.std.proofs.Common.{◌≡◌, ◌∙◌, ℕ, ◌-◌, List, [], ◌∷◌, true, false, Option, Some, None, IfSome, IsSome, IsTrue, Ok, Err, refl, sym, ap, subst, arith, map, inl, inr, ◌⊎◌}
use Rattle.machine_state.specs.declared.kinds.GuestEnd.{GuestEnd}
use Rattle.machine_state.specs.Memory.{Swap}
use Rattle.machine_state.specs.State.{State}
use Rattle.machine_state.specs.World.{World, GuestFile}
use Rattle.host_edge.specs.declared.outside.HostCall.{HostCall}
use Rattle.host_edge.specs.declared.outside.HostCall.TheVariants.{Store, PutErr}
use Rattle.host_edge.specs.Files.{Held, Becomes}
use Rattle.linux_calls.specs.Outside.{Streams}
use Rattle.command_words.specs.declared.kinds.Command.{Command}
use Rattle.command_words.specs.declared.kinds.WordFault.{WordFault}
use Rattle.guest_run.specs.declared.guest.Guest.{Guest}
use Rattle.guest_run.specs.declared.ends.RunEnd.{RunEnd}
use Rattle.guest_run.specs.Step.{Ran}
use Rattle.guest_run.specs.Run.{run}
use Rattle.guest_run.specs.Outside.{Outside, outside, Leaves}
use Rattle.guest_run.specs.Trail.{FailsOn, run_trail}
use Rattle.guest_run.specs.Guests.{Around, StandsFor}
use Rattle.guest_run.specs.Tally.{Tally, IsCounted}
use Rattle.guest_run.specs.Following.{Runs, RunsTo, is_stopped, stopped_by, run_calls}
use Rattle.xemu_top.specs.declared.ends.End.TheVariants.{Words, Host, Memory}
use Rattle.xemu_top.specs.declared.ends.Ended.{Ended}
use Rattle.xemu_top.specs.Files.{path_at}
use Rattle.xemu_top.specs.Lines.{report}
use Rattle.xemu_top.specs.Command.{Work, command_calls, end_of, ended, on_run, on_world, reported, stores}
use Rattle.xemu_top.specs.Headline.{HasState, IsAnswer, IsTooLong, KeepsOtherFiles, MeetsWork, failed_call, is_own, refusal_in}
use Rattle.xemu_top.specs.Parts.{Ends, Finishes, HasRun, KeepsRest, RunsGuest, StandsAround, StoresFiles, answer_of}
use Rattle.xemu_top.proofs.WorkLemmas.{counted-among, fails-front, makes-err, makes-outs, makes-run, meets-failed, meets-from, others-files, others-same, others-then, tell-none}
use Rattle.xemu_top.proofs.PartLemmas.{GoesOn, passes-failed, passes-then}

-- ---- the end of a guest as that of the command
end_of-own : (end : Option GuestEnd) → IsTrue (is_own (end_of end))
end_of-own None = refl
end_of-own (Some (GuestEnd.Exit code)) = refl
end_of-own (Some (GuestEnd.Killed signal)) = refl

pub end_of-no_refusal : (end : Option GuestEnd) → refusal_in (end_of end) ≡ None
end_of-no_refusal None = refl
end_of-no_refusal (Some (GuestEnd.Exit code)) = refl
end_of-no_refusal (Some (GuestEnd.Killed signal)) = refl

end_of-no_memory : (end : Option GuestEnd) → end_of end ≡ Memory → ⊥
end_of-no_memory None h = cc
end_of-no_memory (Some (GuestEnd.Exit code)) h = cc
end_of-no_memory (Some (GuestEnd.Killed signal)) h = cc

end_of-no_words : (end : Option GuestEnd) (fault : WordFault) → end_of end ≡ Words fault → ⊥
end_of-no_words None fault h = cc
end_of-no_words (Some (GuestEnd.Exit code)) fault h = cc
end_of-no_words (Some (GuestEnd.Killed signal)) fault h = cc

-- an end of a run that is no failed call
pub unstopped : (result : RunEnd) → ((code : ℕ) × (result ≡ RunEnd.Exit code)) ⊎ (((signal : ℕ) × (result ≡ RunEnd.Killed signal)) ⊎ (result ≡ RunEnd.Budget))
    → (is_stopped result ≡ false) × (stopped_by result ≡ None)
unstopped result (inl is) = (ap is_stopped is.1, ap stopped_by is.1)
unstopped result (inr (inl is)) = (ap is_stopped is.1, ap stopped_by is.1)
unstopped result (inr (inr is)) = (ap is_stopped is, ap stopped_by is)

-- ---- the stores and the report
module _ (words : List (List ℕ)) (spoken : Command) (guest : Guest) where
  abbrev paths : List (List ℕ)
  paths = map (path_at words) spoken.outs.items

  abbrev files : List GuestFile
  files = guest.files.files

  others-rest : (p q : Option Held) → Becomes (KeepsRest paths) p q → Becomes (KeepsOtherFiles paths) p q
  others-rest p q h = record {
    tells = h.tells;
    related = λ held is. let after = h.related held is in (after.0, after.1, after.2.files);
  }

  -- the stores were made, and then the end was answered, or its report failed
  module _ (before mid after : Around) (result : Ended) (stored : StoresFiles words files spoken.outs.items before mid (Ok tt))
      (ends : Ends (report spoken.report guest.end guest.machine.steps) (end_of guest.end) (Some guest.machine) mid after result) where
    abbrev Is : Type 0
    Is = (result ≡ answer_of (end_of guest.end) (Some guest.machine)) ⊎ (result ≡ answer_of (Host PutErr) None)

    by_answer : Is → IsAnswer result
    by_answer (inl is) = rw is (record { status = refl; no_machine = λ lost. absurd (let own : is_own (end_of guest.end) ≡ true = end_of-own guest.end in cc) })
    by_answer (inr is) = rw is (record { status = refl; no_machine = λ lost. refl })

    by_words : Is → (fault : WordFault) → result.end ≡ Words fault → IsTooLong (Ok spoken) fault
    by_words (inl is) fault e = absurd (end_of-no_words guest.end fault (sym (ap (λ (r : Ended). r.end) is) ∙ e))
    by_words (inr is) fault e = absurd (let f : Host PutErr ≡ Words fault = sym (ap (λ (r : Ended). r.end) is) ∙ e in cc)

    by_refusal : Is → refusal_in result.end ≡ None
    by_refusal (inl is) = ap (λ (r : Ended). refusal_in r.end) is ∙ end_of-no_refusal guest.end
    by_refusal (inr is) = ap (λ (r : Ended). refusal_in r.end) is

    by_memory : Is → result.end ≡ Memory → ⊥
    by_memory (inl is) e = end_of-no_memory guest.end (sym (ap (λ (r : Ended). r.end) is) ∙ e)
    by_memory (inr is) e = let f : Host PutErr ≡ Memory = sym (ap (λ (r : Ended). r.end) is) ∙ e in cc

    -- the swap is as it was
    swap-kept : (held now : Held) → before.held ≡ Some held → after.held ≡ Some now → now.page ≡ held.page
    swap-kept held now was then =
        let stage = stored.held.related held was in
        let same : now ≡ stage.0 = let e : Some now ≡ Some stage.0 = sym then ∙ ends.keeps.held ∙ stage.1 in cc in
        ap (λ (h : Held). h.page) same ∙ stage.2.pages

    meets-finish : (ran : Ran) → HasRun guest ran → (held now : Held) → before.held ≡ Some held → after.held ≡ Some now
        → HasState held.page guest.machine ran.world.state → (on : Outside) → StandsAround before on
        → MeetsWork (on_run words spoken ran on) on now.page result (StandsAround after)
    meets-finish ran has held now was then state on stands =
        let left = stores words ran.world.files spoken.outs.items on in
        let standing : StandsAround mid left.outside = rw has.files at (stored.whole on stands) in
        let state_now : HasState now.page guest.machine ran.world.state = rw (swap-kept held now was then) state in
        let reported_is : ended (report spoken.report guest.end guest.machine.steps) (end_of guest.end) (Some ran.world.state) left.outside
        ≡ reported spoken.report ran left.outside = rw (has.end, has.steps) refl in
        meets-from now.page result (StandsAround after) left.pieces (reported spoken.report ran left.outside) on left.outside (by_memory ends.is)
        (subst (λ (w : Work). MeetsWork w left.outside now.page result (StandsAround after)) reported_is
        (ends.meets (end_of-own guest.end) now.page (Some ran.world.state) state_now left.outside standing))

    pub finishes-stored : Finishes words spoken guest before after result
    finishes-stored = record {
      meets = meets-finish;
      passes = record {
        answer = by_answer ends.is;
        held = others-then paths before.held mid.held after.held (others-rest before.held mid.held stored.held)
            (others-same paths mid.held after.held ends.keeps.held);
        streams = rw stored.streams at ends.keeps.streams;
        opened = λ none. ends.keeps.opened ∙ stored.opened;
        cause = subst (λ (t : Tally). IsCounted (command_calls spoken) (failed_call result.end) t after.tally) stored.cause
            (counted-among (PutErr ∷ []) (command_calls spoken) (failed_call result.end) mid.tally after.tally (makes-err spoken) (ends.cause (end_of-own guest.end)));
        too_long = by_words ends.is;
      };
      no_refusal = by_refusal ends.is;
      memory = by_memory ends.is;
    }

  -- a store failed
  pub finishes-failed : (before after : Around) (call : HostCall) → StoresFiles words files spoken.outs.items before after (Err call)
      → Finishes words spoken guest before after (answer_of (Host call) None)
  finishes-failed before after call stored = record {
    meets = λ ran has held now was then state on stands.
        let done = stores words ran.world.files spoken.outs.items on in
        let left : Leaves (StandsAround after) (FailsOn done.pieces call) = rw has.files at (stored.front on stands) in
        meets-failed now.page (StandsAround after) (on_run words spoken ran on) on 74 call (record {
          now = left.now;
          stands = left.stands;
          may = fails-front done.pieces (reported spoken.report ran done.outside).pieces call left.now left.may;
        });
    passes = passes-failed words spoken before after call (others-rest before.held after.held stored.held)
        (rw stored.streams (tell-none before.streams)) (λ none. stored.opened)
        (counted-among (map (λ place. Store place) spoken.outs.items) (command_calls spoken) (Some call) before.tally after.tally (makes-outs spoken) stored.cause);
    no_refusal = refl;
    memory = λ is. cc;
  }

-- ---- the run
-- a machine of a guest that stands for a world has its state
state-stands : (swap : Swap) (guest : Guest) (s : Streams) (world : World) → StandsFor swap guest s world → HasState swap guest.machine world.state
state-stands swap guest s world stands = ap (λ (w : World). w.state) stands.parts

files-stand : (swap : Swap) (guest : Guest) (s : Streams) (world : World) → StandsFor swap guest s world → guest.files.files ≡ world.files
files-stand swap guest s world stands = ap (λ (w : World). w.files) stands.parts

module _ (words : List (List ℕ)) (spoken : Command) (old new : Guest) (before mid after : Around) (goes : old.end ≡ None)
    (fresh : old.machine.steps ≡ 0) where
  abbrev all : ℕ
  all = spoken.budget - old.machine.steps

  all-is : all ≡ spoken.budget
  all-is = omega (arith, fresh)

  -- what a run came to, from the world that the guest stood for
  runs-to : (result : RunEnd) → Runs all old new before mid result → (first : World) (held now : Held) → before.held ≡ Some held → mid.held ≡ Some now
      → IsSome before.streams.left → StandsFor held.page old before.streams first
      → RunsTo (StandsFor now.page new mid.streams) (StandsAround mid) held.file first None spoken.budget new.end result
  runs-to result runs first held now was then told stands =
      let at = runs.follows.leads held now was then told first stands in
      subst (λ (n : ℕ). RunsTo (StandsFor now.page new mid.streams) (StandsAround mid) held.file first None n new.end result) all-is
      (subst (λ (e : Option GuestEnd). RunsTo (StandsFor now.page new mid.streams) (StandsAround mid) held.file first e all new.end result) goes at)

  way : (result : RunEnd) → stopped_by result ≡ None → Runs all old new before mid result → GoesOn words spoken before mid
  way result own runs = record {
    held = others-files (map (path_at words) spoken.outs.items) before.held mid.held runs.follows.keeps;
    streams = runs.course.streams;
    opened = λ none. runs.course.opened;
    tally = rw own at runs.course.cause;
  }

  -- a run that no call stopped, and what followed it
  module _ (result : RunEnd) (own : is_stopped result ≡ false) (unstopped : stopped_by result ≡ None) (runs : Runs all old new before mid result)
      (ended : Ended) (finishes : Finishes words spoken new mid after ended) where
    meets-ended : (first : World) (held now : Held) → before.held ≡ Some held → after.held ≡ Some now → IsSome before.streams.left
        → StandsFor held.page old before.streams first
        → MeetsWork (on_world words spoken held.file first) (outside held.file first) now.page ended (StandsAround after)
    meets-ended first held now was then told stands =
        let stage = runs.follows.keeps.related held was in
        let to = runs-to result runs first held stage.0 was stage.1 told stands in
        let ran : Ran = run first spoken.budget in
        let standing = to.whole own in
        let has : HasRun new ran = record {
          end = (to.end own).0;
          steps = ap (λ (s : State). s.steps) (state-stands stage.0.page new mid.streams ran.world standing);
          files = files-stand stage.0.page new mid.streams ran.world standing;
        } in
        let around : StandsAround mid (outside held.file ran.world) = record {
          files_are = subst (λ (h : Option Held). IfSome h (λ h. held.file ≡ h.file)) (sym stage.1) (sym stage.2);
          streams_are = standing.streams_are;
        } in
        meets-from now.page ended (StandsAround after) (run_trail held.file first spoken.budget) (on_run words spoken ran (outside held.file ran.world))
        (outside held.file first) (outside held.file ran.world) finishes.memory
        (finishes.meets ran has stage.0 now stage.1 then (state-stands stage.0.page new mid.streams ran.world standing) (outside held.file ran.world) around)

    pub runs-ended : RunsGuest words spoken old before after ended
    runs-ended = record {
      meets = meets-ended;
      passes = passes-then words spoken before mid after ended (way result unstopped runs) finishes.passes;
      no_refusal = finishes.no_refusal;
      memory = finishes.memory;
    }

  -- a run in which a call failed
  pub runs-failed : (call : HostCall) → Runs all old new before mid (RunEnd.Host call) → RunsGuest words spoken old before mid (answer_of (Host call) None)
  runs-failed call runs = record {
    meets = λ first held now was then told stands.
        let to = runs-to (RunEnd.Host call) runs first held now was then told stands in
        let left = to.failed call refl in
        let ran : Ran = run first spoken.budget in
        meets-failed now.page (StandsAround mid) (on_world words spoken held.file first) (outside held.file first) 74 call (record {
          now = left.now;
          stands = left.stands;
          may = fails-front (run_trail held.file first spoken.budget) (on_run words spoken ran (outside held.file ran.world)).pieces call left.now left.may;
        });
    passes = passes-failed words spoken before mid call (others-files (map (path_at words) spoken.outs.items) before.held mid.held runs.follows.keeps)
        runs.course.streams (λ none. runs.course.opened)
        (counted-among run_calls (command_calls spoken) (Some call) before.tally mid.tally (makes-run spoken) runs.course.cause);
    no_refusal = refl;
    memory = λ is. cc;
  }

-- What comes before the run of a program: its files, its start stack, the swap and the pages.
use Rattle.std.proofs.Common.{◌≡◌, ◌∙◌, ℕ, ◌++◌, List, [], ◌∷◌, Bool, true, false, Option, Some, None, IfSome, IsSome, is_some, refl, sym, ap, subst, arith, map, inl, inr, ◌⊎◌, ◌<◌}
use Rattle.std.specs.List.{Contains}
use Rattle.std.proofs.lemmas.List.Elements.{Contains-append_cases, Contains-append_left}
use Rattle.machine_state.specs.World.{World, GuestFile}
use Rattle.host_edge.specs.declared.outside.HostCall.{HostCall}
use Rattle.host_edge.specs.declared.outside.HostCall.TheVariants.{SwapOpen, Take, PutOut, PutErr}
use Rattle.host_edge.specs.Files.{Held, Becomes, KeepsFiles}
use Rattle.start_stack.specs.declared.kinds.TooLong.{TooLong}
use Rattle.command_words.specs.declared.kinds.Command.{Command}
use Rattle.program_load.specs.Load.{Program, first_world}
use Rattle.guest_run.specs.declared.guest.Guest.{Guest}
use Rattle.linux_calls.specs.Outside.{AreTold, Standing, Streams}
use Rattle.guest_run.specs.Step.{Ran, paging_calls}
use Rattle.guest_run.specs.Run.{run}
use Rattle.guest_run.specs.Outside.{Outside, outside, standing_on}
use Rattle.guest_run.specs.Trail.{Piece, FailsOn}
use Rattle.guest_run.specs.Guests.{Around, StandsFor}
use Rattle.guest_run.specs.Tally.{IsCounted}
use Rattle.guest_run.specs.declared.starting.PrepareFault.{PrepareFault}
use Rattle.guest_run.specs.Starting.{stack_fault, prepare_calls, PrepareRefuses}
use Rattle.xemu_top.specs.declared.ends.End.{End}
use Rattle.xemu_top.specs.declared.ends.End.TheVariants.{Host}
use Rattle.xemu_top.specs.declared.ends.Ended.{Ended}
use Rattle.xemu_top.specs.Files.{path_at}
use Rattle.xemu_top.specs.Command.{Work, command_calls, end_of, on_stack, on_world, opening, opening_calls, reported, starting, still, stores}
use Rattle.xemu_top.specs.Headline.{MeetsWork, refusal_in}
use Rattle.xemu_top.specs.Parts.{DoesWork, RunsGuest, StandsAround, answer_of}
use Rattle.xemu_top.proofs.WorkLemmas.{fails-back, fails-first, fails-front, makes-opening, makes-run, meets-behind, others-files, still-fails, tell-none}
use Rattle.xemu_top.proofs.PartLemmas.{GoesOn, IsStill, files-told, passes-failed, passes-then, works-failed}
use Rattle.xemu_top.proofs.RunLemmas.{end_of-no_refusal}
use Rattle.xemu_top.proofs.TrailLemmas.{first_world-outside}

-- a start stack that fits leads to an end of a run
reported-end : (wanted : Bool) (ran : Ran) (on : Outside) → (reported wanted ran on).outcome.end ≡ end_of ran.end
reported-end false ran on = refl
reported-end true ran on = refl

pub fit-no_refusal : (words : List (List ℕ)) (spoken : Command) (program : Program) (files : List GuestFile) (on : Outside)
    → refusal_in (on_stack words spoken program files None on).outcome.end ≡ None
fit-no_refusal words spoken program files on =
    let ran : Ran = run (first_world program spoken.pages spoken.cap files on.left on.out on.err) spoken.budget in
    ap (λ (e : End). refusal_in e) (reported-end spoken.report ran (stores words ran.world.files spoken.outs.items (outside on.files ran.world)).outside)
    ∙ end_of-no_refusal ran.end

-- a host whose files are as they were, beside the same streams and counts of which none rose
pub record Starts (before mid : Around) : Type 0 where
  pub held : Becomes KeepsFiles before.held mid.held
  pub streams : mid.streams ≡ before.streams

-- what stands then is what stood
pub starts-still : (before mid : Around) → Starts before mid → IsStill before mid
starts-still before mid h = record {
  stands = λ on stands. record {
    files_are = files-are before.held mid.held h.held on stands.files_are;
    streams_are = rw h.streams stands.streams_are;
  };
}
  where
    files-are : (a b : Option Held) → Becomes KeepsFiles a b → (on : Outside) → IfSome a (λ held. on.files ≡ held.file)
        → IfSome b (λ held. on.files ≡ held.file)
    files-are None None becomes on files = tt
    files-are None (Some held) becomes on files = absurd (let e : true ≡ false = becomes.tells in cc)
    files-are (Some held) b becomes on files =
        let after = becomes.related held refl in
        subst (λ (h : Option Held). IfSome h (λ held. on.files ≡ held.file)) (sym after.1) (files ∙ sym after.2)

module _ (words : List (List ℕ)) (spoken : Command) (before mid : Around) (starts : Starts before mid) where
  pub goes-on : (spoken.swap ≡ None → mid.opened ≡ before.opened) → mid.tally ≡ before.tally → GoesOn words spoken before mid
  goes-on opened tally = record {
    held = others-files (map (path_at words) spoken.outs.items) before.held mid.held starts.held;
    streams = rw starts.streams (tell-none before.streams);
    opened = opened;
    tally = tally;
  }

  -- a part from where the host stands then
  pub works-then : (work : Outside → Work) (after : Around) (ended : Ended) → GoesOn words spoken before mid
      → DoesWork words spoken work mid after ended → DoesWork words spoken work before after ended
  works-then work after ended way h = record {
    meets = λ held now was then told on stands.
        let stage = starts.held.related held was in
        h.meets stage.0 now stage.1 then (subst (λ (s : Streams). IsSome s.left) (sym starts.streams) told) on
        ((starts-still before mid starts).stands on stands);
    refuses = λ held was on files own.
        let stage = starts.held.related held was in
        h.refuses stage.0 stage.1 on (files ∙ sym stage.2) own;
    passes = passes-then words spoken before mid after ended way h.passes;
  }

  -- the run of a guest that stands for the first world of a program
  module _ (program : Program) (files : List GuestFile) (guest : Guest) (after : Around) (ended : Ended)
      (stands-first : (told : Held) → mid.held ≡ Some told → (s : Streams) (on : Standing) → AreTold s on
      → StandsFor told.page guest s (first_world program spoken.pages spoken.cap files on.left on.out on.err))
      (runs : RunsGuest words spoken guest mid after ended) where
    abbrev on_fit : Outside → Work
    on_fit on = on_stack words spoken program files None on

    pub works-run : GoesOn words spoken before mid → DoesWork words spoken on_fit before after ended
    works-run way = record {
      meets = λ held now was then told on stands.
          let stage = starts.held.related held was in
          let first : World = first_world program spoken.pages spoken.cap files on.left on.out on.err in
          let same : stage.0.file ≡ on.files = stage.2 ∙ sym (files-told before held on was stands) in
          let at = runs.meets first stage.0 now stage.1 then (subst (λ (s : Streams). IsSome s.left) (sym starts.streams) told)
          (stands-first stage.0 stage.1 mid.streams (standing_on on) ((starts-still before mid starts).stands on stands).streams_are) in
          let here : MeetsWork (on_world words spoken on.files first) (outside on.files first) now.page ended (StandsAround after)
          = subst (λ (f : List ℕ → Option (List ℕ)). MeetsWork (on_world words spoken f first) (outside f first) now.page ended (StandsAround after)) same at in
          meets-behind now.page ended (StandsAround after) (starting spoken on) (on_world words spoken on.files first) on
          (subst (λ (x : Outside). MeetsWork (on_world words spoken on.files first) x now.page ended (StandsAround after))
          (first_world-outside program spoken.pages spoken.cap files on) here);
      refuses = λ held was on files_are own.
          runs.no_refusal ∙ sym (fit-no_refusal words spoken program files on);
      passes = passes-then words spoken before mid after ended way runs.passes;
    }

  -- a call on the host failed before the first step
  module _ (program : Program) (files : List GuestFile) (T : Type 0) (path : Option T) (call : HostCall) (same : is_some path ≡ is_some spoken.swap)
      (made : Contains (prepare_calls path) call) where
    opens-or-pages : (swap : Option ℕ) → is_some path ≡ is_some swap → Contains (opening_calls swap) call ⊎ Contains paging_calls call
    opens-or-pages swap same = by_path path swap same made
      where
        by_path : (p : Option T) (s : Option ℕ) → is_some p ≡ is_some s → Contains (prepare_calls p) call
            → Contains (opening_calls s) call ⊎ Contains paging_calls call
        by_path None None e h = inr h
        by_path None (Some place) e h = absurd (let f : false ≡ true = e in cc)
        by_path (Some p) None e h = absurd (let f : true ≡ false = e in cc)
        by_path (Some p) (Some place) e h = Contains-append_cases (SwapOpen ∷ []) paging_calls call h

    pub made-here : Contains (command_calls spoken) call
    made-here = by_call (opens-or-pages spoken.swap same)
      where
        by_call : Contains (opening_calls spoken.swap) call ⊎ Contains paging_calls call → Contains (command_calls spoken) call
        by_call (inl h) = makes-opening spoken call h
        by_call (inr h) = makes-run spoken call (Contains-append_left paging_calls (Take ∷ PutOut ∷ PutErr ∷ []) call h)

    starting-fails : (on : Outside) → FailsOn (starting spoken on) call on
    starting-fails on = by_call (opens-or-pages spoken.swap same)
      where
        fill : List Piece
        fill = still paging_calls on ∷ []

        by_swap : (swap : Option ℕ) → Contains (opening_calls swap) call → FailsOn (opening swap on ++ fill) call on
        by_swap None h = absurd (let below : h.0 < 0 = h.1 in omega arith)
        by_swap (Some place) h = fails-first (still (SwapOpen ∷ []) on) fill call on (still-fails (SwapOpen ∷ []) on call h)

        by_call : Contains (opening_calls spoken.swap) call ⊎ Contains paging_calls call → FailsOn (starting spoken on) call on
        by_call (inl h) = by_swap spoken.swap h
        by_call (inr h) = fails-back (opening spoken.swap on) fill call on (fails-first (still paging_calls on) [] call on (still-fails paging_calls on call h))

    pub works-unstarted : (spoken.swap ≡ None → mid.opened ≡ before.opened) → IsCounted (prepare_calls path) (Some call) before.tally mid.tally
        → DoesWork words spoken (λ on. on_stack words spoken program files None on) before mid (answer_of (Host call) None)
    works-unstarted opened cause =
        works-failed words spoken (λ on. on_stack words spoken program files None on) before mid call (starts-still before mid starts)
        (λ held was on files_are. fails-front (starting spoken on) _ call on (starting-fails on))
        (passes-failed words spoken before mid call (others-files (map (path_at words) spoken.outs.items) before.held mid.held starts.held)
        (rw starts.streams (tell-none before.streams)) opened (made-here, cause.1, cause.2))

-- a start stack that fits, or one that is too long
pub works-stack : (words : List (List ℕ)) (spoken : Command) (program : Program) (files : List GuestFile) (fault : Option TooLong) (before after : Around)
    (ended : Ended) → stack_fault program ≡ fault → DoesWork words spoken (λ on. on_stack words spoken program files fault on) before after ended
    → DoesWork words spoken (λ on. on_stack words spoken program files (stack_fault program) on) before after ended
works-stack words spoken program files fault before after ended is h = rw is h

-- a swap that isn't given has no path
pub path-none : (T : Type 0) (path : Option T) (swap : Option ℕ) → is_some path ≡ is_some swap → swap ≡ None → path ≡ None
path-none T None swap same none = refl
path-none T (Some p) None same none = cc
path-none T (Some p) (Some place) same none = cc

-- a refusal of a start stack that is too long
pub refusal-is : (program : Program) (fault : PrepareFault) (long : TooLong) → fault ≡ PrepareFault.TooLong long → PrepareRefuses program fault
    → stack_fault program ≡ Some long
refusal-is program fault long is h = subst (λ (f : PrepareFault). PrepareRefuses program f) is h

-- a call on the host that failed comes where it fits
pub fits-where-host : (program : Program) (fault : PrepareFault) (call : HostCall) → fault ≡ PrepareFault.Host call → PrepareRefuses program fault
    → stack_fault program ≡ None
fits-where-host program fault call is h = subst (λ (f : PrepareFault). PrepareRefuses program f) is h

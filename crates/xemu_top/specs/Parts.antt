-- What the parts of the command do: each by some work of its own.
use Rattle.std.specs.Prelude.{◌≡◌, ◌⊎◌, ℕ, true, List, [], ◌∷◌, map, Option, Some, None, IsSome, IsTrue, Result, Ok, Err, OnOk, IfErr}
use Rattle.host_edge.specs.declared.outside.HostCall.{HostCall}
use Rattle.host_edge.specs.declared.outside.HostCall.TheVariants.{Store, PutErr}
use Rattle.host_edge.specs.Causes.{Counts}
use Rattle.host_edge.specs.Files.{Held, Becomes}
use Rattle.machine_state.specs.Memory.{Swap}
use Rattle.machine_state.specs.State.{State}
use Rattle.machine_state.specs.World.{World, GuestFile}
use Rattle.core_step.specs.declared.machine.Machine.{Machine}
use Rattle.linux_calls.specs.Following.{StillTell}
use Rattle.command_words.specs.declared.kinds.Command.{Command}
use Rattle.command_words.specs.declared.kinds.WordFault.{WordFault}
use Rattle.guest_run.specs.declared.guest.Guest.{Guest}
use Rattle.guest_run.specs.Step.{Ran}
use Rattle.guest_run.specs.Outside.{Outside, IsOutside, Leaves, outside}
use Rattle.guest_run.specs.Trail.{FailsIn, FailsOn}
use Rattle.guest_run.specs.Guests.{Around, StandsFor}
use Rattle.guest_run.specs.Tally.{IsCounted}
use Rattle.xemu_top.specs.declared.ends.End.{End}
use Rattle.xemu_top.specs.declared.ends.End.TheVariants.{Words, Host, Memory}
use Rattle.xemu_top.specs.declared.ends.Ended.{Ended}
use Rattle.xemu_top.specs.Files.{path_at}
use Rattle.xemu_top.specs.Command.{Work, Stores, ended, said, line_piece, store_piece, with_store, stores, on_run, on_world, command_calls, status_of}
use Rattle.xemu_top.specs.Headline.{MeetsWork, IsAnswer, IsLeft, HasState, RefusesAs, IsTooLong, KeepsOtherFiles, failed_call, is_own, refusal_in}

-- ---- what stands around a part
-- the same with another host, and with another error output
abbrev pub with_host : Around → Option Held → (opened : ℕ) → Counts → Around
with_host a held opened counts = record a { held = held; opened = opened; tally = record a.tally { host = counts } }

abbrev pub with_err : Around → Option (List ℕ) → (faults : ℕ) → Around
with_err a err faults = record a { streams = record a.streams { err = err }; tally = record a.tally { err = faults } }

-- this stands on the outside, as far as it is told
abbrev pub StandsAround : Around → Outside → Type 0
StandsAround a = IsOutside a.held a.streams

-- ---- lines
-- the call that failed in a put or in stores, if one did
abbrev pub failed_in : Result (Unit {0}) HostCall → Option HostCall
failed_in (Ok done) = None
failed_in (Err call) = Some call

-- the host is as it was, and the streams tell what they told
pub record KeepsHost (before after : Around) : Type 0 where
  pub held : after.held ≡ before.held
  pub opened : after.opened ≡ before.opened
  pub streams : StillTell before.streams after.streams

-- a line is put on the error output: it stands there, or the put failed, and a front of it does
pub record Says (line : List ℕ) (before after : Around) (result : Result (Unit {0}) HostCall) : Type 0 where
  pub whole : OnOk result ((on : Outside) → StandsAround before on → StandsAround after (said line on))
  pub front : IfErr result (λ call. (on : Outside) → StandsAround before on → Leaves (StandsAround after) (FailsIn (line_piece line on) call))
  pub keeps : KeepsHost before after
  pub cause : IsCounted (PutErr ∷ []) (failed_in result) before.tally after.tally
  pub call : IfErr result (λ call. call ≡ PutErr)

-- the answer with an end and a machine
abbrev pub answer_of : End → Option Machine → Ended
answer_of end machine = record { status = status_of end; end = end; machine = machine }

-- a command ends so, behind a line that says it, where there is one, unless the put of that fails
pub record Ends (line : Option (List ℕ)) (end : End) (machine : Option Machine) (before after : Around) (result : Ended) : Type 0 where
  pub meets : IsTrue (is_own end) → (swap : Swap) (state : Option State) → IsLeft swap machine state → (on : Outside) → StandsAround before on
      → MeetsWork (ended line end state on) on swap result (StandsAround after)
  pub silent : line ≡ None → (result ≡ answer_of end machine) × (after ≡ before)
  pub is : (result ≡ answer_of end machine) ⊎ (result ≡ answer_of (Host PutErr) None)
  pub keeps : KeepsHost before after
  pub cause : IsTrue (is_own end) → IsCounted (PutErr ∷ []) (failed_call result.end) before.tally after.tally

-- ---- stores
-- no file is another than it was but those at these paths, and no page of the swap
pub record KeepsRest (paths : List (List ℕ)) (old new : Held) : Type 0 where
  pub files : KeepsOtherFiles paths old new
  pub pages : new.page ≡ old.page

-- a file is stored under a path, which the word at a place names, if the file exists; or the store failed
pub record StoresFile (place : ℕ) (path : List ℕ) (file : GuestFile) (before after : Around) (result : Result (Unit {0}) HostCall) : Type 0 where
  pub whole : OnOk result ((done : Stores) → StandsAround before done.outside → StandsAround after (with_store place path file done).outside)
  pub front : IfErr result (λ call. (file.exists ≡ true) × ((on : Outside) → StandsAround before on
      → Leaves (StandsAround after) (FailsIn (store_piece place path file.content on) call)))
  pub held : Becomes (KeepsRest (path ∷ [])) before.held after.held
  pub opened : after.opened ≡ before.opened
  pub streams : after.streams ≡ before.streams
  pub cause : IsCounted (Store place ∷ []) (failed_in result) before.tally after.tally

-- the files of the pairs of `--out` at some places are stored, or a store failed
pub record StoresFiles (words : List (List ℕ)) (files : List GuestFile) (places : List ℕ) (before after : Around) (result : Result (Unit {0}) HostCall) : Type 0 where
  pub whole : OnOk result ((on : Outside) → StandsAround before on → StandsAround after (stores words files places on).outside)
  pub front : IfErr result (λ call. (on : Outside) → StandsAround before on
      → Leaves (StandsAround after) (FailsOn (stores words files places on).pieces call))
  pub held : Becomes (KeepsRest (map (path_at words) places)) before.held after.held
  pub opened : after.opened ≡ before.opened
  pub streams : after.streams ≡ before.streams
  pub cause : IsCounted (map (λ place. Store place) places) (failed_in result) before.tally after.tally

-- ---- parts
-- what holds of a part whatever the outside tells: what is told still is, no file of another path than the command stores is changed, a
-- swap is opened only where the command wants one, and no count rose but that of the call that failed, which is one of the command's
pub record Passes (words : List (List ℕ)) (command : Command) (before after : Around) (ended : Ended) : Type 0 where
  pub answer : IsAnswer ended
  pub held : Becomes (KeepsOtherFiles (map (path_at words) command.outs.items)) before.held after.held
  pub streams : StillTell before.streams after.streams
  pub opened : command.swap ≡ None → after.opened ≡ before.opened
  pub cause : IsCounted (command_calls command) (failed_call ended.end) before.tally after.tally
  pub too_long : (fault : WordFault) → ended.end ≡ Words fault → IsTooLong (Ok command) fault

-- a part does its work from whatever stands on the outside, as far as a host and streams tell it
abbrev pub MeetsAround : (Outside → Work) → Around → Around → Ended → Type 0
MeetsAround work before after ended =
    (held now : Held) → before.held ≡ Some held → after.held ≡ Some now → IsSome before.streams.left → (on : Outside) → StandsAround before on
    → MeetsWork (work on) on now.page ended (StandsAround after)

-- and refuses as that does, whatever the streams tell
abbrev pub RefusesAround : (Outside → Work) → Around → Ended → Type 0
RefusesAround work before ended =
    (held : Held) → before.held ≡ Some held → (on : Outside) → on.files ≡ held.file → RefusesAs (work on) ended.end

-- a part of a command before the first step
pub record DoesWork (words : List (List ℕ)) (command : Command) (work : Outside → Work) (before after : Around) (ended : Ended) : Type 0 where
  pub meets : MeetsAround work before after ended
  pub refuses : RefusesAround work before ended
  pub passes : Passes words command before after ended

-- ---- the run
-- a guest has ended so, or hasn't, after some steps, with some files
pub record HasRun (guest : Guest) (ran : Ran) : Type 0 where
  pub end : guest.end ≡ ran.end
  pub steps : guest.machine.steps ≡ ran.world.state.steps
  pub files : guest.files.files ≡ ran.world.files

-- the last part: the stores and the report of a guest that has run
pub record Finishes (words : List (List ℕ)) (command : Command) (guest : Guest) (before after : Around) (ended : Ended) : Type 0 where
  pub meets : (ran : Ran) → HasRun guest ran → (held now : Held) → before.held ≡ Some held → after.held ≡ Some now
      → HasState held.page guest.machine ran.world.state → (on : Outside) → StandsAround before on
      → MeetsWork (on_run words command ran on) on now.page ended (StandsAround after)
  pub passes : Passes words command before after ended
  pub no_refusal : refusal_in ended.end ≡ None
  pub memory : ended.end ≡ Memory → ⊥

-- the run of a guest with the last part
pub record RunsGuest (words : List (List ℕ)) (command : Command) (guest : Guest) (before after : Around) (ended : Ended) : Type 0 where
  pub meets : (first : World) → (held now : Held) → before.held ≡ Some held → after.held ≡ Some now → IsSome before.streams.left
      → StandsFor held.page guest before.streams first
      → MeetsWork (on_world words command held.file first) (outside held.file first) now.page ended (StandsAround after)
  pub passes : Passes words command before after ended
  pub no_refusal : refusal_in ended.end ≡ None
  pub memory : ended.end ≡ Memory → ⊥

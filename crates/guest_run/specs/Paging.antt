-- A page that is brought for a guest, and a system call of a guest as far as it goes.
use Rattle.std.specs.Prelude.{◌≡◌, ℕ, ◌+◌, ◌≤◌, Option, Result, OnOk, OnErr, IfOk}
use Rattle.host_edge.specs.declared.outside.HostCall.{HostCall}
use Rattle.host_edge.specs.Causes.{Counts, raised}
use Rattle.host_edge.specs.Files.{Held, Becomes, KeepsFiles}
use Rattle.swap_pager.specs.Bringing.{IsBrought, KeepsMemory}
use Rattle.swap_pager.specs.Paging.{CanPage}
use Rattle.linux_calls.specs.declared.kinds.CallEnd.{CallEnd}
use Rattle.machine_state.specs.World.{World}
use Rattle.linux_calls.specs.Outside.{Streams, Grown, standing_in}
use Rattle.linux_calls.specs.Rest.{ProgressValue, rest_of}
use Rattle.linux_calls.specs.View.{KeepsPages}
use Rattle.linux_calls.specs.Following.{Faults, FollowsAt, IsCaused, StillTell, failed_by}
use Rattle.linux_calls.specs.Units.{KeepsSwap, WaitsAt}
use Rattle.linux_calls.specs.Waiting.{NeedsAt}
use Rattle.guest_run.specs.declared.guest.Guest.{Guest}
use Rattle.guest_run.specs.declared.running.Tried.{Tried}
use Rattle.guest_run.specs.declared.running.Tried.TheVariants.{Again}
use Rattle.guest_run.specs.Guests.{view_in}
use Rattle.guest_run.specs.Units.{UnitWaits, ready}
use Rattle.guest_run.specs.Step.{paging_calls}
use Rattle.guest_run.specs.Following.{failed_in}
use Rattle.guest_run.specs.Tally.{IsCounted, tally}

-- the page in a slot is brought, and all but the pages and their pager stays; or a call on the swap failed
pub record Brings (old new : Guest) (slot : ℕ) (held held' : Option Held) (opened opened' : ℕ) (counts counts' : Counts) (result : Result Tried HostCall) : Type 0 where
  pub again : IfOk result (λ tried. tried ≡ Again)
  pub keeps : new ≡ record old { machine = record old.machine { pages = new.machine.pages }; pager = new.pager }
  pub brought : OnOk result (IsBrought old.machine.pages new.machine.pages slot)
  pub memory : OnOk result (Becomes (KeepsMemory old.machine.pages new.machine.pages) held held')
  pub pages : OnOk result (CanPage new.machine.pages held' opened')
  pub ready : OnOk result (UnitWaits old slot → (ready old ≤ 3) × (ready new ≡ ready old + 1))
  pub loads : OnOk result (new.pager.loads ≡ raised old.pager.loads)
  pub still : OnErr result (new.pager.loads ≡ old.pager.loads)
  pub files : Becomes KeepsFiles held held'
  pub opened_is : opened' ≡ opened
  pub cause : (take out err : ℕ) → IsCounted paging_calls (failed_in result) (tally counts take out err) (tally counts' take out err)

-- a guest's system call went on, and what a call doesn't see stays
pub record Answers (old new : Guest) (s s' : Streams) (f f' : Faults) (end : CallEnd) : Type 0 where
  pub keeps : new ≡ record old {
    machine = record old.machine { gprs = new.machine.gprs; fs = new.machine.fs; gs = new.machine.gs; pages = new.machine.pages };
    regions = new.regions;
    files = new.files;
    random = new.random;
    progress = new.progress;
  }
  pub pages : KeepsPages (view_in old) (view_in new)
  pub follows : FollowsAt (view_in old) (view_in new) s s' end
  pub tells : StillTell s s'
  pub needs : NeedsAt (view_in new) end
  pub cause : IsCaused (failed_by end) f f'
  pub waits : WaitsAt (view_in old) (view_in new) end
  pub swap : KeepsSwap old.machine.pages new.machine.pages

-- what is left of a call only puts more to the outputs, and takes input only from the front
abbrev pub Grows : Type 0
Grows = (progress : ProgressValue) (w : World) → Grown (standing_in w) (standing_in (rest_of progress w).world)

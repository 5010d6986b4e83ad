-- A guest, what stands around it, and the world that they stand for.
use Rattle.std.specs.Prelude.{◌≡◌, ℕ, ◌≤◌, List, Option}
use Rattle.machine_state.specs.Memory.{Swap}
use Rattle.machine_state.specs.World.{World}
use Rattle.host_edge.specs.Causes.{Counts}
use Rattle.host_edge.specs.Files.{Held}
use Rattle.swap_pager.specs.Paging.{CanPage}
use Rattle.form_scan.specs.Shaped.{most_bytes}
use Rattle.x_decode.specs.Seeing.{IsDecoded}
use Rattle.linux_calls.specs.declared.kinds.Stage.TheVariants.{Start}
use Rattle.linux_calls.specs.Outside.{Streams, AreTold, standing_in, streams}
use Rattle.linux_calls.specs.View.{View, FitParts, with_parts}
use Rattle.linux_calls.specs.Waiting.{CanGoOn}
use Rattle.guest_run.specs.declared.guest.Guest.{Guest}
use Rattle.guest_run.specs.declared.guest.Phase.{Phase}
use Rattle.guest_run.specs.declared.guest.Phase.TheVariants.{Fetch, Perform, Answer}
use Rattle.guest_run.specs.Tally.{Tally, tally}

-- ---- what stands around a guest: what its host, its source and its two sinks tell, and how often their calls have failed
pub record Around : Type 0 where
  pub held : Option Held
  pub opened : ℕ
  pub streams : Streams
  pub tally : Tally

abbrev pub around : (held : Option Held) → (opened : ℕ) → Counts → (left : Option (List ℕ)) → (take : ℕ) → (out : Option (List ℕ)) → (puts : ℕ)
    → (err : Option (List ℕ)) → (err_puts : ℕ) → Around
around held opened counts left take out puts err err_puts = record {
  held = held;
  opened = opened;
  streams = streams left out err;
  tally = tally counts take puts err_puts;
}

-- ---- the world that a guest stands for
-- what a system call sees of a guest
abbrev pub view_in : Guest → View
view_in g = record {
  gprs = g.machine.gprs;
  fs = g.machine.fs;
  gs = g.machine.gs;
  pages = g.machine.pages;
  regions = g.regions;
  files = g.files;
  random = g.random;
  progress = g.progress;
  steps = g.machine.steps;
}

-- a world with the parts of a guest in their places, where the swap holds this
abbrev pub with_guest : Swap → Guest → World → World
with_guest swap g w =
    with_parts swap (view_in g)
    (record w { state = record w.state { flags = g.machine.flags; rip = g.machine.rip; extended = g.machine.vec } })

-- a guest and three streams stand for a world: with what they hold in its place it is the same
pub record StandsFor (swap : Swap) (g : Guest) (s : Streams) (world : World) : Type 0 where
  pub parts : with_guest swap g world ≡ world
  pub streams_are : AreTold s (standing_in world)

-- ---- a guest as it can be
-- where a step stands: an instruction that is performed was decoded, and a call that is answered can go on
abbrev pub PhaseFits : Guest → Phase → Type 0
PhaseFits g Fetch = g.progress.stage ≡ Start
PhaseFits g (Perform d len) = (g.progress.stage ≡ Start) × IsDecoded d.fields d × (1 ≤ len) × (len ≤ most_bytes)
PhaseFits g Answer = CanGoOn (view_in g)

-- a guest within a step
pub record IsWithin (g : Guest) (a : Around) : Type 0 where
  pub phase : PhaseFits g g.phase
  pub fit : FitParts (view_in g)
  pub pages : CanPage g.machine.pages a.held a.opened

-- a guest between two steps
pub record IsBetween (g : Guest) (a : Around) : Type 0 where
  pub phase : g.phase ≡ Fetch
  pub begins : g.progress.stage ≡ Start
  pub fit : FitParts (view_in g)
  pub pages : CanPage g.machine.pages a.held a.opened

-- What a call sees of a guest, and the worlds that it stands for.
use Rattle.std.specs.Prelude.{ℕ, ◌≡◌, List, length}
use Rattle.machine_state.specs.Memory.{Swap}
use Rattle.machine_state.specs.World.{World as Whole}
use Rattle.guest_files.specs.Files.{FilesValue}
use Rattle.guest_pages.specs.Pages.{PagesValue, memory_of}
use Rattle.guest_pages.specs.Changes.{KeepsSize}
use Rattle.region_map.specs.Calls.{RegionsValue, FitPages}
use Rattle.linux_calls.specs.Rest.{ProgressValue}
use Rattle.linux_calls.specs.Outside.{Streams, AreTold, standing_in}
use Rattle.linux_calls.specs.declared.world.World.{World}

-- the parts of a guest that a call sees
pub record View : Type 0 where
  pub gprs : List ℕ
  pub fs : ℕ
  pub gs : ℕ
  pub pages : PagesValue
  pub regions : RegionsValue
  pub files : FilesValue
  pub random : ℕ
  pub progress : ProgressValue
  pub steps : ℕ

abbrev pub view_of : World → View
view_of w = record {
  gprs = w.gprs.now;
  fs = w.fs.now;
  gs = w.gs.now;
  pages = w.pages.now;
  regions = w.regions.now;
  files = w.files.now;
  random = w.random.now;
  progress = w.progress.now;
  steps = w.steps;
}

-- the references are those that were passed, so that what they leave is what the caller's own parts become
pub record SameParts (old new : World) : Type 0 where
  pub gprs : new.gprs.ghost_name ≡ old.gprs.ghost_name
  pub fs : new.fs.ghost_name ≡ old.fs.ghost_name
  pub gs : new.gs.ghost_name ≡ old.gs.ghost_name
  pub pages : new.pages.ghost_name ≡ old.pages.ghost_name
  pub regions : new.regions.ghost_name ≡ old.regions.ghost_name
  pub files : new.files.ghost_name ≡ old.files.ghost_name
  pub random : new.random.ghost_name ≡ old.random.ghost_name
  pub progress : new.progress.ghost_name ≡ old.progress.ghost_name
  pub steps : new.steps ≡ old.steps

-- a world with these parts in their places, where the swap holds this
abbrev pub with_parts : Swap → View → Whole → Whole
with_parts swap v w = record w {
  state = record w.state { gprs = v.gprs; fs = v.fs; gs = v.gs; steps = v.steps; memory = memory_of v.pages swap };
  pages = length v.pages.slots;
  cap = v.files.cap;
  regions = v.regions.regions;
  heap_start = v.regions.heap;
  break_at = v.regions.at;
  descriptors = v.files.places;
  files = v.files.files;
  random = v.random;
}

-- parts and streams stand for a world: with them in their places it is the same
pub record StandsFor (swap : Swap) (v : View) (s : Streams) (w : Whole) : Type 0 where
  pub parts : with_parts swap v w ≡ w
  pub streams_are : AreTold s (standing_in w)

-- ---- pages
-- the pages fit the regions
abbrev pub FitParts : View → Type 0
FitParts v = FitPages v.pages v.regions.regions

-- a call leaves pages that fit the regions, and as many frames and slots as there were
pub record KeepsPages (old new : View) : Type 0 where
  pub fit : FitParts new
  pub size : KeepsSize old.pages new.pages

-- The parts of bringing a page. No public clause cites this module.
use Rattle.std.specs.Prelude.{ℕ, ◌≡◌, ◌<◌, ◌≤◌, ◌-◌, false, true, List, length, take, slice_index, Option, Some}
use Rattle.machine_state.specs.Memory.{page_size}
use Rattle.host_edge.specs.Files.{Held}
use Rattle.guest_pages.specs.Table.{Mapped}
use Rattle.guest_pages.specs.Pages.{PagesValue, table_of, mark_of, is_swapped}
use Rattle.guest_pages.specs.Changes.{IsLeft, away_byte, is_unsaved}
use Rattle.guest_pages.specs.Order.{IsSlotOf}
use Rattle.swap_pager.specs.Bringing.{FirstPage, IsSaved}

-- the page in a slot was written since it was put or mapped
pub record IsUnsaved (pages : PagesValue) (slot : ℕ) : Type 0 where
  pub page : ℕ
  pub mapped : Mapped
  pub there : IsSlotOf pages slot page mapped
  pub unsaved : is_unsaved (mark_of pages page) ≡ true

-- a frame is free: the pages are as they were where one was, and else the page brought first gave its frame up; pages that were
-- away are where they were
pub record HasRoom (old new : PagesValue) (held after : Option Held) : Type 0 where
  pub free : length old.recent < old.frames → (new ≡ old) × (after ≡ held)
  pub gone : old.frames ≤ length old.recent
      → (first : FirstPage old) × IsLeft old new first.page first.mapped
      × IsSaved (is_unsaved (mark_of old first.page)) old first.slot first.page held after
  pub recent : new.recent ≡ take (old.frames - 1) old.recent
  pub room : length new.recent < new.frames
  pub away : (page : ℕ) (mapped : Mapped) → table_of old page ≡ Some mapped → mapped.resident ≡ false
      → (table_of new page ≡ Some mapped) × (is_swapped new page ≡ is_swapped old page)

-- these are the bytes of a page that is away, in a slot
pub record AreAwayBytes (pages : PagesValue) (slot : ℕ) (held : Held) (bytes : List ℕ) : Type 0 where
  pub bytes_are : (page : ℕ) (mapped : Mapped) → IsSlotOf pages slot page mapped → (at : ℕ) → at < page_size
      → slice_index bytes at ≡ away_byte (is_swapped pages page) (held.page slot) at

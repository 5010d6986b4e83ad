-- What a contract sees of the regions, and what the calls refuse.
use Rattle.std.specs.Prelude.{ℕ, ◌≡◌, ◌≤◌, ◌<◌, ◌+◌, ◌-◌, ◌*◌, ◌/◌, ◌%◌, ◌⊎◌, ◌||◌, Bool, true, false, not, nat_le, is_some, List, length, Option, Some, None}
use Rattle.machine_state.specs.Memory.{page_size}
use Rattle.machine_state.specs.Regions.{nature_at, page_sum, most_regions, AreRegions, FitRegions}
use Rattle.machine_state.specs.declared.kinds.Region.{Region}
use Rattle.machine_state.specs.declared.permissions.Perms.{Perms}
use Rattle.guest_pages.specs.Table.{perms_in}
use Rattle.guest_pages.specs.Pages.{PagesValue, table_of, mapped_count}
use Rattle.region_map.specs.declared.kinds.Change.{Change}
use Rattle.region_map.specs.declared.kinds.Change.TheVariants.{Map, Unmap, Protect}
use Rattle.region_map.specs.declared.kinds.ProtectFault.{ProtectFault}
use Rattle.region_map.specs.declared.kinds.ProtectFault.TheVariants.{Hole, Full as FullOfParts}
use Rattle.region_map.specs.declared.kinds.BreakFault.{BreakFault}
use Rattle.region_map.specs.declared.kinds.BreakFault.TheVariants.{Below, Taken, Full as FullOfHeap}
use Rattle.region_map.specs.Ranges.{is_in, changed_regions, IsAfter}
use Rattle.region_map.specs.Changes.{AreChanged}

-- the regions in ascending order, the heap's start and the break
pub record RegionsValue : Type 0 where
  pub regions : List Region
  pub heap : ℕ
  pub at : ℕ

-- regions and a heap as they can be: the heap starts at a page, and the break isn't below that
pub record AreKept (regions : List Region) (heap at : ℕ) : Type 0 where
  pub listed : AreRegions regions
  pub page : heap % page_size ≡ 0
  pub above : heap ≤ at

-- the regions are those of the mapped pages
pub record FitPages (pages : PagesValue) (regions : List Region) : Type 0 where
  pub perms : FitRegions (perms_in (table_of pages)) regions
  pub count : mapped_count pages ≡ page_sum regions

-- the first page that a guest may choose, and the one behind the last (mmap_min_addr and TASK_SIZE_MAX of x86-64 Linux)
abbrev pub lowest_page : ℕ
lowest_page = 0x10000 / page_size

abbrev pub highest_end : ℕ
highest_end = 0x7FFFFFFFF000 / page_size

-- regions are more than there may be, or have more pages than may be mapped
abbrev pub PassLimits : PagesValue → List Region → Type 0
PassLimits pages regions = (most_regions < length regions) ⊎ (length pages.slots < page_sum regions)

abbrev pub is_mapped : List Region → ℕ → Bool
is_mapped regions page = is_some (nature_at regions page)

-- no page of a range passes a test
abbrev pub NoneIn : (ℕ → Bool) → (from to : ℕ) → Type 0
NoneIn test from to = (page : ℕ) → from ≤ page → page < to → test page ≡ false

-- the first page of a range that passes a test
pub record IsFirst (test : ℕ → Bool) (from to page : ℕ) : Type 0 where
  pub above : from ≤ page
  pub below : page < to
  pub passes : test page ≡ true
  pub before : NoneIn test from page

-- a range and the pages in it before and after a change
pub record IsChange (change : Change) (from to : ℕ) (old new : List Region) (before after : PagesValue) : Type 0 where
  pub regions : IsAfter change from to old new
  pub pages : AreChanged change (is_in from to) before after

-- what a change of permissions is refused for (mprotect of Linux): the first page of the range that isn't mapped, or else the
-- limits
abbrev pub IsProtectFault : List Region → PagesValue → Perms → (from to : ℕ) → ProtectFault → Type 0
IsProtectFault regions pages perms from to (Hole addr) = (page : ℕ) × (addr ≡ page * page_size) × IsFirst (λ p. not (is_mapped regions p)) from to page
IsProtectFault regions pages perms from to FullOfParts =
    NoneIn (λ p. not (is_mapped regions p)) from to × PassLimits pages (changed_regions (Protect perms) from to regions)

-- the first page at an address or above it
abbrev pub pages_up : ℕ → ℕ
pages_up addr = (addr + (page_size - 1)) / page_size

-- a page that the heap can't grow over: it is mapped, or lies too high
abbrev pub is_taken : List Region → ℕ → Bool
is_taken regions page = is_mapped regions page || nat_le highest_end page

-- pages that the heap grows by are readable and writable, and of no file (brk of Linux)
abbrev pub heap_pages : Change
heap_pages = Map (record { 0 = 3 }) false

-- a move of the heap's end from one page to another is refused by the limits
abbrev pub HeapPasses : PagesValue → (old new : ℕ) → List Region → Type 0
HeapPasses pages old new regions =
    ((old < new) × PassLimits pages (changed_regions heap_pages old new regions)) ⊎ ((new < old) × PassLimits pages (changed_regions Unmap new old regions))

-- the heap's end has moved from one page to another: up to a higher one the pages between are mapped, and from a higher one down
-- they are unmapped
pub record IsResized (old_end new_end : ℕ) (old new : List Region) (before after : PagesValue) : Type 0 where
  pub up : old_end < new_end → IsChange heap_pages old_end new_end old new before after
  pub down : new_end < old_end → IsChange Unmap new_end old_end old new before after
  pub level : new_end ≡ old_end → (new ≡ old) × (after ≡ before)

-- what a move of the break is refused for (brk of Linux): it would lie below the heap's start; else the first page that it would
-- grow over and can't; else the limits
abbrev pub IsBreakFault : RegionsValue → PagesValue → ℕ → BreakFault → Type 0
IsBreakFault value pages to Below = to < value.heap
IsBreakFault value pages to (Taken addr) =
    (value.heap ≤ to) × ((page : ℕ) × (addr ≡ page * page_size) × IsFirst (is_taken value.regions) (pages_up value.at) (pages_up to) page)
IsBreakFault value pages to FullOfHeap =
    (value.heap ≤ to) × NoneIn (is_taken value.regions) (pages_up value.at) (pages_up to) × HeapPasses pages (pages_up value.at) (pages_up to) value.regions

-- so many pages from an address on are free: they lie among those that a guest may choose, end at an address or below it, and
-- none of them is mapped
pub record IsFreeBelow (regions : List Region) (top count addr : ℕ) : Type 0 where
  pub page : ℕ
  pub addr_is : addr ≡ page * page_size
  pub low : lowest_page ≤ page
  pub high : page + count ≤ highest_end
  pub ends : addr + count * page_size ≤ top
  pub free : NoneIn (is_mapped regions) page (page + count)

-- the highest of the places that pass a test, if there is one
abbrev pub IsHighest : (ℕ → Type 0) → Option ℕ → Type 0
IsHighest Place None = (place : ℕ) → Place place → ⊥
IsHighest Place (Some highest) = Place highest × ((place : ℕ) → Place place → place ≤ highest)

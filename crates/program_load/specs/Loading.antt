-- Pages and regions while a program is loaded. No public clause cites this module.
use Rattle.std.specs.Prelude.{ℕ, ◌≡◌, ◌≤◌, ◌+◌, ◌-◌, ◌/◌, List, length, Option, if◌then◌else◌, slice_index}
use Rattle.machine_state.specs.Memory.{page_size}
use Rattle.machine_state.specs.Regions.{page_sum, most_regions}
use Rattle.machine_state.specs.declared.kinds.Region.{Region}
use Rattle.host_edge.specs.Files.{Held, Becomes, KeepsFiles}
use Rattle.guest_pages.specs.Table.{perms_in}
use Rattle.guest_pages.specs.Pages.{PagesValue, table_of, byte_of, mapped_count}
use Rattle.guest_pages.specs.Changes.{KeepsSize}
use Rattle.region_map.specs.Ranges.{is_in}
use Rattle.region_map.specs.Calls.{FitPages, RegionsValue}
use Rattle.swap_pager.specs.Paging.{CanPage}
use Rattle.elf_image.specs.declared.kinds.Segment.{Segment}
use Rattle.elf_image.specs.Segments.{first_page, end_page}
use Rattle.program_load.specs.Load.{has_byte}

-- pages that fit the regions, and can be brought with a host
pub record AreReady (pages : PagesValue) (regions : List Region) (held : Option Held) (opened : ℕ) : Type 0 where
  pub fit : FitPages pages regions
  pub can : CanPage pages held opened

-- there is room for so many pages more, in regions of their own
pub record HaveRoom (pages : PagesValue) (regions : List Region) (count : ℕ) : Type 0 where
  pub few : length regions + 2 ≤ most_regions
  pub room : page_sum regions + count ≤ length pages.slots

-- the same pages are mapped, with the same permissions
pub record KeepsPerms (old new : PagesValue) : Type 0 where
  pub size : KeepsSize old new
  pub perms : perms_in (table_of new) ≡ perms_in (table_of old)
  pub count : mapped_count new ≡ mapped_count old

-- the bytes that pages and a swap stand for are those from before, changed in this way
pub record HaveBytes (change : (ℕ → ℕ) → ℕ → ℕ) (old new : PagesValue) (held after : Held) : Type 0 where
  pub byte : byte_of new after.page ≡ change (byte_of old held.page)

-- what a host keeps where pages are brought: its files, and the number of its swap's pages
pub record KeepsHost (held after : Option Held) (opened now : ℕ) : Type 0 where
  pub files : Becomes KeepsFiles held after
  pub opened_is : now ≡ opened

-- the bytes of memory once the pages of a range are mapped as zeros
abbrev pub with_zeros : (from to : ℕ) → (ℕ → ℕ) → ℕ → ℕ
with_zeros from to byte addr = if is_in from to (addr / page_size) then 0 else byte addr

-- the bytes of memory once a segment is loaded: on its pages they are the file's, or 0
abbrev pub with_bytes : List ℕ → Segment → (ℕ → ℕ) → ℕ → ℕ
with_bytes bytes segment byte addr =
    if has_byte segment addr then slice_index bytes (segment.file_at + (addr - segment.addr))
    else with_zeros (first_page segment) (end_page segment) byte addr

-- an empty heap starts at an address
pub record HasHeap (regions : RegionsValue) (start : ℕ) : Type 0 where
  pub heap : regions.heap ≡ start
  pub at : regions.at ≡ start

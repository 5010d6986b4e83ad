-- What holds of pages at any time.
use Rattle.std.specs.Prelude.{ℕ, ◌≡◌, ◌<◌, ◌≤◌, ◌/◌, ◌^◌, ◌==◌, List, length, Some, None, IsSome, is_some, nat_eq, count_by}
use Rattle.std.specs.List.{list_any, IsDistinct}
use Rattle.machine_state.specs.Memory.{page_size, Swap}
use Rattle.guest_pages.specs.Table.{Mapped, Table, in_frame}
use Rattle.guest_pages.specs.Pages.{PagesValue, table_of, byte_of, mapped_count, resident_count}

-- these are the mapped pages, each once
pub record AreMapped (table : Table) (pages : List ℕ) : Type 0 where
  pub once : IsDistinct nat_eq pages
  pub has : (page : ℕ) → list_any (λ other. page == other) pages ≡ is_some (table page)

-- what the counts of pages count: the mapped pages, no more than there are slots, and those in frames, as many as the order
-- names and no more than there are frames, which are at least eight
pub record AreCounted (pages : PagesValue) : Type 0 where
  pub mapped : List ℕ
  pub mapped_are : AreMapped (table_of pages) mapped
  pub count : mapped_count pages ≡ length mapped
  pub most : mapped_count pages ≤ length pages.slots
  pub frames : resident_count pages ≡ count_by (λ page. in_frame (table_of pages page)) mapped
  pub brought : resident_count pages ≡ length pages.recent
  pub room : resident_count pages ≤ pages.frames
  pub some : 8 ≤ pages.frames

-- each mapped page has a slot of its own
pub record HaveSlots (pages : PagesValue) : Type 0 where
  pub within : (page : ℕ) (mapped : Mapped) → table_of pages page ≡ Some mapped → mapped.slot < length pages.slots
  pub apart : (page other : ℕ) (one two : Mapped) → table_of pages page ≡ Some one → table_of pages other ≡ Some two
      → one.slot ≡ two.slot → page ≡ other

-- pages lie in the lower half of the address space (SDM volume 1, 3.3.7.1), and a byte is 0 where no page is mapped
pub record FitMemory (pages : PagesValue) : Type 0 where
  pub low : (page : ℕ) → IsSome (table_of pages page) → page < 2 ^ 47 / page_size
  pub zeros : (swap : Swap) (addr : ℕ) → table_of pages (addr / page_size) ≡ None → byte_of pages swap addr ≡ 0

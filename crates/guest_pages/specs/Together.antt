-- What joins the pages and a host's swap.
use Rattle.std.specs.Prelude.{ℕ, ◌≡◌, ◌≤◌, ◌/◌, ◌%◌, Bool, true, false, length, Option, Some, None, is_some}
use Rattle.machine_state.specs.Memory.{page_size, Swap}
use Rattle.guest_pages.specs.declared.entry.Mark.{Mark}
use Rattle.guest_pages.specs.declared.entry.Mark.TheVariants.{Fresh, Saved, Written}
use Rattle.guest_pages.specs.Table.{Mapped}
use Rattle.guest_pages.specs.Pages.{PagesValue, table_of, byte_of, mark_of, is_swapped}
use Rattle.guest_pages.specs.Order.{AreOrdered}
use Rattle.guest_pages.specs.Changes.{away_byte, is_kept}

-- whether a page in a frame wasn't written since it was put or mapped
abbrev pub is_clean : Option Mark → Bool
is_clean None = false
is_clean (Some Fresh) = true
is_clean (Some Saved) = true
is_clean (Some Written) = false

-- a page in a frame that wasn't written since it was put or mapped equals what the swap or the zeros give
pub record AreClean (pages : PagesValue) (swap : Swap) : Type 0 where
  pub clean : (page : ℕ) (mapped : Mapped) → table_of pages page ≡ Some mapped → is_clean (mark_of pages page) ≡ true
      → (addr : ℕ) → addr / page_size ≡ page
      → byte_of pages swap addr ≡ away_byte (is_kept (mark_of pages page)) (swap mapped.slot) (addr % page_size)

-- a mapped page is in a frame, or away as zeros, or away with its bytes on the swap, at the number of its slot
pub record IsPlaced (pages : PagesValue) (swap : Swap) (page : ℕ) (mapped : Mapped) : Type 0 where
  pub frame : is_some (mark_of pages page) ≡ mapped.resident
  pub swapped : is_swapped pages page ≡ true → mapped.resident ≡ false
  pub away : mapped.resident ≡ false → (addr : ℕ) → addr / page_size ≡ page
      → byte_of pages swap addr ≡ away_byte (is_swapped pages page) (swap mapped.slot) (addr % page_size)

-- the pages and a swap stand together: each frame holds at most one page, each mapped page has one place, pages that weren't
-- written equal what the swap or the zeros give, and the order names each page in a frame once
pub record AreTogether (pages : PagesValue) (swap : Swap) : Type 0 where
  pub frames : length pages.recent ≤ pages.frames
  pub places : (page : ℕ) (mapped : Mapped) → table_of pages page ≡ Some mapped → IsPlaced pages swap page mapped
  pub clean : AreClean pages swap
  pub order : AreOrdered pages

-- no page is away on the swap
pub record NoneSwapped (pages : PagesValue) : Type 0 where
  pub none : (page : ℕ) → is_swapped pages page ≡ false

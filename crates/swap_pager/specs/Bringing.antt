-- What bringing a page does.
use Rattle.std.specs.Prelude.{ℕ, ◌≡◌, ◌<◌, ◌≤◌, ◌-◌, ◌⊎◌, Bool, true, false, List, ◌∷◌, length, take, Option, Result, Ok, Err}
use Rattle.std.specs.Option.{option_map}
use Rattle.host_edge.specs.declared.outside.HostCall.{HostCall}
use Rattle.host_edge.specs.declared.outside.HostCall.TheVariants.{Load, Store, SwapOpen, SwapGet, SwapPut, Take, PutOut, PutErr}
use Rattle.host_edge.specs.Causes.{Counts, Rose}
use Rattle.host_edge.specs.Files.{Held, Becomes, PutsPage}
use Rattle.guest_pages.specs.Table.{Mapped}
use Rattle.guest_pages.specs.Pages.{PagesValue, table_of, memory_of, mark_of, is_swapped, mapped_count}
use Rattle.guest_pages.specs.Changes.{KeepsSize, AreBytesOf, is_unsaved}
use Rattle.guest_pages.specs.Order.{IsSlotOf, IsFirstBrought, is_recent}
use Rattle.guest_pages.specs.Together.{AreTogether, NoneSwapped}

-- how many pages were brought
pub record PagerValue : Type 0 where
  pub loads : ℕ

-- a mapped page that is in a frame exactly where the order names its slot
abbrev pub framed_by : List ℕ → Mapped → Mapped
framed_by recent mapped = record mapped { resident = is_recent recent mapped.slot }

-- the page in a slot was brought: it is the one brought last, and the one brought first was let go exactly where no frame was
-- free; the same pages are mapped in the same slots, with the same permissions, and those in the order are in frames; where a
-- frame was free no page went to the swap
pub record IsBrought (old new : PagesValue) (slot : ℕ) : Type 0 where
  pub size : KeepsSize old new
  pub recent : new.recent ≡ slot ∷ take (old.frames - 1) old.recent
  pub table : (page : ℕ) → table_of new page ≡ option_map (framed_by new.recent) (table_of old page)
  pub count : mapped_count new ≡ mapped_count old
  pub none : length old.recent < old.frames → NoneSwapped old → NoneSwapped new

-- the memory that pages and a swap stand for is as it was, and they stand together
pub record KeepsMemory (old new : PagesValue) (held after : Held) : Type 0 where
  pub memory : memory_of new after.page ≡ memory_of old held.page
  pub together : AreTogether new after.page

-- the page that was brought first, which is in a frame
pub record FirstPage (pages : PagesValue) : Type 0 where
  pub slot : ℕ
  pub page : ℕ
  pub mapped : Mapped
  pub first : IsFirstBrought pages.recent slot
  pub there : IsSlotOf pages slot page mapped
  pub resident : mapped.resident ≡ true

-- a page's bytes were put to its page of the swap
pub record PutsBytes (pages : PagesValue) (slot page : ℕ) (held after : Held) : Type 0 where
  pub bytes : List ℕ
  pub are : AreBytesOf pages page bytes
  pub put : PutsPage slot bytes held after

-- what a host holds once a page gave its frame up: a page with unsaved bytes was put to the swap, and else nothing changed
abbrev pub IsSaved : Bool → PagesValue → (slot page : ℕ) → (held after : Option Held) → Type 0
IsSaved true pages slot page held after = Becomes (PutsBytes pages slot page) held after
IsSaved false pages slot page held after = after ≡ held

-- what a host holds once a page was brought: what it held where a frame was free; else the page brought first gave its frame up
pub record LetsGo (pages : PagesValue) (held after : Option Held) : Type 0 where
  pub free : length pages.recent < pages.frames → after ≡ held
  pub gone : pages.frames ≤ length pages.recent
      → (first : FirstPage pages) × IsSaved (is_unsaved (mark_of pages first.page)) pages first.slot first.page held after

-- the page in a slot is on the swap
pub record IsOnSwap (pages : PagesValue) (slot : ℕ) : Type 0 where
  pub page : ℕ
  pub mapped : Mapped
  pub there : IsSlotOf pages slot page mapped
  pub swapped : is_swapped pages page ≡ true

-- no frame is free, and the page brought first was written since it was put or mapped
pub record MustPut (pages : PagesValue) : Type 0 where
  pub full : pages.frames ≤ length pages.recent
  pub first : FirstPage pages
  pub unsaved : is_unsaved (mark_of pages first.page) ≡ true

-- a page is brought from the swap, or no frame is free for it
abbrev pub NeedsSwap : PagesValue → ℕ → Type 0
NeedsSwap pages slot = IsOnSwap pages slot ⊎ (pages.frames ≤ length pages.recent)

-- a call on the swap that failed was one that had to be made; its count rose, and no other changed
abbrev pub IsCaused : (Get Put : Type 0) → Result (Unit {0}) HostCall → (old new : Counts) → Type 0
IsCaused Get Put (Ok done) old new = new ≡ old
IsCaused Get Put (Err SwapGet) old new = Get × Rose old.swap_get new.swap_get × (new ≡ record old { swap_get = new.swap_get })
IsCaused Get Put (Err SwapPut) old new = Put × Rose old.swap_put new.swap_put × (new ≡ record old { swap_put = new.swap_put })
IsCaused Get Put (Err (Load word)) old new = ⊥
IsCaused Get Put (Err (Store word)) old new = ⊥
IsCaused Get Put (Err SwapOpen) old new = ⊥
IsCaused Get Put (Err Take) old new = ⊥
IsCaused Get Put (Err PutOut) old new = ⊥
IsCaused Get Put (Err PutErr) old new = ⊥

-- What the pages are where a range of them changes.
use Rattle.std.specs.Prelude.{ℕ, ◌≡◌, ◌/◌, Bool, true, false, Some, None}
use Rattle.std.specs.Option.{option_map}
use Rattle.machine_state.specs.Memory.{page_size, Swap}
use Rattle.guest_pages.specs.Table.{Mapped}
use Rattle.guest_pages.specs.Pages.{PagesValue, table_of, byte_of, mark_of}
use Rattle.guest_pages.specs.Changes.{KeepsSize, KeepsPage, with_perms}
use Rattle.region_map.specs.declared.kinds.Change.{Change}
use Rattle.region_map.specs.declared.kinds.Change.TheVariants.{Map, Unmap, Protect}

-- a page is mapped as zeros with these permissions, and is away; where it was mapped it keeps its slot
pub record IsFresh (old new : PagesValue) (perms page : ℕ) : Type 0 where
  pub entry : Mapped
  pub table : table_of new page ≡ Some entry
  pub perms_are : entry.perms ≡ perms
  pub away : entry.resident ≡ false
  pub slot_stays : (mapped : Mapped) → table_of old page ≡ Some mapped → entry.slot ≡ mapped.slot
  pub bytes : (swap : Swap) (addr : ℕ) → addr / page_size ≡ page → byte_of new swap addr ≡ 0
  pub mark : mark_of new page ≡ None

-- a page isn't mapped
pub record IsGone (new : PagesValue) (page : ℕ) : Type 0 where
  pub table : table_of new page ≡ None
  pub bytes : (swap : Swap) (addr : ℕ) → addr / page_size ≡ page → byte_of new swap addr ≡ 0
  pub mark : mark_of new page ≡ None

-- a page has these permissions, if it is mapped, and stays as it is in all else
pub record HasPerms (old new : PagesValue) (perms page : ℕ) : Type 0 where
  pub table : table_of new page ≡ option_map (with_perms perms) (table_of old page)
  pub kept : KeepsPage old new page

-- a page stays as it is
pub record Stays (old new : PagesValue) (page : ℕ) : Type 0 where
  pub table : table_of new page ≡ table_of old page
  pub kept : KeepsPage old new page

abbrev pub IsChanged : Change → PagesValue → PagesValue → ℕ → Type 0
IsChanged (Map perms file) old new page = IsFresh old new perms.0 page
IsChanged Unmap old new page = IsGone new page
IsChanged (Protect perms) old new page = HasPerms old new perms.0 page

-- these pages are changed, and no others
pub record AreChanged (change : Change) (which : ℕ → Bool) (old new : PagesValue) : Type 0 where
  pub size : KeepsSize old new
  pub inside : (page : ℕ) → which page ≡ true → IsChanged change old new page
  pub outside : (page : ℕ) → which page ≡ false → Stays old new page

-- What the calls on pages show and change.
use Rattle.std.specs.Prelude.{ℕ, ◌≡◌, ◌≢◌, ◌+◌, ◌-◌, ◌/◌, ◌<◌, ◌==◌, ◌⊎◌, Bool, true, false, ◌&&◌, ◌%◌, if◌then◌else◌, List, [], ◌∷◌, length, slice_index, Option, Some, None, is_some, nat_lt, nat_le}
use Rattle.std.specs.Option.{option_map}
use Rattle.machine_state.specs.Memory.{page_size, Swap, bytes_at, written, zeroed}
use Rattle.guest_pages.specs.declared.entry.Mark.{Mark}
use Rattle.guest_pages.specs.declared.entry.Mark.TheVariants.{Fresh, Saved, Written}
use Rattle.guest_pages.specs.Table.{Mapped, with_entry}
use Rattle.guest_pages.specs.Pages.{PagesValue, table_of, byte_of, mark_of, is_swapped, mapped_count}
use Rattle.guest_pages.specs.Order.{without, without_page}

-- the numbers of frames and of pages stay
pub record KeepsSize (old new : PagesValue) : Type 0 where
  pub frames : new.frames ≡ old.frames
  pub pages : length new.slots ≡ length old.slots

-- a page's mark and bytes stay
pub record KeepsPage (old new : PagesValue) (page : ℕ) : Type 0 where
  pub mark : mark_of new page ≡ mark_of old page
  pub bytes : (swap : Swap) (addr : ℕ) → addr / page_size ≡ page → byte_of new swap addr ≡ byte_of old swap addr

-- the same pages are mapped, in the same slots, with the same permissions, and the same of them are in frames, brought in the same order; each
-- page stays as it was or is marked as written
pub record KeepsTable (old new : PagesValue) : Type 0 where
  pub size : KeepsSize old new
  pub table : table_of new ≡ table_of old
  pub recent : new.recent ≡ old.recent
  pub count : mapped_count new ≡ mapped_count old
  pub pages : (page : ℕ) → KeepsPage old new page ⊎ (mark_of new page ≡ Some Written)

-- the marks of frames, by page number
abbrev pub Marks : Type 0
Marks = ℕ → Option Mark

-- marks with another one at one page
abbrev pub with_mark : Marks → ℕ → Option Mark → Marks
with_mark marks page mark at = if at == page then mark else marks at

-- whether an access has a byte on a page
abbrev pub touches : ℕ → ℕ → ℕ → Bool
touches addr len page = nat_lt 0 len && nat_le (addr / page_size) page && nat_le page ((addr + len - 1) / page_size)

-- marks after a write: the pages that it touches count as written
abbrev pub written_marks : Marks → ℕ → ℕ → Marks
written_marks marks addr len page = if touches addr len page then Some Written else marks page

-- no page is mapped
pub record IsBlank (pages : PagesValue) (frames most : ℕ) : Type 0 where
  pub frames_are : pages.frames ≡ frames
  pub pages_are : length pages.slots ≡ most
  pub table : (page : ℕ) → table_of pages page ≡ None
  pub byte : (swap : Swap) (addr : ℕ) → byte_of pages swap addr ≡ 0
  pub marks : (page : ℕ) → mark_of pages page ≡ None
  pub count : mapped_count pages ≡ 0
  pub recent : pages.recent ≡ []

-- these are the bytes of an access
pub record IsShown (pages : PagesValue) (addr len : ℕ) (shown : List ℕ) : Type 0 where
  pub len_is : length shown ≡ len
  pub bytes : (swap : Swap) → shown ≡ bytes_at (byte_of pages swap) addr len

-- these bytes were written from an address on, and nothing else changed
pub record IsWritten (old new : PagesValue) (addr : ℕ) (bytes : List ℕ) : Type 0 where
  pub size : KeepsSize old new
  pub table : table_of new ≡ table_of old
  pub byte : (swap : Swap) → byte_of new swap ≡ written (byte_of old swap) addr bytes
  pub marks : mark_of new ≡ written_marks (mark_of old) addr (length bytes)
  pub recent : new.recent ≡ old.recent
  pub count : mapped_count new ≡ mapped_count old

-- a page was mapped as zeros with these permissions, and nothing else changed; a page that was mapped keeps its slot, and
-- a new one gets a slot that no other page has; the page is away, and the frame that it had is given up
pub record IsMapped (old new : PagesValue) (page perms : ℕ) : Type 0 where
  pub size : KeepsSize old new
  pub entry : Mapped
  pub table : table_of new ≡ with_entry (table_of old) page (Some entry)
  pub perms_are : entry.perms ≡ perms
  pub away : entry.resident ≡ false
  pub slot_stays : (mapped : Mapped) → table_of old page ≡ Some mapped → entry.slot ≡ mapped.slot
  pub slot_within : entry.slot < length new.slots
  pub slot_apart : (other : ℕ) (mapped : Mapped) → other ≢ page → table_of old other ≡ Some mapped → mapped.slot ≢ entry.slot
  pub byte : (swap : Swap) → byte_of new swap ≡ zeroed (byte_of old swap) page
  pub marks : mark_of new ≡ with_mark (mark_of old) page None
  pub recent : new.recent ≡ without entry.slot old.recent
  pub count : mapped_count new ≡ mapped_count old + (if is_some (table_of old page) then 0 else 1)

-- a page isn't mapped, and nothing else changed
pub record IsUnmapped (old new : PagesValue) (page : ℕ) : Type 0 where
  pub size : KeepsSize old new
  pub table : table_of new ≡ with_entry (table_of old) page None
  pub byte : (swap : Swap) → byte_of new swap ≡ zeroed (byte_of old swap) page
  pub marks : mark_of new ≡ with_mark (mark_of old) page None
  pub recent : new.recent ≡ without_page (table_of old page) old.recent
  pub count : mapped_count new + (if is_some (table_of old page) then 1 else 0) ≡ mapped_count old

abbrev pub with_perms : ℕ → Mapped → Mapped
with_perms perms mapped = record mapped { perms = perms }

-- a mapped page has these permissions, and nothing else changed
pub record IsProtected (old new : PagesValue) (page perms : ℕ) : Type 0 where
  pub size : KeepsSize old new
  pub table : table_of new ≡ with_entry (table_of old) page (option_map (with_perms perms) (table_of old page))
  pub byte : (swap : Swap) → byte_of new swap ≡ byte_of old swap
  pub marks : mark_of new ≡ mark_of old
  pub recent : new.recent ≡ old.recent
  pub count : mapped_count new ≡ mapped_count old

-- a mapped page is mapped anew, with the permissions that it has
abbrev pub IsZeroed : PagesValue → PagesValue → ℕ → Type 0
IsZeroed old new page = (mapped : Mapped) → table_of old page ≡ Some mapped → IsMapped old new page mapped.perms

-- these are the bytes of a page, whatever the swap holds
pub record AreBytesOf (pages : PagesValue) (page : ℕ) (bytes : List ℕ) : Type 0 where
  pub whole : length bytes ≡ page_size
  pub shown : (swap : Swap) (addr : ℕ) → addr / page_size ≡ page → byte_of pages swap addr ≡ slice_index bytes (addr % page_size)

-- a byte of a page that is away, on the swap or as zeros
abbrev pub away_byte : Bool → List ℕ → ℕ → ℕ
away_byte swapped saved at = if swapped then slice_index saved at else 0

-- whether a page in a frame was written since it was put or mapped
abbrev pub is_unsaved : Option Mark → Bool
is_unsaved None = false
is_unsaved (Some Fresh) = false
is_unsaved (Some Saved) = false
is_unsaved (Some Written) = true

-- whether a page with this mark is on the swap once it gave its frame up: one that is zeros isn't
abbrev pub is_kept : Option Mark → Bool
is_kept None = false
is_kept (Some Fresh) = false
is_kept (Some Saved) = true
is_kept (Some Written) = true

-- a page gave its frame up, and nothing else changed
pub record IsLeft (old new : PagesValue) (page : ℕ) (mapped : Mapped) : Type 0 where
  pub size : KeepsSize old new
  pub table : table_of new ≡ with_entry (table_of old) page (Some (record mapped { resident = false }))
  pub byte : (swap : Swap) (addr : ℕ) → byte_of new swap addr
      ≡ (if addr / page_size == page then away_byte (is_kept (mark_of old page)) (swap mapped.slot) (addr % page_size) else byte_of old swap addr)
  pub marks : mark_of new ≡ with_mark (mark_of old) page None
  pub swapped : (other : ℕ) → is_swapped new other ≡ (if other == page then is_kept (mark_of old page) else is_swapped old other)
  pub recent : new.recent ≡ without mapped.slot old.recent
  pub count : mapped_count new ≡ mapped_count old

-- a page that was away has these bytes in a frame, as the page brought last, and nothing else changed
pub record IsEntered (old new : PagesValue) (page : ℕ) (mapped : Mapped) (bytes : List ℕ) : Type 0 where
  pub size : KeepsSize old new
  pub table : table_of new ≡ with_entry (table_of old) page (Some (record mapped { resident = true }))
  pub byte : (swap : Swap) (addr : ℕ) → byte_of new swap addr
      ≡ (if addr / page_size == page then slice_index bytes (addr % page_size) else byte_of old swap addr)
  pub marks : mark_of new ≡ with_mark (mark_of old) page (Some (if is_swapped old page then Saved else Fresh))
  pub swapped : (other : ℕ) → is_swapped new other ≡ (if other == page then false else is_swapped old other)
  pub recent : new.recent ≡ mapped.slot ∷ old.recent
  pub count : mapped_count new ≡ mapped_count old

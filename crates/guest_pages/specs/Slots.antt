-- What the pages keep of their slots. No public clause cites this module.
use Rattle.std.specs.Prelude.{ℕ, ◌≡◌, ◌+◌, ◌<◌, ◌≤◌, ◌^◌, ◌/◌, ◌*◌, ◌%◌, ◌++◌, ◌∷◌, List, [], Bool, if◌then◌else◌, true, false, Option, Some, None, slice_index_or, length, count_by, nat_eq}
use Rattle.std.specs.List.{IsDistinct}
use Rattle.machine_state.specs.Memory.{page_size, miss_at, first_miss}
use Rattle.machine_state.specs.declared.kinds.Kind.{Kind}
use Rattle.machine_state.specs.declared.kinds.Miss.TheVariants.{Away}
use Rattle.std.specs.Option.{option_map}
use Rattle.guest_pages.specs.declared.entry.Entry.{Entry}
use Rattle.guest_pages.specs.declared.lists.Lists.{Lists}
use Rattle.guest_pages.specs.Lists.{AreListed, among}
use Rattle.guest_pages.specs.Entry.{holds_page, is_in_frame}
use Rattle.guest_pages.specs.Table.{perms_in, first_away}
use Rattle.guest_pages.specs.Pages.{PagesValue, table_of}

-- no slot holds the page
abbrev pub LacksPage : List (Option Entry) → ℕ → Type 0
LacksPage slots page = (i : ℕ) → i < length slots → holds_page (slice_index_or slots i None) page ≡ false

-- slot k holds the page, and no slot before it does
pub record IsSeatOf (slots : List (Option Entry)) (page k : ℕ) : Type 0 where
  pub within : k < length slots
  pub here : holds_page (slice_index_or slots k None) page ≡ true
  pub first : (i : ℕ) → i < k → holds_page (slice_index_or slots i None) page ≡ false

-- no two slots hold one page
abbrev pub AreApart : List (Option Entry) → Type 0
AreApart slots =
    (i j page : ℕ) → i < j → j < length slots → holds_page (slice_index_or slots i None) page ≡ true
    → holds_page (slice_index_or slots j None) page ≡ false

-- no two slots hold one page, and pages lie in the lower half of the address space
pub record AreSound (slots : List (Option Entry)) : Type 0 where
  pub apart : AreApart slots
  pub low : (k page : ℕ) → k < length slots → holds_page (slice_index_or slots k None) page ≡ true → page < 0x800000000

-- so many frames are free, the others are with pages, and there is room for all of them
pub record AreShared (slots : List (Option Entry)) (frames free capacity : ℕ) : Type 0 where
  pub shared : free + count_by is_in_frame slots ≡ frames
  pub room : frames ≤ capacity

-- the bucket of a page among so many: the upper half of the page's number times an odd number, as a part of 2^32 (this
-- program's own)
unfoldable pub bucket_of : ℕ → ℕ → ℕ
bucket_of page buckets = page * 0x9E3779B97F4A7C15 % 2 ^ 64 / 2 ^ 32 * buckets / 2 ^ 32

-- the list where a slot belongs: its page's bucket, or else the last list
abbrev pub list_of : Option Entry → ℕ → ℕ
list_of None buckets = buckets
list_of (Some entry) buckets = bucket_of entry.page buckets

abbrev pub home_in : List (Option Entry) → ℕ → ℕ
home_in slots k = list_of (slice_index_or slots k None) (length slots)

-- each slot is in the list where it belongs
pub record AreFiled (slots : List (Option Entry)) (lists : Lists) : Type 0 where
  pub count : length lists.heads.items ≡ length slots + 1
  pub numbers : length lists.nexts.items ≡ length slots
  pub listed : AreListed lists (home_in slots)

-- slot k can take the page: it is free or holds it, and no other slot holds it
pub record CanTake (slots : List (Option Entry)) (page k : ℕ) : Type 0 where
  pub within : k < length slots
  pub others : (i : ℕ) → (i ≡ k → ⊥) → holds_page (slice_index_or slots i None) page ≡ false
  pub here : (q : ℕ) → holds_page (slice_index_or slots k None) q ≡ true → page ≡ q

-- slot k holds the page of an address, whose permissions grant the access to its byte
pub record IsGranted (pages : PagesValue) (kind : Kind) (addr k : ℕ) : Type 0 where
  pub grants : miss_at (perms_in (table_of pages)) kind addr ≡ None
  pub low : addr < 0x800000000000
  pub seat : IsSeatOf pages.slots (addr / page_size) k

-- an access was walked in whole: each byte is allowed, and the first page away, if there is one, is in this slot
pub record IsWalked (pages : PagesValue) (kind : Kind) (addr len : ℕ) (away : Option ℕ) : Type 0 where
  pub allowed : first_miss (perms_in (table_of pages)) kind addr len ≡ None
  pub away_is : first_away (table_of pages) addr len ≡ option_map Away away

-- what the pages keep of their slots, frames and lists
pub record IsKept (slots : List (Option Entry)) (frames free capacity : ℕ) (lists : Lists) : Type 0 where
  pub sound : AreSound slots
  pub shares : AreShared slots frames free capacity
  pub filed : AreFiled slots lists

-- an order with a number put last, if it is
abbrev pub with_last : Bool → ℕ → List ℕ → List ℕ
with_last put k order = order ++ (if put then k ∷ [] else [])

-- the numbers in the order are those of the slots whose pages are in frames, each once
pub record IsOrdered (slots : List (Option Entry)) (order : List ℕ) : Type 0 where
  pub once : IsDistinct nat_eq order
  pub has : (k : ℕ) → among k order ≡ is_in_frame (slice_index_or slots k None)
  pub count : length order ≡ count_by is_in_frame slots

-- and what they keep of the order in which pages were brought; there are at least eight frames
pub record IsInOrder (slots : List (Option Entry)) (frames free capacity : ℕ) (lists : Lists) (order : List ℕ) (room : ℕ) : Type 0 where
  pub kept : IsKept slots frames free capacity lists
  pub ordered : IsOrdered slots order
  pub some : 8 ≤ frames
  pub room_is : frames ≤ room

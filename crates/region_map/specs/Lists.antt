-- Lists of regions as they are made. No public clause cites this module.
use Rattle.std.specs.Prelude.{ℕ, ◌≡◌, ◌≤◌, ◌<◌, ◌+◌, ◌^◌, ◌||◌, Bool, true, is_some, if◌then◌else◌, zero, suc, List, [], ◌∷◌, length, Option, Some, None, IsSome}
use Rattle.machine_state.specs.Regions.{end_of}
use Rattle.machine_state.specs.declared.kinds.Region.{Region}
use Rattle.machine_state.specs.declared.permissions.Perms.{Perms}
use Rattle.guest_pages.specs.Pages.{PagesValue, table_of, mapped_count}
use Rattle.region_map.specs.declared.kinds.Change.{Change}
use Rattle.region_map.specs.declared.kinds.Change.TheVariants.{Map, Unmap, Protect}
use Rattle.region_map.specs.Calls.{lowest_page, NoneIn, is_mapped}
use Rattle.region_map.specs.Ranges.{is_in, page_end, joined, with_region_perms}

-- a region behind others; with the last of them it is one region where that touches it
abbrev pub appended : List Region → Region → List Region
appended [] next = next ∷ []
appended (region ∷ []) next = joined region (next ∷ [])
appended (region ∷ (other ∷ rest)) next = region ∷ appended (other ∷ rest) next

abbrev pub appended_all : List Region → List Region → List Region
appended_all done [] = done
appended_all done (next ∷ rest) = appended_all (appended done next) rest

-- a region with these permissions, if some are given
abbrev pub given : Option Perms → Region → Region
given None region = region
given (Some perms) region = with_region_perms perms region

-- regions whose ends are numbers of 64 bits
abbrev pub AreShort : List Region → Type 0
AreShort [] = Unit {0}
AreShort (region ∷ rest) = (end_of region < 2 ^ 64) × AreShort rest

-- a range can be changed so: permissions are a set of the three, and the pages that are mapped lie in the lower half of the
-- address space
abbrev pub MayChange : Change → (from to : ℕ) → Type 0
MayChange (Map perms file) from to = (perms.0 < 8) × (to ≤ page_end)
MayChange Unmap from to = Unit {0}
MayChange (Protect perms) from to = perms.0 < 8

-- a change that maps no page
abbrev pub MapsNone : Change → Type 0
MapsNone (Map perms file) = ⊥
MapsNone Unmap = Unit {0}
MapsNone (Protect perms) = Unit {0}

-- how many numbers below one pass a test
unfoldable pub count_below : (ℕ → Bool) → ℕ → ℕ
count_below test zero = 0
count_below test (suc n) = (if test n then 1 else 0) + count_below test n

-- the count of the mapped pages counts them
pub record AreTallied (pages : PagesValue) : Type 0 where
  pub count : mapped_count pages ≡ count_below (λ page. is_some (table_of pages page)) page_end

-- one page can be changed so
abbrev pub CanChange : Change → PagesValue → ℕ → Type 0
CanChange (Map perms file) pages page = table_of pages page ≡ None → mapped_count pages < length pages.slots
CanChange Unmap pages page = Unit {0}
CanChange (Protect perms) pages page = IsSome (table_of pages page)

-- there is room for all pages of a range that is mapped
abbrev pub HasRoom : Change → PagesValue → (from to : ℕ) → Type 0
HasRoom (Map perms file) pages from to =
    AreTallied pages × (count_below (λ page. is_in from to page || is_some (table_of pages page)) page_end ≤ length pages.slots)
HasRoom Unmap pages from to = Unit {0}
HasRoom (Protect perms) pages from to = Unit {0}

-- a range of pages can be changed so: there is room for all its pages, or each of them is mapped
abbrev pub CanChangeAll : Change → PagesValue → (from to : ℕ) → Type 0
CanChangeAll (Map perms file) pages from to = HasRoom (Map perms file) pages from to
CanChangeAll Unmap pages from to = Unit {0}
CanChangeAll (Protect perms) pages from to = (page : ℕ) → is_in from to page ≡ true → IsSome (table_of pages page)

-- so many pages from one on are free, and end by another, by their numbers
pub record IsFreeSpan (regions : List Region) (end count page : ℕ) : Type 0 where
  pub low : lowest_page ≤ page
  pub ends : page + count ≤ end
  pub free : NoneIn (is_mapped regions) page (page + count)

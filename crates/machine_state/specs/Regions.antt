-- Regions: the longest runs of adjacent mapped pages with equal permissions and equal origin.
use Rattle.std.specs.Prelude.{ℕ, ◌≡◌, ◌≢◌, ◌≤◌, ◌<◌, ◌+◌, ◌/◌, ◌^◌, Bool, ◌&&◌, nat_lt, nat_le, if◌then◌else◌, List, [], ◌∷◌, length, Option, Some, None}
use Rattle.machine_state.specs.Memory.{Permissions, page_size}
use Rattle.machine_state.specs.declared.kinds.Region.{Region}

-- what the pages of a region have in common: permissions, and whether they are of a file
pub record Nature : Type 0 where
  pub perms : ℕ
  pub file : Bool

abbrev pub nature_of : Region → Nature
nature_of region = record { perms = region.perms.0; file = region.file }

-- the page behind a region
abbrev pub end_of : Region → ℕ
end_of region = region.first + region.count

abbrev pub has_page : Region → ℕ → Bool
has_page region page = nat_le region.first page && nat_lt page (end_of region)

-- what a page is by the regions; None where none of them has it
abbrev pub nature_at : List Region → ℕ → Option Nature
nature_at [] page = None
nature_at (region ∷ rest) page = if has_page region page then Some (nature_of region) else nature_at rest page

abbrev pub perms_of : Option Nature → Option ℕ
perms_of None = None
perms_of (Some nature) = Some nature.perms

-- how many pages the regions have
abbrev pub page_sum : List Region → ℕ
page_sum [] = 0
page_sum (region ∷ rest) = region.count + page_sum rest

-- a region lies below those that follow, and differs in nature from one that it touches
abbrev pub ComesBefore : Region → List Region → Type 0
ComesBefore region [] = Unit {0}
ComesBefore region (next ∷ rest) = (end_of region ≤ next.first) × (end_of region ≡ next.first → nature_of region ≢ nature_of next)

-- regions as they can be listed: in ascending order, none empty, all in the lower half of the address space (SDM volume 1, 3.3.7.1),
-- each of them as long as it can be
abbrev pub AreRegions : List Region → Type 0
AreRegions [] = Unit {0}
AreRegions (region ∷ rest) = (0 < region.count) × (region.perms.0 < 8) × (end_of region ≤ 2 ^ 47 / page_size) × ComesBefore region rest × AreRegions rest

-- the most regions that a guest may have (this program's own)
abbrev pub most_regions : ℕ
most_regions = 1024

-- regions that are those of the mapped pages
pub record FitRegions (perms : Permissions) (regions : List Region) : Type 0 where
  pub listed : AreRegions regions
  pub most : length regions ≤ most_regions
  pub perms_are : (page : ℕ) → perms_of (nature_at regions page) ≡ perms page

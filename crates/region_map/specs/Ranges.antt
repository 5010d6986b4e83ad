-- What regions become where a range of pages changes.
use Rattle.std.specs.Prelude.{ℕ, ◌≡◌, ◌+◌, ◌-◌, ◌/◌, ◌^◌, ◌==◌, ◌&&◌, Bool, min, max, nat_lt, nat_le, if◌then◌else◌, List, [], ◌∷◌, ◌++◌, map, Option, Some, None}
use Rattle.std.specs.Bool.{beq}
use Rattle.std.specs.Option.{option_map}
use Rattle.machine_state.specs.Memory.{page_size}
use Rattle.machine_state.specs.Regions.{Nature, nature_of, end_of, nature_at, AreRegions}
use Rattle.machine_state.specs.declared.kinds.Region.{Region}
use Rattle.machine_state.specs.declared.permissions.Perms.{Perms}
use Rattle.region_map.specs.declared.kinds.Change.{Change}
use Rattle.region_map.specs.declared.kinds.Change.TheVariants.{Map, Unmap, Protect}

-- the page behind the last one that can be mapped (SDM volume 1, 3.3.7.1)
abbrev pub page_end : ℕ
page_end = 2 ^ 47 / page_size

-- whether a page is one of those from one page on and below another
abbrev pub is_in : (from to : ℕ) → ℕ → Bool
is_in from to page = nat_le from page && nat_lt page to

abbrev pub with_nature_perms : ℕ → Nature → Nature
with_nature_perms perms nature = record nature { perms = perms }

-- what a page is after a change of it, by what it was: a page that isn't mapped gets no permissions
abbrev pub becomes : Change → Option Nature → Option Nature
becomes (Map perms file) old = Some (record { perms = perms.0; file = file })
becomes Unmap old = None
becomes (Protect perms) old = option_map (with_nature_perms perms.0) old

-- what each page is after a change of the pages from one on and below another
abbrev pub changed : Change → (from to : ℕ) → (ℕ → Option Nature) → ℕ → Option Nature
changed change from to natures page = if is_in from to page then becomes change (natures page) else natures page

-- the pages of a region from one page on and below another, as a region, if there are any
abbrev pub part : (from to : ℕ) → Region → List Region
part from to region =
    let first = max region.first from in
    let end = min (end_of region) to in
    if nat_lt first end then record region { first = first; count = end - first } ∷ [] else []

abbrev pub parts : (from to : ℕ) → List Region → List Region
parts from to [] = []
parts from to (region ∷ rest) = part from to region ++ parts from to rest

abbrev pub same_nature : Nature → Nature → Bool
same_nature one other = (one.perms == other.perms) && beq one.file other.file

-- whether a region ends where another begins, and has its nature
abbrev pub touches : Region → Region → Bool
touches region next = (end_of region == next.first) && same_nature (nature_of region) (nature_of next)

-- a region and those behind it; with the first of them it is one region where it touches that
abbrev pub joined : Region → List Region → List Region
joined region [] = region ∷ []
joined region (next ∷ rest) = if touches region next then record region { count = region.count + next.count } ∷ rest else region ∷ next ∷ rest

-- regions in ascending order, with those that touch made one
abbrev pub merged : List Region → List Region
merged [] = []
merged (region ∷ rest) = joined region (merged rest)

abbrev pub with_region_perms : Perms → Region → Region
with_region_perms perms region = record region { perms = perms }

-- what is mapped in a range after a change of it
abbrev pub middle : Change → (from to : ℕ) → List Region → List Region
middle (Map perms file) from to regions = record { first = from; count = to - from; perms = perms; file = file } ∷ []
middle Unmap from to regions = []
middle (Protect perms) from to regions = map (with_region_perms perms) (parts from to regions)

-- the regions after a change of a range: what lies below it, what is mapped in it then, and what lies above it
abbrev pub changed_regions : Change → (from to : ℕ) → List Region → List Region
changed_regions change from to regions = merged (parts 0 from regions ++ middle change from to regions ++ parts to page_end regions)

-- these are the regions after a change of a range of others
pub record IsAfter (change : Change) (from to : ℕ) (old new : List Region) : Type 0 where
  pub list : new ≡ changed_regions change from to old
  pub listed : AreRegions new
  pub natures : (page : ℕ) → nature_at new page ≡ changed change from to (nature_at old) page

-- Pages and regions that fit still do after a change of a range.
use Rattle.std.proofs.Common.{◌≡◌, ℕ, ◌≤◌, Bool, true, false, cond, ◌||◌, List, length, Option, Some, None, is_some, refl, subst, sym, ◌∙◌, ap, arith}
use Rattle.std.specs.Option.{option_map}
use Rattle.machine_state.specs.declared.kinds.Region.{Region}
use Rattle.machine_state.specs.Regions.{Nature, nature_at, perms_of, page_sum, most_regions, FitRegions}
use Rattle.guest_pages.specs.Table.{Mapped, Table, perms_in}
use Rattle.guest_pages.specs.Pages.{PagesValue, table_of}
use Rattle.guest_pages.specs.Changes.{KeepsTable, with_perms}
use Rattle.region_map.specs.declared.kinds.Change.{Change}
use Rattle.region_map.specs.declared.kinds.Change.TheVariants.{Map, Unmap, Protect}
use Rattle.region_map.specs.Ranges.{page_end, is_in, becomes, with_nature_perms, IsAfter}
use Rattle.region_map.specs.Changes.{IsChanged, AreChanged}
use Rattle.region_map.specs.Calls.{FitPages, is_mapped}
use Rattle.region_map.specs.Lists.{count_below, AreTallied, HasRoom}
use Rattle.region_map.proofs.Tallies.{count_same, count_most, regions_count}
use Rattle.region_map.proofs.Covers.{mapped_fit}

count_fit : (pages : PagesValue) (xs : List Region) → FitRegions (perms_in (table_of pages)) xs → count_below (λ page. is_some (table_of pages page)) page_end ≡ page_sum xs
count_fit pages xs fit =
    count_same (λ page. is_some (table_of pages page)) (is_mapped xs) page_end (λ page lt. mapped_fit pages xs page fit) ∙ sym (regions_count xs fit.listed)

pub tallied_fit : (pages : PagesValue) (xs : List Region) → FitPages pages xs → AreTallied pages
tallied_fit pages xs fit = record { count = fit.count ∙ sym (count_fit pages xs fit.perms) }

-- there is room for a range that is mapped
pub room_for : (change : Change) (from to : ℕ) (pages : PagesValue) (old new : List Region) → FitPages pages old → IsAfter change from to old new
    → page_sum new ≤ length pages.slots → HasRoom change pages from to
room_for Unmap from to pages old new fit after most = tt
room_for (Protect perms) from to pages old new fit after most = tt
room_for (Map perms file) from to pages old new fit after most =
    let sum = regions_count new after.listed in
    let more = count_most (λ page. is_in from to page || is_some (table_of pages page)) (is_mapped new) page_end
    (λ page e. ap (λ (n : Option Nature). is_some n) (after.natures page) ∙ here (is_in from to page) (nature_at old page) (is_some (table_of pages page)) (mapped_fit pages old page fit.perms) e) in
    (tallied_fit pages old fit, omega arith)
  where
    here : (b : Bool) (n : Option Nature) (t : Bool) → t ≡ is_some n → (b || t) ≡ true → is_some (cond b (becomes (Map perms file) n) n) ≡ true
    here true n t e h = refl
    here false n t e h = sym e ∙ h

perms_then : (change : Change) (n : Option Nature) (old new : PagesValue) (page : ℕ) → perms_of n ≡ perms_in (table_of old) page → IsChanged change old new page
    → perms_of (becomes change n) ≡ perms_in (table_of new) page
perms_then (Map perms file) n old new page e is =
    let there = ap (λ (o : Option Mapped). option_map (λ m. m.perms) o) is.table in
    let same = is.perms_are in
    sym (there ∙ ap (λ (p : ℕ). let o : Option ℕ = Some p in o) same)
perms_then Unmap n old new page e is = sym (ap (λ (o : Option Mapped). option_map (λ m. m.perms) o) is.table)
perms_then (Protect perms) n old new page e is =
    here n (table_of old page) e ∙ sym (ap (λ (o : Option Mapped). option_map (λ m. m.perms) o) is.table)
  where
    here : (n : Option Nature) (o : Option Mapped) → perms_of n ≡ option_map (λ m. m.perms) o
        → perms_of (option_map (with_nature_perms perms.0) n) ≡ option_map (λ m. m.perms) (option_map (with_perms perms.0) o)
    here None None e = refl
    here None (Some m) e = cc
    here (Some n) None e = cc
    here (Some n) (Some m) e = refl

pub fit_after : (change : Change) (from to : ℕ) (before after : PagesValue) (old new : List Region) → FitPages before old → IsAfter change from to old new
    → length new ≤ most_regions → AreChanged change (is_in from to) before after → (AreTallied before → AreTallied after) → FitPages after new
fit_after change from to before after old new fit is most a tallied =
    let perms : (page : ℕ) → perms_of (nature_at new page) ≡ perms_in (table_of after) page =
    λ page. ap perms_of (is.natures page) ∙ here page (is_in from to page) refl in
    let regions : FitRegions (perms_in (table_of after)) new = record { listed = is.listed; most = most; perms_are = perms } in
    record { perms = regions; count = (tallied (tallied_fit before old fit)).count ∙ count_fit after new regions }
  where
    here : (page : ℕ) (b : Bool) → is_in from to page ≡ b → perms_of (cond b (becomes change (nature_at old page)) (nature_at old page)) ≡ perms_in (table_of after) page
    here page true e = perms_then change (nature_at old page) before after page (fit.perms.perms_are page) (a.inside page e)
    here page false e = fit.perms.perms_are page ∙ sym (ap (λ (o : Option Mapped). option_map (λ m. m.perms) o) (a.outside page e).table)

-- accesses keep what fits
pub fit_kept : (old new : PagesValue) (xs : List Region) → KeepsTable old new → FitPages old xs → FitPages new xs
fit_kept old new xs keeps fit = record {
  perms = subst (λ (t : Table). FitRegions (perms_in t) xs) (sym keeps.table) fit.perms;
  count = keeps.count ∙ fit.count;
}

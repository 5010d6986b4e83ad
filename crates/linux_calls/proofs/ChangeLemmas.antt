-- The world after a change of a range of pages.
use Rattle.std.proofs.Common.{◌≡◌, ℕ, ◌/◌, Bool, true, false, cond, List, length, refl, sym, ap, ◌∙◌}
use Rattle.machine_state.specs.Memory.{Swap, Memory, page_size}
use Rattle.machine_state.specs.Regions.{nature_at, perms_of}
use Rattle.machine_state.specs.World.{World}
use Rattle.machine_state.specs.declared.kinds.Region.{Region}
use Rattle.guest_pages.specs.Table.{perms_in}
use Rattle.guest_pages.specs.Pages.{PagesValue, table_of, byte_of, memory_of}
use Rattle.region_map.specs.declared.kinds.Change.{Change}
use Rattle.region_map.specs.declared.kinds.Change.TheVariants.{Map, Unmap, Protect}
use Rattle.region_map.specs.Ranges.{is_in, changed_regions}
use Rattle.region_map.specs.Changes.{AreChanged}
use Rattle.region_map.specs.Calls.{RegionsValue, FitPages, IsChange}
use Rattle.linux_calls.specs.Parts.{bytes_after, with_change}
use Rattle.linux_calls.specs.View.{View, with_parts}

-- a byte after a change
byte_changed : (change : Change) (from to : ℕ) (before after : PagesValue) (swap : Swap) → AreChanged change (is_in from to) before after → (addr : ℕ)
    → bytes_after change from to (byte_of before swap) addr ≡ byte_of after swap addr
byte_changed (Map perms file) from to before after swap are addr = here (is_in from to (addr / page_size)) refl
  where
    here : (b : Bool) → is_in from to (addr / page_size) ≡ b → cond b 0 (byte_of before swap addr) ≡ byte_of after swap addr
    here true e = let inside = are.inside (addr / page_size) e in sym (inside.bytes swap addr refl)
    here false e = let outside = are.outside (addr / page_size) e in sym (outside.kept.bytes swap addr refl)
byte_changed Unmap from to before after swap are addr = here (is_in from to (addr / page_size)) refl
  where
    here : (b : Bool) → is_in from to (addr / page_size) ≡ b → cond b 0 (byte_of before swap addr) ≡ byte_of after swap addr
    here true e = let inside = are.inside (addr / page_size) e in sym (inside.bytes swap addr refl)
    here false e = let outside = are.outside (addr / page_size) e in sym (outside.kept.bytes swap addr refl)
byte_changed (Protect perms) from to before after swap are addr = here (is_in from to (addr / page_size)) refl
  where
    here : (b : Bool) → is_in from to (addr / page_size) ≡ b → byte_of before swap addr ≡ byte_of after swap addr
    here true e = let inside = are.inside (addr / page_size) e in sym (inside.kept.bytes swap addr refl)
    here false e = let outside = are.outside (addr / page_size) e in sym (outside.kept.bytes swap addr refl)

-- memory after a change
pub memory_changed : (change : Change) (from to : ℕ) (before after : PagesValue) (old new : List Region) (swap : Swap) → IsChange change from to old new before after → FitPages after new
    → record { perms = λ page. perms_of (nature_at (changed_regions change from to old) page); byte = bytes_after change from to (memory_of before swap).byte } ≡ memory_of after swap
unfolding memory_of
memory_changed change from to before after old new swap is fit =
    let list = is.regions.list in
    let perms : (page : ℕ) → perms_of (nature_at (changed_regions change from to old) page) ≡ perms_in (table_of after) page =
    λ page. ap (λ (regions : List Region). perms_of (nature_at regions page)) (sym list) ∙ fit.perms.perms_are page in
    let byte : (addr : ℕ) → bytes_after change from to (byte_of before swap) addr ≡ byte_of after swap addr = byte_changed change from to before after swap is.pages in
    λ i. record { perms = λ page. perms page i; byte = λ addr. byte addr i }

-- the parts of a world that a change touches, in their places
in_place : World → Memory → List Region → (pages heap at : ℕ) → World
in_place w memory regions pages heap at =
    record w { state = record w.state { memory = memory }; regions = regions; pages = pages; heap_start = heap; break_at = at }

pub world_changed : (v : View) (change : Change) (from to : ℕ) (pages : PagesValue) (regions : RegionsValue) (swap : Swap) (base : World)
    → IsChange change from to v.regions.regions regions.regions v.pages pages → FitPages pages regions.regions → regions.heap ≡ v.regions.heap
    → record (with_change change from to (with_parts swap v base)) { break_at = regions.at } ≡ with_parts swap (record v { pages = pages; regions = regions }) base
unfolding in_place
world_changed v change from to pages regions swap base is fit heap =
    let w = with_parts swap v base in
    let memory = memory_changed change from to v.pages pages v.regions.regions regions.regions swap is fit in
    ap (λ (m : Memory). in_place w m (changed_regions change from to v.regions.regions) (length v.pages.slots) v.regions.heap regions.at) memory
    ∙ ap (λ (rs : List Region). in_place w (memory_of pages swap) rs (length v.pages.slots) v.regions.heap regions.at) (sym is.regions.list)
    ∙ ap (λ (n : ℕ). in_place w (memory_of pages swap) regions.regions n v.regions.heap regions.at) (sym is.pages.size.pages)
    ∙ ap (λ (n : ℕ). in_place w (memory_of pages swap) regions.regions (length pages.slots) n regions.at) (sym heap)

-- where the break stays
pub world_changed_below : (v : View) (change : Change) (from to : ℕ) (pages : PagesValue) (regions : RegionsValue) (swap : Swap) (base : World)
    → IsChange change from to v.regions.regions regions.regions v.pages pages → FitPages pages regions.regions → regions.heap ≡ v.regions.heap → regions.at ≡ v.regions.at
    → with_change change from to (with_parts swap v base) ≡ with_parts swap (record v { pages = pages; regions = regions }) base
world_changed_below v change from to pages regions swap base is fit heap at =
    ap (λ (n : ℕ). let changed = with_change change from to (with_parts swap v base) in record changed { break_at = n }) (sym at)
    ∙ world_changed v change from to pages regions swap base is fit heap

-- where only the break moves
pub world_level : (v : View) (pages : PagesValue) (regions : RegionsValue) (swap : Swap) (base : World)
    → regions.regions ≡ v.regions.regions → pages ≡ v.pages → regions.heap ≡ v.regions.heap
    → (let w = with_parts swap v base in record w { break_at = regions.at }) ≡ with_parts swap (record v { pages = pages; regions = regions }) base
unfolding in_place
world_level v pages regions swap base list same heap =
    let w = with_parts swap v base in
    ap (λ (p : PagesValue). in_place w (memory_of p swap) v.regions.regions (length p.slots) v.regions.heap regions.at) (sym same)
    ∙ ap (λ (rs : List Region). in_place w (memory_of pages swap) rs (length pages.slots) v.regions.heap regions.at) (sym list)
    ∙ ap (λ (n : ℕ). in_place w (memory_of pages swap) regions.regions (length pages.slots) n regions.at) (sym heap)

-- The calls on the pages of memory.
use Rattle.std.proofs.Common.{◌≡◌, ℕ, ◌+◌, ◌-◌, ◌*◌, ◌/◌, ◌%◌, ◌≤◌, ◌<◌, ◌==◌, true, false, not, ◌⊎◌, inl, inr, length, Ok, Err, refl}
use Rattle.std.proofs.Common.{sym, ap, ◌∙◌, arith}
use Rattle.std.proofs.lemmas.Bool.{lt-ltb, le-ltb, cases_lt, ne_eqb}
use Rattle.machine_state.specs.Memory.{Swap, page_size}
use Rattle.machine_state.specs.World.{World}
use Rattle.machine_state.specs.declared.permissions.Perms.{Perms}
use Rattle.guest_pages.specs.Pages.{PagesValue}
use Rattle.region_map.specs.declared.kinds.Change.TheVariants.{Unmap, Protect}
use Rattle.region_map.specs.declared.kinds.ProtectFault.{ProtectFault}
use Rattle.region_map.specs.declared.kinds.ProtectFault.TheVariants.{Hole, Full as FullOfParts}
use Rattle.region_map.specs.declared.kinds.BreakFault.{BreakFault}
use Rattle.region_map.specs.declared.kinds.BreakFault.TheVariants.{Below, Taken, Full as FullOfHeap}
use Rattle.region_map.specs.Ranges.{changed_regions}
use Rattle.region_map.specs.Calls.{RegionsValue, FitPages, IsChange, NoneIn, IsFirst, PassLimits, IsProtectFault, IsBreakFault, IsResized}
use Rattle.region_map.specs.Calls.{HeapPasses, heap_pages, is_mapped, is_taken, highest_end, pages_up}
use Rattle.linux_calls.specs.Errnos.{enomem}
use Rattle.linux_calls.specs.Call.{gives, rdi, rsi}
use Rattle.linux_calls.specs.Mapping.{protected, unmapped, some_in, break_stays, resized, resize_passes, mprotect_call, brk_call}
use Rattle.linux_calls.specs.View.{View, with_parts}
use Rattle.linux_calls.specs.Following.{DoesAtOnce}
use Rattle.linux_calls.proofs.RangeLemmas.{scan, none_some, one_some, no_hole, one_hole, high_hole, limits_passed, limits_kept, pages_some}
use Rattle.linux_calls.proofs.ChangeLemmas.{world_changed, world_changed_below, world_level}

-- ---- mprotect
module _ (v : View) (perms : Perms) (from count : ℕ) (low : from + count ≤ highest_end) where
  abbrev Never : Type 0
  Never = (fault : ProtectFault) → IsProtectFault v.regions.regions v.pages perms from (from + count) fault → ⊥

  none_unmapped : Never → NoneIn (λ page. not (is_mapped v.regions.regions page)) from (from + count)
  none_unmapped never = here (scan (λ page. not (is_mapped v.regions.regions page)) from count)
    where
      here : ((page : ℕ) × IsFirst (λ p. not (is_mapped v.regions.regions p)) from (from + count) page) ⊎ NoneIn (λ page. not (is_mapped v.regions.regions page)) from (from + count)
          → NoneIn (λ page. not (is_mapped v.regions.regions page)) from (from + count)
      here (inl found) = absurd (never (Hole (found.0 * page_size)) (found.0, refl, found.1))
      here (inr none) = none

  pub protected_done : (pages : PagesValue) (regions : RegionsValue) → Never → IsChange (Protect perms) from (from + count) v.regions.regions regions.regions v.pages pages
      → FitPages pages regions.regions → regions.heap ≡ v.regions.heap → regions.at ≡ v.regions.at
      → DoesAtOnce (protected perms from count) v (record v { pages = pages; regions = regions }) (Ok 0)
  unfolding protected
  protected_done pages regions never is fit heap at swap base =
      let none = none_unmapped never in
      let hole = no_hole v.regions.regions from count low none in
      let limits = limits_kept v.pages (changed_regions (Protect perms) from (from + count) v.regions.regions) (λ pass. never FullOfParts (none, pass)) in
      rw (hole, limits) (ap (gives 0) (world_changed_below v (Protect perms) from (from + count) pages regions swap base is fit heap at))

  refused_by : (fault : ProtectFault) → IsProtectFault v.regions.regions v.pages perms from (from + count) fault → DoesAtOnce (protected perms from count) v v (Err enomem)
  unfolding protected
  refused_by (Hole addr) fault swap base = rw (one_hole v.regions.regions from count fault.0 fault.2) refl
  refused_by FullOfParts fault swap base =
      let hole = no_hole v.regions.regions from count low fault.0 in
      let limits = limits_passed v.pages (changed_regions (Protect perms) from (from + count) v.regions.regions) fault.1 in
      rw (hole, limits) refl

  pub protected_refused : (pages : PagesValue) (regions : RegionsValue) (fault : ProtectFault) → IsProtectFault v.regions.regions v.pages perms from (from + count) fault
      → regions ≡ v.regions → pages ≡ v.pages → DoesAtOnce (protected perms from count) v (record v { pages = pages; regions = regions }) (Err enomem)
  protected_refused pages regions fault is same_regions same_pages = rw (same_regions, same_pages) (refused_by fault is)

-- ---- munmap
module _ (v : View) (from to : ℕ) where
  pub unmapped_done : (pages : PagesValue) (regions : RegionsValue) → (PassLimits v.pages (changed_regions Unmap from to v.regions.regions) → ⊥)
      → IsChange Unmap from to v.regions.regions regions.regions v.pages pages
      → FitPages pages regions.regions → regions.heap ≡ v.regions.heap → regions.at ≡ v.regions.at
      → DoesAtOnce (unmapped from to) v (record v { pages = pages; regions = regions }) (Ok 0)
  unfolding unmapped
  unmapped_done pages regions never is fit heap at swap base =
      rw (limits_kept v.pages (changed_regions Unmap from to v.regions.regions) never)
      (ap (gives 0) (world_changed_below v Unmap from to pages regions swap base is fit heap at))

  pub unmapped_refused : (pages : PagesValue) (regions : RegionsValue) → PassLimits v.pages (changed_regions Unmap from to v.regions.regions)
      → regions ≡ v.regions → pages ≡ v.pages → DoesAtOnce (unmapped from to) v (record v { pages = pages; regions = regions }) (Err enomem)
  unfolding unmapped
  unmapped_refused pages regions pass same_regions same_pages =
      rw (same_regions, same_pages) (λ swap base. rw (limits_passed v.pages (changed_regions Unmap from to v.regions.regions) pass) refl)

-- a range that passes the last page
pub mprotect_high : (v : View) → rdi v.gprs % page_size ≡ 0 → 0 < rsi v.gprs → highest_end < rdi v.gprs / page_size + pages_up (rsi v.gprs)
    → DoesAtOnce mprotect_call v v (Err enomem)
unfolding mprotect_call protected
mprotect_high v page some high swap base =
    let some_pages : 0 < pages_up (rsi v.gprs) = pages_some (rsi v.gprs) some in
    let zero_not : (rsi v.gprs == 0) ≡ false = ne_eqb (rsi v.gprs) 0 (λ e. omega (arith, e)) in
    rw (page, zero_not, high_hole v.regions.regions (rdi v.gprs / page_size) (pages_up (rsi v.gprs)) some_pages high) refl

-- ---- brk
module _ (v : View) (to : ℕ) where
  abbrev BreakNever : Type 0
  BreakNever = (fault : BreakFault) → IsBreakFault v.regions v.pages to fault → ⊥

  abbrev old_end : ℕ
  old_end = pages_up v.regions.at

  abbrev new_end : ℕ
  new_end = pages_up to

  none_taken : NoneIn (is_taken v.regions.regions) old_end new_end → some_in (is_taken v.regions.regions) old_end (new_end - old_end) ≡ false
  none_taken none = none_some (is_taken v.regions.regions) old_end (new_end - old_end) (λ page above below. none page above (omega arith))

  above_heap : BreakNever → v.regions.heap ≤ to
  above_heap never = here (cases_lt to v.regions.heap)
    where
      here : (to < v.regions.heap) ⊎ (v.regions.heap ≤ to) → v.regions.heap ≤ to
      here (inl below) = absurd (never Below below)
      here (inr above) = above

  free_growth : BreakNever → v.regions.heap ≤ to → NoneIn (is_taken v.regions.regions) old_end new_end
  free_growth never above = here (scan (is_taken v.regions.regions) old_end (new_end - old_end))
    where
      here : ((page : ℕ) × IsFirst (is_taken v.regions.regions) old_end (old_end + (new_end - old_end)) page) ⊎ NoneIn (is_taken v.regions.regions) old_end (old_end + (new_end - old_end))
          → NoneIn (is_taken v.regions.regions) old_end new_end
      here (inl found) = absurd (
          let f = found.1 in
          never (Taken (found.0 * page_size)) (
            above,
            (
              found.0,
              refl,
              record { above = f.above; below = (let a = f.above in let b = f.below in omega arith); passes = f.passes; before = f.before },
            ),
          )
          )
      here (inr none) = λ page low high. none page low (omega arith)

  resize_kept : (HeapPasses v.pages old_end new_end v.regions.regions → ⊥) → resize_passes (length v.pages.slots) v.regions.regions old_end new_end ≡ false
  resize_kept never = here (cases_lt old_end new_end) (cases_lt new_end old_end)
    where
      here : (old_end < new_end) ⊎ (new_end ≤ old_end) → (new_end < old_end) ⊎ (old_end ≤ new_end) → resize_passes (length v.pages.slots) v.regions.regions old_end new_end ≡ false
      here (inl up) other =
          rw (lt-ltb old_end new_end up, le-ltb new_end old_end (omega arith), limits_kept v.pages (changed_regions heap_pages old_end new_end v.regions.regions) (λ pass. never (inl (up, pass)))) refl
      here (inr not_up) (inl down) =
          rw (le-ltb old_end new_end not_up, lt-ltb new_end old_end down, limits_kept v.pages (changed_regions Unmap new_end old_end v.regions.regions) (λ pass. never (inr (down, pass)))) refl
      here (inr not_up) (inr not_down) = rw (le-ltb old_end new_end not_up, le-ltb new_end old_end not_down) refl

  resize_passed : HeapPasses v.pages old_end new_end v.regions.regions → resize_passes (length v.pages.slots) v.regions.regions old_end new_end ≡ true
  resize_passed (inl up) = rw (lt-ltb old_end new_end up.0, limits_passed v.pages (changed_regions heap_pages old_end new_end v.regions.regions) up.1) refl
  resize_passed (inr down) =
      let lt = down.0 in
      rw (le-ltb old_end new_end (omega arith), lt-ltb new_end old_end down.0, limits_passed v.pages (changed_regions Unmap new_end old_end v.regions.regions) down.1) refl

  resized_world : (pages : PagesValue) (regions : RegionsValue) (swap : Swap) (base : World)
      → IsResized old_end new_end v.regions.regions regions.regions v.pages pages → FitPages pages regions.regions → regions.heap ≡ v.regions.heap
      → (let moved = resized (with_parts swap v base) old_end new_end in record moved { break_at = regions.at }) ≡ with_parts swap (record v { pages = pages; regions = regions }) base
  resized_world pages regions swap base is fit heap = here (cases_lt old_end new_end) (cases_lt new_end old_end)
    where
      here : (old_end < new_end) ⊎ (new_end ≤ old_end) → (new_end < old_end) ⊎ (old_end ≤ new_end)
          → (let moved = resized (with_parts swap v base) old_end new_end in record moved { break_at = regions.at }) ≡ with_parts swap (record v { pages = pages; regions = regions }) base
      here (inl up) other = rw (lt-ltb old_end new_end up) (world_changed v heap_pages old_end new_end pages regions swap base (is.up up) fit heap)
      here (inr not_up) (inl down) =
          rw (le-ltb old_end new_end not_up, lt-ltb new_end old_end down) (world_changed v Unmap new_end old_end pages regions swap base (is.down down) fit heap)
      here (inr not_up) (inr not_down) =
          let level = is.level (omega arith) in
          rw (le-ltb old_end new_end not_up, le-ltb new_end old_end not_down) (world_level v pages regions swap base level.0 level.1 heap)

  pub brk_done : (pages : PagesValue) (regions : RegionsValue) → rdi v.gprs ≡ to → BreakNever → IsResized old_end new_end v.regions.regions regions.regions v.pages pages
      → FitPages pages regions.regions → regions.heap ≡ v.regions.heap → regions.at ≡ to
      → DoesAtOnce brk_call v (record v { pages = pages; regions = regions }) (Ok to)
  unfolding brk_call
  brk_done pages regions is_to never is fit heap at swap base =
      let above = above_heap never in
      let none = free_growth never above in
      rw (is_to, le-ltb to v.regions.heap above, none_taken none, resize_kept (λ pass. never FullOfHeap (above, none, pass)))
      (ap (λ (n : ℕ). let moved = resized (with_parts swap v base) old_end new_end in gives to (record moved { break_at = n })) (sym at)
      ∙ ap (gives to) (resized_world pages regions swap base is fit heap))

  stays_by : (fault : BreakFault) (swap : Swap) (base : World) → IsBreakFault v.regions v.pages to fault → break_stays (with_parts swap v base) to ≡ true
  stays_by Below swap base fault = rw (lt-ltb to v.regions.heap fault) refl
  stays_by (Taken addr) swap base fault =
      let found = fault.1 in
      let f = found.2 in
      let a = f.above in
      let b = f.below in
      rw (le-ltb to v.regions.heap fault.0, one_some (is_taken v.regions.regions) old_end (new_end - old_end) found.0 f.above (omega arith) f.passes) refl
  stays_by FullOfHeap swap base fault = rw (le-ltb to v.regions.heap fault.0, none_taken fault.1, resize_passed fault.2) refl

  pub brk_stays : (pages : PagesValue) (regions : RegionsValue) (fault : BreakFault) (value : ℕ) → rdi v.gprs ≡ to → IsBreakFault v.regions v.pages to fault
      → regions ≡ v.regions → pages ≡ v.pages → value ≡ regions.at → DoesAtOnce brk_call v (record v { pages = pages; regions = regions }) (Ok value)
  unfolding brk_call
  brk_stays pages regions fault value is_to is same_regions same_pages at swap base =
      rw (at, same_regions, same_pages, is_to, stays_by fault swap base is) refl

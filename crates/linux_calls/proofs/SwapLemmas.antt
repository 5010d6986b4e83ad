-- What joins pages and a swap, through the changes of pages that calls make.
use Rattle.std.proofs.Common.{ℕ, ◌≤◌, ◌<◌, ◌⊎◌, inl, inr, List, arith, subst, sym}
use Rattle.std.proofs.lemmas.Bool.{cases_lt}
use Rattle.machine_state.specs.declared.kinds.Region.{Region}
use Rattle.guest_pages.specs.Pages.{PagesValue}
use Rattle.guest_pages.specs.Changes.{KeepsTable, IsMapped, IsWritten}
use Rattle.guest_pages.proofs.Carries.{keeps_written}
use Rattle.guest_pages.proofs.Togethers.{clean_table, clean_mapped, none_table, none_mapped}
use Rattle.region_map.specs.declared.kinds.Change.{Change}
use Rattle.region_map.specs.declared.kinds.Change.TheVariants.{Unmap}
use Rattle.region_map.specs.Calls.{IsChange, IsResized, heap_pages}
use Rattle.region_map.specs.Ranges.{is_in}
use Rattle.region_map.proofs.Swaps.{clean_changed, none_changed}
use Rattle.linux_calls.specs.Units.{KeepsSwap}

pub swap_same : (pages : PagesValue) → KeepsSwap pages pages
swap_same pages = record { clean = λ swap clean. clean; none = λ none. none }

pub swap_then : (old mid new : PagesValue) → KeepsSwap old mid → KeepsSwap mid new → KeepsSwap old new
swap_then old mid new before after = record { clean = λ swap clean. after.clean swap (before.clean swap clean); none = λ none. after.none (before.none none) }

pub swap_table : (old new : PagesValue) → KeepsTable old new → KeepsSwap old new
swap_table old new keeps = record { clean = λ swap clean. clean_table old new swap keeps clean; none = λ none. none_table old new keeps none }

pub swap_written : (old new : PagesValue) (addr : ℕ) (bytes : List ℕ) → IsWritten old new addr bytes → KeepsSwap old new
swap_written old new addr bytes is = swap_table old new (keeps_written old new addr bytes is)

pub swap_mapped : (old new : PagesValue) (page perms : ℕ) → IsMapped old new page perms → KeepsSwap old new
swap_mapped old new page perms is = record { clean = λ swap clean. clean_mapped old new swap page perms is clean; none = λ none. none_mapped old new page perms is none }

pub swap_changed : (change : Change) (from to : ℕ) (old new : List Region) (before after : PagesValue) → IsChange change from to old new before after → KeepsSwap before after
swap_changed change from to old new before after is = record {
  clean = λ swap clean. clean_changed change (is_in from to) before after swap is.pages clean;
  none = λ none. none_changed change (is_in from to) before after is.pages none;
}

pub swap_resized : (old_end new_end : ℕ) (old new : List Region) (before after : PagesValue) → IsResized old_end new_end old new before after → KeepsSwap before after
swap_resized old_end new_end old new before after is = by_end (cases_lt old_end new_end) (cases_lt new_end old_end)
  where
    by_end : (old_end < new_end) ⊎ (new_end ≤ old_end) → (new_end < old_end) ⊎ (old_end ≤ new_end) → KeepsSwap before after
    by_end (inl up) other = swap_changed heap_pages old_end new_end old new before after (is.up up)
    by_end (inr not_up) (inl down) = swap_changed Unmap new_end old_end old new before after (is.down down)
    by_end (inr not_up) (inr not_down) = let level = is.level (omega arith) in subst (λ (p : PagesValue). KeepsSwap before p) (sym level.1) (swap_same before)

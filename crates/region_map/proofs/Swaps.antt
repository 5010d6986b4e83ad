-- What joins the pages and a swap, where a range of pages changes.
use Rattle.std.proofs.Common.{◌≡◌, ℕ, ◌/◌, ◌%◌, Bool, true, false, Some, refl, sym, ◌∙◌}
use Rattle.std.proofs.lemmas.Bool.{false≢true}
use Rattle.machine_state.specs.Memory.{page_size, Swap}
use Rattle.guest_pages.specs.Table.{Mapped}
use Rattle.guest_pages.specs.Pages.{PagesValue, table_of, byte_of, mark_of}
use Rattle.guest_pages.specs.Changes.{away_byte, is_kept}
use Rattle.guest_pages.specs.Together.{AreClean, NoneSwapped, is_clean}
use Rattle.guest_pages.proofs.Togethers.{clean_kept, perms_slot, none_same, ones, zeros}
use Rattle.region_map.specs.declared.kinds.Change.{Change}
use Rattle.region_map.specs.declared.kinds.Change.TheVariants.{Map, Unmap, Protect}
use Rattle.region_map.specs.Changes.{Stays, IsChanged, AreChanged}

-- a page that stays
clean_stays : (old new : PagesValue) (swap : Swap) (page : ℕ) (mapped : Mapped) → AreClean old swap → Stays old new page → table_of new page ≡ Some mapped
    → is_clean (mark_of new page) ≡ true → (addr : ℕ) → addr / page_size ≡ page
    → byte_of new swap addr ≡ away_byte (is_kept (mark_of new page)) (swap mapped.slot) (addr % page_size)
clean_stays old new swap page mapped clean stays is unwritten addr on =
    clean_kept old new swap page mapped mapped clean (sym stays.table ∙ is) refl stays.kept unwritten addr on

-- and one that is changed
clean_change : (change : Change) (old new : PagesValue) (swap : Swap) (page : ℕ) (mapped : Mapped) → AreClean old swap → IsChanged change old new page
    → table_of new page ≡ Some mapped → is_clean (mark_of new page) ≡ true → (addr : ℕ) → addr / page_size ≡ page
    → byte_of new swap addr ≡ away_byte (is_kept (mark_of new page)) (swap mapped.slot) (addr % page_size)
clean_change (Map perms file) old new swap page mapped clean fresh is unwritten addr on =
    let mark = fresh.mark in absurd (false≢true (rw mark at unwritten))
clean_change Unmap old new swap page mapped clean gone is unwritten addr on = let mark = gone.mark in absurd (false≢true (rw mark at unwritten))
clean_change (Protect perms) old new swap page mapped clean has is unwritten addr on =
    let before = perms_slot perms.0 (table_of old page) mapped (sym has.table ∙ is) in
    clean_kept old new swap page before.0 mapped clean before.1 before.2 has.kept unwritten addr on

pub clean_changed : (change : Change) (which : ℕ → Bool) (old new : PagesValue) (swap : Swap) → AreChanged change which old new → AreClean old swap → AreClean new swap
clean_changed change which old new swap are clean = record { clean = λ page mapped is unwritten addr on. here page mapped is unwritten addr on (which page) refl }
  where
    here : (page : ℕ) (mapped : Mapped) → table_of new page ≡ Some mapped → is_clean (mark_of new page) ≡ true → (addr : ℕ) → addr / page_size ≡ page → (b : Bool) → which page ≡ b
        → byte_of new swap addr ≡ away_byte (is_kept (mark_of new page)) (swap mapped.slot) (addr % page_size)
    here page mapped is unwritten addr on true e = clean_change change old new swap page mapped clean (are.inside page e) is unwritten addr on
    here page mapped is unwritten addr on false e = clean_stays old new swap page mapped clean (are.outside page e) is unwritten addr on

-- no page gets to the swap: each shows the same whatever the swap holds
same_change : (change : Change) (old new : PagesValue) (page : ℕ) → IsChanged change old new page → (addr : ℕ) → addr / page_size ≡ page
    → byte_of old ones addr ≡ byte_of old zeros addr → byte_of new ones addr ≡ byte_of new zeros addr
same_change (Map perms file) old new page fresh addr on same = fresh.bytes ones addr on ∙ sym (fresh.bytes zeros addr on)
same_change Unmap old new page gone addr on same = gone.bytes ones addr on ∙ sym (gone.bytes zeros addr on)
same_change (Protect perms) old new page has addr on same = has.kept.bytes ones addr on ∙ same ∙ sym (has.kept.bytes zeros addr on)

pub none_changed : (change : Change) (which : ℕ → Bool) (old new : PagesValue) → AreChanged change which old new → NoneSwapped old → NoneSwapped new
none_changed change which old new are none = none_same old new none (λ addr same. here addr same (which (addr / page_size)) refl)
  where
    here : (addr : ℕ) → byte_of old ones addr ≡ byte_of old zeros addr → (b : Bool) → which (addr / page_size) ≡ b → byte_of new ones addr ≡ byte_of new zeros addr
    here addr same true e = same_change change old new (addr / page_size) (are.inside (addr / page_size) e) addr refl same
    here addr same false e =
        let stays = are.outside (addr / page_size) e in
        stays.kept.bytes ones addr refl ∙ same ∙ sym (stays.kept.bytes zeros addr refl)

-- Pages that become zeros.
use Rattle.std.proofs.Common.{◌≡◌, ◌≢◌, ℕ, ◌+◌, ◌/◌, ◌≤◌, ◌<◌, ◌==◌, Bool, true, false, cond, ◌||◌, not, ◌⊎◌, inl, inr, List, length}
use Rattle.std.proofs.Common.{Option, Some, None, IsSome, is_some, Ok, refl, sym, ap, ◌∙◌, subst, arith, add-zero, nat_le, eq-eqb}
use Rattle.std.proofs.lemmas.Bool.{cases_lt, cases_eq, ne_eqb, le-leb}
use Rattle.std.proofs.lemmas.Bool.Decides.{nat_tests}
use Rattle.std.specs.Option.{option_map}
use Rattle.machine_state.specs.Memory.{Swap, Memory, page_size}
use Rattle.machine_state.specs.Regions.{Nature, nature_at, perms_of}
use Rattle.machine_state.specs.World.{World}
use Rattle.machine_state.specs.declared.kinds.Region.{Region}
use Rattle.guest_pages.specs.Table.{Mapped, Table, perms_in}
use Rattle.guest_pages.specs.Pages.{PagesValue, table_of, byte_of, memory_of}
use Rattle.guest_pages.specs.Changes.{IsMapped, IsZeroed}
use Rattle.region_map.specs.Ranges.{is_in}
use Rattle.region_map.specs.Calls.{NoneIn, IsFirst, FitPages, is_mapped, highest_end}
use Rattle.linux_calls.specs.Call.{gives}
use Rattle.linux_calls.specs.Parts.{cleared}
use Rattle.linux_calls.specs.Mapping.{some_in, is_hole, is_file_page, discarded, with_zeros}
use Rattle.linux_calls.specs.View.{View, with_parts}
use Rattle.linux_calls.specs.Following.{AreZeroed, DoesAtOnce}
use Rattle.linux_calls.proofs.RangeLemmas.{scan, one_some}
use Rattle.linux_calls.proofs.SwapLemmas.{swap_same, swap_then, swap_mapped}

-- no page passes the test
pub some_none : (test : ℕ → Bool) (from count : ℕ) → some_in test from count ≡ false → NoneIn test from (from + count)
some_none test from count e = here (scan test from count)
  where
    here : ((page : ℕ) × IsFirst test from (from + count) page) ⊎ NoneIn test from (from + count) → NoneIn test from (from + count)
    here (inl found) = let f = found.1 in absurd (let yes_some : some_in test from count ≡ true = one_some test from count found.0 f.above f.below f.passes in cc)
    here (inr none) = none

-- a page that is no hole is mapped, and one that a guest may choose
pub not_hole : (regions : List Region) (page : ℕ) → is_hole regions page ≡ false → (is_mapped regions page ≡ true) × (page < highest_end)
not_hole regions page e = here (is_mapped regions page) (cases_lt page highest_end) e
  where
    here : (b : Bool) → (page < highest_end) ⊎ (highest_end ≤ page) → (not b || nat_le highest_end page) ≡ false → (b ≡ true) × (page < highest_end)
    here true (inl low) h = (refl, low)
    here true (inr high) h = absurd (let above : nat_le highest_end page ≡ true = le-leb highest_end page high in cc)
    here false other h = cc

pub mapped_there : (pages : PagesValue) (regions : List Region) (page : ℕ) → FitPages pages regions → is_mapped regions page ≡ true → IsSome (perms_in (table_of pages) page)
mapped_there pages regions page fit is = subst (λ (o : Option ℕ). IsSome o) (fit.perms.perms_are page) (here (nature_at regions page) is)
  where
    here : (n : Option Nature) → is_some n ≡ true → IsSome (perms_of n)
    here None e = cc
    here (Some nature) e = refl

-- ---- one page more
perms_after : (old new : PagesValue) (page : ℕ) (mapped : Mapped) → table_of old page ≡ Some mapped → IsMapped old new page mapped.perms → (other : ℕ)
    → perms_in (table_of new) other ≡ perms_in (table_of old) other
perms_after old new page mapped is m other = here (cases_eq other page)
  where
    here : (other ≡ page) ⊎ (other ≢ page) → perms_in (table_of new) other ≡ perms_in (table_of old) other
    here (inl same) =
        let self : (other == page) ≡ true = eq-eqb other page same in
        ap (λ (t : Table). perms_in t other) m.table
        ∙ rw self (ap (λ (n : ℕ). let o : Option ℕ = Some n in o) m.perms_are ∙ sym (ap (λ (o : Option Mapped). option_map (λ m. m.perms) o) (ap (table_of old) same ∙ is)))
    here (inr apart) = rw (m.table, ne_eqb other page apart) refl

cleared_more : (from page at byte : ℕ) → from ≤ page → cond (at == page) 0 (cond (is_in from page at) 0 byte) ≡ cond (is_in from (page + 1) at) 0 byte
cleared_more from page at byte le = grind (arith, nat_tests)

pub zeroed_more : (from page : ℕ) (old mid new : PagesValue) (mapped : Mapped) → from ≤ page → AreZeroed from page old mid → table_of mid page ≡ Some mapped
    → IsMapped mid new page mapped.perms → AreZeroed from (page + 1) old new
zeroed_more from page old mid new mapped le are is m = record {
  size = record { frames = m.size.frames ∙ are.size.frames; pages = m.size.pages ∙ are.size.pages };
  perms = λ other. perms_after mid new page mapped is m other ∙ are.perms other;
  byte = λ swap addr.
      ap (λ (f : ℕ → ℕ). f addr) (m.byte swap) ∙ ap (λ (b : ℕ). cond (addr / page_size == page) 0 b) (are.byte swap addr)
      ∙ cleared_more from page (addr / page_size) (byte_of old swap addr) le;
  count = m.count ∙ (rw (is, add-zero) refl) ∙ are.count;
  swap = swap_then old mid new are.swap (swap_mapped mid new page mapped.perms m);
}

pub zeroed_step : (from page : ℕ) (old mid new : PagesValue) → from ≤ page → AreZeroed from page old mid → IsSome (perms_in (table_of old) page)
    → IsZeroed mid new page → AreZeroed from (page + 1) old new
zeroed_step from page old mid new le are some is = here (table_of mid page) refl
  where
    here : (o : Option Mapped) → table_of mid page ≡ o → AreZeroed from (page + 1) old new
    here None e =
        absurd (let gone : perms_in (table_of old) page ≡ None = sym (are.perms page) ∙ ap (λ (o : Option Mapped). option_map (λ m. m.perms) o) e in
        let never : IsSome {T = ℕ} None = subst (λ (o : Option ℕ). IsSome o) gone some in cc)
    here (Some mapped) e = zeroed_more from page old mid new mapped le are e (is mapped e)

pub zeroed_none : (from : ℕ) (pages : PagesValue) → AreZeroed from from pages pages
zeroed_none from pages = record {
  size = record { frames = refl; pages = refl };
  perms = λ page. refl;
  byte = λ swap addr. outside from (addr / page_size) (byte_of pages swap addr);
  count = refl;
  swap = swap_same pages;
}
  where
    outside : (from at byte : ℕ) → byte ≡ cond (is_in from from at) 0 byte
    outside from at byte = grind (arith, nat_tests)

-- ---- the world
memory_zeroed : (from to : ℕ) (old new : PagesValue) (swap : Swap) → AreZeroed from to old new
    → (let memory = memory_of old swap in record memory { byte = cleared from to memory.byte }) ≡ memory_of new swap
unfolding memory_of
memory_zeroed from to old new swap are =
    let perms : (page : ℕ) → perms_in (table_of old) page ≡ perms_in (table_of new) page = λ page. sym (are.perms page) in
    let byte : (addr : ℕ) → cleared from to (byte_of old swap) addr ≡ byte_of new swap addr = λ addr. sym (are.byte swap addr) in
    λ i. record { perms = λ page. perms page i; byte = λ addr. byte addr i }

in_place : World → Memory → ℕ → World
in_place w memory pages = record w { state = record w.state { memory = memory }; pages = pages }

world_zeroed : (v : View) (from to : ℕ) (pages : PagesValue) (swap : Swap) (base : World) → AreZeroed from to v.pages pages
    → with_zeros from to (with_parts swap v base) ≡ with_parts swap (record v { pages = pages }) base
unfolding in_place
world_zeroed v from to pages swap base are =
    let w = with_parts swap v base in
    ap (λ (m : Memory). in_place w m (length v.pages.slots)) (memory_zeroed from to v.pages pages swap are)
    ∙ ap (λ (n : ℕ). in_place w (memory_of pages swap) n) (sym are.size.pages)

pub discarded_done : (v : View) (from count : ℕ) (pages : PagesValue) → some_in (is_file_page v.regions.regions) from count ≡ false → AreZeroed from (from + count) v.pages pages
    → DoesAtOnce (discarded from count) v (record v { pages = pages }) (Ok 0)
unfolding discarded
discarded_done v from count pages none are swap base = rw none (ap (gives 0) (world_zeroed v from (from + count) pages swap base are))

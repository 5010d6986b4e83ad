-- Tests of the pages of a range.
use Rattle.std.proofs.Common.{◌≡◌, ℕ, zero, suc, ◌+◌, ◌≤◌, ◌<◌, Bool, true, false, ◌||◌, not, ◌⊎◌, inl, inr, List, length, refl, arith}
use Rattle.std.proofs.Common.{nat_le}
use Rattle.std.proofs.lemmas.Bool.{lt-ltb, le-ltb, cases_lt}
use Rattle.std.proofs.lemmas.Bool.Decides.{nat_tests}
use Rattle.machine_state.specs.declared.kinds.Region.{Region}
use Rattle.machine_state.specs.Regions.{page_sum, most_regions}
use Rattle.region_map.specs.Calls.{NoneIn, IsFirst, PassLimits, is_mapped, highest_end, pages_up}
use Rattle.guest_pages.specs.Pages.{PagesValue}
use Rattle.linux_calls.specs.Mapping.{some_in, is_hole}
use Rattle.linux_calls.specs.Parts.{passes_limits}

-- no page of a range passes the test
pub none_some : (test : ℕ → Bool) (from count : ℕ) → NoneIn test from (from + count) → some_in test from count ≡ false
none_some test from zero none = refl
none_some test from (suc count) none =
    let first : test from ≡ false = none from (omega arith) (omega arith) in
    rw first (none_some test (from + 1) count (λ page low high. none page (omega arith) (omega arith)))

-- a page of a range passes the test
pub one_some : (test : ℕ → Bool) (from count page : ℕ) → from ≤ page → page < from + count → test page ≡ true → some_in test from count ≡ true
one_some test from zero page low high is = absurd (omega arith)
one_some test from (suc count) page low high is =
    here (test from) refl (cases_lt from page) (λ later. one_some test (from + 1) count page (omega arith) (omega arith) is)
  where
    or_true : (b : Bool) → (b || true) ≡ true
    or_true true = refl
    or_true false = refl

    here : (b : Bool) → test from ≡ b → (from < page) ⊎ (page ≤ from) → (from < page → some_in test (from + 1) count ≡ true)
        → (b || some_in test (from + 1) count) ≡ true
    here true e where_is rest = refl
    here false e (inl later) rest = rest later
    here false e (inr first) rest =
        let same : from ≡ page = omega arith in
        absurd (let now : test from ≡ true = rw same is in cc)

-- either a page of a range is the first to pass the test, or none does
pub scan : (test : ℕ → Bool) (from count : ℕ) → ((page : ℕ) × IsFirst test from (from + count) page) ⊎ NoneIn test from (from + count)
scan test from zero = inr (λ page low high. absurd (omega arith))
scan test from (suc count) = here (test from) refl (scan test (from + 1) count)
  where
    Found : Type 0
    Found = ((page : ℕ) × IsFirst test from (from + suc count) page) ⊎ NoneIn test from (from + suc count)

    none_here : test from ≡ false → NoneIn test (from + 1) (from + 1 + count) → NoneIn test from (from + suc count)
    none_here e none page low high = either (cases_lt from page)
      where
        either : (from < page) ⊎ (page ≤ from) → test page ≡ false
        either (inl later) = none page (omega arith) (omega arith)
        either (inr first) = let same : page ≡ from = omega arith in rw same e

    before : (page : ℕ) → test from ≡ false → NoneIn test (from + 1) page → NoneIn test from page
    before page e none other low high = either (cases_lt from other)
      where
        either : (from < other) ⊎ (other ≤ from) → test other ≡ false
        either (inl later) = none other (omega arith) high
        either (inr first) = let same : other ≡ from = omega arith in rw same e

    here : (b : Bool) → test from ≡ b → ((page : ℕ) × IsFirst test (from + 1) (from + 1 + count) page) ⊎ NoneIn test (from + 1) (from + 1 + count)
        → ((page : ℕ) × IsFirst test from (from + suc count) page) ⊎ NoneIn test from (from + suc count)
    here true e rest = inl (from, record { above = omega arith; below = omega arith; passes = e; before = λ page low high. absurd (omega arith) })
    here false e (inl found) = inl (
      found.0,
      (let f = found.1 in record {
        above = (let a = f.above in omega arith);
        below = (let a = f.below in omega arith);
        passes = f.passes;
        before = before found.0 e f.before;
      }),
    )
    here false e (inr none) = inr (none_here e none)

-- ---- holes
hole_false : (regions : List Region) (page : ℕ) → not (is_mapped regions page) ≡ false → page < highest_end → is_hole regions page ≡ false
hole_false regions page mapped low = grind (arith, nat_tests, mapped)

pub no_hole : (regions : List Region) (from count : ℕ) → from + count ≤ highest_end → NoneIn (λ page. not (is_mapped regions page)) from (from + count)
    → some_in (is_hole regions) from count ≡ false
no_hole regions from count low none =
    none_some (is_hole regions) from count (λ page above below. hole_false regions page (none page above below) (omega arith))

hole_true : (regions : List Region) (page : ℕ) → not (is_mapped regions page) ≡ true → is_hole regions page ≡ true
hole_true regions page e = rw e refl

pub one_hole : (regions : List Region) (from count page : ℕ) → IsFirst (λ p. not (is_mapped regions p)) from (from + count) page
    → some_in (is_hole regions) from count ≡ true
one_hole regions from count page first = one_some (is_hole regions) from count page first.above first.below (hole_true regions page first.passes)

high_true : (b : Bool) (page : ℕ) → highest_end ≤ page → (b || nat_le highest_end page) ≡ true
high_true b page high = grind (arith, nat_tests)

-- a range that passes the last page that a guest may choose has a hole there
pub high_hole : (regions : List Region) (from count : ℕ) → 0 < count → highest_end < from + count → some_in (is_hole regions) from count ≡ true
high_hole regions from count some high = either (cases_lt from highest_end)
  where
    either : (from < highest_end) ⊎ (highest_end ≤ from) → some_in (is_hole regions) from count ≡ true
    either (inl low) = one_some (is_hole regions) from count highest_end (omega arith) high (high_true (not (is_mapped regions highest_end)) highest_end (omega arith))
    either (inr above) = one_some (is_hole regions) from count from (omega arith) (omega arith) (high_true (not (is_mapped regions from)) from above)

-- ---- limits
pub limits_passed : (pages : PagesValue) (regions : List Region) → PassLimits pages regions → passes_limits (length pages.slots) regions ≡ true
limits_passed pages regions (inl many) = rw (lt-ltb most_regions (length regions) many) refl
limits_passed pages regions (inr pass) = grind (arith, nat_tests, pass)

pub limits_kept : (pages : PagesValue) (regions : List Region) → (PassLimits pages regions → ⊥) → passes_limits (length pages.slots) regions ≡ false
limits_kept pages regions never = either (cases_lt most_regions (length regions)) (cases_lt (length pages.slots) (page_sum regions))
  where
    either : (most_regions < length regions) ⊎ (length regions ≤ most_regions) → (length pages.slots < page_sum regions) ⊎ (page_sum regions ≤ length pages.slots)
        → passes_limits (length pages.slots) regions ≡ false
    either (inl many) b = absurd (never (inl many))
    either (inr few) (inl pass) = absurd (never (inr pass))
    either (inr few) (inr fit) = rw (le-ltb most_regions (length regions) few, le-ltb (length pages.slots) (page_sum regions) fit) refl

-- a length has a page
pub pages_some : (len : ℕ) → 0 < len → 0 < pages_up len
pages_some len some = omega arith

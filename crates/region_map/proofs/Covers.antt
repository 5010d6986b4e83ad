-- The pages that regions have in a range, changed region by region.
use Rattle.std.proofs.Common.{◌≡◌, ℕ, ◌+◌, ◌≤◌, ◌<◌, Bool, true, false, cond, ◌&&◌, ◌||◌, List, [], ◌∷◌, ◌++◌, length, take, drop, get_or, min, max, Option, Some, None, is_some, IsSome, refl, sym, ◌∙◌, ap, subst, arith, ◌/◌, ◌%◌}
use Rattle.std.proofs.lemmas.Bool.Decides.{nat_tests}
use Rattle.std.proofs.lemmas.List.{take_more}
use Rattle.std.proofs.Math.ListN.{take-append-drop}
use Rattle.std.specs.Option.{option_map}
use Rattle.machine_state.specs.Memory.{page_size, Swap}
use Rattle.machine_state.specs.declared.kinds.Region.{Region}
use Rattle.machine_state.specs.Regions.{Nature, nature_of, end_of, has_page, nature_at, perms_of, FitRegions}
use Rattle.guest_pages.specs.Table.{Mapped, perms_in}
use Rattle.guest_pages.specs.Changes.{with_perms}
use Rattle.guest_pages.specs.Pages.{PagesValue, Seat, table_of, byte_of, mark_of, seek, seat_byte, mapped_of}
use Rattle.region_map.specs.declared.kinds.Change.{Change}
use Rattle.region_map.specs.declared.kinds.Change.TheVariants.{Map, Unmap, Protect}
use Rattle.region_map.specs.Ranges.{is_in}
use Rattle.region_map.specs.Changes.{Stays, IsChanged, AreChanged}
use Rattle.region_map.specs.Calls.{is_mapped}
use Rattle.region_map.specs.Lists.{CanChangeAll, MapsNone}
use Rattle.region_map.proofs.Left.{no_region, drop_here}
use Rattle.region_map.proofs.Natures.{or_nature, nature_at-append}
use Rattle.region_map.proofs.Paging.{change_none, change_both, change_same}

some_or : (n m : Option Nature) → is_some (or_nature n m) ≡ (is_some n || is_some m)
some_or None m = refl
some_or (Some n) m = refl

pub mapped_append : (xs ys : List Region) (page : ℕ) → is_mapped (xs ++ ys) page ≡ (is_mapped xs page || is_mapped ys page)
mapped_append xs ys page = ap (λ (n : Option Nature). is_some n) (nature_at-append xs ys page) ∙ some_or (nature_at xs page) (nature_at ys page)

mapped_one : (x : Region) (page : ℕ) → is_mapped (x ∷ []) page ≡ has_page x page
mapped_one x page = here (has_page x page)
  where
    here : (b : Bool) → is_some (cond b (Some (nature_of x)) None) ≡ b
    here true = refl
    here false = refl

span_in : (from to first end : ℕ) (x : Region) (page : ℕ) → first ≡ max x.first from → end ≡ min (end_of x) to → is_in first end page ≡ (is_in from to page && has_page x page)
span_in from to first end x page e f = grind (arith, nat_tests)

span_out : (from to : ℕ) (x : Region) (page : ℕ) → min (end_of x) to ≤ max x.first from → (is_in from to page && has_page x page) ≡ false
span_out from to x page h = grind (arith, nat_tests)

spread : (a b c : Bool) → (a && (b || c)) ≡ ((a && b) || (a && c))
spread true b c = refl
spread false b c = refl

or_false : (a : Bool) → (a || false) ≡ a
or_false true = refl
or_false false = refl

abbrev pub covered : (from to : ℕ) → List Region → ℕ → Bool
covered from to xs page = is_in from to page && is_mapped xs page

covered_more : (from to : ℕ) (xs : List Region) (i page : ℕ) → i < length xs
    → covered from to (take (i + 1) xs) page ≡ (covered from to (take i xs) page || (is_in from to page && has_page (get_or xs i no_region) page))
covered_more from to xs i page lt =
    ap (λ (ys : List Region). covered from to ys page) (take_more xs i no_region lt)
    ∙ rw (mapped_append (take i xs) (get_or xs i no_region ∷ []) page, mapped_one (get_or xs i no_region) page)
    (spread (is_in from to page) (is_mapped (take i xs) page) (has_page (get_or xs i no_region) page))

-- one more region's pages
pub cover_next : (change : Change) (from to i first end : ℕ) (xs : List Region) (old between new : PagesValue) → i < length xs
    → first ≡ max (get_or xs i no_region).first from → end ≡ min (end_of (get_or xs i no_region)) to → AreChanged change (covered from to (take i xs)) old between
    → AreChanged change (is_in first end) between new → AreChanged change (covered from to (take (i + 1) xs)) old new
cover_next change from to i first end xs old between new lt e f a b =
    change_both change (covered from to (take i xs)) (is_in first end) (covered from to (take (i + 1) xs)) old between new a b
    (λ page. covered_more from to xs i page lt ∙ ap (λ (b : Bool). covered from to (take i xs) page || b) (sym (span_in from to first end (get_or xs i no_region) page e f)))

pub cover_none : (change : Change) (from to i : ℕ) (xs : List Region) (old new : PagesValue) → i < length xs
    → min (end_of (get_or xs i no_region)) to ≤ max (get_or xs i no_region).first from → AreChanged change (covered from to (take i xs)) old new
    → AreChanged change (covered from to (take (i + 1) xs)) old new
cover_none change from to i xs old new lt out a =
    change_same change (covered from to (take i xs)) (covered from to (take (i + 1) xs)) old new a
    (λ page. covered_more from to xs i page lt ∙ rw (span_out from to (get_or xs i no_region) page out) (or_false (covered from to (take i xs) page)))

and_false : (a : Bool) → (a && false) ≡ false
and_false true = refl
and_false false = refl

pub cover_first : (change : Change) (from to : ℕ) (xs : List Region) (pages : PagesValue) → AreChanged change (covered from to (take 0 xs)) pages pages
cover_first change from to xs pages = change_none change (covered from to (take 0 xs)) pages (λ page. and_false (is_in from to page))

-- a page of one of the regions
pub mapped_at : (xs : List Region) (i page : ℕ) → i < length xs → has_page (get_or xs i no_region) page ≡ true → is_mapped xs page ≡ true
mapped_at xs i page lt has =
    ap (λ (ys : List Region). is_mapped ys page) (sym (take-append-drop i xs))
    ∙ mapped_append (take i xs) (drop i xs) page
    ∙ ap (λ (ys : List Region). is_mapped (take i xs) page || is_mapped ys page) (drop_here xs i lt)
    ∙ rw has (or_true (is_mapped (take i xs) page))
  where
    or_true : (a : Bool) → (a || true) ≡ true
    or_true true = refl
    or_true false = refl

some_perms : (perms : ℕ) (o : Option Mapped) → IsSome o → IsSome (option_map (with_perms perms) o)
some_perms perms None h = h
some_perms perms (Some m) h = h

-- the pages of one more region can be changed
pub cover_can : (change : Change) (from to i first end : ℕ) (xs : List Region) (old between : PagesValue) → MapsNone change → i < length xs
    → first ≡ max (get_or xs i no_region).first from → end ≡ min (end_of (get_or xs i no_region)) to
    → ((page : ℕ) → is_mapped xs page ≡ true → IsSome (table_of old page)) → AreChanged change (covered from to (take i xs)) old between → CanChangeAll change between first end
cover_can (Map perms file) from to i first end xs old between maps_none lt e f mapped a = absurd maps_none
cover_can Unmap from to i first end xs old between maps_none lt e f mapped a = tt
cover_can (Protect perms) from to i first end xs old between maps_none lt e f mapped a = λ page h.
    let two = both_true (is_in from to page) (has_page (get_or xs i no_region) page) (sym (span_in from to first end (get_or xs i no_region) page e f) ∙ h) in
    here page (covered from to (take i xs) page) refl (mapped page (mapped_at xs i page lt two.1))
  where
    both_true : (x y : Bool) → (x && y) ≡ true → (x ≡ true) × (y ≡ true)
    both_true true true e = (refl, refl)
    both_true true false e = cc
    both_true false y e = cc

    here : (page : ℕ) (b : Bool) → covered from to (take i xs) page ≡ b → IsSome (table_of old page) → IsSome (table_of between page)
    here page true e some = subst (λ (o : Option Mapped). IsSome o) (sym (a.inside page e).table) (some_perms perms.0 (table_of old page) some)
    here page false e some = subst (λ (o : Option Mapped). IsSome o) (sym (a.outside page e).table) some

-- a page that isn't mapped
no_seat : (s : Option Seat) → option_map mapped_of s ≡ None → s ≡ None
no_seat None e = refl
no_seat (Some s) e = cc

absent_byte : (pages : PagesValue) (page : ℕ) (swap : Swap) (addr : ℕ) → table_of pages page ≡ None → addr / page_size ≡ page → byte_of pages swap addr ≡ 0
unfolding table_of byte_of
absent_byte pages page swap addr none e =
    let seat : seek 0 pages.slots (addr / page_size) ≡ None = no_seat (seek 0 pages.slots (addr / page_size)) (rw e none) in
    ap (λ (s : Option Seat). seat_byte swap s (addr % page_size)) seat

absent_mark : (pages : PagesValue) (page : ℕ) → table_of pages page ≡ None → mark_of pages page ≡ None
unfolding table_of mark_of
absent_mark pages page none = rw (no_seat (seek 0 pages.slots page) none) refl

-- by the regions
pub mapped_fit : (pages : PagesValue) (xs : List Region) (page : ℕ) → FitRegions (perms_in (table_of pages)) xs → is_some (table_of pages page) ≡ is_mapped xs page
mapped_fit pages xs page fit = here (nature_at xs page) (table_of pages page) (fit.perms_are page)
  where
    here : (n : Option Nature) (o : Option Mapped) → perms_of n ≡ option_map (λ m. m.perms) o → is_some o ≡ is_some n
    here None None e = refl
    here None (Some m) e = cc
    here (Some n) None e = cc
    here (Some n) (Some m) e = refl

pub mapped_some : (pages : PagesValue) (xs : List Region) → FitRegions (perms_in (table_of pages)) xs → (page : ℕ) → is_mapped xs page ≡ true → IsSome (table_of pages page)
mapped_some pages xs fit page e = mapped_fit pages xs page fit ∙ e

absent : (pages : PagesValue) (xs : List Region) (page : ℕ) → FitRegions (perms_in (table_of pages)) xs → is_mapped xs page ≡ false → table_of pages page ≡ None
absent pages xs page fit e = here (table_of pages page) (mapped_fit pages xs page fit ∙ e)
  where
    here : (o : Option Mapped) → is_some o ≡ false → o ≡ None
    here None e = refl
    here (Some m) e = cc

-- what the regions don't have needs no change
pub cover_all : (change : Change) (from to : ℕ) (xs : List Region) (old new : PagesValue) → MapsNone change → FitRegions (perms_in (table_of old)) xs
    → AreChanged change (covered from to xs) old new → AreChanged change (is_in from to) old new
cover_all change from to xs old new maps_none fit a = record {
  size = a.size;
  inside = λ page e. inside page (is_mapped xs page) e refl;
  outside = λ page e. a.outside page (rw e refl);
}
  where
    stays : (change : Change) (page : ℕ) → MapsNone change → table_of old page ≡ None → Stays old new page → IsChanged change old new page
    stays (Map perms file) page maps_none none s = absurd maps_none
    stays Unmap page maps_none none s = record {
      table = s.table ∙ none;
      bytes = λ swap addr e. s.kept.bytes swap addr e ∙ absent_byte old page swap addr none e;
      mark = s.kept.mark ∙ absent_mark old page none;
    }
    stays (Protect perms) page maps_none none s = record { table = s.table ∙ none ∙ rw none refl; kept = s.kept }

    inside : (page : ℕ) (b : Bool) → is_in from to page ≡ true → is_mapped xs page ≡ b → IsChanged change old new page
    inside page true e f = a.inside page (rw (e, f) refl)
    inside page false e f = stays change page maps_none (absent old xs page fit f) (a.outside page (rw (e, f) refl))

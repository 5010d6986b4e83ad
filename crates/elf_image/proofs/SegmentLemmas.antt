-- Segments in their order.
use Rattle.std.proofs.Common.{◌≡◌, ℕ, suc, ◌+◌, ◌-◌, ◌<◌, ◌≤◌, cond, List, [], ◌∷◌, ◌++◌, length, get_or, drop, All, Some, refl, ◌∙◌, ap, arith, add-one, drop-cons}
use Rattle.std.specs.List.{slice_get}
use Rattle.std.proofs.lemmas.List.Elements.{All-nil, All-head, All-tail, All-push}
use Rattle.elf_image.specs.declared.kinds.Segment.{Segment}
use Rattle.elf_image.specs.Segments.{first_page, end_page, page_behind, has_headers, headers_at, AreAscending}
use Rattle.elf_image.specs.Fields.{e_phoff}

-- the page behind the last
pub page_behind-last : (xs : List Segment) (s : Segment) → slice_get xs (length xs - 1) ≡ Some s → page_behind xs ≡ end_page s
page_behind-last [] s e = cc
page_behind-last (x ∷ []) s e = (let same : x ≡ s = cc in ap end_page same)
page_behind-last (x ∷ (y ∷ ys)) s e =
    let here : suc (length (y ∷ ys) - 1) ≡ length (x ∷ (y ∷ ys)) - 1 = omega arith in
    page_behind-last (y ∷ ys) s (ap (λ (n : ℕ). slice_get (x ∷ (y ∷ ys)) n) here ∙ e)

-- the program headers among the rest of the segments
pub headers_at-drop : (bytes : List ℕ) (xs : List Segment) (i : ℕ) (d : Segment) → i < length xs
    → headers_at bytes (drop i xs)
    ≡ cond (has_headers bytes (get_or xs i d)) ((get_or xs i d).addr + (e_phoff bytes - (get_or xs i d).file_at)) (headers_at bytes (drop (i + 1) xs))
unfolding headers_at
headers_at-drop bytes xs i d h = rw (add-one, drop-cons xs i d) refl

pub headers_at-none : (bytes : List ℕ) → headers_at bytes [] ≡ 0
unfolding headers_at
headers_at-none bytes = refl

-- one segment more, above all others
pub ascending-push : (xs : List Segment) (s : Segment) → AreAscending xs → All (λ x. end_page x ≤ first_page s) xs → AreAscending (xs ++ s ∷ [])
ascending-push [] s a h = (All-nil (λ (next : Segment). end_page s ≤ first_page next), tt)
ascending-push (x ∷ xs) s a h = (
  All-push (λ (next : Segment). end_page x ≤ first_page next) xs s a.0 (All-head (λ (before : Segment). end_page before ≤ first_page s) x xs h),
  ascending-push xs s a.1 (All-tail (λ (before : Segment). end_page before ≤ first_page s) x xs h),
)

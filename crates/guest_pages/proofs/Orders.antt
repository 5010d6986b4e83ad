-- Lemmas on the order in which pages are brought.
use Rattle.std.proofs.Common.{◌≡◌, ◌≢◌, ℕ, ◌+◌, ◌<◌, ◌==◌, ◌&&◌, ◌||◌, not, List, [], ◌∷◌, ◌++◌, length, get_or, set, Bool, true, false, cond, Option, Some, None, nat_eq, count_by, reverse, refl, sym, ap, ◌∙◌, ⊎_elim, arith}
use Rattle.std.specs.List.{filter, IsDistinct, AllByRecursion}
use Rattle.std.specs.Cmp.{nat_eq_equiv}
use Rattle.std.proofs.lemmas.Bool.{eq-eqb, ne_eqb, eqb-true, eqb-false, cases_eq}
use Rattle.std.proofs.lemmas.List.{length-append, append-nil, get_or-set_same, get_or-set_other, reverse-append}
use Rattle.std.proofs.lemmas.List.Folds.{list_any-append}
use Rattle.std.proofs.lemmas.List.Sums.{sum_by-set}
use Rattle.std.proofs.lemmas.Map.Views.{any-filter_same}
use Rattle.std.proofs.lemmas.Map.Keys.{IsDistinct-push}
use Rattle.guest_pages.specs.declared.entry.Entry.{Entry}
use Rattle.guest_pages.specs.declared.entry.Place.{Place}
use Rattle.guest_pages.specs.declared.entry.Place.TheVariants.{Resident, Zeros, Swapped}
use Rattle.guest_pages.specs.Entry.{is_in_frame, slot_frame, place_frame, is_resident}
use Rattle.guest_pages.specs.Lists.{among}
use Rattle.guest_pages.specs.Order.{without}
use Rattle.guest_pages.specs.Slots.{IsOrdered, with_last}

or_none : (a b : Bool) → (a || b) ≡ false → (a ≡ false) × (b ≡ false)
or_none false false e = (refl, refl)
or_none false true e = cc
or_none true b e = cc

eqb_flip : (a b : ℕ) → (a == b) ≡ false → (b == a) ≡ false
eqb_flip a b e = ne_eqb b a (λ same. eqb-false a b e (sym same))

pub without_has : (j k : ℕ) (order : List ℕ) → among j (without k order) ≡ (not (j == k) && among j order)
without_has j k order =
    any-filter_same (λ n. j == n) (λ n. not (n == k)) (not (j == k)) (λ n same. ap (λ (m : ℕ). not (m == k)) (sym (eqb-true j n same))) order

-- an order without a slot that it doesn't have
pub without_same : (k : ℕ) (order : List ℕ) → among k order ≡ false → without k order ≡ order
without_same k [] out = refl
without_same k (n ∷ order) out =
    let both = or_none (k == n) (among k order) out in
    rw (eqb_flip k n both.0, without_same k order both.1) refl

off_all : (k : ℕ) (order : List ℕ) → AllByRecursion (λ n. nat_eq k n ≡ false) order → among k order ≡ false
off_all k [] all = refl
off_all k (n ∷ order) all = rw (all.0, off_all k order all.1) refl

without_len : (k : ℕ) (order : List ℕ) → IsDistinct nat_eq order → length (without k order) + cond (among k order) 1 0 ≡ length order
unfolding IsDistinct
without_len k [] once = refl
without_len k (n ∷ order) once = ⊎_elim
    (λ (same : n ≡ k).
    let out : among k order ≡ false = off_all k order (rw same at once.0) in
    rw (eq-eqb n k same, eq-eqb k n (sym same), without_same k order out) (omega arith))
    (λ (other : n ≢ k).
    let off : (n == k) ≡ false = ne_eqb n k other in
    let rest = without_len k order once.1 in
    rw (off, eqb_flip n k off) (omega arith))
    (cases_eq n k)

all_cond : (P : ℕ → Type 0) (b : Bool) (n : ℕ) (order : List ℕ) → P n → AllByRecursion P order → AllByRecursion P (cond b (n ∷ order) order)
all_cond P true n order here rest = (here, rest)
all_cond P false n order here rest = rest

all_without : (P : ℕ → Type 0) (k : ℕ) (order : List ℕ) → AllByRecursion P order → AllByRecursion P (without k order)
all_without P k [] all = tt
all_without P k (n ∷ order) all = all_cond P (not (n == k)) n (without k order) all.0 (all_without P k order all.1)

once_cond : (b : Bool) (n : ℕ) (order : List ℕ) → AllByRecursion (λ m. nat_eq n m ≡ false) order → IsDistinct nat_eq order → IsDistinct nat_eq (cond b (n ∷ order) order)
unfolding IsDistinct
once_cond true n order here rest = (here, rest)
once_cond false n order here rest = rest

without_once : (k : ℕ) (order : List ℕ) → IsDistinct nat_eq order → IsDistinct nat_eq (without k order)
unfolding IsDistinct
without_once k [] once = tt
without_once k (n ∷ order) once =
    once_cond (not (n == k)) n (without k order) (all_without (λ m. nat_eq n m ≡ false) k order once.0) (without_once k order once.1)

-- the order of pages of which none is in a frame
pub ordered_none : (slots : List (Option Entry)) → ((k : ℕ) → is_in_frame (get_or slots k None) ≡ false) → count_by is_in_frame slots ≡ 0 → IsOrdered slots []
unfolding IsDistinct
ordered_none slots none count = record { once = tt; has = λ k. sym (none k); count = sym count }

last_once : (b : Bool) (k : ℕ) (order : List ℕ) → among k order ≡ false → IsDistinct nat_eq order → IsDistinct nat_eq (with_last b k order)
last_once true k order out once = IsDistinct-push nat_eq_equiv order k once out
last_once false k order out once = rw (append-nil order) once

last_here : (b : Bool) (k : ℕ) → among k (cond b (k ∷ []) []) ≡ b
last_here true k = rw (eq-eqb k k refl) refl
last_here false k = refl

last_off : (b : Bool) (j k : ℕ) → (j == k) ≡ false → among j (cond b (k ∷ []) []) ≡ false
last_off true j k off = rw off refl
last_off false j k off = refl

last_len : (b : Bool) (k : ℕ) → length (cond b (k ∷ []) []) ≡ cond b 1 0
last_len true k = refl
last_len false k = refl

or_false : (b : Bool) → (b || false) ≡ b
or_false true = refl
or_false false = refl

-- the order where a slot changes: it is taken out, and put last where its page is in a frame
pub ordered_put : (slots : List (Option Entry)) (order : List ℕ) (k : ℕ) (slot : Option Entry) → k < length slots → IsOrdered slots order
    → IsOrdered (set slots k slot) (with_last (is_in_frame slot) k (without k order))
ordered_put slots order k slot within ordered =
    let out : among k (without k order) ≡ false = without_has k k order ∙ rw (eq-eqb k k refl) refl in
    record {
      once = last_once (is_in_frame slot) k (without k order) out (without_once k order ordered.once);
      has = λ j. list_any-append (λ n. j == n) (without k order) _ ∙ ⊎_elim
          (λ (same : j ≡ k). rw (same, out, last_here (is_in_frame slot) k, get_or-set_same slots k slot None within) refl)
          (λ (other : j ≢ k).
          let off : (j == k) ≡ false = ne_eqb j k other in
          rw (last_off (is_in_frame slot) j k off, without_has j k order, off, get_or-set_other slots k j slot None other) (or_false (among j order) ∙ ordered.has j))
          (cases_eq j k);
      count =
          let counts : count_by is_in_frame (set slots k slot) + cond (is_in_frame (get_or slots k None)) 1 0 ≡ count_by is_in_frame slots + cond (is_in_frame slot) 1 0 =
          sum_by-set (λ o. cond (is_in_frame o) 1 0) slots k slot None within in
          let lens : length (without k order) + cond (is_in_frame (get_or slots k None)) 1 0 ≡ length order = rw (ordered.has k) at (without_len k order ordered.once) in
          let was = ordered.count in
          length-append (without k order) _ ∙ rw (last_len (is_in_frame slot) k) (omega arith);
    }

-- and where its page is in a frame or not as before
pub ordered_same : (slots : List (Option Entry)) (order : List ℕ) (k : ℕ) (slot : Option Entry) → k < length slots → is_in_frame slot ≡ is_in_frame (get_or slots k None)
    → IsOrdered slots order → IsOrdered (set slots k slot) order
ordered_same slots order k slot within same ordered = record {
  once = ordered.once;
  has = λ j. ordered.has j ∙ ⊎_elim
      (λ (here : j ≡ k). rw (here, get_or-set_same slots k slot None within) (sym same))
      (λ (other : j ≢ k). rw (get_or-set_other slots k j slot None other) refl)
      (cases_eq j k);
  count =
      let counts : count_by is_in_frame (set slots k slot) + cond (is_in_frame (get_or slots k None)) 1 0 ≡ count_by is_in_frame slots + cond (is_in_frame (get_or slots k None)) 1 0 =
      rw same at (sum_by-set (λ o. cond (is_in_frame o) 1 0) slots k slot None within) in
      let was = ordered.count in
      omega arith;
}

filter_append : (p : ℕ → Bool) (xs ys : List ℕ) → filter p (xs ++ ys) ≡ filter p xs ++ filter p ys
filter_append p [] ys = refl
filter_append p (x ∷ xs) ys = rw (filter_append p xs ys) (split (p x) x (filter p xs) (filter p ys))
  where
    split : (b : Bool) (x : ℕ) (xs ys : List ℕ) → cond b (x ∷ (xs ++ ys)) (xs ++ ys) ≡ cond b (x ∷ xs) xs ++ ys
    split true x xs ys = refl
    split false x xs ys = refl

cons_is : (x : ℕ) (xs : List ℕ) → x ∷ xs ≡ (x ∷ []) ++ xs
cons_is x xs = refl

filter_one : (p : ℕ → Bool) (x : ℕ) (xs : List ℕ) → reverse (filter p (x ∷ xs)) ≡ reverse (filter p xs) ++ filter p (x ∷ [])
filter_one p x xs = by_test (p x) (filter p xs)
  where
    by_test : (b : Bool) (xs : List ℕ) → reverse (cond b (x ∷ xs) xs) ≡ reverse xs ++ cond b (x ∷ []) []
    by_test true xs = reverse-append (x ∷ []) xs
    by_test false xs = sym (append-nil (reverse xs))

filter_reverse : (p : ℕ → Bool) (xs : List ℕ) → reverse (filter p xs) ≡ filter p (reverse xs)
filter_reverse p [] = refl
filter_reverse p (x ∷ xs) =
    filter_one p x xs
    ∙ rw (filter_reverse p xs) (sym (filter_append p (reverse xs) (x ∷ [])))
    ∙ ap (filter p) (sym (reverse-append (x ∷ []) xs))

-- the order as contracts see it, the last first
pub order_without : (k : ℕ) (order : List ℕ) → reverse (without k order) ≡ without k (reverse order)
order_without k order = filter_reverse (λ n. not (n == k)) order

-- a slot without a frame
pub no_frame_slot : (slot : Option Entry) → slot_frame slot ≡ None → is_in_frame slot ≡ false
no_frame_slot None h = refl
no_frame_slot (Some entry) h = place_case entry.place h
  where
    place_case : (place : Place) → place_frame place ≡ None → is_resident place ≡ false
    place_case (Resident bytes mark) h = cc
    place_case Zeros h = refl
    place_case Swapped h = refl

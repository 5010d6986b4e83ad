-- Which pages of a unit of work were brought last, one after the other, and that they are few.
use Rattle.std.proofs.Common.{◌≡◌, ◌∙◌, ℕ, zero, suc, ◌+◌, ◌-◌, ◌≤◌, ◌<◌, ◌==◌, ◌||◌, ◌++◌, not, Bool, true, false, cond, List, [], ◌∷◌, length, take, Option, Some, None, refl, sym, ap, arith}
use Rattle.std.specs.Prelude.{nat_eq}
use Rattle.std.specs.Option.{option_map}
use Rattle.std.specs.List.{AllByRecursion, IsDistinct, filter, list_any, prefix_len, take_while}
use Rattle.std.proofs.lemmas.Bool.{eqb-true}
use Rattle.std.proofs.lemmas.List.Folds.{length-prefix_len}
use Rattle.std.proofs.lemmas.List.Sums.{count_by-le-length, length-filter, take_while-cons}
use Rattle.std.proofs.lemmas.Map.Views.{any-filter_same}
use Rattle.guest_pages.specs.Table.{Mapped, Table}
use Rattle.guest_pages.specs.Pages.{PagesValue, table_of}
use Rattle.guest_pages.specs.Order.{AreOrdered, IsAwayIn, is_recent}
use Rattle.swap_pager.specs.Bringing.{IsBrought, framed_by}
use Rattle.guest_run.specs.Units.{AreFew, is_of, is_slot, ready_of}

-- ---- numbers without equal ones
abbrev among : ℕ → List ℕ → Bool
among n xs = list_any (λ x. n == x) xs

all-off : (n : ℕ) (xs : List ℕ) → among n xs ≡ false → AllByRecursion (λ x. nat_eq n x ≡ false) xs
all-off n [] off = tt
all-off n (x ∷ xs) off = here (n == x) refl off (all-off n xs)
  where
    here : (b : Bool) → (n == x) ≡ b → (b || among n xs) ≡ false → (among n xs ≡ false → AllByRecursion (λ x. nat_eq n x ≡ false) xs)
        → (nat_eq n x ≡ false) × AllByRecursion (λ x. nat_eq n x ≡ false) xs
    here true is off again = cc
    here false is off again = (is, again off)

-- without a number that it has, a list is shorter
filter-shorter : (n : ℕ) (xs : List ℕ) → among n xs ≡ true → length (filter (λ x. not (n == x)) xs) < length xs
filter-shorter n [] has = cc
filter-shorter n (x ∷ xs) has = here (n == x) refl has (filter-shorter n xs)
  where
    here : (b : Bool) → (n == x) ≡ b → (b || among n xs) ≡ true → (among n xs ≡ true → length (filter (λ x. not (n == x)) xs) < length xs)
        → length (cond (not b) (x ∷ filter (λ x. not (n == x)) xs) (filter (λ x. not (n == x)) xs)) < suc (length xs)
    here true is has again = let most = count_by-le-length (λ x. not (n == x)) xs in let len = length-filter (λ x. not (n == x)) xs in omega (arith, most, len)
    here false is has again = let more = again has in omega (arith, more)

still-among : (n : ℕ) (xs ws : List ℕ) → AllByRecursion (λ x. nat_eq n x ≡ false) xs → AllByRecursion (λ x. among x ws ≡ true) xs
    → AllByRecursion (λ x. among x (filter (λ w. not (n == w)) ws) ≡ true) xs
still-among n [] ws off all = tt
still-among n (x ∷ xs) ws off all = (
  any-filter_same (λ w. x == w) (λ w. not (n == w)) true (λ w same. rw (sym (eqb-true x w same)) (ap not off.0)) ws ∙ all.0,
  still-among n xs ws off.1 all.1,
)

-- numbers without equal ones, all of which are in a list, are no more than that has
few_among : (xs ws : List ℕ) → IsDistinct nat_eq xs → AllByRecursion (λ x. among x ws ≡ true) xs → length xs ≤ length ws
unfolding IsDistinct
few_among [] ws once all = omega arith
few_among (x ∷ xs) ws once all =
    let shorter = filter-shorter x ws all.0 in
    let rest = few_among xs (filter (λ w. not (x == w)) ws) once.1 (still-among x xs ws once.0 all.1) in
    omega (arith, shorter, rest)

-- ---- the front of a list that passes a test
front-all : (P : ℕ → Type 0) (p : ℕ → Bool) (xs : List ℕ) → AllByRecursion P xs → AllByRecursion P (take_while p xs)
front-all P p [] all = tt
front-all P p (x ∷ xs) all = rw take_while-cons (here (p x) (front-all P p xs all.1))
  where
    here : (b : Bool) → AllByRecursion P (take_while p xs) → AllByRecursion P (cond b (x ∷ take_while p xs) [])
    here true rest = (all.0, rest)
    here false rest = tt

front-passes : (p : ℕ → Bool) (xs : List ℕ) → AllByRecursion (λ x. p x ≡ true) (take_while p xs)
front-passes p [] = tt
front-passes p (x ∷ xs) = rw take_while-cons (here (p x) refl (front-passes p xs))
  where
    here : (b : Bool) → p x ≡ b → AllByRecursion (λ x. p x ≡ true) (take_while p xs) → AllByRecursion (λ x. p x ≡ true) (cond b (x ∷ take_while p xs) [])
    here true is rest = (is, rest)
    here false is rest = tt

front-once : (p : ℕ → Bool) (xs : List ℕ) → IsDistinct nat_eq xs → IsDistinct nat_eq (take_while p xs)
unfolding IsDistinct
front-once p [] once = tt
front-once p (x ∷ xs) once = rw take_while-cons (here (p x) (front-once p xs once.1))
  where
    here : (b : Bool) → IsDistinct nat_eq (take_while p xs) → IsDistinct nat_eq (cond b (x ∷ take_while p xs) [])
    here true rest = (front-all (λ y. nat_eq x y ≡ false) p xs once.0, rest)
    here false rest = tt

passes-among : (p : ℕ → Bool) (ws : List ℕ) → ((n : ℕ) → p n ≡ true → among n ws ≡ true) → (xs : List ℕ) → AllByRecursion (λ x. p x ≡ true) xs
    → AllByRecursion (λ x. among x ws ≡ true) xs
passes-among p ws has [] all = tt
passes-among p ws has (x ∷ xs) all = (has x all.0, passes-among p ws has xs all.1)

-- a number that passes and isn't in the list, and the front of the list that passes, are no more than the numbers that pass
front-few : (p : ℕ → Bool) (n : ℕ) (xs ws : List ℕ) → p n ≡ true → among n xs ≡ false → IsDistinct nat_eq xs → ((n : ℕ) → p n ≡ true → among n ws ≡ true)
    → prefix_len p xs < length ws
unfolding IsDistinct
front-few p n xs ws passes off once has =
    let front = take_while p xs in
    let all : AllByRecursion (λ x. among x ws ≡ true) (n ∷ front) = (has n passes, passes-among p ws has front (front-passes p xs)) in
    let few = few_among (n ∷ front) ws (front-all (λ y. nat_eq n y ≡ false) p xs (all-off n xs off), front-once p xs once) all in
    let len : length front ≡ prefix_len p xs = length-prefix_len p xs in
    omega (arith, few, len)

-- as much of the list as the front has is enough
prefix_len-take : (p : ℕ → Bool) (xs : List ℕ) (k : ℕ) → prefix_len p xs ≤ k → prefix_len p (take k xs) ≡ prefix_len p xs
prefix_len-take p [] zero most = refl
prefix_len-take p [] (suc k) most = refl
prefix_len-take p (x ∷ xs) zero most = none (p x) most
  where
    none : (b : Bool) → cond b (1 + prefix_len p xs) 0 ≤ 0 → 0 ≡ cond b (1 + prefix_len p xs) 0
    none true h = omega (arith, h)
    none false h = refl
prefix_len-take p (x ∷ xs) (suc k) most = here (p x) most (prefix_len-take p xs k)
  where
    here : (b : Bool) → cond b (1 + prefix_len p xs) 0 ≤ suc k → (prefix_len p xs ≤ k → prefix_len p (take k xs) ≡ prefix_len p xs)
        → cond b (1 + prefix_len p (take k xs)) 0 ≡ cond b (1 + prefix_len p xs) 0
    here true h again = let same = again (omega (arith, h)) in ap (λ (n : ℕ). 1 + n) same
    here false h again = refl

-- ---- slots of pages
abbrev slot_list : Option Mapped → List ℕ
slot_list None = []
slot_list (Some mapped) = mapped.slot ∷ []

slots_of : Table → List ℕ → List ℕ
slots_of table [] = []
slots_of table (page ∷ pages) = slot_list (table page) ++ slots_of table pages

slots-few : (table : Table) (pages : List ℕ) → length (slots_of table pages) ≤ length pages
unfolding slots_of
slots-few table [] = omega arith
slots-few table (page ∷ pages) = here (table page) (slots-few table pages)
  where
    here : (o : Option Mapped) → length (slots_of table pages) ≤ length pages → length (slot_list o ++ slots_of table pages) ≤ suc (length pages)
    here None few = omega (arith, few)
    here (Some mapped) few = omega (arith, few)

slots-have : (table : Table) (pages : List ℕ) (slot : ℕ) → is_of table pages slot ≡ true → among slot (slots_of table pages) ≡ true
unfolding is_of slots_of
slots-have table [] slot h = cc
slots-have table (page ∷ pages) slot h = here (table page) h (slots-have table pages slot)
  where
    here : (o : Option Mapped) → (is_slot o slot || list_any (λ page. is_slot (table page) slot) pages) ≡ true
        → (list_any (λ page. is_slot (table page) slot) pages ≡ true → among slot (slots_of table pages) ≡ true)
        → among slot (slot_list o ++ slots_of table pages) ≡ true
    here None h again = again h
    here (Some mapped) h again = either (slot == mapped.slot) h
      where
        either : (b : Bool) → (b || list_any (λ page. is_slot (table page) slot) pages) ≡ true → (b || among slot (slots_of table pages)) ≡ true
        either true h = refl
        either false h = again h

-- ---- units of work
-- where one of them is away, at most three were brought last
pub ready-few : (pages : PagesValue) (unit : List ℕ) (slot : ℕ) → AreOrdered pages → IsAwayIn pages slot → AreFew (table_of pages) unit
    → is_of (table_of pages) unit slot ≡ true → ready_of (table_of pages) unit pages.recent ≤ 3
ready-few pages unit slot ordered away few is =
    let off : among slot pages.recent ≡ false =
    ap (λ (n : ℕ). is_recent pages.recent n) (sym away.there.slot_is) ∙ ordered.has away.page away.mapped away.there.is ∙ away.resident_is in
    let fewer = front-few (is_of (table_of pages) unit) slot pages.recent (slots_of (table_of pages) few.of) is off ordered.once
    (λ n h. slots-have (table_of pages) few.of n (few.are n h)) in
    let most = slots-few (table_of pages) few.of in
    let four = few.few in
    omega (arith, fewer, most, four)

-- a page that is brought keeps its slot
is_slot-brought : (recent : List ℕ) (o : Option Mapped) (slot : ℕ) → is_slot (option_map (framed_by recent) o) slot ≡ is_slot o slot
is_slot-brought recent None slot = refl
is_slot-brought recent (Some mapped) slot = refl

pub is_of-brought : (old new : PagesValue) (unit : List ℕ) (slot at : ℕ) → IsBrought old new at → is_of (table_of new) unit slot ≡ is_of (table_of old) unit slot
unfolding is_of
is_of-brought old new unit slot at brought =
    let same : (page : ℕ) → is_slot (table_of new page) slot ≡ is_slot (table_of old page) slot =
    λ page. ap (λ (o : Option Mapped). is_slot o slot) (brought.table page) ∙ is_slot-brought new.recent (table_of old page) slot in
    λ i. list_any (λ page. same page i) unit

-- a page of a unit is one more of those brought last
pub ready-brought : (old new : PagesValue) (unit : List ℕ) (slot : ℕ) → AreOrdered old → IsAwayIn old slot → AreFew (table_of old) unit
    → is_of (table_of old) unit slot ≡ true → 8 ≤ old.frames → IsBrought old new slot
    → (ready_of (table_of old) unit old.recent ≤ 3) × (ready_of (table_of new) unit new.recent ≡ ready_of (table_of old) unit old.recent + 1)
ready-brought old new unit slot ordered away few is least brought =
    let most = ready-few old unit slot ordered away few is in
    let test : is_of (table_of new) unit ≡ is_of (table_of old) unit = λ i n. is_of-brought old new unit n slot brought i in
    let p = is_of (table_of old) unit in
    let kept : prefix_len p (take (old.frames - 1) old.recent) ≡ prefix_len p old.recent =
    prefix_len-take p old.recent (old.frames - 1) (omega (arith, most, least)) in
    let first : prefix_len p (slot ∷ take (old.frames - 1) old.recent) ≡ 1 + prefix_len p (take (old.frames - 1) old.recent) = rw is refl in
    let one : 1 + prefix_len p (take (old.frames - 1) old.recent) ≡ prefix_len p old.recent + 1 = omega (arith, kept) in
    (most, ap (λ (q : ℕ → Bool). prefix_len q new.recent) test ∙ ap (λ (xs : List ℕ). prefix_len p xs) brought.recent ∙ first ∙ one)

-- Lemmas on linked lists.
use Rattle.std.proofs.Common.{◌≡◌, ◌≢◌, ℕ, eqb, nat_lt, ◌+◌, ◌<◌, ◌≤◌, List, [], ◌∷◌, ◌++◌, Bool, true, false, not, Option, Some, None, length, get_or, set, zero, suc, ◌==◌, ◌||◌, ◌&&◌, refl, sym, ap, ◌∙◌, ⊎_elim, arith, append_assoc}
use Rattle.std.specs.List.{IsDistinct, AllByRecursion}
use Rattle.std.proofs.lemmas.List.{get_or-set_same, get_or-set_other, length-set}
use Rattle.std.proofs.lemmas.List.Folds.{list_any-append}
use Rattle.std.proofs.lemmas.Map.Steps.{length-le_from_distinct_below}
use Rattle.std.proofs.lemmas.Bool.{eqb-true, eqb-false, eq-eqb, ne_eqb, lt-ltb, le-ltb, false≢true, cases_eq, cases_lt}
use Rattle.guest_pages.specs.Lists.{among, IsChain, IsList, IsBefore, IsRemoved, IsListing, AreDisjoint, AreListed, moved}
use Rattle.guest_pages.specs.declared.lists.Lists.{Lists}

-- how many numbers the links lead along, at most so many
abbrev pub chain_len : ℕ → List (Option ℕ) → Option ℕ → ℕ
chain_len zero nexts at = 0
chain_len (suc most) nexts None = 0
chain_len (suc most) nexts (Some k) = suc (chain_len most nexts (get_or nexts k None))

or_false : (a b : Bool) → (a || b) ≡ false → (a ≡ false) × (b ≡ false)
or_false true b h = cc
or_false false b h = (refl, h)

apart_first : (k j : ℕ) (ks : List ℕ) → among k (j ∷ ks) ≡ false → j ≢ k
apart_first k j ks h same = false≢true (sym (or_false (k == j) (among k ks) h).0 ∙ eq-eqb k j (sym same))

-- a link that isn't among a chain's numbers doesn't matter to it
pub chain_set : (nexts : List (Option ℕ)) (k : ℕ) (link at : Option ℕ) (numbers : List ℕ) → among k numbers ≡ false → IsChain nexts at numbers
    → IsChain (set nexts k link) at numbers
chain_set nexts k link at [] out chain = chain
chain_set nexts k link at (j ∷ js) out chain = (
  chain.0,
  rw (length-set nexts k link) chain.1,
  chain.2,
  rw (get_or-set_other nexts k j link None (apart_first k j js out))
      (chain_set nexts k link (get_or nexts j None) js (or_false (k == j) (among k js) out).1 chain.3),
)

-- the numbers of a chain are the only ones
pub chain_unique : (nexts : List (Option ℕ)) (at : Option ℕ) (some others : List ℕ) → IsChain nexts at some → IsChain nexts at others → some ≡ others
chain_unique nexts at [] [] one two = refl
chain_unique nexts at [] (k ∷ ks) one two = let e : ◌≡◌ {A = Option ℕ} None (Some k) = sym one ∙ two.0 in cc
chain_unique nexts at (k ∷ ks) [] one two = let e : ◌≡◌ {A = Option ℕ} None (Some k) = sym two ∙ one.0 in cc
chain_unique nexts at (k ∷ ks) (j ∷ js) one two =
    let e : ◌≡◌ {A = Option ℕ} (Some k) (Some j) = sym one.0 ∙ two.0 in
    let same : k ≡ j = cc in
    let rest : ks ≡ js = chain_unique nexts (get_or nexts k None) ks js one.3 (rw (← same) at two.3) in
    rw (same, rest) refl

-- the numbers of a chain have links
pub chain_below : (nexts : List (Option ℕ)) (at : Option ℕ) (numbers : List ℕ) (k : ℕ) → IsChain nexts at numbers → among k numbers ≡ true → k < length nexts
chain_below nexts at [] k chain is = absurd (false≢true is)
chain_below nexts at (j ∷ js) k chain is = ⊎_elim
    (λ (same : k ≡ j). rw same chain.1)
    (λ (other : k ≢ j). chain_below nexts (get_or nexts j None) js k chain.3 (rw (ne_eqb k j other) at is))
    (cases_eq k j)

all_apart : (k : ℕ) (ks : List ℕ) → among k ks ≡ false → AllByRecursion (λ j. eqb k j ≡ false) ks
all_apart k [] out = tt
all_apart k (j ∷ js) out = let both = or_false (k == j) (among k js) out in (both.0, all_apart k js both.1)

chain_distinct : (nexts : List (Option ℕ)) (at : Option ℕ) (numbers : List ℕ) → IsChain nexts at numbers → IsDistinct eqb numbers
unfolding IsDistinct
chain_distinct nexts at [] chain = tt
chain_distinct nexts at (k ∷ ks) chain = (all_apart k ks chain.2, chain_distinct nexts (get_or nexts k None) ks chain.3)

-- a chain has no more numbers than there are links
pub chain_short : (nexts : List (Option ℕ)) (at : Option ℕ) (numbers : List ℕ) → IsChain nexts at numbers → length numbers ≤ length nexts
chain_short nexts at numbers chain =
    length-le_from_distinct_below numbers (length nexts) (chain_distinct nexts at numbers chain) (λ q is. chain_below nexts at numbers q chain is)

chain_len_upto : (most : ℕ) (nexts : List (Option ℕ)) (at : Option ℕ) (numbers : List ℕ) → IsChain nexts at numbers → length numbers ≤ most → chain_len most nexts at ≡ length numbers
chain_len_upto zero nexts at [] chain short = refl
chain_len_upto zero nexts at (k ∷ ks) chain short = absurd (omega arith)
chain_len_upto (suc most) nexts at [] chain short = rw chain refl
chain_len_upto (suc most) nexts at (k ∷ ks) chain short = rw chain.0 (ap suc (chain_len_upto most nexts (get_or nexts k None) ks chain.3 (omega arith)))

-- how many numbers a chain has
pub chain_len_is : (nexts : List (Option ℕ)) (at : Option ℕ) (numbers : List ℕ) → IsChain nexts at numbers → chain_len (length nexts) nexts at ≡ length numbers
chain_len_is nexts at numbers chain = chain_len_upto (length nexts) nexts at numbers chain (chain_short nexts at numbers chain)

-- the walk along a chain comes to its end
pub chain_falls : (nexts : List (Option ℕ)) (k : ℕ) (ks : List ℕ) → IsChain nexts (Some k) (k ∷ ks)
    → chain_len (length nexts) nexts (get_or nexts k None) < chain_len (length nexts) nexts (Some k)
chain_falls nexts k ks chain =
    let whole = chain_len_is nexts (Some k) (k ∷ ks) chain in
    let rest = chain_len_is nexts (get_or nexts k None) ks chain.3 in
    omega arith

-- a number comes once
pub chain_once : (nexts : List (Option ℕ)) (at : Option ℕ) (front : List ℕ) (k : ℕ) (after : List ℕ) → IsChain nexts at (front ++ k ∷ after)
    → (among k front ≡ false) × (among k after ≡ false) × (k < length nexts)
chain_once nexts at [] k after chain = (refl, chain.2, chain.1)
chain_once nexts at (j ∷ js) k after chain =
    let rest = chain_once nexts (get_or nexts j None) js k after chain.3 in
    let out : (among j js || among j (k ∷ after)) ≡ false = sym (list_any-append (λ n. j == n) js (k ∷ after)) ∙ chain.2 in
    let apart : k ≢ j = apart_first j k after (or_false (among j js) (among j (k ∷ after)) out).1 in
    (rw (ne_eqb k j apart) rest.0, rest.1, rest.2)

-- the chain without a number that isn't its first: the link before it leads past it
pub chain_past : (nexts : List (Option ℕ)) (at : Option ℕ) (front : List ℕ) (before k : ℕ) (after : List ℕ) → IsChain nexts at (front ++ before ∷ k ∷ after)
    → IsChain (set nexts before (get_or nexts k None)) at (front ++ before ∷ after)
chain_past nexts at [] before k after chain =
    let outs = or_false (before == k) (among before after) chain.2 in (
      chain.0,
      rw (length-set nexts before (get_or nexts k None)) chain.1,
      outs.1,
      rw (get_or-set_same nexts before (get_or nexts k None) None chain.1)
          (chain_set nexts before (get_or nexts k None) (get_or nexts k None) after outs.1 chain.3.3),
    )
chain_past nexts at (j ∷ js) before k after chain =
    let out : (among j js || among j (before ∷ k ∷ after)) ≡ false = sym (list_any-append (λ n. j == n) js (before ∷ k ∷ after)) ∙ chain.2 in
    let outs = or_false (among j js) (among j (before ∷ k ∷ after)) out in
    let firsts = or_false (j == before) (among j (k ∷ after)) outs.1 in
    let lasts = or_false (j == k) (among j after) firsts.1 in
    let apart : j ≢ before = eqb-false j before firsts.0 in (
      chain.0,
      rw (length-set nexts before (get_or nexts k None)) chain.1,
      rw (list_any-append (λ n. j == n) js (before ∷ after), outs.0, firsts.0, lasts.1) refl,
      rw (get_or-set_other nexts before j (get_or nexts k None) None apart)
          (chain_past nexts (get_or nexts j None) js before k after chain.3),
    )

among_without : (front : List ℕ) (k : ℕ) (after : List ℕ) (j : ℕ) → among k front ≡ false → among k after ≡ false
    → among j (front ++ after) ≡ (among j (front ++ k ∷ after) && not (j == k))
among_without front k after j no_front no_after = ⊎_elim
    (λ (same : j ≡ k). rw (same, list_any-append (λ n. k == n) front after, no_front, no_after, eq-eqb k k refl) (and_false (among k (front ++ k ∷ after))))
    (λ (other : j ≢ k). rw (list_any-append (λ n. j == n) front after, list_any-append (λ n. j == n) front (k ∷ after), ne_eqb j k other) (and_true (among j front || among j after)))
    (cases_eq j k)
  where
    and_false : (b : Bool) → false ≡ (b && false)
    and_false true = refl
    and_false false = refl

    and_true : (b : Bool) → b ≡ (b && true)
    and_true true = refl
    and_true false = refl

-- the last of the numbers passed, if there is one
pub IsLast : Option ℕ → List ℕ → Type 0
IsLast None front = front ≡ []
IsLast (Some k) front = (init : List ℕ) × (front ≡ init ++ k ∷ [])

-- a walk along a chain has passed some numbers, and comes to the one that it looks for
pub record SeeksIn (nexts : List (Option ℕ)) (head : Option ℕ) (k : ℕ) (before at : Option ℕ) : Type 0 where
  pub front : List ℕ
  pub rest : List ℕ
  pub whole : IsChain nexts head (front ++ rest)
  pub chain : IsChain nexts at rest
  pub has : among k rest ≡ true
  pub last : IsLast before front

pub seeks_first : (nexts : List (Option ℕ)) (head : Option ℕ) (k : ℕ) (numbers : List ℕ) → IsChain nexts head numbers → among k numbers ≡ true → SeeksIn nexts head k None head
unfolding IsLast
seeks_first nexts head k numbers chain has = record { front = []; rest = numbers; whole = chain; chain = chain; has = has; last = refl }

seeks_step : (nexts : List (Option ℕ)) (head : Option ℕ) (k here : ℕ) (front rest : List ℕ) → IsChain nexts head (front ++ rest) → IsChain nexts (Some here) rest → among k rest ≡ true → here ≢ k
    → SeeksIn nexts head k (Some here) (get_or nexts here None)
unfolding IsLast
seeks_step nexts head k here front [] whole chain has other = absurd (false≢true has)
seeks_step nexts head k here front (j ∷ js) whole chain has other =
    let same : here ≡ j = cc in
    let first : (k == j) ≡ false = ne_eqb k j (λ e. other (same ∙ sym e)) in
    record {
      front = front ++ here ∷ [];
      rest = js;
      whole = rw (append_assoc, same) whole;
      chain = rw same chain.3;
      has = rw first at has;
      last = (front, refl);
    }

pub seeks_on : (nexts : List (Option ℕ)) (head : Option ℕ) (k here : ℕ) (before : Option ℕ) → SeeksIn nexts head k before (Some here) → here ≢ k
    → SeeksIn nexts head k (Some here) (get_or nexts here None)
seeks_on nexts head k here before seeks other = seeks_step nexts head k here seeks.front seeks.rest seeks.whole seeks.chain seeks.has other

seeks_falls_at : (nexts : List (Option ℕ)) (here : ℕ) (rest : List ℕ) (k : ℕ) → IsChain nexts (Some here) rest → among k rest ≡ true
    → chain_len (length nexts) nexts (get_or nexts here None) < chain_len (length nexts) nexts (Some here)
seeks_falls_at nexts here [] k chain has = absurd (false≢true has)
seeks_falls_at nexts here (j ∷ js) k chain has =
    let same : here ≡ j = cc in
    let there : IsChain nexts (Some j) (j ∷ js) = (refl, chain.1, chain.2, chain.3) in
    rw same (chain_falls nexts j js there)

pub seeks_falls : (nexts : List (Option ℕ)) (head : Option ℕ) (k here : ℕ) (before : Option ℕ) → SeeksIn nexts head k before (Some here)
    → chain_len (length nexts) nexts (get_or nexts here None) < chain_len (length nexts) nexts (Some here)
seeks_falls nexts head k here before seeks = seeks_falls_at nexts here seeks.rest k seeks.chain seeks.has

seeks_bound_at : (nexts : List (Option ℕ)) (here : ℕ) (rest : List ℕ) (k : ℕ) → IsChain nexts (Some here) rest → among k rest ≡ true → here < length nexts
seeks_bound_at nexts here [] k chain has = absurd (false≢true has)
seeks_bound_at nexts here (j ∷ js) k chain has = let same : here ≡ j = cc in rw same chain.1

pub seeks_bound : (nexts : List (Option ℕ)) (head : Option ℕ) (k here : ℕ) (before : Option ℕ) → SeeksIn nexts head k before (Some here) → here < length nexts
seeks_bound nexts head k here before seeks = seeks_bound_at nexts here seeks.rest k seeks.chain seeks.has

pub seeks_end : (nexts : List (Option ℕ)) (head : Option ℕ) (k : ℕ) (before : Option ℕ) → SeeksIn nexts head k before None → ⊥
seeks_end nexts head k before seeks = none_at seeks.rest seeks.chain seeks.has
  where
    none_at : (rest : List ℕ) → IsChain nexts None rest → among k rest ≡ true → ⊥
    none_at [] chain has = false≢true has
    none_at (j ∷ js) chain has = cc

found_at : (lists : Lists) (list k : ℕ) (before : Option ℕ) (front rest : List ℕ) → IsList lists list (front ++ rest) → IsChain lists.nexts.items (Some k) rest → among k rest ≡ true
    → IsLast before front → IsBefore lists list k before
unfolding IsLast
found_at lists list k before front [] whole chain has last = absurd (false≢true has)
found_at lists list k None front (j ∷ js) whole chain has last =
    let same : j ≡ k = cc in
    (js, rw (last, same) at whole)
found_at lists list k (Some before) front (j ∷ js) whole chain has last =
    let same : j ≡ k = cc in
    (last.0, js, rw (last.1, same, append_assoc) at whole)

pub seeks_found : (lists : Lists) (list k : ℕ) (before : Option ℕ) → SeeksIn lists.nexts.items (get_or lists.heads.items list None) k before (Some k) → IsBefore lists list k before
seeks_found lists list k before seeks = found_at lists list k before seeks.front seeks.rest seeks.whole seeks.chain seeks.has seeks.last

-- a chain without a number that has one before it
pub chain_without : (nexts : List (Option ℕ)) (at : Option ℕ) (front : List ℕ) (before k : ℕ) (after : List ℕ) (j : ℕ) → IsChain nexts at (front ++ before ∷ k ∷ after)
    → among j (front ++ before ∷ after) ≡ (among j (front ++ before ∷ k ∷ after) && not (j == k))
chain_without nexts at front before k after j chain =
    let whole : IsChain nexts at ((front ++ before ∷ []) ++ k ∷ after) = rw append_assoc chain in
    let once = chain_once nexts at (front ++ before ∷ []) k after whole in
    let e : among j ((front ++ before ∷ []) ++ after) ≡ (among j ((front ++ before ∷ []) ++ k ∷ after) && not (j == k)) = among_without (front ++ before ∷ []) k after j once.0 once.1 in
    simp append_assoc at e

-- a chain without its first number
pub chain_rest : (nexts : List (Option ℕ)) (at : Option ℕ) (k : ℕ) (after : List ℕ) (j : ℕ) → IsChain nexts at (k ∷ after)
    → among j after ≡ (among j (k ∷ after) && not (j == k))
chain_rest nexts at k after j chain = among_without [] k after j refl chain.2

-- the number before another is in the chain
pub before_among : (front : List ℕ) (before : ℕ) (after : List ℕ) → among before (front ++ before ∷ after) ≡ true
before_among [] before after = rw (eq-eqb before before refl) refl
before_among (j ∷ js) before after = or_right (before == j) (among before (js ++ before ∷ after)) (before_among js before after)
  where
    or_right : (a b : Bool) → b ≡ true → (a || b) ≡ true
    or_right true b h = refl
    or_right false b h = h

-- a list while a number is in none
record IsBetween (mid : Lists) (home : ℕ → ℕ) (count number list : ℕ) : Type 0 where
  numbers : List ℕ
  is : IsList mid list numbers
  has : (k : ℕ) → k < count → among k numbers ≡ ((home k == list) && not (k == number))

without_case : (a : Bool) (k number : ℕ) (home : ℕ → ℕ) (list : ℕ) → home number ≢ list → a ≡ (home k == list) → a ≡ ((home k == list) && not (k == number))
without_case a k number home list apart is = ⊎_elim
    (λ (same : k ≡ number).
    let out : (home k == list) ≡ false = ne_eqb (home k) list (λ e. apart (ap home (sym same) ∙ e)) in
    is ∙ rw out refl)
    (λ (other : k ≢ number). is ∙ rw (ne_eqb k number other) (and_true (home k == list)))
    (cases_eq k number)
  where
    and_true : (b : Bool) → b ≡ (b && true)
    and_true true = refl
    and_true false = refl

module _ (old mid : Lists) (home : ℕ → ℕ) (number from : ℕ) (home_is : home number ≡ from) (listed : AreListed old home) (known : number < length old.nexts.items)
    (from_within : from < length old.heads.items) where
  -- the lists after the number was taken out of its home
  between : (numbers : List ℕ) → IsList old from numbers → IsRemoved mid from number numbers → ((k : ℕ) → k < length old.nexts.items → among k numbers ≡ (home k == from))
      → ((other : ℕ) (others mine : List ℕ) → other ≢ from → IsList old other others → IsList old from mine → AreDisjoint mine others → IsList mid other others)
      → (list : ℕ) → list < length old.heads.items → IsBetween mid home (length old.nexts.items) number list
  between numbers chain removed has kept list within = ⊎_elim
      (λ (same : list ≡ from). record {
        numbers = removed.rest;
        is = rw same removed.is;
        has = λ k h. removed.has k ∙ rw (has k h, same) refl;
      })
      (λ (apart : list ≢ from).
      let there = listed list within in
      record {
        numbers = there.numbers;
        is = kept list there.numbers numbers apart there.is chain
            (λ k is. let h : k < length old.nexts.items = chain_below old.nexts.items _ numbers k chain is in
            let mine : (home k == from) ≡ true = sym (has k h) ∙ is in
            there.has k h ∙ ne_eqb (home k) list (λ e. apart (sym e ∙ eqb-true (home k) from mine)));
        has = λ k h. without_case (among k there.numbers) k number home list (λ e. apart (sym e ∙ home_is)) (there.has k h);
      })
      (cases_eq list from)

moved_there : (k number to list : ℕ) (home : ℕ → ℕ) (a : Bool) → list ≡ to → a ≡ ((home k == list) && not (k == number)) → ((k == number) || a) ≡ (moved home number to k == list)
moved_there k number to list home a here is = ⊎_elim
    (λ (same : k ≡ number). rw (eq-eqb k number same) (sym (eq-eqb to list (sym here))))
    (λ (other : k ≢ number). rw (is, ne_eqb k number other) (and_true (home k == list)))
    (cases_eq k number)
  where
    and_true : (b : Bool) → (b && true) ≡ b
    and_true true = refl
    and_true false = refl

moved_off : (k number to list : ℕ) (home : ℕ → ℕ) (a : Bool) → list ≢ to → a ≡ ((home k == list) && not (k == number)) → a ≡ (moved home number to k == list)
moved_off k number to list home a apart is = ⊎_elim
    (λ (same : k ≡ number). is ∙ rw (eq-eqb k number same, ne_eqb to list (λ e. apart (sym e))) (and_false (home k == list)))
    (λ (other : k ≢ number). is ∙ rw (ne_eqb k number other) (and_true (home k == list)))
    (cases_eq k number)
  where
    and_true : (b : Bool) → (b && true) ≡ b
    and_true true = refl
    and_true false = refl

    and_false : (b : Bool) → (b && false) ≡ false
    and_false true = refl
    and_false false = refl

out_between : (mid : Lists) (home : ℕ → ℕ) (count number list : ℕ) (there : IsBetween mid home count number list) → number < count → among number there.numbers ≡ false
out_between mid home count number list there known = there.has number known ∙ rw (eq-eqb number number refl) (and_false (home number == list))
  where
    and_false : (b : Bool) → (b && false) ≡ false
    and_false true = refl
    and_false false = refl

-- the lists after the number was put into another
listed_moved : (mid new : Lists) (home : ℕ → ℕ) (count number to : ℕ) → number < count
    → ((numbers : List ℕ) → IsList mid to numbers → among number numbers ≡ false → IsList new to (number ∷ numbers))
    → ((other : ℕ) (numbers : List ℕ) → other ≢ to → IsList mid other numbers → among number numbers ≡ false → IsList new other numbers)
    → length new.nexts.items ≡ count → (list : ℕ) → IsBetween mid home count number list → IsListing new (moved home number to) list
listed_moved mid new home count number to known pushed kept size list there = ⊎_elim
    (λ (same : list ≡ to). record {
      numbers = number ∷ there.numbers;
      is = rw same (pushed there.numbers (rw same at there.is) (out_between mid home count number list there known));
      has = λ k h. moved_there k number to list home (among k there.numbers) same (there.has k (rw size at h));
    })
    (λ (apart : list ≢ to). record {
      numbers = there.numbers;
      is = kept list there.numbers apart there.is (out_between mid home count number list there known);
      has = λ k h. moved_off k number to list home (among k there.numbers) apart (there.has k (rw size at h));
    })
    (cases_eq list to)

-- a number that moves from its home to another list
pub shifted : (old mid new : Lists) (home : ℕ → ℕ) (number from to : ℕ) → home number ≡ from → AreListed old home → number < length old.nexts.items → from < length old.heads.items
    → ((numbers : List ℕ) → IsList old from numbers → among number numbers ≡ true → IsRemoved mid from number numbers)
    → ((other : ℕ) (numbers mine : List ℕ) → other ≢ from → IsList old other numbers → IsList old from mine → AreDisjoint mine numbers → IsList mid other numbers)
    → ((numbers : List ℕ) → IsList mid to numbers → among number numbers ≡ false → IsList new to (number ∷ numbers))
    → ((other : ℕ) (numbers : List ℕ) → other ≢ to → IsList mid other numbers → among number numbers ≡ false → IsList new other numbers)
    → length new.nexts.items ≡ length old.nexts.items → length new.heads.items ≡ length old.heads.items → AreListed new (moved home number to)
shifted old mid new home number from to home_is listed known within removed kept pushed kept_too nexts heads = λ list h.
    let mine = listed from within in
    let has : among number mine.numbers ≡ true = mine.has number known ∙ eq-eqb (home number) from home_is in
    listed_moved mid new home (length old.nexts.items) number to known pushed kept_too nexts list
    (between old mid home number from home_is listed known within mine.numbers mine.is (removed mine.numbers mine.is has) mine.has kept list (rw heads at h))

-- the numbers below some are at home, and the other lists are empty
pub record Fills (lists : Lists) (home count : ℕ) : Type 0 where
  pub numbers : List ℕ
  pub is : IsList lists home numbers
  pub has : (k : ℕ) → among k numbers ≡ nat_lt k count
  pub others : (list : ℕ) → list ≢ home → IsList lists list []

pub fills_none : (lists : Lists) (home : ℕ) → ((list : ℕ) → get_or lists.heads.items list None ≡ None) → Fills lists home 0
fills_none lists home none = record { numbers = []; is = none home; has = λ k. sym (le-ltb k 0 (omega arith)); others = λ list apart. none list }

below_next : (k count : ℕ) → ((k == count) || nat_lt k count) ≡ nat_lt k (count + 1)
below_next k count = ⊎_elim
    (λ (same : k ≡ count). let h : k < count + 1 = omega arith in rw (eq-eqb k count same, lt-ltb k (count + 1) h) refl)
    (λ (other : k ≢ count). rw (ne_eqb k count other) (⊎_elim
    (λ (h : k < count). let l : k < count + 1 = omega arith in rw (lt-ltb k count h, lt-ltb k (count + 1) l) refl)
    (λ (h : count ≤ k). let l : count + 1 ≤ k = omega arith in rw (le-ltb k count h, le-ltb k (count + 1) l) refl)
    (cases_lt k count)))
    (cases_eq k count)

pub fills_on : (old new : Lists) (home count : ℕ) → Fills old home count
    → ((numbers : List ℕ) → IsList old home numbers → among count numbers ≡ false → IsList new home (count ∷ numbers))
    → ((other : ℕ) (numbers : List ℕ) → other ≢ home → IsList old other numbers → among count numbers ≡ false → IsList new other numbers)
    → Fills new home (count + 1)
fills_on old new home count fills pushed kept = record {
  numbers = count ∷ fills.numbers;
  is = pushed fills.numbers fills.is (fills.has count ∙ le-ltb count count (omega arith));
  has = λ k. rw (fills.has k) (below_next k count);
  others = λ list apart. kept list [] apart (fills.others list apart) refl;
}

pub fills_all : (lists : Lists) (home count : ℕ) → Fills lists home count → length lists.nexts.items ≡ count → AreListed lists (λ _. home)
fills_all lists home count fills size = λ list h. ⊎_elim
    (λ (same : list ≡ home). record {
      numbers = fills.numbers;
      is = rw same fills.is;
      has = λ k l. fills.has k ∙ rw (lt-ltb k count (rw size at l), eq-eqb home list (sym same)) refl;
    })
    (λ (apart : list ≢ home). record {
      numbers = [];
      is = fills.others list apart;
      has = λ k l. rw (ne_eqb home list (λ e. apart (sym e))) refl;
    })
    (cases_eq list home)

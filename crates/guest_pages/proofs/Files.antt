-- Lemmas on the lists in which the slots are found.
use Rattle.std.proofs.Common.{◌≡◌, ◌≢◌, ℕ, ◌+◌, ◌*◌, ◌/◌, ◌%◌, ◌^◌, ◌<◌, ◌≤◌, List, [], ◌∷◌, true, false, Option, Some, None, is_some, length, get_or, set, ◌==◌, refl, sym, ap, ◌∙◌, ⊎_elim, arith, count_by}
use Rattle.std.proofs.lemmas.List.{get_or_read, get_or-set_same, get_or-set_other, length-set}
use Rattle.std.proofs.lemmas.Bool.{cases_lt, eq-eqb, ne_eqb, eqb-true, false≢true, cases_eq, cases_Bool}
use Rattle.std.proofs.Math.Nat.{mul-lt-mul_of_pos_right, mul-zero}
use Rattle.guest_pages.specs.declared.lists.Lists.{Lists}
use Rattle.guest_pages.specs.declared.entry.Entry.{Entry}
use Rattle.guest_pages.specs.Entry.{holds_page}
use Rattle.guest_pages.specs.Lists.{among, IsChain, IsIn, AreListed, moved}
use Rattle.guest_pages.specs.Slots.{LacksPage, bucket_of, list_of, home_in, AreFiled}
use Rattle.guest_pages.proofs.Chains.{chain_len, chain_falls}
use Rattle.guest_pages.proofs.Counts.{count_by_all}
use Rattle.guest_pages.proofs.Seats.{entry_there}

-- a walk along the bucket of a page has passed no slot that holds it
pub record LooksFor (slots : List (Option Entry)) (nexts : List (Option ℕ)) (page : ℕ) (at : Option ℕ) : Type 0 where
  pub rest : List ℕ
  pub chain : IsChain nexts at rest
  pub left : (k : ℕ) → k < length slots → holds_page (get_or slots k None) page ≡ true → among k rest ≡ true

bucket_bound : (hash buckets : ℕ) → hash < 2 ^ 32 → 0 < buckets → hash * buckets / 2 ^ 32 < buckets
bucket_bound hash buckets small some =
    let product : hash * buckets < 2 ^ 32 * buckets = mul-lt-mul_of_pos_right small some in
    omega arith

-- a bucket is below their number
pub bucket_below : (page buckets : ℕ) → 0 < buckets → bucket_of page buckets < buckets
unfolding bucket_of
bucket_below page buckets some = bucket_bound (page * 0x9E3779B97F4A7C15 % 2 ^ 64 / 2 ^ 32) buckets (omega arith) some

no_buckets : (page : ℕ) → bucket_of page 0 ≡ 0
unfolding bucket_of
no_buckets page = rw mul-zero refl

bucket_listed : (page buckets lists : ℕ) → lists ≡ buckets + 1 → bucket_of page buckets < lists
bucket_listed page buckets lists count = ⊎_elim
    (λ (some : 0 < buckets). let below = bucket_below page buckets some in omega arith)
    (λ (none : buckets ≤ 0). let zero_so : buckets ≡ 0 = omega arith in rw (zero_so, no_buckets page) (omega arith))
    (cases_lt 0 buckets)

-- the walk begins at the bucket
pub looks_first : (slots : List (Option Entry)) (lists : Lists) (page : ℕ) → AreFiled slots lists → LooksFor slots lists.nexts.items page (get_or lists.heads.items (bucket_of page (length slots)) None)
looks_first slots lists page filed =
    let bound : bucket_of page (length slots) < length lists.heads.items = (let l = filed.count in bucket_listed page (length slots) (length lists.heads.items) l) in
    let there = filed.listed (bucket_of page (length slots)) bound in
    record {
      rest = there.numbers;
      chain = there.is;
      left = λ k h held.
          let entry = entry_there (get_or slots k None) page held in
          there.has k (rw filed.numbers h) ∙ rw (entry.1, entry.2) (eq-eqb (bucket_of page (length slots)) _ refl);
    }

looks_at : (slots : List (Option Entry)) (nexts : List (Option ℕ)) (page k : ℕ) (rest : List ℕ) → IsChain nexts (Some k) rest
    → ((j : ℕ) → j < length slots → holds_page (get_or slots j None) page ≡ true → among j rest ≡ true) → holds_page (get_or slots k None) page ≡ false
    → LooksFor slots nexts page (get_or nexts k None)
looks_at slots nexts page k [] chain left misses = absurd (let e : ◌≡◌ {A = Option ℕ} (Some k) None = chain in some_none k e)
  where
    some_none : (k : ℕ) → ◌≡◌ {A = Option ℕ} (Some k) None → ⊥
    some_none k e = cc
looks_at slots nexts page k (j ∷ js) chain left misses =
    let same : k ≡ j = cc in
    record {
      rest = js;
      chain = rw same chain.3;
      left = λ i h held.
          let other : i ≢ k = λ e. false≢true (sym misses ∙ ap (λ (n : ℕ). holds_page (get_or slots n None) page) (sym e) ∙ held) in
          let off : (i == j) ≡ false = ne_eqb i j (λ e. other (e ∙ sym same)) in
          rw off at (left i h held);
    }

-- and goes on past a slot that doesn't hold the page
pub looks_on : (slots : List (Option Entry)) (nexts : List (Option ℕ)) (page k : ℕ) → LooksFor slots nexts page (Some k) → holds_page (get_or slots k None) page ≡ false
    → LooksFor slots nexts page (get_or nexts k None)
looks_on slots nexts page k looks misses = looks_at slots nexts page k looks.rest looks.chain looks.left misses

-- where it ends, no slot holds the page
pub looks_end : (slots : List (Option Entry)) (nexts : List (Option ℕ)) (page : ℕ) → LooksFor slots nexts page None → LacksPage slots page
looks_end slots nexts page looks = λ k h. ⊎_elim
    (λ (held : holds_page (get_or slots k None) page ≡ true). absurd (none_left looks.rest k looks.chain (looks.left k h held)))
    (λ misses. misses)
    (cases_Bool (holds_page (get_or slots k None) page))
  where
    none_left : (rest : List ℕ) (k : ℕ) → IsChain nexts None rest → among k rest ≡ true → ⊥
    none_left [] k chain is = false≢true is
    none_left (j ∷ js) k chain is = cc

first_there : (nexts : List (Option ℕ)) (k : ℕ) (rest : List ℕ) → IsChain nexts (Some k) rest → (k < length nexts) × (chain_len (length nexts) nexts (get_or nexts k None) < chain_len (length nexts) nexts (Some k))
first_there nexts k [] chain = absurd (let e : ◌≡◌ {A = Option ℕ} (Some k) None = chain in some_none k e)
  where
    some_none : (k : ℕ) → ◌≡◌ {A = Option ℕ} (Some k) None → ⊥
    some_none k e = cc
first_there nexts k (j ∷ js) chain =
    let same : k ≡ j = cc in
    let there : IsChain nexts (Some j) (j ∷ js) = (refl, chain.1, chain.2, chain.3) in
    (rw same chain.1, rw same (chain_falls nexts j js there))

pub looks_here : (slots : List (Option Entry)) (nexts : List (Option ℕ)) (page k : ℕ) → LooksFor slots nexts page (Some k)
    → (k < length nexts) × (chain_len (length nexts) nexts (get_or nexts k None) < chain_len (length nexts) nexts (Some k))
looks_here slots nexts page k looks = first_there nexts k looks.rest looks.chain

-- a free slot is the first of the last list
free_case : (slots : List (Option Entry)) (k : ℕ) (slot : Option Entry) → k < length slots → list_of slot (length slots) ≡ length slots → slot ≡ None
free_case slots k None within is = refl
free_case slots k (Some entry) within is = absurd (let below = bucket_below entry.page (length slots) (omega arith) in omega arith)

free_in : (slots : List (Option Entry)) (lists : Lists) (numbers : List ℕ) (k : ℕ) → length lists.nexts.items ≡ length slots → IsChain lists.nexts.items (Some k) numbers
    → ((j : ℕ) → j < length lists.nexts.items → among j numbers ≡ (home_in slots j == length slots)) → (k < length slots) × (get_or slots k None ≡ None)
free_in slots lists [] k size chain has = absurd (some_none k chain)
  where
    some_none : (k : ℕ) → ◌≡◌ {A = Option ℕ} (Some k) None → ⊥
    some_none k e = cc
free_in slots lists (j ∷ js) k size chain has =
    let same : k ≡ j = cc in
    let known : k < length lists.nexts.items = rw same chain.1 in
    let within : k < length slots = rw size at known in
    let here : among k (j ∷ js) ≡ true = rw (eq-eqb k j same) refl in
    (within, free_case slots k (get_or slots k None) within (eqb-true (home_in slots k) (length slots) (sym (has k known) ∙ here)))

pub free_there : (slots : List (Option Entry)) (lists : Lists) (k : ℕ) → AreFiled slots lists → get_or lists.heads.items (length slots) None ≡ Some k
    → (k < length slots) × (get_or slots k None ≡ None)
free_there slots lists k filed is =
    let bound : length slots < length lists.heads.items = (let l = filed.count in omega arith) in
    let there = filed.listed (length slots) bound in
    free_in slots lists there.numbers k filed.numbers (rw is at there.is) there.has

full_in : (slots : List (Option Entry)) (lists : Lists) (numbers : List ℕ) → length lists.nexts.items ≡ length slots → IsChain lists.nexts.items None numbers
    → ((j : ℕ) → j < length lists.nexts.items → among j numbers ≡ (home_in slots j == length slots)) → (i : ℕ) → i < length slots → is_some (get_or slots i None) ≡ true
full_in slots lists (j ∷ js) size chain has i within = cc
full_in slots lists [] size chain has i within = used (get_or slots i None) (length slots) (has i (rw size within))
  where
    used : (slot : Option Entry) (most : ℕ) → false ≡ (list_of slot most == most) → is_some slot ≡ true
    used None most h = absurd (false≢true (h ∙ eq-eqb most most refl))
    used (Some entry) most h = refl

-- where that list is empty, each slot holds a page
pub full_there : (slots : List (Option Entry)) (lists : Lists) → AreFiled slots lists → get_or lists.heads.items (length slots) None ≡ None → count_by is_some slots ≡ length slots
full_there slots lists filed is =
    let bound : length slots < length lists.heads.items = (let l = filed.count in omega arith) in
    let there = filed.listed (length slots) bound in
    count_by_all is_some slots None (full_in slots lists there.numbers filed.numbers (rw is at there.is) there.has)

-- a slot is in its list
pub filed_in : (slots : List (Option Entry)) (lists : Lists) (k : ℕ) → k < length slots → AreFiled slots lists → home_in slots k < length lists.heads.items → IsIn lists (home_in slots k) k
filed_in slots lists k within filed bound =
    let there = filed.listed (home_in slots k) bound in
    record { numbers = there.numbers; is = there.is; has = there.has k (rw filed.numbers within) ∙ eq-eqb (home_in slots k) (home_in slots k) refl }

home_put : (slots : List (Option Entry)) (k : ℕ) (slot : Option Entry) (j : ℕ) → k < length slots → home_in (set slots k slot) j ≡ moved (home_in slots) k (list_of slot (length slots)) j
home_put slots k slot j within = ⊎_elim
    (λ (same : j ≡ k). rw (same, get_or-set_same slots k slot None within, length-set slots k slot, eq-eqb k k refl) refl)
    (λ (other : j ≢ k). rw (get_or-set_other slots k j slot None other, length-set slots k slot, ne_eqb j k other) refl)
    (cases_eq j k)

-- each slot is in the list where it belongs after one that changed was moved
pub filed_put : (slots : List (Option Entry)) (old new : Lists) (k : ℕ) (slot : Option Entry) → k < length slots → AreFiled slots old
    → AreListed new (moved (home_in slots) k (list_of slot (length slots))) → length new.heads.items ≡ length old.heads.items → length new.nexts.items ≡ length old.nexts.items
    → AreFiled (set slots k slot) new
filed_put slots old new k slot within filed listed heads nexts = record {
  count = rw (heads, length-set slots k slot) filed.count;
  numbers = rw (nexts, length-set slots k slot) filed.numbers;
  listed = λ list h.
      let there = listed list h in
      record { numbers = there.numbers; is = there.is; has = λ j l. there.has j l ∙ ap (λ (home : ℕ). home == list) (sym (home_put slots k slot j within)) };
}

-- each slot is in the list where it belongs where one changed and belongs there still
pub filed_same : (slots : List (Option Entry)) (lists : Lists) (k : ℕ) (slot : Option Entry) → k < length slots → list_of slot (length slots) ≡ home_in slots k
    → AreFiled slots lists → AreFiled (set slots k slot) lists
filed_same slots lists k slot within same filed = record {
  count = rw (length-set slots k slot) filed.count;
  numbers = rw (length-set slots k slot) filed.numbers;
  listed = λ list h.
      let there = filed.listed list h in
      record {
        numbers = there.numbers;
        is = there.is;
        has = λ j l. there.has j l ∙ ap (λ (home : ℕ). home == list) (sym (home_put slots k slot j within ∙ stays_home slots k slot j same));
      };
}
  where
    stays_home : (slots : List (Option Entry)) (k : ℕ) (slot : Option Entry) (j : ℕ) → list_of slot (length slots) ≡ home_in slots k
        → moved (home_in slots) k (list_of slot (length slots)) j ≡ home_in slots j
    stays_home slots k slot j same = ⊎_elim
        (λ (here : j ≡ k). rw (eq-eqb j k here) (same ∙ ap (home_in slots) (sym here)))
        (λ (other : j ≢ k). rw (ne_eqb j k other) refl)
        (cases_eq j k)

-- the home of a slot, as the code reads it
pub home_is : (slots : List (Option Entry)) (k from buckets : ℕ) (slot : Option Entry) → k < length slots → slot ≡ get_or slots k slot → buckets ≡ length slots
    → from ≡ list_of slot buckets → home_in slots k ≡ from
home_is slots k from buckets slot within read count is = rw (is, count, get_or_read slots k slot within read None) refl

-- Lemmas on the slot that holds a page.
use Rattle.std.proofs.Common.{◌≡◌, ℕ, ◌+◌, ◌<◌, ◌≤◌, List, [], ◌∷◌, Bool, true, false, cond, Option, Some, None, length, get_or, set, zero, suc, ◌==◌, refl, sym, ap, ◌∙◌, ⊎_elim, arith, add-zero, zero-add, ◌≢◌}
use Rattle.std.proofs.lemmas.List.{get_or-set_same, get_or-set_other, get_or_past, length-set}
use Rattle.std.proofs.lemmas.Bool.{eqb-true, eqb-false, eq-eqb, ne_eqb, false≢true, cases_lt, cases_eq, cases_Bool}
use Rattle.guest_pages.specs.declared.entry.Entry.{Entry}
use Rattle.guest_pages.specs.Entry.{holds_page}
use Rattle.guest_pages.specs.Pages.{Seat, seek}
use Rattle.guest_pages.specs.Slots.{LacksPage, IsSeatOf, AreApart, AreSound, CanTake}

pub seek_none : (n : ℕ) (slots : List (Option Entry)) (page : ℕ) → LacksPage slots page → seek n slots page ≡ None
seek_none n [] page lacks = refl
seek_none n (None ∷ slots) page lacks = seek_none (n + 1) slots page (λ i h. lacks (suc i) (omega arith))
seek_none n (Some entry ∷ slots) page lacks =
    let here : (page == entry.page) ≡ false = lacks 0 (omega arith) in
    let rest : seek (n + 1) slots page ≡ None = seek_none (n + 1) slots page (λ i h. lacks (suc i) (omega arith)) in
    rw here rest

abbrev pub seat_at : ℕ → Entry → Option Seat
seat_at slot entry = Some (record { slot = slot; entry = entry })

seat_shift : (n k : ℕ) (entry : Entry) → seat_at (n + 1 + k) entry ≡ seat_at (n + suc k) entry
seat_shift n k entry = let same : n + 1 + k ≡ n + suc k = omega arith in ap (λ (slot : ℕ). seat_at slot entry) same

tail_seat : (o : Option Entry) (slots : List (Option Entry)) (page k : ℕ) → IsSeatOf (o ∷ slots) page (suc k) → IsSeatOf slots page k
tail_seat o slots page k seat = record {
  within = (let h : suc k < suc (length slots) = seat.within in omega arith);
  here = seat.here;
  first = λ i h. seat.first (suc i) (omega arith);
}

seek_from : (n : ℕ) (slots : List (Option Entry)) (page k : ℕ) (entry : Entry) → IsSeatOf slots page k → get_or slots k None ≡ Some entry
    → seek n slots page ≡ seat_at (n + k) entry
seek_from n [] page k entry seat is = absurd (let h : k < 0 = seat.within in omega arith)
seek_from n (o ∷ slots) page zero entry seat is =
    let here : (page == entry.page) ≡ true = rw is at seat.here in
    rw (is, here, add-zero) refl
seek_from n (None ∷ slots) page (suc k) entry seat is =
    seek_from (n + 1) slots page k entry (tail_seat None slots page k seat) is ∙ seat_shift n k entry
seek_from n (Some first ∷ slots) page (suc k) entry seat is =
    let before : (page == first.page) ≡ false = seat.first 0 (omega arith) in
    let o : Option Entry = Some first in
    rw before (seek_from (n + 1) slots page k entry (tail_seat o slots page k seat) is ∙ seat_shift n k entry)

-- the seat that the code found
pub seek_at : (slots : List (Option Entry)) (page k : ℕ) (entry : Entry) → IsSeatOf slots page k → get_or slots k None ≡ Some entry
    → seek 0 slots page ≡ seat_at k entry
seek_at slots page k entry seat is = seek_from 0 slots page k entry seat is ∙ ap (λ (slot : ℕ). seat_at slot entry) (zero-add k)

cond_same : {X : Type 0} (b : Bool) (x y z : X) → (b ≡ false → y ≡ z) → cond b x y ≡ cond b x z
cond_same true x y z h = refl
cond_same false x y z h = h refl

kept_past : {X : Type 0} (b : Bool) (x y : X) → (b ≡ true → ⊥) → y ≡ cond b x y
kept_past true x y h = absurd (h refl)
kept_past false x y h = refl

cond_swap : {X : Type 0} (a b : Bool) (x y z : X) → (a ≡ true → b ≡ true → ⊥) → cond a x (cond b y z) ≡ cond b y (cond a x z)
cond_swap true true x y z h = absurd (h refl refl)
cond_swap true false x y z h = refl
cond_swap false true x y z h = refl
cond_swap false false x y z h = refl

seek_put_from : (n : ℕ) (slots : List (Option Entry)) (k : ℕ) (entry : Entry) (page : ℕ)
    → k < length slots
    → ((i : ℕ) → i < k → holds_page (get_or slots i None) entry.page ≡ false)
    → (holds_page (get_or slots k None) page ≡ true → (page == entry.page) ≡ true)
    → seek n (set slots k (Some entry)) page ≡ cond (page == entry.page) (seat_at (n + k) entry) (seek n slots page)
seek_put_from n [] k entry page h before same = absurd (let l : k < 0 = h in omega arith)
seek_put_from n (None ∷ slots) zero entry page h before same = rw add-zero refl
seek_put_from n (Some first ∷ slots) zero entry page h before same =
    rw add-zero (cond_same (page == entry.page) _ _ _ (λ no. kept_past (page == first.page) _ _ (λ yes. false≢true (sym no ∙ same yes))))
seek_put_from n (None ∷ slots) (suc k) entry page h before same =
    seek_put_from (n + 1) slots k entry page (let l : suc k < suc (length slots) = h in omega arith) (λ i l. before (suc i) (omega arith)) same
    ∙ ap (λ (t : Option Seat). cond (page == entry.page) t (seek (n + 1) slots page)) (seat_shift n k entry)
seek_put_from n (Some first ∷ slots) (suc k) entry page h before same =
    ap (λ (t : Option Seat). cond (page == first.page) (seat_at n first) t)
    (seek_put_from (n + 1) slots k entry page (let l : suc k < suc (length slots) = h in omega arith) (λ i l. before (suc i) (omega arith)) same
    ∙ ap (λ (t : Option Seat). cond (page == entry.page) t (seek (n + 1) slots page)) (seat_shift n k entry))
    ∙ cond_swap (page == first.page) (page == entry.page) _ _ _ (λ p r.
    let apart : (entry.page == first.page) ≡ false = before 0 (omega arith) in
    let one : page ≡ first.page = eqb-true page first.page p in let two : page ≡ entry.page = eqb-true page entry.page r in
    eqb-false entry.page first.page apart (sym two ∙ one))

-- the seats where slot k is given to an entry, whose page no slot before it holds
pub seek_put : (slots : List (Option Entry)) (k : ℕ) (entry : Entry) (page : ℕ)
    → k < length slots
    → ((i : ℕ) → i < k → holds_page (get_or slots i None) entry.page ≡ false)
    → (holds_page (get_or slots k None) page ≡ true → (page == entry.page) ≡ true)
    → seek 0 (set slots k (Some entry)) page ≡ cond (page == entry.page) (seat_at k entry) (seek 0 slots page)
seek_put slots k entry page h before same =
    seek_put_from 0 slots k entry page h before same
    ∙ ap (λ (slot : ℕ). cond (page == entry.page) (seat_at slot entry) (seek 0 slots page)) (zero-add k)

pub entry_there : (o : Option Entry) (page : ℕ) → holds_page o page ≡ true → (entry : Entry) × (o ≡ Some entry) × (entry.page ≡ page)
entry_there None page h = absurd (false≢true h)
entry_there (Some entry) page h = (entry, refl, sym (eqb-true page entry.page h))

-- a slot that holds the page is its seat, since no two slots hold one page
pub seat_of : (slots : List (Option Entry)) (page k : ℕ) → AreApart slots → k < length slots → holds_page (get_or slots k None) page ≡ true
    → IsSeatOf slots page k
seat_of slots page k apart within here = record {
  within = within;
  here = here;
  first = λ i l. ⊎_elim
      (λ (held : holds_page (get_or slots i None) page ≡ true). absurd (false≢true (sym (apart i k page l within held) ∙ here)))
      (λ free. free)
      (cases_Bool (holds_page (get_or slots i None) page));
}

-- the page that a slot holds is one
pub same_page : (o : Option Entry) (page q : ℕ) → holds_page o page ≡ true → holds_page o q ≡ true → page ≡ q
same_page None page q h l = absurd (false≢true h)
same_page (Some entry) page q h l = eqb-true page entry.page h ∙ sym (eqb-true q entry.page l)

past_none : (slots : List (Option Entry)) (i page : ℕ) → length slots ≤ i → holds_page (get_or slots i None) page ≡ false
past_none slots i page h = rw (get_or_past slots i None h) refl

-- the slot that holds the page can take it
pub take_seat : (slots : List (Option Entry)) (page k : ℕ) → AreApart slots → IsSeatOf slots page k → CanTake slots page k
take_seat slots page k apart seat = record {
  within = seat.within;
  others = λ i ne. ⊎_elim
      (λ (l : i < k). seat.first i l)
      (λ (l : k ≤ i). ⊎_elim
      (λ (u : i < length slots). let other : i ≢ k = ne in let kl : k < i = omega arith in apart k i page kl u seat.here)
      (λ (u : length slots ≤ i). past_none slots i page u)
      (cases_lt i (length slots)))
      (cases_lt i k);
  here = λ q h. same_page (get_or slots k None) page q seat.here h;
}

-- a free slot can take a page that no slot holds
pub take_free : (slots : List (Option Entry)) (page k : ℕ) → k < length slots → LacksPage slots page → get_or slots k None ≡ None → CanTake slots page k
take_free slots page k h lacks free = record {
  within = h;
  others = λ i ne. ⊎_elim (λ (u : i < length slots). lacks i u) (λ (u : length slots ≤ i). past_none slots i page u) (cases_lt i (length slots));
  here = λ q hq. absurd (false≢true (rw free at hq));
}

-- the seats where slot k is given to an entry whose page it can take
pub seek_taken : (slots : List (Option Entry)) (k : ℕ) (entry : Entry) (page : ℕ) → CanTake slots entry.page k
    → seek 0 (set slots k (Some entry)) page ≡ cond (page == entry.page) (seat_at k entry) (seek 0 slots page)
seek_taken slots k entry page can =
    seek_put slots k entry page can.within (λ i l. can.others i (let other : i ≢ k = omega arith in other)) (λ h. eq-eqb page entry.page (sym (can.here page h)))

module _ (slots : List (Option Entry)) (k : ℕ) (entry : Entry) (can : CanTake slots entry.page k) where
  put_here : (i : ℕ) → i ≡ k → get_or (set slots k (Some entry)) i None ≡ Some entry
  put_here i is = rw is (get_or-set_same slots k (Some entry) None can.within)

  put_off : (i : ℕ) → i ≢ k → get_or (set slots k (Some entry)) i None ≡ get_or slots i None
  put_off i other = get_or-set_other slots k i (Some entry) None other

  len : length (set slots k (Some entry)) ≡ length slots
  len = length-set slots k (let o : Option Entry = Some entry in o)

  -- slots stay sound where one is given to an entry whose page it can take
  pub sound_taken : entry.page < 0x800000000 → AreSound slots → AreSound (set slots k (Some entry))
  sound_taken low sound = record {
    apart = λ i j page l lj hi. ⊎_elim
        (λ (ik : i ≡ k). let jk : j ≢ k = omega arith in
        let same : page ≡ entry.page = eqb-true page entry.page (rw (put_here i ik) at hi) in
        rw (put_off j jk, same) (can.others j jk))
        (λ (ik : i ≢ k). ⊎_elim
        (λ (jk : j ≡ k). rw (put_here j jk) (ne_eqb page entry.page (λ same.
        false≢true (sym (rw (← same) at (can.others i ik)) ∙ (rw (put_off i ik) at hi)))))
        (λ (jk : j ≢ k). rw (put_off j jk) (sound.apart i j page l (rw len at lj) (rw (put_off i ik) at hi)))
        (cases_eq j k))
        (cases_eq i k);
    low = λ i page l hi. ⊎_elim
        (λ (ik : i ≡ k). let same : page ≡ entry.page = eqb-true page entry.page (rw (put_here i ik) at hi) in rw same low)
        (λ (ik : i ≢ k). sound.low i page (rw len at l) (rw (put_off i ik) at hi))
        (cases_eq i k);
  }

-- slots of which none holds more than before stay sound
pub sound_less : (slots other : List (Option Entry)) → length other ≡ length slots
    → ((k page : ℕ) → holds_page (get_or other k None) page ≡ true → holds_page (get_or slots k None) page ≡ true) → AreSound slots → AreSound other
sound_less slots other len less sound = record {
  apart = λ i j page l lj hi. ⊎_elim
      (λ (held : holds_page (get_or other j None) page ≡ true).
      absurd (false≢true (sym (sound.apart i j page l (rw len at lj) (less i page hi)) ∙ less j page held)))
      (λ free. free)
      (cases_Bool (holds_page (get_or other j None) page));
  low = λ k page l hk. sound.low k page (rw len at l) (less k page hk);
}

emptied_less : (slots : List (Option Entry)) (k i page : ℕ) → k < length slots → holds_page (get_or (set slots k None) i None) page ≡ true
    → holds_page (get_or slots i None) page ≡ true
emptied_less slots k i page within held = ⊎_elim
    (λ (same : i ≡ k). absurd (false≢true (rw (same, get_or-set_same slots k None None within) at held)))
    (λ (other : i ≢ k). rw (get_or-set_other slots k i None None other) at held)
    (cases_eq i k)

-- slots stay sound where one gives its page up
pub sound_emptied : (slots : List (Option Entry)) (k : ℕ) → k < length slots → AreSound slots → AreSound (set slots k None)
sound_emptied slots k within sound =
    sound_less slots (set slots k None) (length-set slots k None) (λ i page held. emptied_less slots k i page within held) sound

seek_emptied_from : (n : ℕ) (slots : List (Option Entry)) (k page : ℕ) → holds_page (get_or slots k None) page ≡ false → seek n (set slots k None) page ≡ seek n slots page
seek_emptied_from n [] k page out = refl
seek_emptied_from n (None ∷ slots) zero page out = refl
seek_emptied_from n (Some entry ∷ slots) zero page out = rw out refl
seek_emptied_from n (None ∷ slots) (suc k) page out = seek_emptied_from (n + 1) slots k page out
seek_emptied_from n (Some entry ∷ slots) (suc k) page out =
    ap (λ (t : Option Seat). cond (page == entry.page) (seat_at n entry) t) (seek_emptied_from (n + 1) slots k page out)

-- the seats where a slot gives its page up
pub seek_emptied : (slots : List (Option Entry)) (k page q : ℕ) → AreApart slots → IsSeatOf slots page k → seek 0 (set slots k None) q ≡ cond (q == page) None (seek 0 slots q)
seek_emptied slots k page q apart seat = ⊎_elim
    (λ (same : q ≡ page).
    let can = take_seat slots page k apart seat in
    let lacks : LacksPage (set slots k None) page = λ i h. ⊎_elim
    (λ (here : i ≡ k). rw (here, get_or-set_same slots k None None seat.within) refl)
    (λ (other : i ≢ k). rw (get_or-set_other slots k i None None other) (can.others i other))
    (cases_eq i k) in
    rw (eq-eqb q page same, same) (seek_none 0 (set slots k None) page lacks))
    (λ (other : q ≢ page).
    let out : holds_page (get_or slots k None) q ≡ false = ⊎_elim
    (λ (held : holds_page (get_or slots k None) q ≡ true). absurd (other (same_page (get_or slots k None) q page held seat.here)))
    (λ free. free)
    (cases_Bool (holds_page (get_or slots k None) q)) in
    rw (ne_eqb q page other) (seek_emptied_from 0 slots k q out))
    (cases_eq q page)

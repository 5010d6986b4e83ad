-- Lemmas on the pages that a write touches.
use Rattle.std.proofs.Common.{◌≡◌, ◌≢◌, ℕ, ◌+◌, ◌-◌, ◌/◌, ◌%◌, ◌<◌, ◌≤◌, Bool, true, false, cond, Option, Some, ◌==◌, ◌&&◌, ◌||◌, nat_lt, nat_le, refl, sym, ap, ◌∙◌, ⊎_elim, arith, add-zero}
use Rattle.std.proofs.lemmas.Bool.{lt-ltb, le-ltb, le-leb, lt-leb, eq-eqb, ne_eqb, cases_lt, cases_eq}
use Rattle.std.proofs.Math.Nat.{sub-zero}
use Rattle.machine_state.specs.Memory.{page_size}
use Rattle.guest_pages.specs.declared.entry.Mark.{Mark}
use Rattle.guest_pages.specs.declared.entry.Mark.TheVariants.{Written}
use Rattle.guest_pages.specs.Changes.{Marks, touches, written_marks}

touch_none : (addr page : ℕ) → touches addr 0 page ≡ false
touch_none addr page = rw (le-ltb 0 0 (omega arith)) refl

touch_below : (addr len page : ℕ) → page < addr / page_size → touches addr len page ≡ false
touch_below addr len page low = rw (lt-leb (addr / page_size) page low) (below_case (nat_lt 0 len) (nat_le page ((addr + len - 1) / page_size)))
  where
    below_case : (a b : Bool) → (a && false && b) ≡ false
    below_case true b = refl
    below_case false b = refl

touch_above : (addr len page : ℕ) → (addr + len - 1) / page_size < page → touches addr len page ≡ false
touch_above addr len page high = rw (lt-leb page ((addr + len - 1) / page_size) high) (above_case (nat_lt 0 len) (nat_le (addr / page_size) page))
  where
    above_case : (a b : Bool) → (a && b && false) ≡ false
    above_case true true = refl
    above_case true false = refl
    above_case false b = refl

pub touch_there : (addr len page : ℕ) → 0 < len → addr / page_size ≤ page → page ≤ (addr + len - 1) / page_size → touches addr len page ≡ true
touch_there addr len page some low high = rw (lt-ltb 0 len some, le-leb (addr / page_size) page low, le-leb page ((addr + len - 1) / page_size) high) refl

-- an access within one page touches that page alone
pub touches_within : (addr len page : ℕ) → 0 < len → addr % page_size + len ≤ page_size → touches addr len page ≡ (page == addr / page_size)
touches_within addr len page some within = ⊎_elim
    (λ (same : page ≡ addr / page_size). touch_there addr len page some (omega arith) (omega arith) ∙ sym (eq-eqb page (addr / page_size) same))
    (λ (other : page ≢ addr / page_size). ⊎_elim
    (λ (low : page < addr / page_size). touch_below addr len page low ∙ sym (ne_eqb page (addr / page_size) other))
    (λ (high : addr / page_size ≤ page). touch_above addr len page (omega arith) ∙ sym (ne_eqb page (addr / page_size) other))
    (cases_lt page (addr / page_size)))
    (cases_eq page (addr / page_size))

or_none : (a : Bool) → a ≡ (a || false)
or_none true = refl
or_none false = refl

or_right : (a : Bool) → true ≡ (a || true)
or_right true = refl
or_right false = refl

-- an access touches what its two parts touch
touches_on : (addr from end page : ℕ) → from ≤ end → touches addr end page ≡ (touches addr from page || touches (addr + from) (end - from) page)
touches_on addr from end page h = ⊎_elim
    (λ (none : from ≡ 0). rw (none, add-zero, sub-zero) refl)
    (λ (some : from ≢ 0). ⊎_elim
    (λ (whole : end ≡ from). let rest : from - from ≡ 0 = omega arith in rw (whole, rest, touch_none (addr + from) page) (or_none (touches addr from page)))
    (λ (more : end ≢ from). ⊎_elim
    (λ (low : page < addr / page_size). rw (touch_below addr end page low, touch_below addr from page low, touch_below (addr + from) (end - from) page (omega arith)) refl)
    (λ (low : addr / page_size ≤ page). ⊎_elim
    (λ (high : (addr + end - 1) / page_size < page). rw (touch_above addr end page high, touch_above addr from page (omega arith), touch_above (addr + from) (end - from) page (omega arith)) refl)
    (λ (high : page ≤ (addr + end - 1) / page_size). ⊎_elim
    (λ (second : (addr + from - 1) / page_size < page). rw (touch_there addr end page (omega arith) low high, touch_there (addr + from) (end - from) page (omega arith) (omega arith) (omega arith)) (or_right (touches addr from page)))
    (λ (first : page ≤ (addr + from - 1) / page_size). rw (touch_there addr end page (omega arith) low high, touch_there addr from page (omega arith) low first) refl)
    (cases_lt ((addr + from - 1) / page_size) page))
    (cases_lt ((addr + end - 1) / page_size) page))
    (cases_lt page (addr / page_size)))
    (cases_eq end from))
    (cases_eq from 0)

twice_case : (a b : Bool) (mark : Option Mark) → cond b (Some Written) (cond a (Some Written) mark) ≡ cond (a || b) (Some Written) mark
twice_case true true mark = refl
twice_case true false mark = refl
twice_case false true mark = refl
twice_case false false mark = refl

-- two writes, the second going on where the first ended, mark as one
pub written_marks_on : (marks : Marks) (addr from end : ℕ) → from ≤ end → written_marks (written_marks marks addr from) (addr + from) (end - from) ≡ written_marks marks addr end
written_marks_on marks addr from end h = λ i page.
    (twice_case (touches addr from page) (touches (addr + from) (end - from) page) (marks page)
    ∙ ap (λ (b : Bool). cond b (Some Written) (marks page)) (sym (touches_on addr from end page h))) i

pub written_marks_none : (marks : Marks) (addr : ℕ) → written_marks marks addr 0 ≡ marks
written_marks_none marks addr = λ i page. ap (λ (b : Bool). cond b (Some Written) (marks page)) (touch_none addr page) i

-- Where the rows of a place lie.
use Rattle.std.proofs.Common.{◌≡◌, ◌+◌, ◌<◌, ◌≤◌, ℕ, slice_get, slice_index, Some, subst, sym, ap, ◌∙◌, arith}
use Rattle.row_table.specs.declared.kinds.Row.{Row}
use Rattle.row_table.specs.declared.kinds.Class.{Class}
use Rattle.row_table.specs.Rows.{rows, starts, place, row_place}
use Rattle.row_table.specs.Matching.{IsAt}
use Rattle.row_table.proofs.Index.{Placed, placed-at, place-of, place-same, place-between, place-lt}
use Rattle.row_table.proofs.Computed.{rows-indexed, rows-ranged, starts-rise, starts-length}

pub placed-here : (i : ℕ) (r : Row) → slice_get rows i ≡ Some r → Placed starts i r
placed-here i r e = placed-at starts rows i r rows-indexed rows-ranged e

-- rows of one place have one class, map and opcode
pub at-of-place : (i : ℕ) (r : Row) (c : Class) (m o : ℕ) → slice_get rows i ≡ Some r → m < 4 → o < 256 → row_place r ≡ place c m o → IsAt r c m o
at-of-place i r c m o g hm ho e = let w = placed-here i r g in place-same r c m o w.map w.opcode hm ho e

pub lies-within : (c : Class) (m o i : ℕ) (r : Row) → slice_get rows i ≡ Some r → IsAt r c m o → (slice_index starts (place c m o) ≤ i) × (i < slice_index starts (place c m o + 1))
lies-within c m o i r g h =
    let w = placed-here i r g in let e = place-of r c m o h in
    (subst (λ p. slice_index starts p ≤ i) e w.from, subst (λ p. i < slice_index starts (p + 1)) e w.below)

pub lies-only : (c : Class) (m o i : ℕ) (r : Row) → m < 4 → o < 256 → slice_get rows i ≡ Some r → slice_index starts (place c m o) ≤ i → i < slice_index starts (place c m o + 1) → IsAt r c m o
lies-only c m o i r hm ho g from below =
    let w = placed-here i r g in
    let own = place-lt r.class r.map r.opcode w.map w.opcode in
    let lt = place-lt c m o hm ho in
    let b = place-between starts (place c m o) (place c m o + 1) i r starts-rise starts-length (omega arith) lt (omega arith) w from below in
    let l = b.0 in let u = b.1 in
    at-of-place i r c m o g hm ho (omega arith)

pub run-holds : (c : Class) (m o s e p : ℕ) → p ≡ place c m o → s ≡ slice_index starts p → e ≡ slice_index starts (p + 1) → (i : ℕ) (r : Row) → slice_get rows i ≡ Some r → IsAt r c m o → (s ≤ i) × (i < e)
run-holds c m o s e p hp hs he i r g h =
    let w = lies-within c m o i r g h in
    (subst (λ x. x ≤ i) (ap (slice_index starts) (sym hp) ∙ sym hs) w.0, subst (λ x. i < x) (ap (λ x. slice_index starts (x + 1)) (sym hp) ∙ sym he) w.1)

pub run-only : (c : Class) (m o s e p : ℕ) → m < 4 → o < 256 → p ≡ place c m o → s ≡ slice_index starts p → e ≡ slice_index starts (p + 1) → (i : ℕ) (r : Row) → slice_get rows i ≡ Some r → s ≤ i → i < e → IsAt r c m o
run-only c m o s e p hm ho hp hs he i r g from below =
    lies-only c m o i r hm ho g (subst (λ x. x ≤ i) (hs ∙ ap (slice_index starts) hp) from) (subst (λ x. i < x) (he ∙ ap (λ x. slice_index starts (x + 1)) hp) below)

-- no row is of a map above 3
pub no-row-above : (c : Class) (m o i : ℕ) (r : Row) → 3 < m → slice_get rows i ≡ Some r → IsAt r c m o → ⊥
no-row-above c m o i r hm g h = let w = (placed-here i r g).map in let e = h.map in omega arith

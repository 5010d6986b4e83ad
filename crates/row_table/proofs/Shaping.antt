-- The shape of a class, map and opcode, from its rows.
use Rattle.std.proofs.Common.{◌≡◌, ℕ, zero, suc, ◌<◌, ◌≤◌, ◌==◌, ◌&&◌, ◌||◌, ◌+◌, nat_lt, length, slice_index, arith, Bool, true, false, cond, List, [], ◌∷◌, slice_get, None, refl, sym, ap, ◌∙◌, ◌⊎◌, inl, inr, eqb-true, eq-eqb}
use Rattle.std.proofs.Common.{Some as some}
use Rattle.std.proofs.lemmas.Bool.{and_parts, cases_lt, lt-ltb, le-ltb}
use Rattle.std.proofs.lemmas.Option.{slice_get_cases}
use Rattle.std.specs.Prelude.{find}
use Rattle.std.specs.List.{list_any}
use Rattle.std.specs.Option.{option_map}
use Rattle.row_table.specs.declared.kinds.Row.{Row}
use Rattle.row_table.specs.declared.kinds.Class.{Class}
use Rattle.row_table.specs.Rows.{rows, starts, class_number, row_place, place}
use Rattle.row_table.specs.Shapes.{shape_of}
use Rattle.row_table.specs.Matching.{IsAt, is_at, shape_at, map_used}
use Rattle.row_table.proofs.Index.{class_number-same, place-of}
use Rattle.row_table.proofs.Pairs.{and_true}
use Rattle.row_table.proofs.Index.{rises-at, at_most-at, place-lt, place-between}
use Rattle.row_table.proofs.Computed.{starts-rise, starts-length, starts-within}
use Rattle.row_table.proofs.Places.{placed-here, at-of-place}
use Rattle.row_table.proofs.Unique.{one-shape}

pub split : (b : Bool) → (b ≡ true) ⊎ (b ≡ false)
split true = inl refl
split false = inr refl

-- ---- the first element that passes a test
pub find-none : {X : Type 0} (p : X → Bool) (xs : List X) → ((i : ℕ) (x : X) → slice_get xs i ≡ some x → p x ≡ true → ⊥) → find p xs ≡ None
find-none p [] none = refl
find-none p (x ∷ xs) none = elim (split (p x)) [
  | inl e ↦ absurd (none 0 x refl e)
  | inr e ↦ ap (λ b. cond b (some x) (find p xs)) e ∙ find-none p xs (λ i y g h. none (suc i) y g h)
]

pub record Found {X : Type 0} (p : X → Bool) (xs : List X) : Type 0 where
  pub item : X
  pub index : ℕ
  pub there : slice_get xs index ≡ some item
  pub passes : p item ≡ true
  pub is : find p xs ≡ some item

item_same : {X : Type 0} (x y : X) → some x ≡ some y → x ≡ y
item_same x y e = cc

find-here : {X : Type 0} (p : X → Bool) (y : X) (ys : List X) → p y ≡ true → Found p (y ∷ ys)
find-here p y ys e = record { item = y; index = 0; there = refl; passes = e; is = ap (λ b. cond b (some y) (find p ys)) e }

find-later : {X : Type 0} (p : X → Bool) (y : X) (ys : List X) → p y ≡ false → Found p ys → Found p (y ∷ ys)
find-later p y ys e f = record { item = f.item; index = suc f.index; there = f.there; passes = f.passes; is = ap (λ b. cond b (some y) (find p ys)) e ∙ f.is }

pub find-some : {X : Type 0} (p : X → Bool) (xs : List X) (i : ℕ) (x : X) → slice_get xs i ≡ some x → p x ≡ true → Found p xs
find-some p [] i x g h = absurd cc
find-some p (y ∷ ys) zero x g h = find-here p y ys (ap p (item_same y x g) ∙ h)
find-some p (y ∷ ys) (suc i) x g h = elim (split (p y)) [
  | inl e ↦ find-here p y ys e
  | inr e ↦ find-later p y ys e (find-some p ys i x g h)
]

-- ---- the test for a class, map and opcode
pub is_at-parts : (c : Class) (m o : ℕ) (r : Row) → is_at c m o r ≡ true → IsAt r c m o
is_at-parts c m o r h =
    let a = and_parts (class_number r.class == class_number c) _ h in
    let b = and_parts (r.map == m) _ a.1 in
    record { class = class_number-same r.class c (eqb-true _ _ a.0); map = eqb-true _ _ b.0; opcode = eqb-true _ _ b.1 }

pub is_at-whole : (c : Class) (m o : ℕ) (r : Row) → IsAt r c m o → is_at c m o r ≡ true
is_at-whole c m o r h = and_true _ _ (eq-eqb _ _ (ap class_number h.class)) (and_true _ _ (eq-eqb _ _ h.map) (eq-eqb _ _ h.opcode))

pub shape_at-none : (c : Class) (m o : ℕ) → ((i : ℕ) (r : Row) → slice_get rows i ≡ some r → IsAt r c m o → ⊥) → shape_at c m o ≡ None
unfolding shape_at
shape_at-none c m o none = ap (option_map shape_of) (find-none (is_at c m o) rows (λ i r g h. none i r g (is_at-parts c m o r h)))

pub shape_at-some : (c : Class) (m o i : ℕ) (r : Row) → slice_get rows i ≡ some r → IsAt r c m o → shape_at c m o ≡ some (shape_of r)
unfolding shape_at
shape_at-some c m o i r g h =
    let f = find-some (is_at c m o) rows i r g (is_at-whole c m o r h) in
    let at = is_at-parts c m o f.item f.passes in
    ap (option_map shape_of) f.is ∙ ap (λ s. some s) (one-shape f.index i f.item r f.there g (place-of f.item c m o at ∙ sym (place-of r c m o h)))

-- ---- the maps that a class uses
abbrev in_class : Class → ℕ → Row → Bool
in_class c m r = (class_number r.class == class_number c) && (r.map == m)

pub any-some : {X : Type 0} (p : X → Bool) (xs : List X) (i : ℕ) (x : X) → slice_get xs i ≡ some x → p x ≡ true → list_any p xs ≡ true
any-some p [] i x g h = absurd cc
any-some p (y ∷ ys) zero x g h = ap (λ b. b || list_any p ys) (ap p (item_same y x g) ∙ h)
any-some p (y ∷ ys) (suc i) x g h = elim (split (p y)) [
  | inl e ↦ ap (λ b. b || list_any p ys) e
  | inr e ↦ ap (λ b. b || list_any p ys) e ∙ any-some p ys i x g h
]

pub any-none : {X : Type 0} (p : X → Bool) (xs : List X) → ((i : ℕ) (x : X) → slice_get xs i ≡ some x → p x ≡ true → ⊥) → list_any p xs ≡ false
any-none p [] none = refl
any-none p (y ∷ ys) none = elim (split (p y)) [
  | inl e ↦ absurd (none 0 y refl e)
  | inr e ↦ ap (λ b. b || list_any p ys) e ∙ any-none p ys (λ i x g h. none (suc i) x g h)
]

pub map_used-some : (c : Class) (m i : ℕ) (r : Row) → slice_get rows i ≡ some r → r.class ≡ c → r.map ≡ m → map_used c m ≡ true
unfolding map_used
map_used-some c m i r g e h = any-some (in_class c m) rows i r g (and_true _ _ (eq-eqb _ _ (ap class_number e)) (eq-eqb _ _ h))

pub map_used-none : (c : Class) (m : ℕ) → ((i : ℕ) (r : Row) → slice_get rows i ≡ some r → r.class ≡ c → r.map ≡ m → ⊥) → map_used c m ≡ false
unfolding map_used
map_used-none c m none = any-none (in_class c m) rows (λ i r g h.
    let w = and_parts (class_number r.class == class_number c) _ h in
    none i r g (class_number-same r.class c (eqb-true _ _ w.0)) (eqb-true _ _ w.1))

pub map_used-above : (c : Class) (m : ℕ) → 3 < m → map_used c m ≡ false
map_used-above c m h = map_used-none c m (λ i r g e k. let w = (placed-here i r g).map in omega arith)

-- a row whose place lies in a map is of that map
in-place : (c d : Class) (m n o : ℕ) → o < 256 → m < 4 → n < 4 → place d n 0 ≤ place c m o → place c m o < place d n 0 + 256 → place c m o ≡ place d n o
in-place c d m n o ho hm hn l u = omega arith

in-map : (c : Class) (m i : ℕ) (r : Row) → m < 4 → slice_get rows i ≡ some r → slice_index starts (place c m 0) ≤ i → i < slice_index starts (place c m 0 + 256) → IsAt r c m r.opcode
in-map c m i r hm g from below =
    let w = placed-here i r g in
    let own = place-lt r.class r.map r.opcode w.map w.opcode in
    let last = place-lt c m 255 hm (omega arith) in
    let b = place-between starts (place c m 0) (place c m 0 + 256) i r starts-rise starts-length (omega arith) (omega arith) (omega arith) w from below in
    let l = b.0 in let u = b.1 in let o = w.opcode in
    at-of-place i r c m r.opcode g hm o (in-place r.class c r.map m r.opcode o w.map hm l u)

used-here : (c : Class) (m : ℕ) → m < 4 → slice_index starts (place c m 0) < slice_index starts (place c m 0 + 256) → map_used c m ≡ true
used-here c m hm lt =
    let i = slice_index starts (place c m 0) in
    let n : slice_index starts (place c m 0 + 256) ≤ length rows = at_most-at (length rows) starts (place c m 0 + 256) starts-within in
    elim ((slice_get_cases rows i).1) [
      | inl x ↦ let at = in-map c m i x.0 hm x.2 (omega arith) lt in map_used-some c m i x.0 x.2 at.class at.map
      | inr x ↦ let le = x.0 in absurd (omega arith)
    ]

unused-here : (c : Class) (m : ℕ) → m < 4 → slice_index starts (place c m 0 + 256) ≤ slice_index starts (place c m 0) → map_used c m ≡ false
unused-here c m hm le = map_used-none c m (λ i r g e k.
    let w = placed-here i r g in
    let last = place-lt c m 255 hm (omega arith) in
    let p : row_place r ≡ place c m r.opcode = place-of r c m r.opcode (record { class = e; map = k; opcode = refl }) in
    let o = w.opcode in let n = starts-length in
    let a : slice_index starts (place c m 0) ≤ slice_index starts (row_place r) = rises-at 0 starts (place c m 0) (row_place r) starts-rise (omega arith) (omega arith) in
    let b : slice_index starts (row_place r + 1) ≤ slice_index starts (place c m 0 + 256) = rises-at 0 starts (row_place r + 1) (place c m 0 + 256) starts-rise (omega arith) (omega arith) in
    let f = w.from in let u = w.below in omega arith)

pub used-is : (c : Class) (m s e p : ℕ) → m < 4 → p ≡ place c m 0 → s ≡ slice_index starts p → e ≡ slice_index starts (p + 256) → nat_lt s e ≡ map_used c m
used-is c m s e p hm hp hs he =
    let a : s ≡ slice_index starts (place c m 0) = hs ∙ ap (slice_index starts) hp in
    let b : e ≡ slice_index starts (place c m 0 + 256) = he ∙ ap (λ x. slice_index starts (x + 256)) hp in
    elim (cases_lt s e) [
      | inl lt ↦ lt-ltb s e lt ∙ sym (used-here c m hm (omega arith))
      | inr le ↦ le-ltb s e le ∙ sym (unused-here c m hm (omega arith))
    ]

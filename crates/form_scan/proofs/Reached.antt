-- Which maps have rows, and an opcode of each.
use Rattle.std.proofs.Common.{◌≡◌, ℕ, zero, suc, ◌%◌, ◌==◌, nat_lt, Bool, true, false, ◌&&◌, ◌||◌, cond, List, [], ◌∷◌, slice_get, None, refl, sym, ap, ◌∙◌, ◌⊎◌, inl, inr, eqb-true, eq-eqb, arith}
use Rattle.std.proofs.Common.{Some as some}
use Rattle.std.specs.List.{list_any, list_all}
use Rattle.std.specs.Int.{bit_at}
use Rattle.std.proofs.lemmas.Bool.{and_parts, lt-ltb}
use Rattle.row_table.specs.declared.kinds.Row.{Row}
use Rattle.row_table.specs.declared.kinds.Shape.{Shape}
use Rattle.row_table.specs.declared.kinds.Class.{Class}
use Rattle.row_table.specs.declared.kinds.Class.TheVariants.{Legacy}
use Rattle.row_table.specs.Rows.{rows, table, class_number}
use Rattle.row_table.specs.Matching.{shape_at, map_used}
use Rattle.row_table.proofs.Index.{class_number-same, some_same}
use Rattle.row_table.proofs.Computed.{rows-table}
use Rattle.row_table.proofs.Places.{placed-here}
use Rattle.row_table.proofs.Shaping.{shape_at-some, shape_at-none, map_used-some, map_used-above}
use Rattle.form_scan.specs.Front.{in_front}
use Rattle.form_scan.specs.Shaped.{is_opcode}
use Rattle.form_scan.specs.Reading.{class_used}

-- ---- computed over the table
abbrev of_map : Class → ℕ → Row → Bool
of_map c m r = (class_number r.class == class_number c) && (r.map == m)

-- a legacy row's opcode is no prefix, no escape, and no beginning of VEX or EVEX
abbrev is_reached : Row → Bool
is_reached r = let o = is_opcode r.map r.opcode in cond (class_number r.class == 0) o true

table-reached : list_all is_reached table ≡ true
unfolding table in_front
table-reached = refl

table-one_byte : list_any (of_map Legacy 0) table ≡ true
unfolding table
table-one_byte = refl

table-two_byte : list_any (of_map Legacy 1) table ≡ true
unfolding table
table-two_byte = refl

-- ---- of any list
record Found (p : Row → Bool) (rs : List Row) : Type 0 where
  row : Row
  index : ℕ
  there : slice_get rs index ≡ some row
  passes : p row ≡ true

or-true : (a b : Bool) → (a || b) ≡ true → (a ≡ true) ⊎ (b ≡ true)
or-true true b h = inl refl
or-true false b h = inr h

any-found : (p : Row → Bool) (rs : List Row) → list_any p rs ≡ true → Found p rs
any-found p [] h = absurd cc
any-found p (r ∷ rs) h = elim (or-true (p r) (list_any p rs) h) [
  | inl e ↦ record { row = r; index = 0; there = refl; passes = e }
  | inr e ↦ let f = any-found p rs e in record { row = f.row; index = suc f.index; there = f.there; passes = f.passes }
]

all-at : (p : Row → Bool) (rs : List Row) (i : ℕ) (r : Row) → list_all p rs ≡ true → slice_get rs i ≡ some r → p r ≡ true
all-at p [] i r h g = absurd cc
all-at p (q ∷ rs) zero r h g = let w = and_parts (p q) (list_all p rs) h in ap p (sym (some_same q r g)) ∙ w.0
all-at p (q ∷ rs) (suc i) r h g = let w = and_parts (p q) (list_all p rs) h in all-at p rs i r w.1 g

-- ---- a row of a map
pub record Used (c : Class) (m : ℕ) : Type 0 where
  pub opcode : ℕ
  pub shape : Shape
  pub has : shape_at c m opcode ≡ some shape
  pub fits : nat_lt opcode 256 ≡ true

record InMap (c : Class) (m : ℕ) : Type 0 where
  row : Row
  index : ℕ
  there : slice_get rows index ≡ some row
  class : row.class ≡ c
  map : row.map ≡ m

in-map : (c : Class) (m : ℕ) → map_used c m ≡ true → InMap c m
unfolding map_used
in-map c m h =
    let f = any-found (of_map c m) rows h in
    let w = and_parts (class_number (f.row).class == class_number c) _ f.passes in
    record { row = f.row; index = f.index; there = f.there; class = class_number-same (f.row).class c (eqb-true _ _ w.0); map = eqb-true _ _ w.1 }

used-row : (c : Class) (m : ℕ) → InMap c m → Used c m
used-row c m f = record {
  opcode = (f.row).opcode;
  shape = _;
  has = shape_at-some c m (f.row).opcode f.index f.row f.there (record { class = f.class; map = f.map; opcode = refl });
  fits = lt-ltb (f.row).opcode 256 (placed-here f.index f.row f.there).opcode;
}

pub used : (c : Class) (m : ℕ) → map_used c m ≡ true → Used c m
used c m h = used-row c m (in-map c m h)

reached : (b : Bool) (o : Bool) → cond b o true ≡ true → b ≡ true → o ≡ true
reached true o h e = h
reached false o h e = cc

-- a legacy row's opcode is an opcode of its map
pub record Legacies (m : ℕ) : Type 0 where
  pub used : Used Legacy m
  pub is : is_opcode m used.opcode ≡ true

legacies-from : (m : ℕ) → InMap Legacy m → Legacies m
unfolding used-row
legacies-from m f =
    let p = all-at is_reached rows f.index f.row (ap (list_all is_reached) rows-table ∙ table-reached) f.there in
    let e : is_opcode (f.row).map (f.row).opcode ≡ true = reached (class_number (f.row).class == 0) _ p (eq-eqb _ _ (ap class_number f.class)) in
    record { used = used-row Legacy m f; is = ap (λ n. is_opcode n (f.row).opcode) (sym f.map) ∙ e }

pub legacies : (m : ℕ) → map_used Legacy m ≡ true → Legacies m
legacies m h = legacies-from m (in-map Legacy m h)

pub one_byte : Legacies 0
unfolding map_used
one_byte = legacies 0 (ap (list_any (of_map Legacy 0)) rows-table ∙ table-one_byte)

pub two_byte : Legacies 1
unfolding map_used
two_byte = legacies 1 (ap (list_any (of_map Legacy 1)) rows-table ∙ table-two_byte)

true-false : (b : Bool) → b ≡ true → b ≡ false → ⊥
true-false b h e = cc

split : (b : Bool) → (b ≡ true) ⊎ (b ≡ false)
split true = inl refl
split false = inr refl

unused : (c : Class) (m o : ℕ) → map_used c m ≡ false → shape_at c m o ≡ None
unused c m o h = shape_at-none c m o (λ i r g at. true-false _ (map_used-some c m i r g at.class at.map) h)

-- where there is a shape, the map is used
pub used-back : (c : Class) (m o : ℕ) (s : Shape) → shape_at c m o ≡ some s → map_used c m ≡ true
used-back c m o s e = elim (split (map_used c m)) [
  | inl h ↦ h
  | inr h ↦ absurd (let n : None ≡ some s = sym (unused c m o h) ∙ e in cc)
]

-- ---- a map of a class
-- the byte that names a used map, in VEX and in EVEX
pub record MapByte (c : Class) : Type 0 where
  pub byte : ℕ
  pub fits : nat_lt byte 256 ≡ true
  pub vex : map_used c (byte % 32) ≡ true
  pub evex : ((bit_at byte 3 == 0) && map_used c (byte % 8)) ≡ true

pub map-byte : (c : Class) → class_used c ≡ true → MapByte c
map-byte c h = elim (or-true (map_used c 0) _ h) [
  | inl e ↦ record { byte = 0; fits = refl; vex = e; evex = e }
  | inr x ↦ elim (or-true (map_used c 1) _ x) [
    | inl e ↦ record { byte = 1; fits = refl; vex = e; evex = e }
    | inr y ↦ elim (or-true (map_used c 2) _ y) [
      | inl e ↦ record { byte = 2; fits = refl; vex = e; evex = e }
      | inr e ↦ record { byte = 3; fits = refl; vex = e; evex = e }
    ]
  ]
]

or-first : (a b : Bool) → a ≡ true → (a || b) ≡ true
or-first true b h = refl
or-first false b h = cc

or-second : (a b : Bool) → b ≡ true → (a || b) ≡ true
or-second true b h = refl
or-second false b h = h

pub class-back : (c : Class) (m : ℕ) → map_used c m ≡ true → class_used c ≡ true
class-back c zero h = or-first _ _ h
class-back c (suc zero) h = or-second (map_used c 0) _ (or-first _ _ h)
class-back c (suc (suc zero)) h = or-second (map_used c 0) _ (or-second (map_used c 1) _ (or-first _ _ h))
class-back c (suc (suc (suc zero))) h = or-second (map_used c 0) _ (or-second (map_used c 1) _ (or-second (map_used c 2) _ h))
class-back c (suc (suc (suc (suc n)))) h = absurd (true-false _ h (map_used-above c (suc (suc (suc (suc n)))) (omega arith)))

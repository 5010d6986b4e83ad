-- The one row that fields match, and whether it allows them, in any encoding.
use Rattle.std.proofs.Common.{◌≡◌, ◌↔◌, ◌<◌, ℕ, ℤ, Bool, true, false, cond, None, length, slice_get, refl, sym, ap, ◌∙◌, subst}
use Rattle.std.proofs.Common.{Some as some}
use Rattle.std.proofs.lemmas.Option.{slice_get_within}
use Rattle.row_table.specs.declared.kinds.Row.{Row}
use Rattle.row_table.specs.declared.kinds.Fields.{Fields}
use Rattle.row_table.specs.declared.kinds.Decoded.{Decoded}
use Rattle.row_table.specs.Rows.{rows}
use Rattle.row_table.specs.Matching.{Matches, by_mark, without_mark, matched}
use Rattle.row_table.specs.Spelling.{Encoding, Spells, IsSpelled, IsSpelling, spelled_row, spelled_at, spelled}

-- a row that is matched is in the table
matched-within : (f : Fields) (i : ℕ) → Matches rows f i → i < length rows
matched-within f i (by_mark r there marked) = slice_get_within rows i r there
matched-within f i (without_mark r there unmarked none) = slice_get_within rows i r there

row_there : (f : Fields) (i : ℕ) → Matches rows f i → Row
row_there f i (by_mark r there marked) = r
row_there f i (without_mark r there unmarked none) = r

row-there : (f : Fields) (i : ℕ) (m : Matches rows f i) → slice_get rows i ≡ some (row_there f i m)
unfolding row_there
row-there f i (by_mark r there marked) = there
row-there f i (without_mark r there unmarked none) = there

some_same : (row other : Row) (i : ℕ) → slice_get rows i ≡ some row → slice_get rows i ≡ some other → row ≡ other
some_same row other i a b = let e : some row ≡ some other = sym a ∙ b in cc

true-false : (b : Bool) → b ≡ true → b ≡ false → ⊥
true-false b h e = cc

abbrev instruction : Fields → ℕ → ℤ → Decoded
instruction f i z = record { row = i; fields = f; disp = z }

decoded-is : (f : Fields) (i : ℕ) (z : ℤ) (d : Decoded) → d.fields ≡ f → d.row ≡ i → d.disp ≡ z → some (instruction f i z) ≡ some d
decoded-is f i z d a b c =
    λ k. some (let x : Decoded = record { row = sym b k; fields = sym a k; disp = sym c k } in x)

module _ (e : Encoding) (f : Fields) where
  -- ---- no row is spelled
  none-decoded : ((i : ℕ) → Spells e f i → ⊥) → (d : Decoded) → (None ≡ some d) ↔ IsSpelled e f d
  none-decoded none d = (λ h. absurd (let g : None ≡ some d = h in cc), λ h. absurd (none d.row h.row))

  none-spelling : ((i : ℕ) → Spells e f i → ⊥) → None ≡ spelled e f → IsSpelling e f None
  none-spelling none value = record { some = none-decoded none; none = none; within = tt; value = value }

  spelled-none : None ≡ matched f → None ≡ spelled e f
  unfolding spelled
  spelled-none h = ap (spelled_at e f) h

  -- since none is matched
  pub unmatched : None ≡ matched f → ((i : ℕ) → Matches rows f i → ⊥) → IsSpelling e f None
  unmatched h none = none-spelling (λ i s. none i s.matches) (spelled-none h)

  -- ---- the row that is matched
  module _ (i : ℕ) (r : Row) (there : slice_get rows i ≡ some r) (is : some i ≡ matched f) (only : (j : ℕ) → Matches rows f j → j ≡ i) where
    by-row : spelled e f ≡ spelled_row e f i (some r)
    unfolding spelled
    by-row = sym (ap (spelled_at e f) is) ∙ ap (spelled_row e f i) there

    none-allowed : e.allows r f ≡ false → (j : ℕ) → Spells e f j → ⊥
    none-allowed denied j s = true-false (e.allows r f) (s.allowed r (ap (slice_get rows) (only j s.matches) ∙ there)) denied

    -- it doesn't allow the fields
    pub refused : e.allows r f ≡ false → IsSpelling e f None
    refused denied =
        none-spelling (none-allowed denied)
        (sym (by-row ∙ ap (λ b. cond b (some (instruction f i (e.displacement r f))) None) denied))

    spells-allowed : Matches rows f i → e.allows r f ≡ true → Spells e f i
    spells-allowed m holds = record {
      matches = m;
      allowed = λ q g. ap (λ (x : Row). e.allows x f) (some_same q r i g there) ∙ holds;
    }

    is-spelled : (z : ℤ) → z ≡ e.displacement r f → Matches rows f i → e.allows r f ≡ true → IsSpelled e f (instruction f i z)
    is-spelled z disp m holds = record {
      fields = refl;
      row = spells-allowed m holds;
      disp = λ q g. disp ∙ ap (λ (x : Row). e.displacement x f) (some_same r q i there g);
    }

    some-decoded : (z : ℤ) → z ≡ e.displacement r f → Matches rows f i → e.allows r f ≡ true
        → (d : Decoded) → (some (instruction f i z) ≡ some d) ↔ IsSpelled e f d
    some-decoded z disp m holds d = (
      λ h. let same : instruction f i z ≡ d = cc in subst (IsSpelled e f) same (is-spelled z disp m holds),
      λ h. let at = only d.row h.row.matches in
          decoded-is f i z d h.fields at (h.disp r (ap (slice_get rows) at ∙ there) ∙ sym disp),
    )

    -- it allows them
    pub allowed : (z : ℤ) → z ≡ e.displacement r f → Matches rows f i → e.allows r f ≡ true → IsSpelling e f (some (instruction f i z))
    allowed z disp m holds = record {
      some = some-decoded z disp m holds;
      none = tt;
      within = matched-within f i m;
      value =
          ap (λ d. some (instruction f i d)) disp
          ∙ sym (by-row ∙ ap (λ b. cond b (some (instruction f i (e.displacement r f))) None) holds);
    }

  -- ---- what an instruction's fields meet
  -- its row is in the table
  pub spelled-within : (d : Decoded) → IsSpelled e f d → d.row < length rows
  spelled-within d is = matched-within f d.row is.row.matches

  -- and allows them
  pub spelled-allowed : {P : Type 0} → ((r : Row) → e.allows r f ≡ true → P) → (d : Decoded) → IsSpelled e f d → P
  spelled-allowed get d is =
      let m = is.row.matches in get (row_there f d.row m) (is.row.allowed (row_there f d.row m) (row-there f d.row m))

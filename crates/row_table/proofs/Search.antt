-- What the loop of find knows, and how one more row keeps it.
use Rattle.std.proofs.Common.{◌≡◌, ℕ, ◌+◌, ◌<◌, ◌≤◌, sym, ap, subst, ◌∙◌, Option, List, slice_get, Some, None, IfSome, IfNone, arith, inl, inr}
use Rattle.std.proofs.lemmas.Bool.{cases_lt}
use Rattle.row_table.specs.declared.kinds.Row.{Row}
use Rattle.row_table.specs.declared.kinds.Fields.{Fields}
use Rattle.row_table.specs.Matching.{IsAt, FitsMarked, FitsUnmarked, Matches, by_mark, without_mark}
use Rattle.row_table.proofs.Index.{some_same}

-- no row from `start` to below `i` is one of those
pub record NoneOf (P : Row → Type 0) (rs : List Row) (start i : ℕ) : Type 0 where
  pub none : (j : ℕ) (r : Row) → slice_get rs j ≡ Some r → start ≤ j → j < i → P r → ⊥

pub record IsUnmarkedRow (rs : List Row) (f : Fields) (k : ℕ) : Type 0 where
  pub row : Row
  pub there : slice_get rs k ≡ Some row
  pub fits : FitsUnmarked row f

abbrev marked : Fields → Row → Type 0
marked f r = FitsMarked r f

abbrev bare : Fields → Row → Type 0
bare f r = FitsUnmarked r f

-- no marked row so far, and either no unmarked one or this one
abbrev pub Kept : List Row → Fields → ℕ → ℕ → Option ℕ → Type 0
Kept rs f start i None = NoneOf (marked f) rs start i × NoneOf (bare f) rs start i
Kept rs f start i (Some k) = NoneOf (marked f) rs start i × IsUnmarkedRow rs f k

no_marked : (rs : List Row) (f : Fields) (start i : ℕ) (u : Option ℕ) → Kept rs f start i u → NoneOf (marked f) rs start i
no_marked rs f start i None h = h.0
no_marked rs f start i (Some k) h = h.0

NoneOf-more : (P : Row → Type 0) (rs : List Row) (start i : ℕ) (r : Row) → slice_get rs i ≡ Some r → (P r → ⊥) → NoneOf P rs start i → NoneOf P rs start (i + 1)
NoneOf-more P rs start i r g not h = record {
  none = λ j q e a b m.
      elim (cases_lt j i) [
        | inl here ↦ h.none j q e a here m
        | inr later ↦
            let same : j ≡ i = omega arith in
            not (subst P (some_same q r (sym e ∙ ap (slice_get rs) same ∙ g)) m)
      ];
}

-- the row does not match
pub kept-skip : (rs : List Row) (f : Fields) (start i : ℕ) (u : Option ℕ) (r : Row) → slice_get rs i ≡ Some r → (FitsMarked r f → ⊥) → (FitsUnmarked r f → ⊥) → Kept rs f start i u → Kept rs f start (i + 1) u
kept-skip rs f start i None r g not nor h = (NoneOf-more (marked f) rs start i r g not h.0, NoneOf-more (bare f) rs start i r g nor h.1)
kept-skip rs f start i (Some k) r g not nor h = (NoneOf-more (marked f) rs start i r g not h.0, h.1)

-- the row is unmarked and fits
pub kept-unmarked : (rs : List Row) (f : Fields) (start i : ℕ) (u : Option ℕ) (r : Row) → slice_get rs i ≡ Some r → (FitsMarked r f → ⊥) → FitsUnmarked r f → Kept rs f start i u → Kept rs f start (i + 1) (Some i)
kept-unmarked rs f start i u r g not fit h =
    (NoneOf-more (marked f) rs start i r g not (no_marked rs f start i u h), record { row = r; there = g; fits = fit })

-- the rows of the fields' place lie from start to end
abbrev pub Holds : List Row → Fields → ℕ → ℕ → Type 0
Holds rs f start end = (i : ℕ) (r : Row) → slice_get rs i ≡ Some r → IsAt r f.class f.map f.opcode → (start ≤ i) × (i < end)

pub found-unmarked : (rs : List Row) (f : Fields) (start end i k : ℕ) → Holds rs f start end → end ≤ i → Kept rs f start i (Some k) → Matches rs f k
found-unmarked rs f start end i k all le h =
    let u = h.1 in
    without_mark u.row u.there u.fits (λ j q e m. let w = all j q e m.fits.at in h.0.none j q e w.0 (omega arith) m)

pub found-none : (rs : List Row) (f : Fields) (start end i : ℕ) → Holds rs f start end → end ≤ i → Kept rs f start i None → (k : ℕ) → Matches rs f k → ⊥
found-none rs f start end i all le h k (by_mark r g m) = let w = all k r g m.fits.at in h.0.none k r g w.0 (omega arith) m
found-none rs f start end i all le h k (without_mark r g m none) = let w = all k r g m.fits.at in h.1.none k r g w.0 (omega arith) m

pub found : (rs : List Row) (f : Fields) (start end i : ℕ) (u : Option ℕ) → Holds rs f start end → end ≤ i → Kept rs f start i u → IfSome u (Matches rs f)
found rs f start end i None all le h = tt
found rs f start end i (Some k) all le h = found-unmarked rs f start end i k all le h

pub found-absent : (rs : List Row) (f : Fields) (start end i : ℕ) (u : Option ℕ) → Holds rs f start end → end ≤ i → Kept rs f start i u → IfNone u ((k : ℕ) → Matches rs f k → ⊥)
found-absent rs f start end i None all le h = found-none rs f start end i all le h
found-absent rs f start end i (Some k) all le h = tt

pub found-only : (rs : List Row) (f : Fields) (u : Option ℕ) → ((i j : ℕ) → Matches rs f i → Matches rs f j → i ≡ j) → IfSome u (Matches rs f) → IfSome u (λ i. (j : ℕ) → Matches rs f j → j ≡ i)
found-only rs f None one h = tt
found-only rs f (Some k) one h = λ j m. one j k m h

-- Tests over each two rows of a list, and what they say.
use Rattle.std.proofs.Common.{◌≡◌, ◌≤◌, nat_le, ℕ, zero, suc, ◌<◌, Bool, true, false, refl, sym, ap, subst, ◌∙◌, ◌&&◌, ◌||◌, ◌==◌, not, cond, leb-true, List, [], ◌∷◌, slice_get, Option, Some, None, arith, eqb-true, eq-eqb, ◌⊎◌, inl, inr}
use Rattle.std.proofs.lemmas.Bool.{and_parts}
use Rattle.std.specs.Bool.{beq}
use borrow.Author.Tests.{ltb-true}
use Rattle.row_table.specs.declared.kinds.Row.{Row}
use Rattle.row_table.specs.declared.kinds.Fields.{Fields}
use Rattle.row_table.specs.declared.kinds.Shape.{Shape}
use Rattle.row_table.specs.declared.kinds.Class.{Class}
use Rattle.row_table.specs.declared.kinds.Class.TheVariants.{Legacy, Vex, Evex}
use Rattle.row_table.specs.declared.kinds.Prefix.TheVariants.{Unmarked, Np, P66, PF3, PF2}
use Rattle.row_table.specs.declared.kinds.Prefix.{Prefix}
use Rattle.row_table.specs.declared.kinds.Form.{Form}
use Rattle.row_table.specs.declared.kinds.Form.TheVariants.{Either, Memory, Register, Exactly}
use Rattle.row_table.specs.Rows.{row_place, class_number}
use Rattle.row_table.specs.Shapes.{form_fits, form_of, shape_of}
use Rattle.row_table.specs.Matching.{digit_fits, w_fits, length_fits, fits, Fits, FitsMarked, FitsUnmarked, IsAt, mandatory_in, prefix_of_pp, prefix_number}
use Rattle.row_table.proofs.Index.{some_same}

-- the places of the rows rise, the first at least `from`
unfoldable pub ordered : ℕ → List Row → Bool
ordered from [] = true
ordered from (r ∷ rs) = nat_le from (row_place r) && ordered (row_place r) rs

ordered-at : (from : ℕ) (rs : List Row) (j : ℕ) (q : Row) → ordered from rs ≡ true → slice_get rs j ≡ Some q → from ≤ row_place q
unfolding ordered
ordered-at from [] j q h e = cc
ordered-at from (r ∷ rs) zero q h e =
    let w = and_parts (nat_le from (row_place r)) (ordered (row_place r) rs) h in subst (λ x. from ≤ row_place x) (some_same r q e) (leb-true _ _ w.0)
ordered-at from (r ∷ rs) (suc j) q h e =
    let w = and_parts (nat_le from (row_place r)) (ordered (row_place r) rs) h in
    let a = leb-true from (row_place r) w.0 in let b = ordered-at (row_place r) rs j q w.1 e in omega arith

-- the row passes the test with each row behind it, up to the first of another place
unfoldable pub passes_near : (Row → Row → Bool) → Row → List Row → Bool
passes_near p r [] = true
passes_near p r (q ∷ qs) = let here = p r q && passes_near p r qs in cond (row_place r == row_place q) here true

-- each row does
unfoldable pub near : (Row → Row → Bool) → List Row → Bool
near p [] = true
near p (r ∷ rs) = passes_near p r rs && near p rs

here-true : (a b : ℕ) (t : Bool) → cond (a == b) t true ≡ true → a ≡ b → t ≡ true
here-true a b t h e = sym (ap (λ c. cond c t true) (eq-eqb a b e)) ∙ h

passes_near-at : (p : Row → Row → Bool) (r : Row) (rs : List Row) (j : ℕ) (q : Row) → passes_near p r rs ≡ true → ordered (row_place r) rs ≡ true → slice_get rs j ≡ Some q → row_place r ≡ row_place q → p r q ≡ true
unfolding passes_near ordered
passes_near-at p r [] j q h o e same = cc
passes_near-at p r (x ∷ rs) zero q h o e same =
    let k = some_same x q e in
    let w = and_parts (p r x) (passes_near p r rs) (here-true (row_place r) (row_place x) _ h (same ∙ ap row_place (sym k))) in
    subst (λ y. p r y ≡ true) k w.0
passes_near-at p r (x ∷ rs) (suc j) q h o e same =
    let u = and_parts (nat_le (row_place r) (row_place x)) (ordered (row_place x) rs) o in
    let a = leb-true (row_place r) (row_place x) u.0 in let b = ordered-at (row_place x) rs j q u.1 e in
    let k : row_place r ≡ row_place x = omega arith in
    let w = and_parts (p r x) (passes_near p r rs) (here-true (row_place r) (row_place x) _ h k) in
    passes_near-at p r rs j q w.1 (subst (λ n. ordered n rs ≡ true) (sym k) u.1) e same

-- each two rows of one place pass, in their order
pub near-at : (p : Row → Row → Bool) (from : ℕ) (rs : List Row) (i j : ℕ) (r q : Row) → near p rs ≡ true → ordered from rs ≡ true → i < j → slice_get rs i ≡ Some r → slice_get rs j ≡ Some q → row_place r ≡ row_place q → p r q ≡ true
unfolding near ordered
near-at p from [] i j r q h o lt a b same = cc
near-at p from (x ∷ rs) zero zero r q h o lt a b same = absurd (omega arith)
near-at p from (x ∷ rs) zero (suc j) r q h o lt a b same =
    let w = and_parts (passes_near p x rs) (near p rs) h in let u = and_parts (nat_le from (row_place x)) (ordered (row_place x) rs) o in
    let k = some_same x r a in
    subst (λ y. p y q ≡ true) k (passes_near-at p x rs j q w.0 u.1 b (ap row_place k ∙ same))
near-at p from (x ∷ rs) (suc i) zero r q h o lt a b same = absurd (omega arith)
near-at p from (x ∷ rs) (suc i) (suc j) r q h o lt a b same =
    let w = and_parts (passes_near p x rs) (near p rs) h in let u = and_parts (nat_le from (row_place x)) (ordered (row_place x) rs) o in
    near-at p (row_place x) rs i j r q w.1 u.1 (omega arith) a b same

-- ---- what two rows that fit the same fields have in common
abbrev pub digits_meet : Option ℕ → Option ℕ → Bool
digits_meet None b = true
digits_meet (Some a) None = true
digits_meet (Some a) (Some b) = a == b

abbrev pub w_meet : Option Bool → Option Bool → Bool
w_meet None b = true
w_meet (Some a) None = true
w_meet (Some a) (Some b) = beq a b

abbrev pub lengths_meet : ℕ → ℕ → Bool
lengths_meet a b = (length_fits a 0 && length_fits b 0) || ((length_fits a 1 && length_fits b 1) || (length_fits a 2 && length_fits b 2))

abbrev pub forms_meet : Form → Form → Bool
forms_meet Memory Register = false
forms_meet Register Memory = false
forms_meet _ _ = true

abbrev pub modrm_meets : Row → Row → Bool
modrm_meets r q = digits_meet r.digit q.digit && forms_meet (form_of r.operands) (form_of q.operands)

abbrev pub clash : Row → Row → Bool
clash r q = (prefix_number r.prefix == prefix_number q.prefix) && (modrm_meets r q && (w_meet r.w q.w && lengths_meet r.lengths q.lengths))

-- no fields fit both rows with one prefix
abbrev pub apart : Row → Row → Bool
apart r q = not (clash r q)

digits_both : (a b m : Option ℕ) → digit_fits a m ≡ true → digit_fits b m ≡ true → digits_meet a b ≡ true
digits_both None b m h k = refl
digits_both (Some a) None m h k = refl
digits_both (Some a) (Some b) None h k = cc
digits_both (Some a) (Some b) (Some m) h k = eq-eqb a b (sym (eqb-true _ _ h) ∙ eqb-true _ _ k)

w_both : (a b : Option Bool) (m : Bool) → w_fits a m ≡ true → w_fits b m ≡ true → w_meet a b ≡ true
w_both None b m h k = refl
w_both (Some a) None m h k = refl
w_both (Some true) (Some true) m h k = refl
w_both (Some true) (Some false) true h k = cc
w_both (Some true) (Some false) false h k = cc
w_both (Some false) (Some true) true h k = cc
w_both (Some false) (Some true) false h k = cc
w_both (Some false) (Some false) m h k = refl

first : (x y u v s t : Bool) → (x ≡ true) → (y ≡ true) → ((x && y) || ((u && v) || (s && t))) ≡ true
first true true u v s t h k = refl
first true false u v s t h k = cc
first false y u v s t h k = cc

second : (x y u v s t : Bool) → (u ≡ true) → (v ≡ true) → ((x && y) || ((u && v) || (s && t))) ≡ true
second true true u v s t h k = refl
second true false true true s t h k = refl
second true false true false s t h k = cc
second true false false v s t h k = cc
second false y true true s t h k = refl
second false y true false s t h k = cc
second false y false v s t h k = cc

third : (x y u v s t : Bool) → (s ≡ true) → (t ≡ true) → ((x && y) || ((u && v) || (s && t))) ≡ true
third true true u v s t h k = refl
third true false true true s t h k = refl
third true false true false s t h k = ap (λ z. z && t) h ∙ k
third true false false v s t h k = ap (λ z. z && t) h ∙ k
third false y true true s t h k = refl
third false y true false s t h k = ap (λ z. z && t) h ∙ k
third false y false v s t h k = ap (λ z. z && t) h ∙ k

lengths_both : (a b l : ℕ) → length_fits a l ≡ true → length_fits b l ≡ true → lengths_meet a b ≡ true
lengths_both a b zero h k = first (length_fits a 0) (length_fits b 0) (length_fits a 1) (length_fits b 1) (length_fits a 2) (length_fits b 2) h k
lengths_both a b (suc zero) h k = second (length_fits a 0) (length_fits b 0) (length_fits a 1) (length_fits b 1) (length_fits a 2) (length_fits b 2) h k
lengths_both a b (suc (suc zero)) h k = third (length_fits a 0) (length_fits b 0) (length_fits a 1) (length_fits b 1) (length_fits a 2) (length_fits b 2) h k
lengths_both a b (suc (suc (suc l))) h k = cc

forms_both : (a b : Form) (m : Option ℕ) → form_fits a m ≡ true → form_fits b m ≡ true → forms_meet a b ≡ true
forms_both Either b m h k = refl
forms_both Memory Either m h k = refl
forms_both Memory Memory m h k = refl
forms_both Memory (Exactly x) m h k = refl
forms_both Memory Register None h k = cc
forms_both Memory Register (Some b) h k = absurd (let a = ltb-true _ _ h in let c = leb-true _ _ k in omega arith)
forms_both Register Either m h k = refl
forms_both Register Memory None h k = cc
forms_both Register Memory (Some b) h k = absurd (let a = leb-true _ _ h in let c = ltb-true _ _ k in omega arith)
forms_both Register Register m h k = refl
forms_both Register (Exactly x) m h k = refl
forms_both (Exactly x) b m h k = refl

pub and_true : (a b : Bool) → a ≡ true → b ≡ true → (a && b) ≡ true
and_true true b h k = k
and_true false b h k = h

pub modrm_both : (r q : Row) (m : Option ℕ) → digit_fits r.digit m ≡ true → form_fits (form_of r.operands) m ≡ true → digit_fits q.digit m ≡ true → form_fits (form_of q.operands) m ≡ true → modrm_meets r q ≡ true
modrm_both r q m a b c d = and_true _ _ (digits_both r.digit q.digit m a c) (forms_both (form_of r.operands) (form_of q.operands) m b d)

clash-from : (r q : Row) (f : Fields) → r.prefix ≡ q.prefix → Fits r f → Fits q f → clash r q ≡ true
clash-from r q f e a b =
    and_true _ _ (eq-eqb _ _ (ap prefix_number e)) (and_true _ _ (modrm_both r q f.modrm a.digit a.form b.digit b.form)
    (and_true _ _ (w_both r.w q.w f.w a.w b.w) (lengths_both r.lengths q.lengths f.l a.length b.length)))

pub contradicts : (a : Bool) → not a ≡ true → a ≡ true → ⊥
contradicts true h e = cc
contradicts false h e = cc

-- two rows of one place that pass the test and have one prefix don't fit the same fields
pub not-both : (r q : Row) (f : Fields) → apart r q ≡ true → r.prefix ≡ q.prefix → Fits r f → Fits q f → ⊥
not-both r q f h e a b = contradicts (clash r q) h (clash-from r q f e a b)

-- ---- shapes
abbrev pub agree : Row → Row → Bool
agree r q =
    let a = shape_of r in let b = shape_of q in beq a.modrm b.modrm && (a.imm == b.imm)

beq-true : (a b : Bool) → beq a b ≡ true → a ≡ b
beq-true true true h = refl
beq-true true false h = cc
beq-true false true h = cc
beq-true false false h = refl

shape_same : (a b : Shape) → (beq a.modrm b.modrm && (a.imm == b.imm)) ≡ true → a ≡ b
shape_same a b h =
    let p = and_parts (beq a.modrm b.modrm) (a.imm == b.imm) h in
    let m = beq-true _ _ p.0 in let n = eqb-true _ _ p.1 in λ i. record { modrm = m i; imm = n i }

pub agree-same : (r q : Row) → agree r q ≡ true → shape_of r ≡ shape_of q
agree-same r q h = shape_same (shape_of r) (shape_of q) h

-- ---- the marks NP and 66 beside rows without a mark
abbrev pub excludes_66_or_needs_it : Prefix → Bool
excludes_66_or_needs_it Np = true
excludes_66_or_needs_it P66 = true
excludes_66_or_needs_it _ = false

abbrev pub has_no_mark : Prefix → Bool
has_no_mark Unmarked = true
has_no_mark _ = false

-- the first is a legacy row marked NP or 66, the second has no mark, and a ModRM byte may fit both
abbrev pub shares : Row → Row → Bool
shares r q = (class_number r.class == 0) && (excludes_66_or_needs_it r.prefix && (has_no_mark q.prefix && modrm_meets r q))

abbrev pub shares_none : Row → Row → Bool
shares_none r q = not (shares r q) && not (shares q r)

marked_here : (p : Prefix) → (p ≡ Np) ⊎ (p ≡ P66) → excludes_66_or_needs_it p ≡ true
marked_here p (inl e) = ap excludes_66_or_needs_it e
marked_here p (inr e) = ap excludes_66_or_needs_it e

pub shares-from : (r q : Row) (m : Option ℕ) → r.class ≡ Legacy → (r.prefix ≡ Np) ⊎ (r.prefix ≡ P66) → q.prefix ≡ Unmarked → digit_fits r.digit m ≡ true → form_fits (form_of r.operands) m ≡ true → digit_fits q.digit m ≡ true → form_fits (form_of q.operands) m ≡ true → shares r q ≡ true
shares-from r q m l p u a b c d =
    and_true _ _ (eq-eqb _ _ (ap class_number l)) (and_true _ _ (marked_here r.prefix p) (and_true _ _ (ap has_no_mark u) (modrm_both r q m a b c d)))

pub shares_none-first : (r q : Row) → shares_none r q ≡ true → shares r q ≡ true → ⊥
shares_none-first r q h e = let w = and_parts (not (shares r q)) (not (shares q r)) h in contradicts _ w.0 e

pub shares_none-second : (r q : Row) → shares_none r q ≡ true → shares q r ≡ true → ⊥
shares_none-second r q h e = let w = and_parts (not (shares r q)) (not (shares q r)) h in contradicts _ w.1 e

-- ---- all that two rows of one place pass
abbrev pub together : Row → Row → Bool
together r q = apart r q && (agree r q && shares_none r q)

pub together-parts : (r q : Row) → together r q ≡ true → (apart r q ≡ true) × (agree r q ≡ true) × (shares_none r q ≡ true)
together-parts r q h =
    let a = and_parts (apart r q) (agree r q && shares_none r q) h in let b = and_parts (agree r q) (shares_none r q) a.1 in (a.0, b.0, b.1)

-- the test that the code makes says `Fits`
pub fits-parts : (r : Row) (f : Fields) → IsAt r f.class f.map f.opcode → fits r f ≡ true → Fits r f
unfolding fits
fits-parts r f at h =
    let a = and_parts (digit_fits r.digit f.modrm) _ h in
    let b = and_parts (w_fits r.w f.w) _ a.1 in
    let c = and_parts (length_fits r.lengths f.l) _ b.1 in
    record { at = at; digit = a.0; w = b.0; length = c.0; form = c.1 }

pub fits-whole : (r : Row) (f : Fields) → Fits r f → fits r f ≡ true
unfolding fits
fits-whole r f h = and_true _ _ h.digit (and_true _ _ h.w (and_true _ _ h.length h.form))

-- ---- the prefix that is there
of_pp-marked : (n : ℕ) → prefix_of_pp n ≡ Unmarked → ⊥
of_pp-marked zero e = cc
of_pp-marked (suc zero) e = cc
of_pp-marked (suc (suc zero)) e = cc
of_pp-marked (suc (suc (suc n))) e = cc

legacy-marked : (a b c : Bool) → cond a PF3 (cond b PF2 (cond c P66 Np)) ≡ Unmarked → ⊥
legacy-marked true b c e = cc
legacy-marked false true c e = cc
legacy-marked false false true e = cc
legacy-marked false false false e = cc

in-marked : (c : Class) (f : Fields) → mandatory_in c f ≡ Unmarked → ⊥
in-marked Legacy f e = legacy-marked (f.rep == 0xF3) (f.rep == 0xF2) f.p66 e
in-marked Vex f e = of_pp-marked f.pp e
in-marked Evex f e = of_pp-marked f.pp e

-- a row has a mark or none
pub unmarked-not-marked : (r : Row) (f : Fields) → FitsUnmarked r f → FitsMarked r f → ⊥
unmarked-not-marked r f u m = in-marked f.class f (sym m.prefix ∙ u.prefix)

true-false : (b : Bool) → b ≡ true → b ≡ false → ⊥
true-false b h e = cc

pub unfit-apart : (r : Row) (f : Fields) → fits r f ≡ false → (FitsMarked r f → ⊥) × (FitsUnmarked r f → ⊥)
unfit-apart r f e = (λ m. true-false _ (fits-whole r f m.fits) e, λ m. true-false _ (fits-whole r f m.fits) e)

-- What a decoder sees, by what a scan tells.
use Rattle.std.proofs.Common.{◌≡◌, ◌↔◌, ℕ, ◌<◌, ◌≤◌, List, length, None, refl, sym, subst, arith}
use Rattle.std.proofs.Common.{Some as some}
use Rattle.std.proofs.lemmas.List.{take_all, length-take}
use Rattle.row_table.specs.declared.kinds.Fields.{Fields}
use Rattle.row_table.specs.declared.kinds.Decoded.{Decoded}
use Rattle.row_table.specs.Rows.{rows}
use Rattle.form_scan.specs.declared.kinds.Scan.{Scan}
use Rattle.form_scan.specs.declared.kinds.Scan.TheVariants.{Whole, Short as Cut, Dead}
use Rattle.form_scan.specs.Shaped.{within_limit, IsWhole, IsCut}
use Rattle.x_decode.specs.declared.kinds.Seen.TheVariants.{Instr}
use Rattle.x_decode.specs.Seeing.{IsDecoded, IsInstr, IsShort, IsTooLong, IsBad, InRange}
use Rattle.x_decode.proofs.Computing.{whole-some}

-- neither holds
pub neither : {A B : Type 0} → (A → ⊥) → (B → ⊥) → A ↔ B
neither a b = (λ x. absurd (a x), λ y. absurd (b y))

few-within : (bytes : List ℕ) → length bytes < 15 → within_limit bytes ≡ bytes
unfolding within_limit
few-within bytes few = take_all 15 bytes (omega arith)

-- what a scan of the bytes tells
pub record Told (bytes : List ℕ) (s : Scan) : Type 0 where
  pub whole : (f : Fields) (n : ℕ) → (s ≡ Whole f n) ↔ IsWhole (within_limit bytes) f n
  pub short : (s ≡ Cut) ↔ IsCut (within_limit bytes)

pub told : {bytes : List ℕ} {s : Scan} → ((f : Fields) (n : ℕ) → (s ≡ Whole f n) ↔ IsWhole (within_limit bytes) f n)
    → (s ≡ Cut) ↔ IsCut (within_limit bytes) → Told bytes s
told whole short = record { whole = whole; short = short }

few-cut : (bytes : List ℕ) (s : Scan) → Told bytes s → IsShort bytes → s ≡ Cut
few-cut bytes s t h = t.short.1 (subst IsCut (sym (few-within bytes h.few)) h.cut)

-- ---- the bytes are a whole instruction
module _ (bytes : List ℕ) (f : Fields) (n : ℕ) (t : Told bytes (Whole f n)) where
  pub whole-not_short : IsShort bytes → ⊥
  whole-not_short h = let e : Whole f n ≡ Cut = few-cut bytes (Whole f n) t h in cc

  pub whole-not_long : IsTooLong bytes → ⊥
  whole-not_long h = let e : Whole f n ≡ Cut = t.short.1 h.cut in cc

  seen-instr : (d : Decoded) → IsDecoded f d → IsInstr bytes d n
  seen-instr d h = record {
    whole = subst (λ (x : Fields). IsWhole (within_limit bytes) x n) (sym h.fields) ((t.whole f n).0 refl);
    decoded = subst (λ (x : Fields). IsDecoded x d) (sym h.fields) h;
  }

  within-limit : (n ≤ length bytes) × (n ≤ 15)
  unfolding within_limit
  within-limit = let w = ((t.whole f n).0 refl).within in (omega (arith, length-take 15 bytes), omega (arith, length-take 15 bytes))

  -- and it spells a row of the table
  pub some-in_range : (d : Decoded) → d.row < length rows → InRange bytes (Instr d n)
  some-in_range d row = (row, whole-some (within_limit bytes) f n ((t.whole f n).0 refl), within-limit.0, within-limit.1)

  same-whole : (e : Decoded) (m : ℕ) → IsInstr bytes e m → (f ≡ e.fields) × (n ≡ m)
  same-whole e m h = let w : Whole f n ≡ Whole e.fields m = (t.whole e.fields m).1 h.whole in (cc, cc)

  same-decoded : (e : Decoded) (m : ℕ) → IsInstr bytes e m → IsDecoded f e
  same-decoded e m h = subst (λ (x : Fields). IsDecoded x e) (sym (same-whole e m h).0) h.decoded

  -- and it spells a row
  pub some-instr : (d : Decoded) → ((e : Decoded) → (some d ≡ some e) ↔ IsDecoded f e)
      → (e : Decoded) (m : ℕ) → (Instr d n ≡ Instr e m) ↔ IsInstr bytes e m
  some-instr d one e m = (
    λ same. let p : d ≡ e = cc in let q : n ≡ m = cc in
        subst (λ (x : ℕ). IsInstr bytes e x) q (subst (λ (x : Decoded). IsInstr bytes x n) p (seen-instr d ((one d).0 refl))),
    λ h. let q = (same-whole e m h).1 in let p : some d ≡ some e = (one e).1 (same-decoded e m h) in cc,
  )

  pub some-not_bad : (d : Decoded) → ((e : Decoded) → (some d ≡ some e) ↔ IsDecoded f e) → IsBad bytes → ⊥
  some-not_bad d one h = h.no_instr d n (seen-instr d ((one d).0 refl))

  -- and it spells none
  pub none-instr : ((e : Decoded) → (None ≡ some e) ↔ IsDecoded f e) → (e : Decoded) (m : ℕ) → IsInstr bytes e m → ⊥
  none-instr none e m h = let p : None ≡ some e = (none e).1 (same-decoded e m h) in cc

  pub none-bad : ((e : Decoded) → (None ≡ some e) ↔ IsDecoded f e) → IsBad bytes
  none-bad none = record { no_instr = none-instr none; not_short = whole-not_short; not_too_long = whole-not_long }

-- ---- the bytes end within an instruction
module _ (bytes : List ℕ) (t : Told bytes Cut) where
  pub cut-instr : (e : Decoded) (m : ℕ) → IsInstr bytes e m → ⊥
  cut-instr e m h = let w : Cut ≡ Whole e.fields m = (t.whole e.fields m).1 h.whole in cc

  pub cut-short : length bytes < 15 → IsShort bytes
  cut-short few = record { few = few; cut = subst IsCut (few-within bytes few) (t.short.0 refl) }

-- ---- no instruction begins so
module _ (bytes : List ℕ) (t : Told bytes Dead) where
  pub dead-instr : (e : Decoded) (m : ℕ) → IsInstr bytes e m → ⊥
  dead-instr e m h = let w : Dead ≡ Whole e.fields m = (t.whole e.fields m).1 h.whole in cc

  pub dead-not_short : IsShort bytes → ⊥
  dead-not_short h = let e : Dead ≡ Cut = few-cut bytes Dead t h in cc

  pub dead-bad : IsBad bytes
  dead-bad = record {
    no_instr = dead-instr;
    not_short = dead-not_short;
    not_too_long = λ h. let e : Dead ≡ Cut = t.short.1 h.cut in cc;
  }

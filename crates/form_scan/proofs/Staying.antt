-- What a scan answers, computed, and that bytes behind an instruction don't change it.
use Rattle.std.proofs.Common.{◌≡◌, ℕ, zero, suc, ◌-◌, List, [], ◌∷◌, ◌++◌, length, take, refl, sym, ap, ◌∙◌, arith, length-append}
use Rattle.form_scan.specs.declared.kinds.Scan.{Scan}
use Rattle.form_scan.specs.declared.kinds.Scan.TheVariants.{Whole, Short as TooFew}
use Rattle.form_scan.specs.Shaped.{Shaped, within_limit}
use Rattle.form_scan.specs.Reading.{fields_at}
use Rattle.form_scan.specs.Scanning.{scan_of, scanned}
use Rattle.form_scan.proofs.Reader.{again, outcome, is_got, is_short, is_dead}
use Rattle.form_scan.proofs.Full.{any}
use Rattle.form_scan.proofs.Whole.{shaped-reads}

take_append : (n : ℕ) (xs ys : List ℕ) → take n (xs ++ ys) ≡ take n xs ++ take (n - length xs) ys
take_append zero [] ys = refl
take_append (suc n) [] ys = let e : suc n - 0 ≡ suc n = omega arith in ap (λ k. take k ys) (sym e)
take_append zero (x ∷ xs) ys = let e : 0 - suc (length xs) ≡ 0 = omega arith in ap (λ k. take k ys) (sym e)
take_append (suc n) (x ∷ xs) ys =
    let e : suc n - suc (length xs) ≡ n - length xs = omega arith in
    ap (λ (t : List ℕ). x ∷ t) (take_append n xs ys) ∙ ap (λ k. x ∷ (take n xs ++ take k ys)) (sym e)

limit-append : (bytes more : List ℕ) → within_limit (bytes ++ more) ≡ within_limit bytes ++ take (15 - length bytes) more
unfolding within_limit
limit-append bytes more = take_append 15 bytes more

abbrev scan_in : List ℕ → Scan
scan_in bytes = scan_of (length bytes) (fields_at bytes)

in-stays : (bytes more : List ℕ) → (scan_in bytes ≡ TooFew → ⊥) → scan_in (bytes ++ more) ≡ scan_in bytes
in-stays bytes more not = elim (outcome (fields_at bytes)) [
  | is_got f rest e ↦
      let n : length (bytes ++ more) - length (rest ++ more) ≡ length bytes - length rest =
      omega (arith, length-append bytes more, length-append rest more) in
      ap (scan_of (length (bytes ++ more))) (again fields_at Shaped any shaped-reads bytes f rest more e)
      ∙ ap (λ k. Whole f k) n ∙ sym (ap (scan_of (length bytes)) e)
  | is_short e ↦ absurd (not (ap (scan_of (length bytes)) e))
  | is_dead e ↦
      ap (scan_of (length (bytes ++ more))) (shaped-reads.dead bytes more e) ∙ sym (ap (scan_of (length bytes)) e)
]

-- the answer of a scan of the first bytes is the computed one
pub scanned-is : (bytes first : List ℕ) (s : Scan) → first ≡ within_limit bytes → s ≡ scan_in first → s ≡ scanned bytes
unfolding scanned
scanned-is bytes first s h e = e ∙ ap scan_in h

pub scanned-stays : (bytes : List ℕ) (s : Scan) → s ≡ scanned bytes → (s ≡ TooFew → ⊥) → (more : List ℕ) → scanned (bytes ++ more) ≡ s
unfolding scanned
scanned-stays bytes s e not more =
    ap scan_in (limit-append bytes more) ∙ in-stays (within_limit bytes) (take (15 - length bytes) more) (λ k. not (e ∙ k)) ∙ sym e

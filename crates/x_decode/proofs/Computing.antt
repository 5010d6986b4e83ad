-- What is seen, computed, and that bytes behind it don't change it.
use Rattle.std.proofs.Common.{◌≡◌, ℕ, ◌<◌, ◌≤◌, cond, List, [], ◌∷◌, ◌++◌, length, take, Option, sym, ap, ◌∙◌, arith, length-append}
use Rattle.std.specs.Prelude.{option_to_list}
use Rattle.std.proofs.lemmas.Bool.{lt-ltb, le-ltb}
use Rattle.std.proofs.lemmas.List.{take-append-le, length-take}
use Rattle.row_table.specs.declared.kinds.Fields.{Fields}
use Rattle.row_table.specs.declared.kinds.Decoded.{Decoded}
use Rattle.row_table.specs.Spelling.{spelled}
use Rattle.form_scan.specs.declared.kinds.Scan.TheVariants.{Whole, Short as Cut, Dead}
use Rattle.form_scan.specs.declared.kinds.Payload.{Payload}
use Rattle.form_scan.specs.Shaped.{within_limit, escape, Part, by_escape, by_vex_two, by_vex_three, by_evex, Shaped, IsWhole}
use Rattle.form_scan.specs.Scanning.{scan_of, scanned}
use Rattle.form_scan.specs.Reading.{fields_at}
use Rattle.x_decode.specs.declared.kinds.Seen.TheVariants.{Short, TooLong, Bad}
use Rattle.x_decode.specs.Seeing.{encoding_of, seen_whole, seen_of, seen}

-- ---- an instruction has at least one byte
part-some : (rex : ℕ) (part : List ℕ) (k : Payload) (o : ℕ) → Part rex part k o → 1 ≤ length part
part-some rex part k o (by_escape m is h e) = let l = ap length e in omega (arith, l, length-append (escape m) (o ∷ []))
part-some rex part k o (by_vex_two p is e) = let l = ap length e in omega (arith, l)
part-some rex part k o (by_vex_three p q is e) = let l = ap length e in omega (arith, l)
part-some rex part k o (by_evex p q s is x y e) = let l = ap length e in omega (arith, l)

shaped-some : (bytes : List ℕ) (f : Fields) → Shaped bytes f → 1 ≤ length bytes
shaped-some bytes f s =
    let rest = option_to_list s.modrm ++ (option_to_list s.sib ++ (s.disp ++ s.imm)) in
    let l = ap length s.spelled in let p = part-some _ s.part s.payload s.opcode s.part_says in
    omega (arith, l, length-append s.front (s.part ++ rest), length-append s.part rest)

pub whole-some : (bytes : List ℕ) (f : Fields) (n : ℕ) → IsWhole bytes f n → 1 ≤ n
whole-some bytes f n w = let l = shaped-some (take n bytes) f w.shaped in omega (arith, length-take n bytes)

-- ---- by what the scan answers
module _ (bytes : List ℕ) where
  pub whole-seen : (f : Fields) (n : ℕ) (o : Option Decoded) → Whole f n ≡ scanned bytes → o ≡ spelled (encoding_of f.class) f → seen_whole n o ≡ seen bytes
  unfolding seen
  whole-seen f n o e h = ap (seen_whole n) h ∙ ap (seen_of (length bytes)) e

  pub whole-stays : (f : Fields) (n : ℕ) (o : Option Decoded) → ((more : List ℕ) → scanned (bytes ++ more) ≡ Whole f n) → o ≡ spelled (encoding_of f.class) f
      → (more : List ℕ) → seen (bytes ++ more) ≡ seen_whole n o
  unfolding seen
  whole-stays f n o stays h more = ap (seen_of (length (bytes ++ more))) (stays more) ∙ ap (seen_whole n) (sym h)

  pub dead-seen : Dead ≡ scanned bytes → Bad ≡ seen bytes
  unfolding seen
  dead-seen e = ap (seen_of (length bytes)) e

  pub dead-stays : ((more : List ℕ) → scanned (bytes ++ more) ≡ Dead) → (more : List ℕ) → seen (bytes ++ more) ≡ Bad
  unfolding seen
  dead-stays stays more = ap (seen_of (length (bytes ++ more))) (stays more)

  pub few-seen : Cut ≡ scanned bytes → length bytes < 15 → Short ≡ seen bytes
  unfolding seen
  few-seen e few = sym (ap (λ b. cond b Short TooLong) (lt-ltb (length bytes) 15 few)) ∙ ap (seen_of (length bytes)) e

  pub many-seen : Cut ≡ scanned bytes → 15 ≤ length bytes → TooLong ≡ seen bytes
  unfolding seen
  many-seen e many = sym (ap (λ b. cond b Short TooLong) (le-ltb (length bytes) 15 many)) ∙ ap (seen_of (length bytes)) e

same-limit : (bytes more : List ℕ) → 15 ≤ length bytes → scanned bytes ≡ scanned (bytes ++ more)
unfolding scanned within_limit
same-limit bytes more many =
    let e : take 15 bytes ≡ take 15 (bytes ++ more) = sym (take-append-le 15 bytes more many) in
    ap (λ (first : List ℕ). scan_of (length first) (fields_at first)) e

pub many-stays : (bytes more : List ℕ) → Cut ≡ scanned bytes → 15 ≤ length bytes → seen (bytes ++ more) ≡ TooLong
many-stays bytes more e many =
    sym (many-seen (bytes ++ more) (e ∙ same-limit bytes more many) (omega (arith, length-append bytes more)))

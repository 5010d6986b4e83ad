use Rattle.std.proofs.Common.{◌≡◌, ◌↔◌, ℕ, List, subst}
use Rattle.row_table.specs.declared.kinds.Fields.{Fields}
use Rattle.form_scan.specs.declared.kinds.Scan.TheVariants.{Whole, Short}
use Rattle.form_scan.specs.Shaped.{IsWhole, IsCut}
use Rattle.form_scan.proofs.Whole.{one-shape}
use Rattle.form_scan.proofs.Staying.{scanned-is, scanned-stays}
use Rattle.form_scan.proofs.scanning.scan.Goals as goal

pub returns-clause-whole : goal.returns-clause-whole
returns-clause-whole c =
    let P = λ (x : List ℕ). (f : Fields) (n : ℕ) → (c.scan_within.result ≡ Whole f n) ↔ IsWhole x f n in
    subst P c.first_bytes.ensures.value c.scan_within.ensures.whole

pub returns-clause-short : goal.returns-clause-short
returns-clause-short c =
    let P = λ (x : List ℕ). (c.scan_within.result ≡ Short) ↔ IsCut x in
    subst P c.first_bytes.ensures.value c.scan_within.ensures.short

pub returns-clause-alone : goal.returns-clause-alone
returns-clause-alone c = one-shape

pub returns-clause-value : goal.returns-clause-value
returns-clause-value c =
    scanned-is c.args.bytes.now c.first_bytes.result.now c.scan_within.result c.first_bytes.ensures.value c.scan_within.ensures.value

pub returns-clause-stays : goal.returns-clause-stays
returns-clause-stays c = scanned-stays c.args.bytes.now c.scan_within.result (returns-clause-value c)

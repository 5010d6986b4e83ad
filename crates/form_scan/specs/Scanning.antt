-- What a scan answers, computed.
use Rattle.std.specs.Prelude.{ℕ, ◌-◌, List, length, Result, Ok, Err}
use Rattle.row_table.specs.declared.kinds.Fields.{Fields}
use Rattle.form_scan.specs.declared.kinds.Scan.{Scan}
use Rattle.form_scan.specs.declared.kinds.Scan.TheVariants.{Whole, Short, Dead}
use Rattle.form_scan.specs.declared.kinds.Stop.{Stop}
use Rattle.form_scan.specs.declared.kinds.Stop.TheVariants.{Short as StopsShort, Dead as StopsDead}
use Rattle.form_scan.specs.Shaped.{within_limit}
use Rattle.form_scan.specs.Reading.{fields_at}

-- of n bytes, by what reading them gives: the fields with the bytes that are left, or why it stops
abbrev pub scan_of : ℕ → Result (Fields × List ℕ) Stop → Scan
scan_of n (Ok x) = Whole x.0 (n - length x.1)
scan_of n (Err StopsShort) = Short
scan_of n (Err StopsDead) = Dead

-- of the first fifteen of the bytes (Intel SDM volume 2, section 2.3.11)
unfoldable pub scanned : List ℕ → Scan
scanned bytes = let first = within_limit bytes in scan_of (length first) (fields_at first)

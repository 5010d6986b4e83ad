use Rattle.std.proofs.Common.{◌≡◌, drop}
use Rattle.form_scan.specs.Reading.{lead_at}
use Rattle.form_scan.specs.Reading.{no_front}
use Rattle.form_scan.proofs.head.read_lead.Given as goal

abbrev pub invariant-loop-i : goal.invariant-loop-i
invariant-loop-i l = lead_at no_front l.bytes ≡ lead_at l.front (drop l.i l.bytes)

use Rattle.std.proofs.Common.{◌+◌, drop, ap, ◌∙◌, sym}
use Rattle.form_scan.specs.Reading.{lead_at}
use Rattle.form_scan.proofs.Lead.{lead-more, lead-stop-rest, lead-end}
use Rattle.form_scan.proofs.head.read_lead.Goals as goal

pub returns-else-is_in_front : goal.returns-else-is_in_front
returns-else-is_in_front c =
    c.loop-i.invariant ∙ lead-stop-rest c.loop-i.front c.args.bytes.now c.loop-i.i c.loop-i-test.true (sym c.is_in_front.ensures ∙ c.if-is_in_front.false)

pub loop-i-preserved : goal.loop-i-preserved
loop-i-preserved c =
    c.loop-i.invariant ∙ lead-more c.loop-i.front c.args.bytes.now c.loop-i.i c.loop-i-test.true (sym c.is_in_front.ensures ∙ c.if-is_in_front.true)
    ∙ ap (λ f. lead_at f (drop (c.loop-i.i + 1) c.args.bytes.now)) (sym c.with_byte-front.ensures)

pub returns : goal.returns
returns c = c.loop-i.invariant ∙ lead-end c.loop-i.front c.args.bytes.now c.loop-i.i c.loop-i-test.false

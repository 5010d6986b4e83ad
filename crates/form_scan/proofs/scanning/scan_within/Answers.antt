use Rattle.std.proofs.Common.{Err, ap, ◌∙◌}
use Rattle.form_scan.proofs.Whole.{scan-length, read-whole, read-not_cut, short-not_whole, short-cut, dead-not_whole, dead-not_cut}
use Rattle.form_scan.proofs.scanning.scan_within.Goals as goal

pub overflow_sub-result : goal.overflow_sub-result
overflow_sub-result c = scan-length _ _ _ c.in-Ok.ensures

pub returns-in-Ok-clause-whole : goal.returns-in-Ok-clause-whole
returns-in-Ok-clause-whole c = read-whole _ _ _ c.in-Ok.ensures

pub returns-in-Ok-clause-short : goal.returns-in-Ok-clause-short
returns-in-Ok-clause-short c = read-not_cut _ _ _ c.in-Ok.ensures

pub returns-in-Err-Short-clause-whole : goal.returns-in-Err-Short-clause-whole
returns-in-Err-Short-clause-whole c = short-not_whole c.args.bytes.now (c.in-Err-Short.ensures ∙ ap (λ x. Err x) c.in-Err-Short.field-0-is)

pub returns-in-Err-Short-clause-short : goal.returns-in-Err-Short-clause-short
returns-in-Err-Short-clause-short c = short-cut c.args.bytes.now (c.in-Err-Short.ensures ∙ ap (λ x. Err x) c.in-Err-Short.field-0-is)

pub returns-in-Err-Dead-clause-whole : goal.returns-in-Err-Dead-clause-whole
returns-in-Err-Dead-clause-whole c = dead-not_whole c.args.bytes.now (c.in-Err-Dead.ensures ∙ ap (λ x. Err x) c.in-Err-Dead.field-0-is)

pub returns-in-Err-Dead-clause-short : goal.returns-in-Err-Dead-clause-short
returns-in-Err-Dead-clause-short c = dead-not_cut c.args.bytes.now (c.in-Err-Dead.ensures ∙ ap (λ x. Err x) c.in-Err-Dead.field-0-is)

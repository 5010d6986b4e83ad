use Rattle.std.proofs.Common.{sym, ◌∙◌, arith}
use Rattle.linux_calls.specs.Mapping.{is_hole}
use Rattle.linux_calls.proofs.RangeLemmas.{one_some, none_some}
use Rattle.linux_calls.proofs.mapping.has_hole.Goals as goal

pub returns-then-is_hole : goal.returns-then-is_hole
returns-then-is_hole c =
    sym (one_some (is_hole c.args.regions.now.regions) c.args.first c.args.count c.loop-page.page (omega arith) (omega arith) (sym c.is_hole.ensures ∙ c.if-is_hole.true))

pub returns : goal.returns
returns c =
    sym (none_some (is_hole c.args.regions.now.regions) c.args.first c.args.count (λ page low high. c.loop-page.invariant page low (omega arith)))

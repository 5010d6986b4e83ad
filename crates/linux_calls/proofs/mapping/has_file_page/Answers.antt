use Rattle.std.proofs.Common.{◌≡◌, ◌*◌, ◌/◌, sym, ◌∙◌, arith}
use Rattle.linux_calls.specs.Mapping.{is_file_page}
use Rattle.linux_calls.proofs.RangeLemmas.{one_some, none_some}
use Rattle.linux_calls.proofs.mapping.has_file_page.Goals as goal

pub returns-then-unwrap_or : goal.returns-then-unwrap_or
returns-then-unwrap_or c =
    sym (one_some (is_file_page c.args.regions.now.regions) c.args.first c.args.count c.loop-page.page (omega arith) (omega arith)
    (let here : c.loop-page.page * 4096 / 4096 ≡ c.loop-page.page = omega arith in
    rw here at (rw c.origin.ensures at (sym c.unwrap_or.ensures ∙ c.if-unwrap_or.true))))

pub returns : goal.returns
returns c =
    sym (none_some (is_file_page c.args.regions.now.regions) c.args.first c.args.count (λ page low high. c.loop-page.invariant page low (omega arith)))

use Rattle.std.proofs.Common.{◌<◌, subst, ap, ◌∙◌, length, slice_get}
use Rattle.std.proofs.lemmas.Option.{slice_get-get_or}
use Rattle.row_table.specs.Rows.{table}
use Rattle.row_table.proofs.Computed.{rows-table}
use Rattle.row_table.proofs.finding.row.Goals as goal

pub bounds-index : goal.bounds-index
unfolding table
bounds-index c = subst (λ t. c.args.index < length t) rows-table c.requires

pub returns : goal.returns
unfolding table
returns c = ap (λ t. slice_get t c.args.index) rows-table ∙ (slice_get-get_or table c.args.index _ (subst (λ t. c.args.index < length t) rows-table c.requires))

use Rattle.std.proofs.Common.{sym, ◌∙◌}
use Rattle.core_step.proofs.Performed.{row-vectors}
use Rattle.core_step.proofs.preparing.plan_form.Goals as goal

pub vector_form-requires-clause-row : goal.vector_form-requires-clause-row
vector_form-requires-clause-row c = row-vectors c.args.row.now c.requires.performed (sym c.of.ensures ∙ c.in-Vectors.is)

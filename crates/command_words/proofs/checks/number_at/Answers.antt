use Rattle.std.proofs.Common.{sym, ◌∙◌}
use Rattle.command_words.proofs.NumberLemmas.{within-most}
use Rattle.command_words.proofs.checks.number_at.Goals as goal

pub returns-in-Some-clause-within : goal.returns-in-Some-clause-within
returns-in-Some-clause-within c =
    within-most c.args.least c.args.most c.in-Some.number c.args.value.now (sym c.in-Some.is ∙ c.number_within.ensures)

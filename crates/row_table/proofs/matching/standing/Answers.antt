use Rattle.std.proofs.Common.{◌≡◌, sym, ◌∙◌, rules}
use Rattle.row_table.specs.declared.kinds.Prefix.TheVariants.{Unmarked}
use Rattle.row_table.proofs.Pairs.{unfit-apart, fits-parts}
use Rattle.row_table.proofs.matching.standing.Goals as goal

pub returns-then-not-does_fit : goal.returns-then-not-does_fit
returns-then-not-does_fit c = unfit-apart c.args.row.now c.args.fields.now (sym c.does_fit.ensures ∙ c.if-not-does_fit.true)

pub returns-then-eq : goal.returns-then-eq
returns-then-eq c =
    let same : c.args.row.now.prefix ≡ c.mandatory_prefix.result = search rules in
    record { fits = fits-parts _ _ c.requires (sym c.does_fit.ensures ∙ c.if-not-does_fit.false); prefix = same ∙ c.mandatory_prefix.ensures }

pub returns-then-eq-2 : goal.returns-then-eq-2
returns-then-eq-2 c =
    let same : c.args.row.now.prefix ≡ Unmarked = search rules in
    record { fits = fits-parts _ _ c.requires (sym c.does_fit.ensures ∙ c.if-not-does_fit.false); prefix = same }

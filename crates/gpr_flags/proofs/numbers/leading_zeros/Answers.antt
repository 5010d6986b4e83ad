use Rattle.std.proofs.Common.{arith}
use Rattle.std.proofs.lemmas.Nat.{leading_le}
use Rattle.gpr_flags.proofs.Widths.{leading_within, within_power}
use Rattle.gpr_flags.proofs.numbers.leading_zeros.Goals as goal

pub overflow_sub-b : goal.overflow_sub-b
overflow_sub-b c = omega (arith, leading_within c.args.width 64 c.args.b c.requires.most c.requires.b)

pub returns-clause-value : goal.returns-clause-value
returns-clause-value c = omega (arith, leading_within c.args.width 64 c.args.b c.requires.most c.requires.b)

pub returns-clause-within : goal.returns-clause-within
returns-clause-within c = omega (arith, leading_within c.args.width 64 c.args.b c.requires.most c.requires.b, leading_le c.args.width c.args.b)

pub returns-clause-fits : goal.returns-clause-fits
returns-clause-fits c = within_power _ c.args.width
    (omega (arith, leading_within c.args.width 64 c.args.b c.requires.most c.requires.b, leading_le c.args.width c.args.b))

use Rattle.std.proofs.Common.{arith}
use Rattle.gpr_flags.proofs.Widths.{rotated_below, rotated_wide}
use Rattle.gpr_flags.proofs.shifts.rotated.Goals as goal

pub overflow_mul-result : goal.overflow_mul-result
overflow_mul-result c = rw (c.power.ensures, c.power-2.ensures)
    (omega (arith, rotated_wide c.args.width c.args.number c.args.to_top c.requires.most c.requires.number c.requires.within))

pub overflow_add-result : goal.overflow_add-result
overflow_add-result c = rw (c.power.ensures, c.power-2.ensures)
    (omega (arith, rotated_wide c.args.width c.args.number c.args.to_top c.requires.most c.requires.number c.requires.within))

pub returns-clause-fits : goal.returns-clause-fits
returns-clause-fits c = rw (c.power.ensures, c.power-2.ensures)
    (rotated_below c.args.width c.args.number c.args.to_top c.requires.number c.requires.within)

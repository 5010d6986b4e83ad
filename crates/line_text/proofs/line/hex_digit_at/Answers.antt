-- The digit is cut out by a shift.
use Rattle.std.proofs.Common.{arith}
use Rattle.std.proofs.lemmas.Grind.{common_steps}
use Rattle.line_text.proofs.Sixteens.{pow_sixteen}
use Rattle.line_text.proofs.line.hex_digit_at.Goals as goal

pub returns : goal.returns
returns c = rw (pow_sixteen c.args.place) (grind (arith, common_steps))

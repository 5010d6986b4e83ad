use Rattle.std.proofs.lemmas.Nat.{or_lt, xor_lt}
use Rattle.gpr_units.proofs.sums.perform.Goals as goal

pub returns-in-Or-clause-small : goal.returns-in-Or-clause-small
returns-in-Or-clause-small c = rw c.logic.ensures.value (or_lt c.args.bits c.args.a c.args.b c.requires.a c.requires.b)

pub returns-in-Xor-clause-small : goal.returns-in-Xor-clause-small
returns-in-Xor-clause-small c = rw c.logic-in-Xor.ensures.value (xor_lt c.args.bits c.args.a c.args.b c.requires.a c.requires.b)

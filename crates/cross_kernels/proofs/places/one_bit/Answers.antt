use Rattle.std.proofs.Common.{sym, arith}
use Rattle.std.proofs.lemmas.Nat.Bits.{bit_at_above}
use Rattle.cross_kernels.proofs.places.one_bit.Goals as goal

pub returns-else-place-lt8-clause-value : goal.returns-else-place-lt8-clause-value
returns-else-place-lt8-clause-value c = sym (bit_at_above c.args.imm 8 c.args.place (omega arith) (omega arith))

use Rattle.std.proofs.Common.{arith}
use Rattle.std.proofs.lemmas.Int.{ints}
use Rattle.gpr_flags.proofs.Signs.{power-half, is_negative-by_half}
use Rattle.gpr_flags.proofs.SignedBits.{half-small}
use Rattle.gpr_flags.proofs.numbers.signed.Goals as goal

pub returns-then-is_negative : goal.returns-then-is_negative
returns-then-is_negative c =
    let h = half-small c.args.bits c.requires.most in
    let e = power-half c.args.bits c.requires.some in
    let n = is_negative-by_half c.args.bits c.args.number c.requires.some c.requires.fits in
    grind (arith, ints, h, e, n)

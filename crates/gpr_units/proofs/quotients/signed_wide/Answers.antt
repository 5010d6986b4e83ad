use Rattle.std.proofs.Common.{◌<◌, ◌-◌, ◌*◌, arith}
use Rattle.std.proofs.lemmas.Int.{ints}
use Rattle.gpr_flags.proofs.Signs.{power-half, is_negative-by_half}
use Rattle.gpr_flags.proofs.SignedBits.{power-some}
use Rattle.gpr_units.proofs.Bits.{half_wide-small}
use Rattle.gpr_units.proofs.quotients.signed_wide.Goals as goal

pub above_zero-requires : goal.above_zero-requires
above_zero-requires c = omega (arith, half_wide-small c.args.bits c.requires.most)

pub below_zero-requires : goal.below_zero-requires
below_zero-requires c =
    let some : 0 < 2 * c.args.bits = omega arith in
    let h = half_wide-small c.args.bits c.requires.most in
    let e = power-half (2 * c.args.bits) some in
    let p = power-some (2 * c.args.bits - 1) in
    omega (arith, h, e, p)

pub returns-then-number-bits : goal.returns-then-number-bits
returns-then-number-bits c =
    let some : 0 < 2 * c.args.bits = omega arith in
    let n = is_negative-by_half (2 * c.args.bits) c.args.number some c.requires.small in
    grind (arith, ints, n)

pub returns-else-number-bits : goal.returns-else-number-bits
returns-else-number-bits c =
    let some : 0 < 2 * c.args.bits = omega arith in
    let h = half_wide-small c.args.bits c.requires.most in
    let e = power-half (2 * c.args.bits) some in
    let n = is_negative-by_half (2 * c.args.bits) c.args.number some c.requires.small in
    grind (arith, ints, h, e, n)

use Rattle.std.proofs.Common.{◌*◌, ◌%◌, ◌^◌, ◌<◌, ◌≤◌, ap, sym, arith}
use Rattle.std.proofs.Math.Nat.{div-eq_of_lt, pow-le-pow_right}
use Rattle.cross_kernels.proofs.places.two_bits.Goals as goal

pub returns-else-field-lt4-clause-value : goal.returns-else-field-lt4-clause-value
returns-else-field-lt4-clause-value c =
    let two : 0 < 2 = omega arith in
    let more : 2 ^ 8 ≤ 2 ^ (2 * c.args.field) = pow-le-pow_right two {i = 8} {j = 2 * c.args.field} (omega arith) in
    let small : c.args.imm < 2 ^ (2 * c.args.field) = omega (arith, more) in
    ap (λ x. x % 4) (sym (div-eq_of_lt small))

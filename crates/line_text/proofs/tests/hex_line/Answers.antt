-- Sixteen to the fifteenth fits 64 bits.
use Rattle.std.proofs.Common.{◌^◌, ◌≤◌, arith, lit<}
use Rattle.std.proofs.Math.Nat.{pow-le-pow_right}
use Rattle.line_text.proofs.tests.hex_line.Goals as goal

pub pow-requires : goal.pow-requires
pow-requires c =
    let most : 16 ^ c.args.digits ≤ 16 ^ 15 = pow-le-pow_right (lit< tt) {i = c.args.digits} {j = 15} (omega arith) in
    omega (arith, most)

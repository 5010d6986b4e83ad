use Rattle.std.proofs.Common.{◌≡◌, ◌∙◌, ◌*◌, ◌≤◌, ◌/◌, ◌%◌, ◌^◌, ap, arith, of_z}
use Rattle.std.specs.Int.{w128}
use Rattle.std.proofs.lemmas.Int.{to_z-of_z}
use Rattle.gpr_flags.specs.Numbers.{low_of}
use Rattle.gpr_flags.proofs.SignedBits.{low-bits}
use Rattle.gpr_flags.proofs.products.signed_halves.Goals as goal

pub returns-clause-low : goal.returns-clause-low
returns-clause-low c =
    let most : 2 * c.args.bits ≤ 128 = omega arith in
    let e : c.cast_unsigned.result ≡ of_z w128 c.args.product = c.cast_unsigned.ensures ∙ ap (of_z w128) (to_z-of_z w128 c.args.product c.ranges.product) in
    let wide : c.cast_unsigned.result % 2 ^ (2 * c.args.bits) ≡ low_of (2 * c.args.bits) c.args.product =
    ap (λ x. x % 2 ^ (2 * c.args.bits)) e ∙ low-bits (2 * c.args.bits) c.args.product most c.ranges.product in
    c.halves.ensures.low ∙ ap (λ x. x % 2 ^ c.args.bits) wide

pub returns-clause-high : goal.returns-clause-high
returns-clause-high c =
    let most : 2 * c.args.bits ≤ 128 = omega arith in
    let e : c.cast_unsigned.result ≡ of_z w128 c.args.product = c.cast_unsigned.ensures ∙ ap (of_z w128) (to_z-of_z w128 c.args.product c.ranges.product) in
    let wide : c.cast_unsigned.result % 2 ^ (2 * c.args.bits) ≡ low_of (2 * c.args.bits) c.args.product =
    ap (λ x. x % 2 ^ (2 * c.args.bits)) e ∙ low-bits (2 * c.args.bits) c.args.product most c.ranges.product in
    c.halves.ensures.high ∙ ap (λ x. x / 2 ^ c.args.bits) wide

use Rattle.std.proofs.Common.{◌∙◌, ap, ◌%◌, ◌^◌, ◌≤◌, of_z, arith}
use Rattle.std.specs.Int.{w128}
use Rattle.std.proofs.lemmas.Int.{to_z-of_z}
use Rattle.gpr_flags.proofs.SignedBits.{low-bits}
use Rattle.gpr_flags.proofs.numbers.low_signed.Goals as goal

pub returns-clause-value : goal.returns-clause-value
returns-clause-value c =
    let most : c.args.bits ≤ 128 = omega arith in
    c.low.ensures.value ∙ ap (λ x. x % 2 ^ c.args.bits) (c.cast_unsigned.ensures ∙ ap (of_z w128) (to_z-of_z w128 c.args.number c.ranges.number))
    ∙ low-bits c.args.bits c.args.number most c.ranges.number

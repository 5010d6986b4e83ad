use Rattle.std.proofs.Common.{◌^◌, pos, ◌+ℤ◌, ◌*ℤ◌}
use Rattle.std.specs.Int.{w128}
use Rattle.std.proofs.lemmas.Int.{to_z-of_z}
use Rattle.gpr_flags.specs.Numbers.{signed_of}
use Rattle.cross_kernels.proofs.Pairs.{signed-pair, widened, power-is}
use Rattle.cross_kernels.proofs.interleaving.signed_pair.Goals as goal

pub overflow_mul-result : goal.overflow_mul-result
overflow_mul-result c =
    let pair = signed-pair c.args.bits c.args.low c.args.high c.requires.some c.requires.most c.requires.low c.requires.high in
    let high = widened c.signed.result c.from.result (record { sfits = c.signed.type_inv }) c.from.ensures in
    let whole = power-is c.args.bits c.power.result c.requires.most c.power.ensures in
    rw (high, whole, c.signed.ensures) pair.product

pub overflow_add-result : goal.overflow_add-result
overflow_add-result c =
    let pair = signed-pair c.args.bits c.args.low c.args.high c.requires.some c.requires.most c.requires.low c.requires.high in
    let high = widened c.signed.result c.from.result (record { sfits = c.signed.type_inv }) c.from.ensures in
    let whole = power-is c.args.bits c.power.result c.requires.most c.power.ensures in
    let low = to_z-of_z w128 c.from-2.result (record { sfits = c.from-2.type_inv }) in
    let product = to_z-of_z w128 (signed_of c.args.bits c.args.high *ℤ pos (2 ^ c.args.bits)) pair.product in
    rw (high, whole, c.signed.ensures, product, low, c.from-2.ensures) pair.total

pub returns : goal.returns
returns c =
    let pair = signed-pair c.args.bits c.args.low c.args.high c.requires.some c.requires.most c.requires.low c.requires.high in
    let high = widened c.signed.result c.from.result (record { sfits = c.signed.type_inv }) c.from.ensures in
    let whole = power-is c.args.bits c.power.result c.requires.most c.power.ensures in
    let low = to_z-of_z w128 c.from-2.result (record { sfits = c.from-2.type_inv }) in
    let product = to_z-of_z w128 (signed_of c.args.bits c.args.high *ℤ pos (2 ^ c.args.bits)) pair.product in
    let total = to_z-of_z w128 (signed_of c.args.bits c.args.high *ℤ pos (2 ^ c.args.bits) +ℤ pos c.args.low) pair.total in
    rw (high, whole, c.signed.ensures, product, low, c.from-2.ensures, total) pair.sum

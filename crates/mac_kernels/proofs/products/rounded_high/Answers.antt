use Rattle.std.proofs.Common.{◌≡◌, ◌∙◌, ◌+◌, ◌-◌, ◌*◌, ◌/◌, ◌%◌, ◌^◌, ap}
use Rattle.std.proofs.Math.Nat.{mod-mod}
use Rattle.gpr_flags.specs.Numbers.{low_of}
use Rattle.mac_kernels.specs.MacOps.{product}
use Rattle.mac_kernels.proofs.Quotients.{two_more}
use Rattle.mac_kernels.proofs.products.rounded_high.Goals as goal

pub returns : goal.returns
returns c =
    let bits = c.args.bits in
    let whole = low_of (2 * bits) (product bits c.args.a c.args.b) in
    let value : c.low.result ≡ (4 * (whole / 2 ^ bits) + whole % 2 ^ bits / 2 ^ (bits - 2) + 1) / 2 % 2 ^ bits =
    c.low.ensures.value
    ∙ rw (c.from.ensures, c.from-2.ensures, c.product_halves-low_part.ensures.low, c.product_halves-low_part.ensures.high) in
    ap (λ x. x % 2 ^ bits) (value ∙ ap (λ x. (x + 1) / 2 % 2 ^ bits) (two_more bits whole c.requires.some)) ∙ mod-mod _ _

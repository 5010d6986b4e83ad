use Rattle.std.proofs.Common.{◌≡◌, ◌∙◌, ◌+◌, ◌*◌, ◌/◌, ◌%◌, ◌^◌, ap}
use Rattle.std.proofs.Math.Nat.{mod-mod}
use Rattle.mac_kernels.proofs.shifts.double_right.Goals as goal

pub returns : goal.returns
returns c =
    let bits = c.args.bits in
    let both = c.args.above * 2 ^ bits + c.args.below in
    let value : c.low.result ≡ both / 2 ^ (c.args.count % bits) % 2 ^ bits = c.low.ensures.value ∙ rw (c.join.ensures.value, c.from.ensures) in
    ap (λ x. x % 2 ^ bits) value ∙ mod-mod _ _

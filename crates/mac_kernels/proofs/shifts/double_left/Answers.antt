use Rattle.std.proofs.Common.{◌≡◌, ◌∙◌, ◌+◌, ◌-◌, ◌*◌, ◌/◌, ◌%◌, ◌^◌, ◌≤◌, ap, sym, arith}
use Rattle.std.proofs.Math.Nat.{mod-mod}
use Rattle.mac_kernels.proofs.Quotients.{shifted_left}
use Rattle.mac_kernels.proofs.shifts.double_left.Goals as goal

pub returns : goal.returns
returns c =
    let bits = c.args.bits in
    let both = c.args.above * 2 ^ bits + c.args.below in
    let within : c.args.count % bits ≤ bits = omega arith in
    let value : c.low.result ≡ both / 2 ^ (bits - c.args.count % bits) % 2 ^ bits = c.low.ensures.value ∙ rw (c.join.ensures.value, c.from.ensures) in
    ap (λ x. x % 2 ^ bits) (value ∙ ap (λ x. x % 2 ^ bits) (sym (shifted_left both bits (c.args.count % bits) within))) ∙ mod-mod _ _

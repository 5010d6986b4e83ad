-- The digits so far are those of the number without its lowest ones.
use Rattle.std.proofs.Common.{◌≡◌, ◌/◌, ◌-◌, ◌^◌, ◌+◌, length, arith, lit<, refl, ap, ◌∙◌, append_assoc}
use Rattle.std.proofs.lemmas.Grind.{common_steps}
use Rattle.std.proofs.lemmas.List.{length-append}
use Rattle.line_text.specs.Digits.{hex_digits}
use Rattle.line_text.proofs.Sixteens.{digit_more, length-hex_digits}
use Rattle.line_text.proofs.line.Line.hex.Goals as goal

pub loop-done-init : goal.loop-done-init
unfolding hex_digits
loop-done-init c = grind (arith, common_steps)

pub push-requires : goal.push-requires
push-requires c =
    let left = c.args.n / 16 ^ (c.args.digits - c.loop-done.done) in
    let len : length c.loop-done.self-inside.bytes.items ≡ length c.self.inside.bytes.items + c.loop-done.done =
    ap length c.loop-done.invariant ∙ length-append c.self.inside.bytes.items (hex_digits c.loop-done.done left)
    ∙ rw (length-hex_digits c.loop-done.done left) refl in
    let room = rw (← c.self.view_is) at c.requires.room in
    (lit< tt, omega (arith, len, room))

pub loop-done-preserved : goal.loop-done-preserved
loop-done-preserved c =
    rw (← digit_more c.args.n c.args.digits c.loop-done.done (omega arith)) (grind (arith, common_steps, append_assoc))

pub returns-clause-len : goal.returns-clause-len
returns-clause-len c = grind (arith, common_steps, length-hex_digits)

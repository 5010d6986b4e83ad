use Rattle.std.proofs.Common.{◌≡◌, ◌-◌, ◌/◌, ◌^◌, ◌++◌}
use Rattle.line_text.specs.Digits.{hex_digits}
use Rattle.line_text.proofs.line.Line.hex.Given as goal

abbrev pub invariant-loop-done : goal.invariant-loop-done
invariant-loop-done l = l.self-inside.bytes.items ≡ l.initial.self-inside.bytes.items ++ hex_digits l.done (l.n / 16 ^ (l.digits - l.done))

use Rattle.std.proofs.Common.{◌∙◌, sym}
use Rattle.std.proofs.lemmas.Nat.Bits.{bit_at_ones}
use Rattle.lane_kernels.proofs.bitwise.spread.Goals as goal

pub returns-then-imm-place-eq1 : goal.returns-then-imm-place-eq1
returns-then-imm-place-eq1 c = λ i h. bit_at_ones 64 i h ∙ sym c.if-imm-place-eq1.true

use Rattle.std.proofs.Common.{arith, ◌<◌, ◌+◌, ◌*◌}
use Rattle.std.specs.Int.{bit_at}
use Rattle.std.proofs.lemmas.Nat.Bits.{bit_at-lt}
use Rattle.lane_kernels.proofs.BitLogic.{from_bits, mux}
use Rattle.lane_kernels.proofs.bitwise.ternary.Goals as goal

pub returns : goal.returns
returns c = λ n h. from_bits c.select-5.result n
    (λ i. bit_at c.args.imm (4 * bit_at c.args.d i + 2 * bit_at c.args.a i + bit_at c.args.b i))
    (λ i q. let k : i < 64 = omega arith in
    rw (
      c.select-5.ensures i k,
      c.select-high.ensures i k,
      c.select-low.ensures i k,
      c.select.ensures i k,
      c.select-2.ensures i k,
      c.select-3.ensures i k,
      c.select-4.ensures i k,
      c.spread.ensures i k,
      c.spread-2.ensures i k,
      c.spread-3.ensures i k,
      c.spread-4.ensures i k,
      c.spread-5.ensures i k,
      c.spread-6.ensures i k,
      c.spread-7.ensures i k,
      c.spread-8.ensures i k,
    )
    (mux (bit_at c.args.imm) _ _ _ (bit_at-lt c.args.d i) (bit_at-lt c.args.a i) (bit_at-lt c.args.b i)))

-- The bounds of signed numbers, as i128 has them.
use Rattle.std.proofs.Common.{◌≡◌, ℕ, ◌-◌, ◌*◌, ◌%◌, ◌^◌, ◌<◌, ◌≤◌, pos, ◌-ℤ◌, of_z, to_z, arith}
use Rattle.std.specs.Prelude.{neg_ℤ}
use Rattle.std.specs.Int.{w128}
use Rattle.std.proofs.lemmas.Int.{ints}

pub least-is : (half : ℕ) → half ≤ 2 ^ 63 → to_z w128 (of_z w128 (pos 0 -ℤ to_z w128 (1 * half % 2 ^ 128))) ≡ neg_ℤ (pos half)
least-is half h = grind (arith, ints, h)

pub greatest-is : (half : ℕ) → 0 < half → half ≤ 2 ^ 63 → to_z w128 (of_z w128 (to_z w128 (1 * half % 2 ^ 128) -ℤ pos 1)) ≡ pos (half - 1)
greatest-is half some h = grind (arith, ints, some, h)

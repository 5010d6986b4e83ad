-- One more lane.
use Rattle.std.proofs.Common.{◌≡◌, ℕ, ◌+◌, ◌==◌, ◌&&◌, if◌then◌else◌, refl, add-one}
use Rattle.gpr_flags.specs.Numbers.{has_bit}
use Rattle.width_kernels.specs.WidthOps.{masked_lane, masked_below}

pub masked_next : (n mask : ℕ) (f : ℕ → ℕ) (i : ℕ)
    → masked_lane (n + 1) mask f i ≡ (if has_bit mask n && masked_below mask n == i then f n else masked_lane n mask f i)
unfolding masked_lane
masked_next n mask f i = rw add-one refl

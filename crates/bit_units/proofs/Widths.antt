-- Numbers by their width in bits: bounds, and zeros below.
use Rattle.std.proofs.Common.{◌≡◌, ℕ, zero, suc, ◌/◌, ◌%◌, ◌^◌, ◌<◌, ◌≤◌, min, ap, sym, ◌∙◌, arith}
use Rattle.std.specs.Int.Count.{count_trailing_zeros, under}
use Rattle.std.proofs.Math.Nat.{div-eq_of_lt, mod-eq_of_lt}
use Rattle.gpr_flags.proofs.Widths.{wider}

pub none_above : (a width start : ℕ) → a < 2 ^ width → width ≤ start → 0 ≡ a / 2 ^ start
none_above a width start less within = sym (div-eq_of_lt (wider a width start less within))

pub whole_field : (a width count : ℕ) → a < 2 ^ width → width ≤ count → a ≡ a % 2 ^ count
whole_field a width count less within = sym (mod-eq_of_lt (wider a width count less within))

under_within : (digit low count width : ℕ) → min count width ≡ low → min (under digit count) (suc width) ≡ under digit low
under_within zero low count width is = omega (arith, is)
under_within (suc digit) low count width is = omega arith

pub trailing_within : (width more a : ℕ) → width ≤ more → min (count_trailing_zeros more a) width ≡ count_trailing_zeros width a
unfolding count_trailing_zeros
trailing_within zero more a within = omega arith
trailing_within (suc width) zero a within = omega arith
trailing_within (suc width) (suc more) a within =
    under_within (a % 2) (count_trailing_zeros width (a / 2)) (count_trailing_zeros more (a / 2)) width
    (trailing_within width more (a / 2) (omega (arith, within)))

-- What a mask picks, one place further.
use Rattle.std.proofs.Common.{◌≡◌, ℕ, ◌+◌, ◌*◌, ◌^◌, ap, true, false, cond, add-one}
use Rattle.std.specs.Int.{bit_at}
use Rattle.gpr_flags.specs.Numbers.{has_bit}
use Rattle.bit_units.specs.Picks.{picked, extracted, deposited}

pub picked_in : (place mask : ℕ) → has_bit mask place ≡ true → picked (place + 1) mask ≡ picked place mask + 1
unfolding picked
picked_in place mask is = rw (add-one place) (ap (λ b. cond b (picked place mask + 1) (picked place mask)) is)

pub picked_out : (place mask : ℕ) → has_bit mask place ≡ false → picked (place + 1) mask ≡ picked place mask
unfolding picked
picked_out place mask is = rw (add-one place) (ap (λ b. cond b (picked place mask + 1) (picked place mask)) is)

pub extracted_in : (place number mask : ℕ) → has_bit mask place ≡ true
    → extracted (place + 1) number mask ≡ extracted place number mask + bit_at number place * 2 ^ picked place mask
unfolding extracted
extracted_in place number mask is = rw add-one
    (ap (λ b. cond b (extracted place number mask + bit_at number place * 2 ^ picked place mask) (extracted place number mask)) is)

pub extracted_out : (place number mask : ℕ) → has_bit mask place ≡ false
    → extracted (place + 1) number mask ≡ extracted place number mask
unfolding extracted
extracted_out place number mask is = rw add-one
    (ap (λ b. cond b (extracted place number mask + bit_at number place * 2 ^ picked place mask) (extracted place number mask)) is)

pub deposited_in : (place number mask : ℕ) → has_bit mask place ≡ true
    → deposited (place + 1) number mask ≡ deposited place number mask + bit_at number (picked place mask) * 2 ^ place
unfolding deposited
deposited_in place number mask is = rw add-one
    (ap (λ b. cond b (deposited place number mask + bit_at number (picked place mask) * 2 ^ place) (deposited place number mask)) is)

pub deposited_out : (place number mask : ℕ) → has_bit mask place ≡ false
    → deposited (place + 1) number mask ≡ deposited place number mask
unfolding deposited
deposited_out place number mask is = rw add-one
    (ap (λ b. cond b (deposited place number mask + bit_at number (picked place mask) * 2 ^ place) (deposited place number mask)) is)

-- The bits that a mask picks.
use Rattle.std.specs.Prelude.{ℕ, ◌+◌, ◌*◌, ◌^◌, zero, suc, if◌then◌else◌}
use Rattle.std.specs.Int.{bit_at}
use Rattle.gpr_flags.specs.Numbers.{has_bit}

-- how many 1 bits the mask has below a place
unfoldable pub picked : (places mask : ℕ) → ℕ
picked zero mask = 0
picked (suc place) mask = if has_bit mask place then (picked place mask + 1) else picked place mask

-- the bits of a number at the places of the mask, packed from bit 0 up (SDM volume 2, PEXT)
unfoldable pub extracted : (places number mask : ℕ) → ℕ
extracted zero number mask = 0
extracted (suc place) number mask =
    if has_bit mask place
    then (extracted place number mask + bit_at number place * 2 ^ picked place mask)
    else extracted place number mask

-- the low bits of a number, put at the places of the mask (SDM volume 2, PDEP)
unfoldable pub deposited : (places number mask : ℕ) → ℕ
deposited zero number mask = 0
deposited (suc place) number mask =
    if has_bit mask place
    then (deposited place number mask + bit_at number (picked place mask) * 2 ^ place)
    else deposited place number mask

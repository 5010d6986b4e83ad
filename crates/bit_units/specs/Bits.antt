-- Single bits, scans, counts, and the operations of VEX on general registers, over numbers below 2 ^ width: the value, and
-- the flags by that value. A flag that the SDM leaves open stays: that is this program's own choice.
use Rattle.std.specs.Prelude.{ℕ, ◌+◌, ◌-◌, ◌/◌, ◌%◌, ◌^◌, ◌==◌, Bool, false, not, nat_lt, if◌then◌else◌, bit_and, bit_or, bit_xor, count_ones}
use Rattle.std.specs.Int.{w16, w32, w64, swap_bytes}
use Rattle.std.specs.Int.Count.{count_leading_zeros, count_trailing_zeros}
use Rattle.gpr_flags.specs.declared.kinds.Flags.{Flags}
use Rattle.gpr_flags.specs.Numbers.{has_bit}
use Rattle.gpr_flags.specs.Flags.{sign_and_zero}
use Rattle.row_table.specs.declared.operations.Op.{Op}
use Rattle.row_table.specs.declared.operations.Op.TheVariants.{Bit, Core}
use Rattle.row_table.specs.declared.operations.CoreOp.{CoreOp}
use Rattle.row_table.specs.declared.operations.CoreOp.TheVariants.{Bswap}
use Rattle.row_table.specs.declared.operations.BitOp.{BitOp}
use Rattle.row_table.specs.declared.operations.BitOp.TheVariants.{Bt, Bts, Btr, Btc, Popcnt, Bsf, Tzcnt, Bsr, Lzcnt, Andn, Blsr, Blsmsk, Blsi, Bzhi, Pext, Pdep, Bextr, Shlx, Sarx, Shrx, Rorx}
use Rattle.bit_units.specs.Numbers.{masked}
use Rattle.gpr_flags.specs.Shifts.{sar_value}
use Rattle.bit_units.specs.Shifts.{shl_value, shr_value, ror_value}
use Rattle.bit_units.specs.Picks.{extracted, deposited}

-- ---- single bits: the place is taken modulo the width
-- (SDM volume 2, BTS)
abbrev pub bts_value : (width a b : ℕ) → ℕ
bts_value width a b = bit_or a (2 ^ (b % width))

-- (SDM volume 2, BTR)
abbrev pub btr_value : (width a b : ℕ) → ℕ
btr_value width a b = bit_and a (2 ^ width - 1 - 2 ^ (b % width))

-- (SDM volume 2, BTC)
abbrev pub btc_value : (width a b : ℕ) → ℕ
btc_value width a b = bit_xor a (2 ^ (b % width))

-- CF is the old bit (SDM volume 2, BT)
abbrev pub bt_flags : (width a b : ℕ) → Flags → Flags
bt_flags width a b f = record f { cf = has_bit a (b % width) }

-- ---- scans and counts
-- the place of the lowest 1 bit; of 0 the destination stays, which the SDM leaves open (SDM volume 2, BSF)
abbrev pub bsf_value : (width a b : ℕ) → ℕ
bsf_value width a b = if b == 0 then a else count_trailing_zeros width b

-- the place of the highest 1 bit (SDM volume 2, BSR)
abbrev pub bsr_value : (width a b : ℕ) → ℕ
bsr_value width a b = if b == 0 then a else width - 1 - count_leading_zeros width b

-- ZF says that the source is 0 (SDM volume 2, BSF and BSR)
abbrev pub scan_flags : (b : ℕ) → Flags → Flags
scan_flags b f = record f { zf = b == 0 }

-- CF says that the source is 0, and ZF that the result is (SDM volume 2, TZCNT and LZCNT)
abbrev pub zeros_flags : (b value : ℕ) → Flags → Flags
zeros_flags b value f = record f { cf = b == 0; zf = value == 0 }

-- (SDM volume 2, POPCNT)
abbrev pub popcnt_flags : (b : ℕ) → Flags → Flags
popcnt_flags b f = record f { cf = false; pf = false; af = false; zf = b == 0; sf = false; ovf = false }

-- ---- the bytes in the other order (SDM volume 2, BSWAP, which has 32 and 64 bits, and MOVBE)
abbrev pub reversed : (width a : ℕ) → ℕ
reversed width a =
    if width == 64 then swap_bytes w64 a
    else if width == 32 then swap_bytes w32 a
    else if width == 16 then swap_bytes w16 a
    else a

-- ---- masks
-- (SDM volume 2, ANDN)
abbrev pub andn_value : (width a b : ℕ) → ℕ
andn_value width a b = bit_and (2 ^ width - 1 - a) b

-- b - 1, and the highest number for 0
abbrev pub less_one : (width b : ℕ) → ℕ
less_one width b = (b + (2 ^ width - 1)) % 2 ^ width

-- the lowest 1 bit is cleared (SDM volume 2, BLSR)
abbrev pub blsr_value : (width b : ℕ) → ℕ
blsr_value width b = bit_and (less_one width b) b

-- the bits up to the lowest 1 bit (SDM volume 2, BLSMSK)
abbrev pub blsmsk_value : (width b : ℕ) → ℕ
blsmsk_value width b = bit_xor (less_one width b) b

-- the lowest 1 bit, by the number's negative (SDM volume 2, BLSI)
abbrev pub blsi_value : (width b : ℕ) → ℕ
blsi_value width b = bit_and ((2 ^ width - b) % 2 ^ width) b

-- SF and ZF are the result's, and OF is cleared (SDM volume 2, ANDN, BLSI, BLSMSK, BLSR and BZHI)
abbrev pub mask_flags : (width value : ℕ) → (carry : Bool) → Flags → Flags
mask_flags width value carry f = sign_and_zero width value (record f { cf = carry; ovf = false })

-- the bits below the index, the low byte of b (SDM volume 2, BZHI)
abbrev pub bzhi_value : (width a b : ℕ) → ℕ
bzhi_value width a b = if nat_lt (b % 256) width then a % 2 ^ (b % 256) else a

-- ---- fields: the low byte of b is the start, and its next byte the length (SDM volume 2, BEXTR)
abbrev pub bextr_value : (a b : ℕ) → ℕ
bextr_value a b = a / 2 ^ (b % 256) % 2 ^ (b / 256 % 256)

abbrev pub bextr_flags : (value : ℕ) → Flags → Flags
bextr_flags value f = record f { cf = false; zf = value == 0; ovf = false }

-- ---- by operation
-- a and b below 2 ^ width
unfoldable pub bit_value : BitOp → (width a b : ℕ) → ℕ
bit_value Bt width a b = a
bit_value Bts width a b = bts_value width a b
bit_value Btr width a b = btr_value width a b
bit_value Btc width a b = btc_value width a b
bit_value Popcnt width a b = count_ones b
bit_value Bsf width a b = bsf_value width a b
bit_value Tzcnt width a b = count_trailing_zeros width b
bit_value Bsr width a b = bsr_value width a b
bit_value Lzcnt width a b = count_leading_zeros width b
bit_value Andn width a b = andn_value width a b
bit_value Blsr width a b = blsr_value width b
bit_value Blsmsk width a b = blsmsk_value width b
bit_value Blsi width a b = blsi_value width b
bit_value Bzhi width a b = bzhi_value width a b
bit_value Pext width a b = extracted width a b
bit_value Pdep width a b = deposited width a b
bit_value Bextr width a b = bextr_value a b
bit_value Shlx width a b = shl_value width a (masked width b)
bit_value Sarx width a b = sar_value width a (masked width b)
bit_value Shrx width a b = shr_value a (masked width b)
bit_value Rorx width a b = ror_value width a (masked width b)
bit_value _ width a b = a

unfoldable pub bit_flags : BitOp → (width a b value : ℕ) → Flags → Flags
bit_flags Bt width a b value f = bt_flags width a b f
bit_flags Bts width a b value f = bt_flags width a b f
bit_flags Btr width a b value f = bt_flags width a b f
bit_flags Btc width a b value f = bt_flags width a b f
bit_flags Popcnt width a b value f = popcnt_flags b f
bit_flags Bsf width a b value f = scan_flags b f
bit_flags Tzcnt width a b value f = zeros_flags b value f
bit_flags Bsr width a b value f = scan_flags b f
bit_flags Lzcnt width a b value f = zeros_flags b value f
bit_flags Andn width a b value f = mask_flags width value false f
bit_flags Blsr width a b value f = mask_flags width value (b == 0) f
bit_flags Blsmsk width a b value f = record (mask_flags width value (b == 0) f) { zf = false }
bit_flags Blsi width a b value f = mask_flags width value (not (b == 0)) f
bit_flags Bzhi width a b value f = mask_flags width value (nat_lt (width - 1) (b % 256)) f
bit_flags Bextr width a b value f = bextr_flags value f
bit_flags _ width a b value f = f

-- BSWAP alone is the core's
unfoldable pub core_value : CoreOp → (width a : ℕ) → ℕ
core_value Bswap width a = reversed width a
core_value _ width a = a

-- the value, where an operation that isn't one of these gives a
abbrev pub value_of_bits : Op → (width a b : ℕ) → ℕ
value_of_bits (Bit op) width a b = bit_value op width a b
value_of_bits (Core op) width a b = core_value op width a
value_of_bits _ width a b = a

-- the flags, by that value
abbrev pub flags_of_bits : Op → (width a b value : ℕ) → Flags → Flags
flags_of_bits (Bit op) width a b value f = bit_flags op width a b value f
flags_of_bits _ width a b value f = f

-- an operation on the bits of a and b, whose bits above the width don't count
unfoldable pub bits_value : Op → (width a b : ℕ) → ℕ
bits_value op width a b = value_of_bits op width (a % 2 ^ width) (b % 2 ^ width)

unfoldable pub bits_flags : Op → (width a b : ℕ) → Flags → Flags
bits_flags op width a b f = flags_of_bits op width (a % 2 ^ width) (b % 2 ^ width) (bits_value op width a b) f

-- The flags, the conditions on them, and RFLAGS as a number.
use Rattle.std.specs.Prelude.{ℕ, ◌+◌, ◌/◌, ◌%◌, ◌==◌, Bool, false, not, ◌||◌, if◌then◌else◌, count_ones}
use Rattle.std.specs.Bool.{beq}
use Rattle.gpr_flags.specs.declared.kinds.Flags.{Flags}
use Rattle.gpr_flags.specs.Numbers.{has_bit, is_negative}

abbrev pub no_flags : Flags
no_flags = record { cf = false; pf = false; af = false; zf = false; sf = false; df = false; ovf = false }

abbrev pub flag_bit : Bool → ℕ → ℕ
flag_bit set weight = if set then weight else 0

-- RFLAGS as a number: bits 1 and 9 are always set (SDM volume 1, 3.4.3)
abbrev pub flags_word : Flags → ℕ
flags_word f =
    514 + flag_bit f.cf 1 + flag_bit f.pf 4 + flag_bit f.af 16 + flag_bit f.zf 64 + flag_bit f.sf 128 + flag_bit f.df 1024
    + flag_bit f.ovf 2048

-- the flags of a word, by their places (SDM volume 1, 3.4.3); its other bits don't count (POPF; which flags a program changes is
-- this program's own)
unfoldable pub flags_of : ℕ → Flags
flags_of word = record {
  cf = has_bit word 0;
  pf = has_bit word 2;
  af = has_bit word 4;
  zf = has_bit word 6;
  sf = has_bit word 7;
  df = has_bit word 10;
  ovf = has_bit word 11;
}

-- SF is the highest bit of a value of n bits, and ZF says that it is 0 (SDM volume 1, 3.4.3.1)
abbrev pub sign_and_zero : (n value : ℕ) → Flags → Flags
sign_and_zero n value f = record f { zf = value == 0; sf = is_negative n value }

-- and PF says that the number of 1 bits in the lowest byte is even (SDM volume 1, 3.4.3.1)
abbrev pub value_flags : (n value : ℕ) → Flags → Flags
value_flags n value f = record (sign_and_zero n value f) { pf = count_ones (value % 256) % 2 == 0 }

-- the conditions in the order of their numbers: O, B, Z, BE, S, P, L, LE, where an odd number negates the one before it (SDM
-- volume 1, appendix B)
abbrev pub even_condition : Flags → ℕ → Bool
even_condition f number =
    if number == 0 then f.ovf
    else if number == 1 then f.cf
    else if number == 2 then f.zf
    else if number == 3 then f.cf || f.zf
    else if number == 4 then f.sf
    else if number == 5 then f.pf
    else if number == 6 then not (beq f.sf f.ovf)
    else f.zf || not (beq f.sf f.ovf)

unfoldable pub holds : Flags → ℕ → Bool
holds f condition = if condition % 2 == 1 then not (even_condition f (condition / 2)) else even_condition f (condition / 2)

-- Which fields a row of VEX allows.
use Rattle.std.specs.Prelude.{nat_lt, ◌==◌, Bool, ◌&&◌, ◌||◌}
use Rattle.row_table.specs.declared.kinds.Row.{Row}
use Rattle.row_table.specs.declared.kinds.Fields.{Fields}
use Rattle.row_table.specs.Spelling.{Encoding, without_prefixes, registers_fit, bytes_fit, without_evex, uses_vvvv, opmasks_fit}

-- L has one bit, and pp two (Intel SDM volume 2, section 2.3.6).
abbrev pub bits_fit : Fields → Bool
bits_fit f = nat_lt f.l 2 && nat_lt f.pp 4

-- vvvv has four bits; where it holds none of the operands it is 0, which is stored as 1111 (Intel SDM volume 2, section 2.3.5.6).
abbrev pub vvvv_fits : Row → Fields → Bool
vvvv_fits r f = nat_lt f.v 16 && (uses_vvvv r.operands || (f.v == 0))

-- No prefix is there that may not be, the registers exist, opmask registers too, vvvv is 0 where it has no use, ModRM and SIB are
-- there where they belong, and nothing is that EVEX alone has. That L and W are those of the row is in `Matches`.
abbrev pub allowed : Row → Fields → Bool
allowed r f =
    without_prefixes f
    && (bits_fit f && (registers_fit f && (opmasks_fit r f && (vvvv_fits r f && (bytes_fit f && without_evex f)))))

-- the displacement is that of the instruction's bytes as it is (Intel SDM volume 2, section 2.3.8)
abbrev pub vex_encoding : Encoding
vex_encoding = record { allows = allowed; displacement = λ r f. f.disp }

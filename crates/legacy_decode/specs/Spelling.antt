-- Which fields a row of the legacy class allows.
use Rattle.std.specs.Prelude.{◌==◌, Bool, ◌&&◌}
use Rattle.row_table.specs.declared.kinds.Row.{Row}
use Rattle.row_table.specs.declared.kinds.Fields.{Fields}
use Rattle.row_table.specs.Spelling.{Encoding, registers_fit, bytes_fit, without_evex}
use Rattle.legacy_decode.specs.Lock.{lock_fits}

-- There is no register in vvvv, no mask, no zeroing and no broadcast: VEX and EVEX alone have these.
abbrev pub without_vex : Fields → Bool
without_vex f = f.v == 0 && without_evex f

-- LOCK is allowed where it is there, the registers exist, ModRM and SIB are there where they belong, and nothing is that VEX
-- or EVEX alone have.
abbrev pub allowed : Row → Fields → Bool
allowed r f = lock_fits r f && (registers_fit f && (bytes_fit f && without_vex f))

-- the displacement is that of the instruction's bytes as it is (Intel SDM volume 2, section 2.1.5)
abbrev pub legacy_encoding : Encoding
legacy_encoding = record { allows = allowed; displacement = λ r f. f.disp }

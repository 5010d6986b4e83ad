-- What the rules of every class say of an instruction's fields.
use Rattle.std.proofs.Common.{◌≡◌, ◌<◌, true, ◌&&◌, ◌||◌, ◌==◌, nat_lt, length, eqb-true, arith}
use Rattle.std.proofs.lemmas.Bool.{and_parts}
use borrow.Author.Tests.{ltb-true}
use Rattle.row_table.specs.declared.kinds.Class.{Class}
use Rattle.row_table.specs.declared.kinds.Class.TheVariants.{Legacy, Vex, Evex}
use Rattle.row_table.specs.declared.kinds.Row.{Row}
use Rattle.row_table.specs.declared.kinds.Fields.{Fields}
use Rattle.row_table.specs.declared.kinds.Decoded.{Decoded}
use Rattle.row_table.specs.Rows.{rows}
use Rattle.row_table.specs.Spelling.{without_prefixes, registers_fit, opmasks_fit, bytes_fit, without_evex, uses_vvvv}
use Rattle.row_table.proofs.Spelled.{spelled-within, spelled-allowed}
use Rattle.legacy_decode.specs.Lock.{lock_fits}
use Rattle.legacy_decode.specs.Spelling.{without_vex}
use Rattle.vex_decode.specs.Spelling.{bits_fit, vvvv_fits}
use Rattle.evex_decode.specs.Spelling.{bits_fit as evex_bits_fit, form_allowed}
use Rattle.x_decode.specs.Seeing.{encoding_of, IsDecoded}

-- the bits above the three of a register in ModRM, SIB or the opcode, and the register in vvvv, are those of a register: of EVEX,
-- which has the most, 32
pub record Registers (f : Fields) : Type 0 where
  pub r : f.r < 4
  pub x : f.x < 2
  pub b : f.b < 2
  pub v : f.v < 32

-- those of the other classes have half as many
few-registers : (f : Fields) → registers_fit f ≡ true → f.v < 16 → Registers f
few-registers f h below =
    let a = and_parts (nat_lt f.r 2) _ h in
    let b = and_parts (nat_lt f.x 2) (nat_lt f.b 2) a.1 in
    let r = ltb-true f.r 2 a.0 in
    record { r = omega arith; x = ltb-true f.x 2 b.0; b = ltb-true f.b 2 b.1; v = omega arith }

evex-registers : (f : Fields) → evex_bits_fit f ≡ true → Registers f
evex-registers f h =
    let a = and_parts (nat_lt f.r 4) _ h in
    let b = and_parts (nat_lt f.x 2) _ a.1 in
    let d = and_parts (nat_lt f.b 2) _ b.1 in
    let e = and_parts (nat_lt f.v 32) (nat_lt f.l 3 && (nat_lt f.pp 4 && nat_lt f.aaa 8)) d.1 in
    record { r = ltb-true f.r 4 a.0; x = ltb-true f.x 2 b.0; b = ltb-true f.b 2 d.0; v = ltb-true f.v 32 e.0 }

registers-in : (c : Class) (f : Fields) (r : Row) → (encoding_of c).allows r f ≡ true → Registers f
unfolding encoding_of
registers-in Legacy f r h =
    let a = and_parts (lock_fits r f) _ h in
    let b = and_parts (registers_fit f) _ a.1 in
    let d = and_parts (bytes_fit f) (without_vex f) b.1 in
    let e = and_parts (f.v == 0) (without_evex f) d.1 in
    let zero : f.v ≡ 0 = eqb-true _ _ e.0 in
    few-registers f b.0 (omega arith)
registers-in Vex f r h =
    let a = and_parts (without_prefixes f) _ h in
    let b = and_parts (bits_fit f) _ a.1 in
    let d = and_parts (registers_fit f) _ b.1 in
    let e = and_parts (opmasks_fit r f) _ d.1 in
    let g = and_parts (vvvv_fits r f) _ e.1 in
    let v = and_parts (nat_lt f.v 16) (uses_vvvv r.operands || (f.v == 0)) g.0 in
    few-registers f d.0 (ltb-true f.v 16 v.0)
registers-in Evex f r h =
    let a = and_parts (form_allowed f) _ h in
    let b = and_parts (without_prefixes f) _ a.0 in
    evex-registers f (and_parts (evex_bits_fit f) _ b.1).0

-- the registers of an instruction exist
pub decoded-registers : (f : Fields) (d : Decoded) → IsDecoded f d → Registers f
decoded-registers f d is = spelled-allowed (encoding_of f.class) f (registers-in f.class f) d is

-- and its row is in the table
pub decoded-row : (f : Fields) (d : Decoded) → IsDecoded f d → d.row < length rows
decoded-row f d is = spelled-within (encoding_of f.class) f d is

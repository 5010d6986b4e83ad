-- What the setters of a register file leave.
use Rattle.std.specs.Prelude.{ℕ, zero, suc, ◌-◌, List, [], ◌++◌, slice_set, slice_range, slice_index_or, replicate}
use Rattle.machine_state.specs.State.{Extended, Restored}
use Rattle.num_lanes.specs.declared.components.Record.{Record}
use Rattle.num_lanes.specs.Components.{dropping}

-- vector register n
abbrev pub zmm_in : Extended → (n : ℕ) → List ℕ
zmm_in e n = slice_index_or e.zmm n []

-- the state with another value of vector register n
abbrev pub with_zmm : (n : ℕ) → (value : List ℕ) → Extended → Extended
with_zmm n value e = dropping e (record e { zmm = slice_set e.zmm n value })

-- a vector register with 0 in the bytes from a place on
abbrev pub cleared_from : (from : ℕ) → (register : List ℕ) → List ℕ
cleared_from from register = slice_range register 0 from ++ replicate (64 - from) 0

-- the state with 0 there in each of the first n vector registers, one after the other
unfoldable pub with_cleared : (from n : ℕ) → Extended → Extended
with_cleared from zero e = e
with_cleared from (suc n) e =
    let before = with_cleared from n e in with_zmm n (cleared_from from (zmm_in before n)) before

-- the state with another value of opmask n
abbrev pub with_k : (n value : ℕ) → Extended → Extended
with_k n value e = dropping e (record e { k = slice_set e.k n value })

-- the state with another MXCSR, which is no component's value
abbrev pub with_mxcsr : (value : ℕ) → Extended → Extended
with_mxcsr value e = record e { mxcsr = value }

-- the state with another value of x87, which is never kept
abbrev pub with_x87 : (value : List ℕ) → Extended → Extended
with_x87 value e = record e { x87 = value }

abbrev pub restored_of : Record → Restored
restored_of r = record { at = r.at; compact = r.compact; kept = r.kept.0 }

-- the state with another restore record
abbrev pub with_record : Record → Extended → Extended
with_record r e = record e { restored = restored_of r }

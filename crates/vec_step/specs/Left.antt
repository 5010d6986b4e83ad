-- What a vector instruction leaves, where its accesses can be made.
use Rattle.std.specs.Prelude.{ℕ, ◌/◌, Bool, true, false, if◌then◌else◌, List, ◌++◌, slice_index, slice_set, replicate, ◌-◌}
use Rattle.gpr_flags.specs.declared.kinds.Flags.{Flags}
use Rattle.gpr_flags.specs.Numbers.{has_bit}
use Rattle.machine_state.specs.Memory.{number_bytes, bytes_at}
use Rattle.machine_state.specs.State.{Extended}
use Rattle.row_table.specs.declared.operations.Op.{Op}
use Rattle.row_table.specs.declared.operations.Op.TheVariants.{Core, Gpr, Bit, String, Lane, Cross, Width, Mac, Mask as OnMasks, Vector, Gather, Xsave}
use Rattle.num_lanes.specs.Lane.{lane_of, joined}
use Rattle.num_lanes.specs.Setters.{zmm_in, with_zmm, with_k}
use Rattle.masked_memory.specs.Lanes.{loaded, stored}
use Rattle.vec_units.specs.Results.{vector_result, bits_of}
use Rattle.vec_step.specs.declared.kinds.Span.{Span}
use Rattle.vec_step.specs.declared.kinds.Source.{Source}
use Rattle.vec_step.specs.declared.kinds.Source.TheVariants.{Register as FromRegister, General as FromGeneral, Opmask as FromOpmask, Count, Memory as FromMemory, Broadcast, Whole, Nothing}
use Rattle.vec_step.specs.declared.kinds.Target.{Target}
use Rattle.vec_step.specs.declared.kinds.Target.TheVariants.{Register as ToRegister, Memory as ToMemory, Mask as ToMask, General as ToGeneral, Flags as ToFlags, Nowhere}
use Rattle.vec_step.specs.declared.kinds.VectorPlan.{VectorPlan}

-- ---- a source, as a register
-- bytes from the lowest up, and zeros
abbrev pub padded : List ℕ → (count : ℕ) → List ℕ
padded bytes count = bytes ++ replicate (64 - count) 0

-- the lanes of memory that are accessed, and 0 in all others
abbrev pub span_value : Span → (ℕ → ℕ) → List ℕ
span_value m byte = loaded byte m.addr m.width m.lanes m.mask (λ i. 0)

-- the lowest lane in all lanes
abbrev pub spread : (w : ℕ) → List ℕ → List ℕ
spread w bytes = joined w (64 / w) (λ i. lane_of w bytes 0)

unfoldable pub operand_of : Source → (gprs : List ℕ) → Extended → (ℕ → ℕ) → List ℕ
operand_of (FromRegister n) gprs e byte = zmm_in e n
operand_of (FromGeneral n) gprs e byte = padded (number_bytes 8 (slice_index gprs n)) 8
operand_of (FromOpmask n) gprs e byte = padded (number_bytes 8 (slice_index e.k n)) 8
operand_of (Count n) gprs e byte = padded (number_bytes 8 n) 8
operand_of (FromMemory m) gprs e byte = span_value m byte
operand_of (Broadcast m) gprs e byte = spread m.width (span_value m byte)
operand_of (Whole addr len) gprs e byte = padded (bytes_at byte addr len) len
operand_of Nothing gprs e byte = replicate 64 0

-- ---- what comes of it: a register, and a mask of bits
unfoldable pub value_of : VectorPlan → (gprs : List ℕ) → Extended → (ℕ → ℕ) → List ℕ
value_of i gprs e byte = vector_result i.form (zmm_in e i.old) (operand_of i.first gprs e byte) (operand_of i.second gprs e byte) i.mask

unfoldable pub mask_of : VectorPlan → (gprs : List ℕ) → Extended → (ℕ → ℕ) → ℕ
mask_of i gprs e byte = bits_of i.form (zmm_in e i.old) (operand_of i.first gprs e byte) (operand_of i.second gprs e byte) i.mask

-- a general register gets the mask of an operation whose result is one, and else the lowest lane
unfoldable pub gives_mask : Op → Bool
gives_mask (Vector op) = true
gives_mask (Lane op) = false
gives_mask (Core op) = false
gives_mask (Gpr op) = false
gives_mask (Bit op) = false
gives_mask (String op) = false
gives_mask (Cross op) = false
gives_mask (Width op) = false
gives_mask (Mac op) = false
gives_mask (OnMasks op) = false
gives_mask (Gather op) = false
gives_mask (Xsave op) = false

abbrev pub number_of : VectorPlan → (value : List ℕ) → (mask : ℕ) → ℕ
number_of i value mask = if gives_mask i.form.op then mask else lane_of i.form.width value 0

-- ---- where they go
abbrev pub extended_at : Target → (value : List ℕ) → (mask : ℕ) → Extended → Extended
extended_at (ToRegister n) value mask e = with_zmm n value e
extended_at (ToMask n) value mask e = with_k n mask e
extended_at (ToMemory m) value mask e = e
extended_at (ToGeneral n) value mask e = e
extended_at ToFlags value mask e = e
extended_at Nowhere value mask e = e

-- a general register is written whole: a number of 32 bits clears the upper half
abbrev pub gprs_at : Target → (number : ℕ) → List ℕ → List ℕ
gprs_at (ToGeneral n) number gprs = slice_set gprs n number
gprs_at (ToRegister n) number gprs = gprs
gprs_at (ToMask n) number gprs = gprs
gprs_at (ToMemory m) number gprs = gprs
gprs_at ToFlags number gprs = gprs
gprs_at Nowhere number gprs = gprs

abbrev pub byte_at : Target → (value : List ℕ) → (ℕ → ℕ) → ℕ → ℕ
byte_at (ToMemory m) value byte = stored m.addr m.width m.mask (lane_of m.width value) m.lanes byte
byte_at (ToRegister n) value byte = byte
byte_at (ToMask n) value byte = byte
byte_at (ToGeneral n) value byte = byte
byte_at ToFlags value byte = byte
byte_at Nowhere value byte = byte

-- ZF is the lowest bit and CF the next; the other four that arithmetic sets are cleared (SDM volume 2, PTEST)
abbrev pub tested_flags : (mask : ℕ) → Flags → Flags
tested_flags mask f = record f { zf = has_bit mask 0; cf = has_bit mask 1; pf = false; af = false; sf = false; ovf = false }

abbrev pub flags_at : Target → (mask : ℕ) → Flags → Flags
flags_at ToFlags mask f = tested_flags mask f
flags_at (ToRegister n) mask f = f
flags_at (ToMask n) mask f = f
flags_at (ToMemory m) mask f = f
flags_at (ToGeneral n) mask f = f
flags_at Nowhere mask f = f

-- ---- the whole
unfoldable pub extended_left : VectorPlan → (gprs : List ℕ) → Extended → (ℕ → ℕ) → Extended
extended_left i gprs e byte = extended_at i.target (value_of i gprs e byte) (mask_of i gprs e byte) e

unfoldable pub gprs_left : VectorPlan → (gprs : List ℕ) → Extended → (ℕ → ℕ) → List ℕ
gprs_left i gprs e byte = gprs_at i.target (number_of i (value_of i gprs e byte) (mask_of i gprs e byte)) gprs

unfoldable pub flags_left : VectorPlan → (gprs : List ℕ) → Extended → (ℕ → ℕ) → Flags → Flags
flags_left i gprs e byte f = flags_at i.target (mask_of i gprs e byte) f

unfoldable pub byte_left : VectorPlan → (gprs : List ℕ) → Extended → (ℕ → ℕ) → ℕ → ℕ
byte_left i gprs e byte = byte_at i.target (value_of i gprs e byte) byte

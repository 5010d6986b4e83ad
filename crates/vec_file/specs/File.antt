-- What a register file stands for.
use Rattle.std.specs.Prelude.{ℕ, List}
use Rattle.machine_state.specs.State.{Extended}
use Rattle.num_lanes.specs.declared.components.Record.{Record}
use Rattle.num_lanes.specs.Setters.{restored_of}

-- the extended state of these registers
abbrev pub extended_of : (zmm : List (List ℕ)) → (k : List ℕ) → (mxcsr : ℕ) → (x87 : List ℕ) → Record → Extended
extended_of zmm k mxcsr x87 restored = record { zmm = zmm; k = k; mxcsr = mxcsr; x87 = x87; restored = restored_of restored }

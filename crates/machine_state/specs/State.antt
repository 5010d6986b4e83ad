-- The machine state: what a program sees of the processor, and its memory.
use Rattle.std.specs.Prelude.{ℕ, ◌≡◌, ◌<◌, ◌^◌, Bool, false, List, [], ◌∷◌, ◌++◌, length, slice_index, All, Option, None, IfSome, replicate}
use Rattle.gpr_flags.specs.declared.kinds.Flags.{Flags}
use Rattle.gpr_flags.specs.Numbers.{has_bit}
use Rattle.machine_state.specs.Memory.{Memory, AreBytes, IsMemory}

-- what the processor remembers of the last XRSTOR, for XSAVEOPT: the area's address, if there is one, whether that area
-- was compact, and the set of components that weren't modified since, without component 0 (SDM volume 1, 13.6)
pub record Restored : Type 0 where
  pub at : Option ℕ
  pub compact : Bool
  pub kept : ℕ

-- the state that XSAVE saves: ZMM0 to ZMM31 of 64 bytes each, opmasks k0 to k7, MXCSR below 65,536, and x87 as the 24 bytes
-- of its header and eight times 10, of which byte 5 is 0 (SDM volume 1, 10.2, 13.4 and 15.1)
pub record Extended : Type 0 where
  pub zmm : List (List ℕ)
  pub k : List ℕ
  pub mxcsr : ℕ
  pub x87 : List ℕ
  pub restored : Restored

-- the sixteen general registers in the order of their numbers, the flags, the instruction pointer, the extended state, the
-- bases of FS and GS, the number of completed steps, and memory (SDM volume 1, 3.4 and 3.5)
pub record State : Type 0 where
  pub gprs : List ℕ
  pub flags : Flags
  pub rip : ℕ
  pub extended : Extended
  pub fs : ℕ
  pub gs : ℕ
  pub steps : ℕ
  pub memory : Memory

abbrev pub no_restored : Restored
no_restored = record { at = None; compact = false; kept = 0 }

-- FCW is 037FH and every other x87 field 0 (SDM volume 1, 13.6)
unfoldable pub initial_x87 : List ℕ
initial_x87 = 127 ∷ 3 ∷ [] ++ replicate 102 0

-- registers and opmasks are 0, MXCSR is 1F80H (SDM volume 1, 13.6)
unfoldable pub initial_extended : Extended
initial_extended = record {
  zmm = replicate 32 (replicate 64 0);
  k = replicate 8 0;
  mxcsr = 8064;
  x87 = initial_x87;
  restored = no_restored;
}

-- numbers of 64 bits
abbrev pub AreWords : List ℕ → Type 0
AreWords numbers = All (λ number. number < 2 ^ 64) numbers

-- a ZMM register (SDM volume 1, 15.1)
pub record IsVector (vector : List ℕ) : Type 0 where
  pub len : length vector ≡ 64
  pub bytes : AreBytes vector

-- a restore record as it can be: its kept set is one of the components 0 to 7, by bit, without component 0 (SDM volume 1, 13.1;
-- that component 0 isn't kept is this program's own)
pub record IsRestored (restored : Restored) : Type 0 where
  pub at : IfSome restored.at (λ addr. addr < 2 ^ 64)
  pub kept : restored.kept < 2 ^ 8
  pub without_x87 : has_bit restored.kept 0 ≡ false

-- extended state as it can be (SDM volume 1, 10.2, 13.4 and 15.1)
pub record IsExtended (extended : Extended) : Type 0 where
  pub vectors : length extended.zmm ≡ 32
  pub vector : All IsVector extended.zmm
  pub masks : length extended.k ≡ 8
  pub mask : AreWords extended.k
  pub mxcsr : extended.mxcsr < 65536
  pub x87_len : length extended.x87 ≡ 104
  pub x87_bytes : AreBytes extended.x87
  pub x87_zero : slice_index extended.x87 5 ≡ 0
  pub restored : IsRestored extended.restored

-- a machine state as it can be (SDM volume 1, 3.4 and 3.5)
pub record IsState (state : State) : Type 0 where
  pub registers : length state.gprs ≡ 16
  pub register : AreWords state.gprs
  pub rip : state.rip < 2 ^ 64
  pub fs : state.fs < 2 ^ 64
  pub gs : state.gs < 2 ^ 64
  pub steps : state.steps < 2 ^ 64
  pub extended : IsExtended state.extended
  pub memory : IsMemory state.memory

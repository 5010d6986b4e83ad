-- Lanes in memory: which are accessed, and what is loaded and stored (SDM volume 1, 15.6.1 and 15.6.2).
use Rattle.std.specs.Prelude.{ℕ, zero, suc, ◌+◌, ◌*◌, ◌/◌, ◌%◌, ◌^◌, ◌&&◌, nat_lt, if◌then◌else◌, List, [], ◌∷◌, ◌++◌, Option}
use Rattle.std.specs.Option.{option_map}
use Rattle.machine_state.specs.declared.kinds.Kind.{Kind}
use Rattle.machine_state.specs.declared.kinds.Miss.{Miss}
use Rattle.machine_state.specs.declared.kinds.Access.{Access}
use Rattle.machine_state.specs.declared.kinds.Stop.{Stop}
use Rattle.machine_state.specs.Memory.{written, number_at, number_bytes}
use Rattle.gpr_flags.specs.Numbers.{has_bit}
use Rattle.num_lanes.specs.Lane.{joined}

-- the address of lane i (SDM volume 1, 3.3.7: modulo 2^64)
abbrev pub lane_place : (addr w i : ℕ) → ℕ
lane_place addr w i = (addr + i * w) % 2 ^ 64

-- the access of lane i, if the mask has it
unfoldable pub lane_access : Kind → (addr w mask i : ℕ) → List Access
lane_access kind addr w mask i =
    if has_bit mask i then record { kind = kind; addr = lane_place addr w i; len = w } ∷ [] else []

-- the accesses of n lanes, from lane 0 up
unfoldable pub lane_accesses : Kind → (addr w mask n : ℕ) → List Access
lane_accesses kind addr w mask zero = []
lane_accesses kind addr w mask (suc n) = lane_accesses kind addr w mask n ++ lane_access kind addr w mask n

-- lane i after a load of n lanes
unfoldable pub loaded_lane : (byte : ℕ → ℕ) → (addr w n mask : ℕ) → (old : ℕ → ℕ) → (i : ℕ) → ℕ
loaded_lane byte addr w n mask old i = if nat_lt i n && has_bit mask i then number_at byte (lane_place addr w i) w else old i

-- the register after it
unfoldable pub loaded : (byte : ℕ → ℕ) → (addr w n mask : ℕ) → (old : ℕ → ℕ) → List ℕ
loaded byte addr w n mask old = joined w (64 / w) (loaded_lane byte addr w n mask old)

-- the bytes of memory after lane i is stored, if the mask has it
unfoldable pub lane_stored : (addr w mask : ℕ) → (lanes : ℕ → ℕ) → (i : ℕ) → (ℕ → ℕ) → ℕ → ℕ
lane_stored addr w mask lanes i byte = if has_bit mask i then written byte (lane_place addr w i) (number_bytes w (lanes i)) else byte

-- the bytes of memory after n lanes are stored, from lane 0 up
unfoldable pub stored : (addr w mask : ℕ) → (lanes : ℕ → ℕ) → (n : ℕ) → (ℕ → ℕ) → ℕ → ℕ
stored addr w mask lanes zero byte = byte
stored addr w mask lanes (suc n) byte = lane_stored addr w mask lanes n (stored addr w mask lanes n byte)

-- the byte at which a walk stops, and why
abbrev pub miss_of : Option Stop → Option Miss
miss_of stop = option_map (λ (s : Stop). s.miss) stop

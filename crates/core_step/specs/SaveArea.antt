-- Which state components there are, and where they stand in a save area: XCR0, offsets and sizes (SDM volume 1, 13.1 to 13.5).
use Rattle.std.specs.Prelude.{ℕ, ◌+◌, ◌*◌, true}
use Rattle.num_lanes.specs.Components.{component_set}
use Rattle.core_step.specs.declared.save_area.Area.{Area}

-- XCR0, the components that are enabled: all of them
abbrev pub xcr0 : ℕ
xcr0 = component_set (λ component. true)

-- where each component from 2 up begins in a save area, and how many bytes it has: the upper halves of YMM0 to YMM15, K0 to K7,
-- the upper halves of ZMM0 to ZMM15, and ZMM16 to ZMM31; the offsets are this program's own
abbrev pub avx_area : Area
avx_area = record { offset = 576; size = 16 * 16 }

abbrev pub opmask_area : Area
opmask_area = record { offset = 1088; size = 8 * 8 }

abbrev pub zmm_hi256_area : Area
zmm_hi256_area = record { offset = 1152; size = 16 * 32 }

abbrev pub hi16_zmm_area : Area
hi16_zmm_area = record { offset = 1664; size = 16 * 64 }

-- how many bytes a save area has: up to the end of its last component
abbrev pub area_bytes : ℕ
area_bytes = hi16_zmm_area.offset + hi16_zmm_area.size

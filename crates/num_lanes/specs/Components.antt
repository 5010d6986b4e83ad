-- The state components that XSAVE saves: their values, which of them change, and which are in use (SDM volume 1, 13.1 and 13.6).
use Rattle.std.specs.Prelude.{ℕ, ◌-◌, ◌^◌, ◌==◌, Bool, not, ◌&&◌, ◌||◌, if◌then◌else◌, nat_eq, List, [], ◌∷◌, map, sum, slice_range, bit_and}
use Rattle.std.specs.Cmp.Lexicographic.{pointwise}
use Rattle.machine_state.specs.State.{Extended, initial_extended}

-- the components by their numbers: x87, SSE, AVX, the opmasks, ZMM_Hi256 and Hi16_ZMM (SDM volume 1, 13.1)
abbrev pub components : List ℕ
components = 0 ∷ 1 ∷ 2 ∷ 5 ∷ 6 ∷ 7 ∷ []

-- of each register the bytes from one place to another
abbrev pub parts : (from to : ℕ) → List (List ℕ) → List (List ℕ)
parts from to registers = map (λ register. slice_range register from to) registers

-- the value of a component: the x87 state, XMM0 to XMM15, the upper halves of YMM0 to YMM15, the opmasks, the upper halves of
-- ZMM0 to ZMM15, and ZMM16 to ZMM31 (SDM volume 1, 13.1 and 13.5)
unfoldable pub component_value : (component : ℕ) → Extended → List (List ℕ)
component_value component e =
    if component == 0 then e.x87 ∷ []
    else if component == 1 then parts 0 16 (slice_range e.zmm 0 16)
    else if component == 2 then parts 16 32 (slice_range e.zmm 0 16)
    else if component == 5 then e.k ∷ []
    else if component == 6 then parts 32 64 (slice_range e.zmm 0 16)
    else if component == 7 then slice_range e.zmm 16 32
    else []

-- whether a component has the same value in two states
abbrev pub is_same : (old new : Extended) → (component : ℕ) → Bool
is_same old new component = pointwise (pointwise nat_eq) (component_value component old) (component_value component new)

-- the set of the components of which something is true: bit i for component i
unfoldable pub component_set : (ℕ → Bool) → ℕ
component_set holds = sum (map (λ component. if holds component then 2 ^ component else 0) components)

-- the components whose values differ
abbrev pub changed : (old new : Extended) → ℕ
changed old new = component_set (λ component. not (is_same old new component))

-- the components that are in use, since their value isn't the initial one; so is SSE where MXCSR isn't 1F80H (SDM volume 1, 13.6)
abbrev pub in_use_of : Extended → ℕ
in_use_of e = component_set (λ component. not (is_same e initial_extended component && (not (component == 1) || e.mxcsr == 8064)))

-- the new state, of which the components that changed aren't kept any more
abbrev pub dropping : (old new : Extended) → Extended
dropping old new = record new { restored = record new.restored { kept = bit_and new.restored.kept (2 ^ 8 - 1 - changed old new) } }

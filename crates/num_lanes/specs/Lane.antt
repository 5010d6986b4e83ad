-- Lanes of a list of bytes.
use Rattle.std.specs.Prelude.{ℕ, zero, suc, ◌≡◌, ◌⊎◌, ◌+◌, ◌*◌, ◌≤◌, List, [], ◌++◌, length}
use Rattle.std.specs.Simd.Lanes.{chunk, number_l, digits_l}

-- the lengths of vectors, in bytes (SDM volume 1, 4.1 and 15.1)
abbrev pub IsLength : ℕ → Type 0
IsLength length = (length ≡ 16) ⊎ ((length ≡ 32) ⊎ (length ≡ 64))

-- lane i of lanes of w bytes: the number in its bytes, the lowest first (SDM volume 1, 4.1)
abbrev pub lane_of : (w : ℕ) → (bytes : List ℕ) → (i : ℕ) → ℕ
lane_of w bytes i = number_l 256 (chunk (i * w) w bytes)

-- lane i of these bytes is f i
abbrev pub LanesAre : (w : ℕ) → (bytes : List ℕ) → (f : ℕ → ℕ) → Type 0
LanesAre w bytes f = (i : ℕ) → i * w + w ≤ length bytes → lane_of w bytes i ≡ f i

-- the bytes of n lanes of w bytes, the lowest lane first
unfoldable pub joined : (w n : ℕ) → (ℕ → ℕ) → List ℕ
joined w zero f = []
joined w (suc n) f = joined w n f ++ digits_l 256 w (f n)

-- The bytes of an operand of lanes, of which some belong to lanes that a mask has. No public clause cites this module.
use Rattle.std.specs.Prelude.{ℕ, ◌≡◌, ◌+◌, ◌-◌, ◌/◌, ◌%◌, ◌^◌, ◌<◌, ◌≤◌, ◌&&◌, nat_lt, nat_le, Bool, true, if◌then◌else◌, List, length, slice_index, None}
use Rattle.machine_state.specs.declared.kinds.Kind.{Kind}
use Rattle.gpr_flags.specs.Numbers.{has_bit}
use Rattle.guest_pages.specs.Table.{Table, blocked}

-- the address of byte k of an operand, modulo 2^64
abbrev pub byte_place : (addr k : ℕ) → ℕ
byte_place addr k = (addr + k) % 2 ^ 64

-- whether byte k of an operand belongs to a lane that the mask has
abbrev pub is_in : (w mask k : ℕ) → Bool
is_in w mask k = has_bit mask (k / w)

-- so many bytes of an operand, from its byte `from` on, all belong to such lanes, or none does
abbrev pub AreAll : (has : Bool) → (w mask from len : ℕ) → Type 0
AreAll has w mask from len = (k : ℕ) → from ≤ k → k < from + len → is_in w mask k ≡ has

-- one of these bytes belongs to such a lane
pub record HasLane (w mask from len : ℕ) : Type 0 where
  pub byte : ℕ
  pub after : from ≤ byte
  pub before : byte < from + len
  pub is : is_in w mask byte ≡ true

-- those of these bytes that belong to such lanes can be accessed
abbrev pub AreFree : Table → Kind → (addr w mask from len : ℕ) → Type 0
AreFree table kind addr w mask from len =
    (k : ℕ) → from ≤ k → k < from + len → is_in w mask k ≡ true → blocked table kind (byte_place addr k) 1 ≡ None

-- bytes, the first of which is byte `from` of an operand, where those that belong to such lanes are these
pub record AreCopied (w mask from : ℕ) (bytes old new : List ℕ) : Type 0 where
  pub len : length new ≡ length old
  pub byte : (k : ℕ) → k < length old → slice_index new k
      ≡ (if is_in w mask (from + k) then slice_index bytes k else slice_index old k)

-- an operand, where the bytes from `from` on and below `end` that belong to such lanes are those of memory
pub record AreLoaded (byte : ℕ → ℕ) (addr w mask from end : ℕ) (old new : List ℕ) : Type 0 where
  pub len : length new ≡ length old
  pub byte_is : (k : ℕ) → slice_index new k
      ≡ (if (nat_le from k && nat_lt k end) && is_in w mask k then byte (byte_place addr k) else slice_index old k)

-- which byte of an operand an address is, modulo 2^64
abbrev pub offset : (addr at : ℕ) → ℕ
offset addr at = (at + 2 ^ 64 - addr) % 2 ^ 64

-- memory, where the bytes of an operand from `from` on and below `end` that belong to such lanes are these
unfoldable pub bytes_stored : (addr w mask from end : ℕ) → List ℕ → (ℕ → ℕ) → ℕ → ℕ
bytes_stored addr w mask from end bytes byte at =
    if (nat_le from (offset addr at) && nat_lt (offset addr at) end) && (nat_lt at (2 ^ 64) && is_in w mask (offset addr at))
    then slice_index bytes (offset addr at) else byte at

-- Guest memory, and why an access can't be made.
use Rattle.std.specs.Prelude.{ℕ, zero, suc, ◌+◌, ◌-◌, ◌*◌, ◌/◌, ◌%◌, ◌^◌, ◌==◌, ◌≡◌, ◌<◌, All, IfSome, Bool, if◌then◌else◌, List, [], ◌∷◌, length, slice_index, Option, Some, None, nat_lt, nat_le, ◌&&◌, ◌||◌}
use Rattle.std.specs.Int.RustNames.{bit_and}
use Rattle.byteorder.specs.Endian.{little_number, little_bytes}
use Rattle.machine_state.specs.declared.kinds.Kind.{Kind}
use Rattle.machine_state.specs.declared.kinds.Kind.TheVariants.{Read, Write, Execute}
use Rattle.machine_state.specs.declared.kinds.Miss.{Miss}
use Rattle.machine_state.specs.declared.kinds.Miss.TheVariants.{Unmapped, Denied, NonCanonical}

-- how many bytes a page has (SDM volume 3, 4.2)
abbrev pub page_size : ℕ
page_size = 4096

-- the permissions of the mapped pages, by page number; None where no page is mapped
abbrev pub Permissions : Type 0
Permissions = ℕ → Option ℕ

-- guest memory: pages with their permissions, and the byte at each address, 0 where no page is mapped
pub record Memory : Type 0 where
  pub perms : Permissions
  pub byte : ℕ → ℕ

-- whether a set of permissions has one of them: read 1, write 2, execute 4 (the PROT_ bits of Linux's mmap)
abbrev pub has_permission : ℕ → ℕ → Bool
has_permission perms one = bit_and perms one == one

-- what the permissions of a page allow; a page with any of the three is readable (this program's own)
abbrev pub permits : Kind → ℕ → Bool
permits Read perms = has_permission perms 1 || has_permission perms 2 || has_permission perms 4
permits Write perms = has_permission perms 2
permits Execute perms = has_permission perms 4

-- addresses of which bits 63 to 47 aren't all equal (SDM volume 1, 3.3.7.1)
abbrev pub is_noncanonical : ℕ → Bool
is_noncanonical addr = nat_le (2 ^ 47) addr && nat_lt addr (2 ^ 64 - 2 ^ 47)

-- why the byte at an address can't be had from its page, if it can't
abbrev pub miss_in : Option ℕ → Kind → ℕ → Option Miss
miss_in None kind addr = Some (Unmapped addr)
miss_in (Some perms) kind addr = if permits kind perms then None else Some (Denied addr)

-- why the byte at an address can't be had, if it can't
abbrev pub miss_at : Permissions → Kind → ℕ → Option Miss
miss_at perms kind addr = if is_noncanonical addr then Some (NonCanonical addr) else miss_in (perms (addr / page_size)) kind addr

-- the first of two misses
abbrev pub or_else : Option Miss → Option Miss → Option Miss
or_else (Some miss) other = Some miss
or_else None other = other

-- the first byte of an access, from its lowest address up, that isn't allowed
unfoldable pub first_miss : Permissions → Kind → ℕ → ℕ → Option Miss
first_miss perms kind addr zero = None
first_miss perms kind addr (suc len) = or_else (miss_at perms kind addr) (first_miss perms kind (addr + 1) len)

-- the bytes from an address up
unfoldable pub bytes_at : (ℕ → ℕ) → ℕ → ℕ → List ℕ
bytes_at byte addr zero = []
bytes_at byte addr (suc len) = byte addr ∷ bytes_at byte (addr + 1) len

-- the number in so many bytes from an address up, the lowest first (SDM volume 1, 1.3.1)
abbrev pub number_at : (ℕ → ℕ) → (addr size : ℕ) → ℕ
number_at byte addr size = little_number size (bytes_at byte addr size)

-- the lowest bytes of a number, as they stand in memory
abbrev pub number_bytes : (size number : ℕ) → List ℕ
number_bytes size number = little_bytes size (number % 2 ^ (8 * size))

-- the bytes from an address up to the first that isn't allowed, at most so many
unfoldable pub allowed_run : Memory → Kind → ℕ → ℕ → List ℕ
allowed_run memory kind addr zero = []
allowed_run memory kind addr (suc most) =
    elim (miss_at memory.perms kind addr) [ None ↦ memory.byte addr ∷ allowed_run memory kind (addr + 1) most | Some miss ↦ [] ]

-- the bytes of memory after these are written from an address up; no other byte changes
abbrev pub written : (ℕ → ℕ) → ℕ → List ℕ → ℕ → ℕ
written byte addr bytes at = if nat_le addr at && nat_lt at (addr + length bytes) then slice_index bytes (at - addr) else byte at

-- the bytes of memory after a page is filled with zeros
abbrev pub zeroed : (ℕ → ℕ) → ℕ → ℕ → ℕ
zeroed byte page at = if at / page_size == page then 0 else byte at

-- what a swap holds: the bytes of each of its pages, by number
abbrev pub Swap : Type 0
Swap = ℕ → List ℕ

-- bytes are numbers below 256
abbrev pub AreBytes : List ℕ → Type 0
AreBytes bytes = All (λ byte. byte < 256) bytes

-- each page on a swap is whole
pub record IsSwap (swap : Swap) : Type 0 where
  pub whole : (number : ℕ) → length (swap number) ≡ page_size
  pub bytes : (number : ℕ) → AreBytes (swap number)

-- guest memory as it can be: pages lie in the lower half of the address space (SDM volume 1, 3.3.7.1), permissions are sets of
-- the three, and a byte is below 256, and 0 where no page is mapped
pub record IsMemory (memory : Memory) : Type 0 where
  pub pages : (page : ℕ) → IfSome (memory.perms page) (λ perms. (page < 2 ^ 47 / page_size) × (perms < 8))
  pub bytes : (addr : ℕ) → memory.byte addr < 256
  pub zeros : (addr : ℕ) → memory.perms (addr / page_size) ≡ None → memory.byte addr ≡ 0

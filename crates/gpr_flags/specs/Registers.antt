-- The numbers of the general registers, and what is written to one.
use Rattle.std.specs.Prelude.{ℕ, ◌+◌, ◌*◌, ◌/◌, ◌%◌, ◌^◌, ◌==◌, Bool, ◌||◌, nat_lt, if◌then◌else◌, List, slice_index, slice_set}

-- the numbers of the general registers that instructions and system calls name by themselves (SDM volume 2, table 3-1)
abbrev pub RAX : ℕ
RAX = 0

abbrev pub RCX : ℕ
RCX = 1

abbrev pub RDX : ℕ
RDX = 2

abbrev pub RBX : ℕ
RBX = 3

abbrev pub RSP : ℕ
RSP = 4

abbrev pub RBP : ℕ
RBP = 5

abbrev pub RSI : ℕ
RSI = 6

abbrev pub RDI : ℕ
RDI = 7

abbrev pub R11 : ℕ
R11 = 11

-- the sizes of operands in general registers, in bytes (SDM volume 1, 4.1)
abbrev pub is_size : ℕ → Bool
is_size size = size == 1 || size == 2 || size == 4 || size == 8

-- a register where a number of n bits was written to it: 8 and 16 bits leave the others, 32 bits clear the upper half
-- (SDM volume 1, 3.4.1.1)
abbrev pub register_with : (n old number : ℕ) → ℕ
register_with n old number = if nat_lt n 32 then old / 2 ^ n * 2 ^ n + number % 2 ^ n else number % 2 ^ n

-- the registers where a number of n bits was written to one of them
abbrev pub with_register : (register n number : ℕ) → List ℕ → List ℕ
with_register register n number gprs = slice_set gprs register (register_with n (slice_index gprs register) number)

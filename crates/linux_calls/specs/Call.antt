-- System calls: the number and the answer are in rax, the arguments in rdi, rsi, rdx, r10, r8 and r9 (System V ABI for AMD64, A.2.1).
use Rattle.std.specs.Prelude.{ℕ, ◌-◌, ◌%◌, ◌^◌, ◌==◌, Bool, is_none, List, Option, Some, None, slice_index, slice_set}
use Rattle.gpr_flags.specs.Registers.{RAX, RDX, RSI, RDI}
use Rattle.machine_state.specs.declared.kinds.Kind.{Kind}
use Rattle.machine_state.specs.Memory.{page_size, Memory, first_miss, written}
use Rattle.machine_state.specs.World.{World}
use Rattle.guest_files.specs.declared.errno.Errno.{Errno}

-- what comes of a call: an answer in rax, or the guest's end with a status
pub data Outcome : Type 0 where
  Gives : ℕ → Outcome
  Exits : ℕ → Outcome

pub record Called : Type 0 where
  pub outcome : Outcome
  pub world : World

-- ---- the registers of a call
abbrev pub R8 : ℕ
R8 = 8

abbrev pub R9 : ℕ
R9 = 9

abbrev pub R10 : ℕ
R10 = 10

abbrev pub rax : List ℕ → ℕ
rax gprs = slice_index gprs RAX

abbrev pub rdi : List ℕ → ℕ
rdi gprs = slice_index gprs RDI

abbrev pub rsi : List ℕ → ℕ
rsi gprs = slice_index gprs RSI

abbrev pub rdx : List ℕ → ℕ
rdx gprs = slice_index gprs RDX

abbrev pub r10 : List ℕ → ℕ
r10 gprs = slice_index gprs R10

abbrev pub r8 : List ℕ → ℕ
r8 gprs = slice_index gprs R8

abbrev pub r9 : List ℕ → ℕ
r9 gprs = slice_index gprs R9

-- of an `int` only the low 32 bits count: descriptors, flags, ids and the like
abbrev pub low : ℕ → ℕ
low number = number % 2 ^ 32

-- ---- answers
-- the world with an answer in rax
abbrev pub answered : World → ℕ → World
answered w value = record w { state = record w.state { gprs = slice_set w.state.gprs RAX value } }

abbrev pub gives : ℕ → World → Called
gives value w = record { outcome = Gives value; world = answered w value }

-- an error as a register has it: its number, negative
abbrev pub negative : Errno → ℕ
negative errno = (2 ^ 64 - errno.0) % 2 ^ 64

abbrev pub refuses : Errno → World → Called
refuses errno w = gives (negative errno) w

-- the error, where there is one, and else this
abbrev pub unless : Option Errno → World → Called → Called
unless None w does = does
unless (Some errno) w does = refuses errno w

-- ---- memory
-- whether each of so many bytes may be accessed
abbrev pub allows : Memory → Kind → (addr count : ℕ) → Bool
allows memory kind addr count = is_none (first_miss memory.perms kind addr count)

-- the world with these bytes in memory from an address on
abbrev pub with_bytes : World → (addr : ℕ) → List ℕ → World
with_bytes w addr bytes =
    record w { state = record w.state { memory = record w.state.memory { byte = written w.state.memory.byte addr bytes } } }

-- whether an address is that of a page
abbrev pub is_page : ℕ → Bool
is_page addr = addr % page_size == 0

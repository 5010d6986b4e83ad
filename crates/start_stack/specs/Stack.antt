-- The start stack: argument count, argument and environment addresses, auxiliary vector, and the texts that they name (System V ABI,
-- AMD64, 3.4.1). Where the texts stand and what the auxiliary vector says is this program's own.
use Rattle.std.specs.Prelude.{ℕ, ◌≡◌, ◌<◌, ◌+◌, ◌-◌, ◌*◌, ◌/◌, ◌^◌, min, List, [], ◌∷◌, ◌++◌, length, slice_index_or, replicate, sum_by, flat_map, codes}
use Rattle.byteorder.specs.Endian.{little_bytes}
use Rattle.machine_state.specs.Memory.{page_size}
use Rattle.machine_state.specs.Random.{next_random}
use Rattle.elf_image.specs.declared.kinds.Image.{Image}
use Rattle.elf_image.specs.Fields.{header_size}
use Rattle.start_stack.specs.declared.kinds.Auxiliary.{Auxiliary}
use Rattle.start_stack.specs.declared.kinds.Places.{Places}
use Rattle.start_stack.specs.declared.kinds.StartFault.{StartFault}
use Rattle.start_stack.specs.declared.kinds.StartFault.TheVariants.{TooLong, Memory}

-- where the stack ends, and the most bytes that stand on it at the start
abbrev pub stack_top : ℕ
stack_top = 0x7FFFFFFFF000

abbrev pub longest_stack : ℕ
longest_stack = 131072

-- the program's path is argument 0
abbrev pub path_of : List (List ℕ) → List ℕ
path_of args = slice_index_or args 0 []

abbrev pub platform : List ℕ
platform = codes "x86_64"

-- a text with a final 0
abbrev pub with_zero : List ℕ → List ℕ
with_zero text = text ++ 0 ∷ []

-- the random bytes: two draws of the random stream
abbrev pub random_bytes : ℕ → List ℕ
random_bytes seed = little_bytes 8 (next_random seed) ++ little_bytes 8 (next_random (next_random seed))

-- the number of the random stream behind them
abbrev pub random_after : ℕ → ℕ
random_after seed = next_random (next_random seed)

-- the strings: arguments, environment, path and platform, each with a final 0, and the random bytes
unfoldable pub strings : (args env : List (List ℕ)) (seed : ℕ) → List ℕ
strings args env seed =
    flat_map with_zero args ++ flat_map with_zero env ++ with_zero (path_of args) ++ with_zero platform ++ random_bytes seed

-- how many bytes some texts have with their final 0s, and how many the strings have
abbrev pub text_size : List (List ℕ) → ℕ
text_size texts = sum_by (λ text. length text + 1) texts

abbrev pub strings_size : (args env : List (List ℕ)) → ℕ
strings_size args env = text_size args + text_size env + (length (path_of args) + 1) + (length platform + 1) + 16

-- how many bytes the vector has: the count, an address for each text and a 0 behind each list, and twenty pairs, 8 bytes each
abbrev pub vector_size : (args env : List (List ℕ)) → ℕ
vector_size args env = 8 * (1 + (length args + 1) + (length env + 1) + 2 * 20)

-- the bytes below the stack's end that are used, with 8 zeros at the end
abbrev pub used_size : (args env : List (List ℕ)) → ℕ
used_size args env = vector_size args env + strings_size args env + 8

-- the stack pointer is rounded down to 16 (System V ABI, AMD64, 3.4.1); the stack's end is a multiple of 16, so the size is rounded up
abbrev pub rounded_up : ℕ → ℕ
rounded_up size = (size + 15) / 16 * 16

unfoldable pub stack_size : (args env : List (List ℕ)) → ℕ
stack_size args env = rounded_up (used_size args env)

abbrev pub stack_pointer : (args env : List (List ℕ)) → ℕ
stack_pointer args env = stack_top - stack_size args env

-- where the strings begin, and where their parts do
abbrev pub args_at : (args env : List (List ℕ)) → ℕ
args_at args env = stack_top - 8 - strings_size args env

abbrev pub env_at : (args env : List (List ℕ)) → ℕ
env_at args env = args_at args env + text_size args

abbrev pub path_at : (args env : List (List ℕ)) → ℕ
path_at args env = env_at args env + text_size env

abbrev pub platform_at : (args env : List (List ℕ)) → ℕ
platform_at args env = path_at args env + (length (path_of args) + 1)

abbrev pub random_at : (args env : List (List ℕ)) → ℕ
random_at args env = platform_at args env + (length platform + 1)

abbrev pub places_of : (args env : List (List ℕ)) → Places
places_of args env = record {
  args = args_at args env;
  env = env_at args env;
  path = path_at args env;
  platform = platform_at args env;
  random = random_at args env;
}

-- the addresses of texts that stand one after the other from an address on
unfoldable pub addresses : ℕ → List (List ℕ) → List ℕ
addresses at [] = []
addresses at (text ∷ rest) = at ∷ addresses (at + (length text + 1)) rest

abbrev pub auxiliary : (kind value : ℕ) → Auxiliary
auxiliary kind value = record { kind = kind; value = value }

-- the auxiliary vector, in its order (the kinds: System V ABI, AMD64, 3.4.3, and Linux, uapi/linux/auxvec.h; the values: this
-- program's own)
unfoldable pub auxiliary_vector : Image → Places → List Auxiliary
auxiliary_vector image places =
    auxiliary 3 image.phdr  -- AT_PHDR, the address of the program headers
    ∷ auxiliary 4 header_size  -- AT_PHENT, the size of each
    ∷ auxiliary 5 image.phnum  -- AT_PHNUM, their count
    ∷ auxiliary 6 page_size  -- AT_PAGESZ
    ∷ auxiliary 7 0  -- AT_BASE, of an interpreter
    ∷ auxiliary 8 0  -- AT_FLAGS
    ∷ auxiliary 9 image.entry  -- AT_ENTRY
    ∷ auxiliary 11 1000  -- AT_UID
    ∷ auxiliary 12 1000  -- AT_EUID
    ∷ auxiliary 13 1000  -- AT_GID
    ∷ auxiliary 14 1000  -- AT_EGID
    ∷ auxiliary 15 places.platform  -- AT_PLATFORM, the address of its name
    ∷ auxiliary 16 0x06008111  -- AT_HWCAP, features of the processor as CPUID has them in edx
    ∷ auxiliary 17 100  -- AT_CLKTCK, ticks in a second
    ∷ auxiliary 23 0  -- AT_SECURE
    ∷ auxiliary 25 places.random  -- AT_RANDOM, the address of the random bytes
    ∷ auxiliary 26 0  -- AT_HWCAP2
    ∷ auxiliary 31 places.path  -- AT_EXECFN, the address of the program's path
    ∷ auxiliary 51 4096  -- AT_MINSIGSTKSZ, the least size of a signal stack
    ∷ auxiliary 0 0  -- AT_NULL, the end
    ∷ []

abbrev pub pair_of : Auxiliary → List ℕ
pair_of entry = entry.kind ∷ entry.value ∷ []

-- the vector, as numbers of 8 bytes
unfoldable pub vector : Image → (args env : List (List ℕ)) → List ℕ
vector image args env =
    length args ∷ [] ++ addresses (args_at args env) args ++ 0 ∷ [] ++ addresses (env_at args env) env ++ 0 ∷ []
    ++ flat_map pair_of (auxiliary_vector image (places_of args env))

-- the bytes from the stack pointer up to the stack's end: the vector, zeros up to the strings, the strings, and 8 zeros
unfoldable pub stack : Image → (args env : List (List ℕ)) (seed : ℕ) → List ℕ
stack image args env seed =
    flat_map (little_bytes 8) (vector image args env)
    ++ replicate (stack_size args env - used_size args env) 0
    ++ strings args env seed
    ++ replicate 8 0

-- what a refusal says of a stack's size: it is more than may be, and it is told, or the largest number that can be told; want of
-- memory says nothing
abbrev pub Refuses : ℕ → StartFault → Type 0
Refuses size (TooLong fault) = (longest_stack < size) × (fault.size ≡ min size (2 ^ 64 - 1))
Refuses size Memory = Unit {0}

-- The world: a machine state, and what the kernel keeps for it.
use Rattle.std.specs.Prelude.{ℕ, ◌≡◌, ◌≤◌, ◌<◌, ◌+◌, ◌-◌, ◌^◌, Bool, true, false, List, [], ◌∷◌, length, slice_index_or, replicate, All, Option, Some, None, IfSome}
use Rattle.std.specs.Int.RustNames.{bit_and}
use Rattle.machine_state.specs.Memory.{AreBytes}
use Rattle.machine_state.specs.Regions.{FitRegions}
use Rattle.machine_state.specs.State.{State, IsState}
use Rattle.machine_state.specs.declared.kinds.Place.{Place}
use Rattle.machine_state.specs.declared.kinds.Region.{Region}

-- what a program does on a signal (struct sigaction of x86-64 Linux)
pub record Action : Type 0 where
  pub handler : ℕ
  pub flags : ℕ
  pub restorer : ℕ
  pub mask : ℕ

-- the alternate signal stack; where it is disabled its address and size are 0 (sigaltstack of Linux)
pub record AlternateStack : Type 0 where
  pub enabled : Bool
  pub addr : ℕ
  pub size : ℕ

-- a file that the guest can open by its name
pub record GuestFile : Type 0 where
  pub name : List ℕ
  pub content : List ℕ
  pub exists : Bool
  pub writable : Bool

-- the state; the limits on mapped pages and on the bytes of a guest file; the regions of the mapped pages; the heap's
-- start and the break; actions by signal, and the blocked signals, as a number whose bit n - 1 stands for signal n and which
-- never has 9 or 19; the alternate stack; what the descriptors stand for, in the order of their numbers, None where one isn't
-- open; the files; the input that is left; output and error output whole, with what stood there before; and the number of the
-- random stream
pub record World : Type 0 where
  pub state : State
  pub pages : ℕ
  pub cap : ℕ
  pub regions : List Region
  pub heap_start : ℕ
  pub break_at : ℕ
  pub actions : ℕ → Action
  pub blocked : ℕ
  pub alternate : AlternateStack
  pub descriptors : List (Option Place)
  pub files : List GuestFile
  pub left : List ℕ
  pub out : List ℕ
  pub err : List ℕ
  pub random : ℕ

abbrev pub default_action : Action
default_action = record { handler = 0; flags = 0; restorer = 0; mask = 0 }

abbrev pub no_alternate : AlternateStack
no_alternate = record { enabled = false; addr = 0; size = 0 }

-- how many descriptors a guest has (this program's own)
abbrev pub descriptor_count : ℕ
descriptor_count = 64

-- a descriptor that is still a stream: input can be read, and output be written
abbrev pub input_place : Place
input_place = record { file = None; at = 0; reads = true; writes = false; append = false }

abbrev pub output_place : Place
output_place = record { file = None; at = 0; reads = false; writes = true; append = false }

-- 0, 1 and 2 are open at the start, as input, output and error output (POSIX, stdin(3))
unfoldable pub first_descriptors : List (Option Place)
first_descriptors = Some input_place ∷ Some output_place ∷ Some output_place ∷ replicate (descriptor_count - 3) None

-- what a descriptor stands for, if it is open
abbrev pub place_at : List (Option Place) → ℕ → Option Place
place_at descriptors number = slice_index_or descriptors number None

-- the bits of signals 9 and 19, which can't be blocked (sigprocmask of Linux)
abbrev pub unblockable : ℕ
unblockable = 2 ^ 8 + 2 ^ 18

-- an action as it can be
pub record IsAction (action : Action) : Type 0 where
  pub handler : action.handler < 2 ^ 64
  pub flags : action.flags < 2 ^ 64
  pub restorer : action.restorer < 2 ^ 64
  pub mask : action.mask < 2 ^ 64

-- an alternate stack as it can be: address and size are 0 where it is disabled, and else it has at least 2,048 bytes
-- (sigaltstack of Linux, MINSIGSTKSZ)
pub record IsAlternate (stack : AlternateStack) : Type 0 where
  pub disabled : stack.enabled ≡ false → (stack.addr ≡ 0) × (stack.size ≡ 0)
  pub enabled : stack.enabled ≡ true → 2048 ≤ stack.size
  pub addr : stack.addr < 2 ^ 64
  pub size : stack.size < 2 ^ 64

-- a file as it can be, with at most so many bytes: one that doesn't exist has none
pub record IsGuestFile (cap : ℕ) (file : GuestFile) : Type 0 where
  pub name : AreBytes file.name
  pub content : AreBytes file.content
  pub most : length file.content ≤ cap
  pub absent : file.exists ≡ false → length file.content ≡ 0

-- what a descriptor with this number can stand for, where there are so many files: a stream has a number below 3
pub record IsPlace (files number : ℕ) (place : Place) : Type 0 where
  pub stream : place.file ≡ None → (number < 3) × (place.at ≡ 0)
  pub file : IfSome place.file (λ file. file < files)
  pub at : place.at < 2 ^ 63

-- a file with nothing in it, which stands where a number is no file's
abbrev pub no_file : GuestFile
no_file = record { name = []; content = []; exists = false; writable = false }

-- the file of an open descriptor exists, and may be written where the descriptor writes
pub record FitsFile (place : Place) (file : GuestFile) : Type 0 where
  pub exists : file.exists ≡ true
  pub writable : place.writes ≡ true → file.writable ≡ true

-- a place is of no file, or of one that fits it
abbrev pub IsOpened : List GuestFile → Place → Type 0
IsOpened files place = IfSome place.file (λ number. FitsFile place (slice_index_or files number no_file))

-- a world as it can be
pub record IsWorld (world : World) : Type 0 where
  pub state : IsState world.state
  pub action : (signal : ℕ) → IsAction (world.actions signal)
  pub blocked : world.blocked < 2 ^ 64
  pub unblocked : bit_and world.blocked unblockable ≡ 0
  pub alternate : IsAlternate world.alternate
  pub regions : FitRegions world.state.memory.perms world.regions
  pub descriptors : length world.descriptors ≡ descriptor_count
  pub place : (number : ℕ) → IfSome (place_at world.descriptors number) (IsPlace (length world.files) number)
  pub opened : (number : ℕ) → IfSome (place_at world.descriptors number) (IsOpened world.files)
  pub files : All (IsGuestFile world.cap) world.files
  pub left : AreBytes world.left
  pub out : AreBytes world.out
  pub err : AreBytes world.err
  pub random : world.random < 2 ^ 64

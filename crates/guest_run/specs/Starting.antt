-- A guest before its first step.
use Rattle.std.specs.Prelude.{◌≡◌, ℕ, ◌-◌, ◌^◌, false, if◌then◌else◌, List, [], ◌∷◌, nat_le, min, Option, Some, None, Result, Ok, Err}
use Rattle.elf_image.specs.declared.kinds.Image.{Image}
use Rattle.host_edge.specs.declared.outside.HostCall.{HostCall}
use Rattle.host_edge.specs.declared.outside.HostCall.TheVariants.{SwapOpen, SwapGet, SwapPut}
use Rattle.host_edge.specs.Files.{Held}
use Rattle.machine_state.specs.World.{GuestFile}
use Rattle.start_stack.specs.declared.kinds.TooLong.{TooLong}
use Rattle.start_stack.specs.Stack.{stack_size, longest_stack}
use Rattle.linux_calls.specs.Outside.{Streams, Standing, AreTold}
use Rattle.program_load.specs.Load.{Program, first_world}
use Rattle.guest_run.specs.declared.guest.Guest.{Guest}
use Rattle.guest_run.specs.declared.starting.PrepareFault.{PrepareFault}
use Rattle.guest_run.specs.declared.starting.PrepareFault.TheVariants.{TooLong as Refused, Host, Memory}
use Rattle.guest_run.specs.declared.starting.Limits.{Limits}
use Rattle.guest_run.specs.Guests.{StandsFor}

-- the refusal of a program whose start stack is too long, if it is; it tells the size, or the largest number that can be told
abbrev pub stack_fault : Program → Option TooLong
stack_fault program =
    if nat_le (stack_size program.args program.env) longest_stack then None
    else Some (record { size = min (stack_size program.args program.env) (2 ^ 64 - 1) })

-- the program of a file, what was read of it, arguments, environment and seed
abbrev pub program_from : List ℕ → Image → (args env : List (List ℕ)) → ℕ → Program
program_from bytes image args env seed = record { bytes = bytes; image = image; args = args; env = env; seed = seed }

-- a guest that stands for the first world of a program with these files, whatever stands on the streams, and hasn't run yet; the start
-- stack fits
pub record IsPrepared (program : Program) (limits : Limits) (files : List GuestFile) (held : Option Held) (guest : Guest) : Type 0 where
  pub stands : (told : Held) → held ≡ Some told → (s : Streams) (on : Standing) → AreTold s on
      → StandsFor told.page guest s (first_world program limits.pages limits.cap files on.left on.out on.err)
  pub steps : guest.machine.steps ≡ 0
  pub goes : guest.end ≡ None
  pub works : guest.failed ≡ false
  pub short : stack_fault program ≡ None

-- a start stack that is too long is told; a call on the host fails only where it fits
abbrev pub PrepareRefuses : Program → PrepareFault → Type 0
PrepareRefuses program (Refused fault) = stack_fault program ≡ Some fault
PrepareRefuses program (Host call) = stack_fault program ≡ None
PrepareRefuses program Memory = Unit {0}

-- the calls that are made before the first step, where a swap is given and where none is
abbrev pub prepare_calls : {T : Type 0} → Option T → List HostCall
prepare_calls None = SwapGet ∷ SwapPut ∷ []
prepare_calls (Some path) = SwapOpen ∷ SwapGet ∷ SwapPut ∷ []

-- and the one that failed, if one did
abbrev pub prepare_failed : {T : Type 0} → Result T PrepareFault → Option HostCall
prepare_failed (Ok guest) = None
prepare_failed (Err (Refused fault)) = None
prepare_failed (Err (Host call)) = Some call
prepare_failed (Err Memory) = None

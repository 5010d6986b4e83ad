-- The headline: a run of the command is the written machine's run. And the cause of each end.
use Rattle.std.specs.Prelude.{◌≡◌, ℕ, ◌<◌, ◌≤◌, ◌^◌, ◌⊎◌, ⊤, All, Bool, true, false, Contains, List, length, Option, Some, None, IsTrue, Result, Ok, Err}
use Rattle.host_edge.specs.declared.outside.HostCall.{HostCall}
use Rattle.host_edge.specs.declared.outside.HostCall.TheVariants.{PutErr}
use Rattle.host_edge.specs.Files.{Held}
use Rattle.machine_state.specs.Memory.{Swap}
use Rattle.machine_state.specs.State.{State}
use Rattle.command_words.specs.declared.kinds.Command.{Command}
use Rattle.command_words.specs.declared.kinds.WordFault.{WordFault}
use Rattle.command_words.specs.Reading.{words_read}
use Rattle.elf_image.specs.declared.kinds.Image.{Image as ImageRead}
use Rattle.elf_image.specs.Checks.{image_read}
use Rattle.core_step.specs.declared.machine.Machine.{Machine}
use Rattle.core_step.specs.Machine.{state_of}
use Rattle.xemu_top.specs.declared.ends.End.{End}
use Rattle.xemu_top.specs.declared.ends.End.TheVariants.{Exit, Killed, Budget, Words, Image, Start, Host, Memory}
use Rattle.xemu_top.specs.declared.ends.Ended.{Ended}
use Rattle.guest_run.specs.Outside.{Files, Outside, Leaves}
use Rattle.guest_run.specs.Trail.{FailsOn}
use Rattle.guest_run.specs.Starting.{stack_fault}
use Rattle.xemu_top.specs.Files.{path_at}
use Rattle.xemu_top.specs.Command.{Outcome, Work, work, status_of, program_of, file_of}

-- whether an end is the command's own, and no failure of the outside and no want of memory
abbrev pub is_own : End → Bool
is_own (Exit code) = true
is_own (Killed signal) = true
is_own Budget = true
is_own (Words fault) = true
is_own (Image fault) = true
is_own (Start fault) = true
is_own (Host call) = false
is_own Memory = false

-- a machine has this state, where the swap holds this
abbrev pub HasState : Swap → Machine → State → Type 0
HasState swap machine s = state_of machine swap ≡ s

-- a machine is left exactly where the written command leaves one, and has the state of that, where the swap holds this
abbrev pub IsLeft : Swap → Option Machine → Option State → Type 0
IsLeft swap None None = ⊤
IsLeft swap (Some machine) (Some s) = HasState swap machine s
IsLeft swap None (Some s) = ⊥
IsLeft swap (Some machine) None = ⊥

-- the command ended as the written one does, and left its machine and its outside
pub record Gives (outcome : Outcome) (swap : Swap) (ended : Ended) (Stands : Outside → Type 0) : Type 0 where
  pub end : ended.end ≡ outcome.end
  pub machine : IsLeft swap ended.machine outcome.machine
  pub outside_is : Stands outcome.outside

-- an answer by some work, with what then stands on the outside, as far as that is told, and what the swap holds: an end of the
-- command's own is what comes of the work; where a call on the outside failed, what stands is what may stand where it failed in a piece
-- of the work; where memory was wanting, nothing was done
pub record MeetsWork (work : Work) (on : Outside) (swap : Swap) (ended : Ended) (Stands : Outside → Type 0) : Type 0 where
  pub gives : IsTrue (is_own ended.end) → Gives work.outcome swap ended Stands
  pub stands : (call : HostCall) → ended.end ≡ Host call → Leaves Stands (FailsOn work.pieces call)
  pub nothing : ended.end ≡ Memory → Stands on

-- the headline: the answer is by the written command's work
abbrev pub Meets : (words : List (List ℕ)) → (on : Outside) → Swap → Ended → (Outside → Type 0) → Type 0
Meets words on = MeetsWork (work words on) on

-- ---- causes
-- the call on the outside that an end names
abbrev pub failed_call : End → Option HostCall
failed_call (Host call) = Some call
failed_call (Exit code) = None
failed_call (Killed signal) = None
failed_call Budget = None
failed_call (Words fault) = None
failed_call (Image fault) = None
failed_call (Start fault) = None
failed_call Memory = None

-- the end is a run's own, or want of memory
abbrev pub is_run_or_memory : End → Bool
is_run_or_memory (Exit code) = true
is_run_or_memory (Killed signal) = true
is_run_or_memory Budget = true
is_run_or_memory Memory = true
is_run_or_memory (Words fault) = false
is_run_or_memory (Image fault) = false
is_run_or_memory (Start fault) = false
is_run_or_memory (Host call) = false

-- the refusal of words, an image or a start stack, where an end is one
abbrev pub refusal_in : End → Option End
refusal_in (Words fault) = Some (Words fault)
refusal_in (Image fault) = Some (Image fault)
refusal_in (Start fault) = Some (Start fault)
refusal_in (Exit code) = None
refusal_in (Killed signal) = None
refusal_in Budget = None
refusal_in (Host call) = None
refusal_in Memory = None

-- an end of the command's own is a refusal exactly where some work ends in one, and then it is that
abbrev pub RefusesAs : Work → End → Type 0
RefusesAs work end = IsTrue (is_own end) → refusal_in end ≡ refusal_in work.outcome.end

-- the host has a file of at most so many bytes at a path
abbrev pub HasFile : Files → (path : List ℕ) → (most : ℕ) → Type 0
HasFile files path most = (bytes : List ℕ) × (files path ≡ Some bytes) × (length bytes ≤ most)

-- the words are a command, the file that they name is there and is an image, the files of `--in` are there and fit, and so does the
-- start stack
pub record IsRunnable (words : List (List ℕ)) (files : Files) : Type 0 where
  pub command : Command
  pub read : words_read words ≡ Ok command
  pub bytes : List ℕ
  pub file : file_of words command files ≡ Some bytes
  pub image : ImageRead
  pub image_is : image_read bytes command.pages ≡ Ok image
  pub ins : All (λ place. HasFile files (path_at words place) command.cap) command.ins.items
  pub stack : stack_fault (program_of words command bytes image) ≡ None

-- the end is this refusal, or the put of its line failed
abbrev pub IsRefused : End → End → Type 0
IsRefused refusal end = (end ≡ refusal) ⊎ (end ≡ Host PutErr)

-- a refusal of a pair of `--in` whose file is too long
abbrev pub IsTooLong : Result Command WordFault → WordFault → Type 0
IsTooLong (Err other) fault = ⊥
IsTooLong (Ok command) fault = (fault.kind ≡ 10) × Contains command.ins.items fault.word

-- words are refused by their first fault, where their number fits 32 bits, and else only for a file that is too long
pub record RefusesWords (count : ℕ) (read : Result Command WordFault) (end : End) : Type 0 where
  pub always : (fault : WordFault) → count < 2 ^ 32 → read ≡ Err fault → IsRefused (Words fault) end
  pub only : (fault : WordFault) → end ≡ Words fault → (read ≡ Err fault) ⊎ IsTooLong read fault

-- an answer has the status of its end, and a machine only where the end is the command's own
pub record IsAnswer (ended : Ended) : Type 0 where
  pub status : ended.status ≡ status_of ended.end
  pub no_machine : is_own ended.end ≡ false → ended.machine ≡ None

-- ---- the host's files
-- none but those at these paths is another than it was
abbrev pub KeepsOtherFiles : (paths : List (List ℕ)) → Held → Held → Type 0
KeepsOtherFiles paths old new = (path : List ℕ) → (Contains paths path → ⊥) → new.file path ≡ old.file path

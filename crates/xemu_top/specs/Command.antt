-- The command: from the words, the host's files and the input to the end, the output and the machine that is left, piece by piece.
use Rattle.std.specs.Prelude.{ℕ, ◌+◌, ◌≤◌, Bool, if◌then◌else◌, List, [], ◌∷◌, ◌++◌, map, fold, Option, Some, None, Result, Ok, Err}
use Rattle.std.specs.Str.{bytes_eq}
use Rattle.machine_state.specs.declared.kinds.GuestEnd.{GuestEnd}
use Rattle.host_edge.specs.declared.outside.HostCall.{HostCall}
use Rattle.host_edge.specs.declared.outside.HostCall.TheVariants.{Load, Store, SwapOpen, SwapGet, SwapPut, Take, PutOut, PutErr}
use Rattle.machine_state.specs.State.{State}
use Rattle.machine_state.specs.World.{World, GuestFile}
use Rattle.command_words.specs.declared.kinds.Command.{Command}
use Rattle.command_words.specs.declared.kinds.WordFault.{WordFault}
use Rattle.command_words.specs.Texts.{word_at}
use Rattle.command_words.specs.Reading.{words_read}
use Rattle.command_words.specs.Command.{arguments, environment}
use Rattle.elf_image.specs.declared.kinds.Image.{Image as ImageRead}
use Rattle.elf_image.specs.declared.kinds.ImageFault.{ImageFault}
use Rattle.elf_image.specs.Checks.{image_read}
use Rattle.start_stack.specs.declared.kinds.TooLong.{TooLong}
use Rattle.xemu_top.specs.declared.ends.End.{End}
use Rattle.xemu_top.specs.declared.ends.End.TheVariants.{Exit, Killed, Budget, Words, Image, Start, Host, Memory as NoMemory}
use Rattle.guest_run.specs.Step.{Ran, paging_calls}
use Rattle.guest_run.specs.Run.{run}
use Rattle.guest_run.specs.Outside.{Files, Outside, outside}
use Rattle.guest_run.specs.Trail.{Piece, run_trail}
use Rattle.program_load.specs.Load.{Program, first_world}
use Rattle.guest_run.specs.Starting.{stack_fault, program_from}
use Rattle.xemu_top.specs.Lines.{refusal_line, report}
use Rattle.command_words.specs.Pairs.{name_at}
use Rattle.xemu_top.specs.Files.{path_at, in_loaded, out_files, file_named}

-- ---- work
-- how a command ends, the state of the machine that it leaves, if it leaves one, and what then stands on the outside
pub record Outcome : Type 0 where
  pub end : End
  pub machine : Option State
  pub outside : Outside

-- some work: what comes of it, and its pieces in their order
pub record Work : Type 0 where
  pub outcome : Outcome
  pub pieces : List Piece

-- nothing more is done
abbrev pub over : End → Option State → Outside → Work
over end machine on = record { outcome = record { end = end; machine = machine; outside = on }; pieces = [] }

-- some work behind other pieces
abbrev pub behind : List Piece → Work → Work
behind front work = record work { pieces = front ++ work.pieces }

-- a piece of work with these calls on the outside, which changes nothing
abbrev pub still : List HostCall → Outside → Piece
still calls on = record { before = on; after = on; calls = calls; stores = None }

-- the load of the file that the word at a place names
abbrev pub load_piece : ℕ → Outside → Piece
load_piece place on = still (Load place ∷ []) on

-- once a line is put on the error output, and the piece of work that puts it
abbrev pub said : List ℕ → Outside → Outside
said line on = record on { err = on.err ++ line }

abbrev pub line_piece : List ℕ → Outside → Piece
line_piece line on = record { before = on; after = said line on; calls = PutErr ∷ []; stores = None }

-- an end, behind the line that says it, where there is one
abbrev pub ended : Option (List ℕ) → End → Option State → Outside → Work
ended None end machine on = over end machine on
ended (Some line) end machine on = behind (line_piece line on ∷ []) (over end machine (said line on))

-- an end before the first step
abbrev pub stopped : End → Outside → Work
stopped end on = ended (refusal_line end) end None on

-- ---- the stores
-- once bytes are stored under a path, and the piece of work that stores them, at the place of the word that names the path
abbrev pub stored : (path bytes : List ℕ) → Outside → Outside
stored path bytes on = record on { files = λ other. if bytes_eq other path then Some bytes else on.files other }

abbrev pub store_piece : ℕ → (path bytes : List ℕ) → Outside → Piece
store_piece place path bytes on = record { before = on; after = stored path bytes on; calls = Store place ∷ []; stores = Some path }

-- some pieces of work, and what they leave
pub record Stores : Type 0 where
  pub pieces : List Piece
  pub outside : Outside

-- one store more, of a file that exists
abbrev pub with_store : ℕ → (path : List ℕ) → GuestFile → Stores → Stores
with_store place path file done =
    if file.exists then record {
      pieces = done.pieces ++ store_piece place path file.content done.outside ∷ [];
      outside = stored path file.content done.outside;
    } else done

-- the files that the pairs of `--out` at some places name, one after the other
unfoldable pub stores : List (List ℕ) → List GuestFile → (places : List ℕ) → Outside → Stores
stores words files places on =
    fold (λ done place. with_store place (path_at words place) (file_named files (name_at words place)) done)
    (record { pieces = []; outside = on }) places

-- ---- the run and what follows it
-- a guest that didn't end has used its budget
abbrev pub end_of : Option GuestEnd → End
end_of None = Budget
end_of (Some (GuestEnd.Exit code)) = Exit code
end_of (Some (GuestEnd.Killed signal)) = Killed signal

-- the end of a run, with its machine, behind its report, where one is wanted
abbrev pub reported : Bool → Ran → Outside → Work
reported wanted ran on =
    ended (report wanted ran.end ran.world.state.steps) (end_of ran.end) (Some ran.world.state) on

-- the same behind the stores
abbrev pub on_run : List (List ℕ) → Command → Ran → Outside → Work
on_run words command ran on =
    let done = stores words ran.world.files command.outs.items on in
    behind done.pieces (reported command.report ran done.outside)

-- the same behind the steps of a guest from its first world on
abbrev pub on_world : List (List ℕ) → Command → Files → World → Work
on_world words command files first =
    let ran = run first command.budget in
    behind (run_trail files first command.budget) (on_run words command ran (outside files ran.world))

-- ---- what comes before the run
-- the opening of the swap, where one is given, and the filling of the pages, of which some may go to the swap
abbrev pub opening : Option ℕ → Outside → List Piece
opening None on = []
opening (Some place) on = still (SwapOpen ∷ []) on ∷ []

abbrev pub starting : Command → Outside → List Piece
starting command on = opening command.swap on ++ still paging_calls on ∷ []

-- a program with its files, by the fault of its start stack, if it has one
abbrev pub on_stack : List (List ℕ) → Command → Program → List GuestFile → Option TooLong → Outside → Work
on_stack words command program files None on =
    behind (starting command on)
    (on_world words command on.files (first_world program command.pages command.cap files on.left on.out on.err))
on_stack words command program files (Some fault) on = stopped (Start fault) on

-- a program with the files of `--in`, to which those of `--out` alone come
abbrev pub on_program : List (List ℕ) → Command → Program → List GuestFile → Outside → Work
on_program words command program files on =
    on_stack words command program (files ++ out_files words command) (stack_fault program) on

-- a program with some files, behind the loads of the pairs of `--in` at further places
unfoldable pub on_ins : List (List ℕ) → Command → Program → (places : List ℕ) → List GuestFile → Outside → Work
on_ins words command program [] files on = on_program words command program files on
on_ins words command program (place ∷ places) files on =
    behind (load_piece place on ∷ []) (elim (in_loaded words command place (on.files (path_at words place))) [
      | Ok file ↦ on_ins words command program places (files ++ file ∷ []) on
      | Err end ↦ stopped end on
    ])

-- the program that some words name, of a file with these bytes
abbrev pub program_of : List (List ℕ) → Command → List ℕ → ImageRead → Program
program_of words command bytes image = program_from bytes image (arguments words command) (environment words command) command.seed

abbrev pub on_image : List (List ℕ) → Command → List ℕ → Result ImageRead ImageFault → Outside → Work
on_image words command bytes (Err fault) on = stopped (Image fault) on
on_image words command bytes (Ok image) on = on_ins words command (program_of words command bytes image) command.ins.items [] on

abbrev pub on_file : List (List ℕ) → Command → Option (List ℕ) → Outside → Work
on_file words command None on = stopped (Host (Load command.program)) on
on_file words command (Some bytes) on = on_image words command bytes (image_read bytes command.pages) on

-- the file that a command's program word names
abbrev pub file_of : List (List ℕ) → Command → Files → Option (List ℕ)
file_of words command files = files (word_at words command.program)

abbrev pub on_words : List (List ℕ) → Result Command WordFault → Outside → Work
on_words words (Err fault) on = stopped (Words fault) on
on_words words (Ok command) on =
    behind (load_piece command.program on ∷ []) (on_file words command (file_of words command on.files) on)

-- ---- the command
-- the words are read, the program is loaded and its image read, the files of `--in` are loaded, the start stack is made, the swap is
-- opened, the pages are filled, the steps run, the files of `--out` are stored, and the end is reported. The first fault on this way
-- is the end. A path that the host doesn't have is a failure of the host
unfoldable pub work : List (List ℕ) → Outside → Work
work words on = on_words words (words_read words) on

abbrev pub command : List (List ℕ) → Outside → Outcome
command words on = (work words on).outcome

abbrev pub trail : List (List ℕ) → Outside → List Piece
trail words on = (work words on).pieces

-- ---- what a command may do
-- the calls on the outside that it makes: those of every run that isn't refused, the opening of the swap, the loads and the stores
abbrev pub opening_calls : Option ℕ → List HostCall
opening_calls None = []
opening_calls (Some place) = SwapOpen ∷ []

abbrev pub command_calls : Command → List HostCall
command_calls command =
    (Load command.program ∷ SwapGet ∷ SwapPut ∷ Take ∷ PutOut ∷ PutErr ∷ [])
    ++ (opening_calls command.swap ++ (map (λ place. Load place) command.ins.items ++ map (λ place. Store place) command.outs.items))

abbrev pub calls_made : Result Command WordFault → List HostCall
calls_made (Err fault) = PutErr ∷ []
calls_made (Ok command) = command_calls command

-- the paths under which it may store files
abbrev pub paths_stored : List (List ℕ) → Result Command WordFault → List (List ℕ)
paths_stored words (Err fault) = []
paths_stored words (Ok command) = map (path_at words) command.outs.items

-- whether it opens a swap
abbrev pub swap_wanted : Result Command WordFault → Option ℕ
swap_wanted (Err fault) = None
swap_wanted (Ok command) = command.swap

-- ---- the status
-- the exit status of an end (128 and the signal for a guest that was killed, as a shell has it)
abbrev pub status_of : End → ℕ
status_of (Exit code) = code
status_of (Killed signal) = 128 + signal
status_of Budget = 75
status_of (Words fault) = 64
status_of (Image fault) = 65
status_of (Start fault) = 65
status_of (Host call) = 74
status_of NoMemory = 71

-- a guest that was killed was so by one of Linux's 64 signals
abbrev pub HasSignal : End → Type 0
HasSignal (Killed signal) = signal ≤ 64
HasSignal (Exit code) = Unit {0}
HasSignal Budget = Unit {0}
HasSignal (Words fault) = Unit {0}
HasSignal (Image fault) = Unit {0}
HasSignal (Start fault) = Unit {0}
HasSignal (Host call) = Unit {0}
HasSignal NoMemory = Unit {0}

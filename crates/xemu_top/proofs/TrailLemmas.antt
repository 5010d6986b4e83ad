-- The pieces of a command's trail hang together.
use Rattle.std.proofs.Common.{◌≡◌, ℕ, List, [], ◌∷◌, ◌++◌, Bool, true, false, Option, Some, None, Result, Ok, Err, refl, subst, fold}
use Rattle.machine_state.specs.State.{State}
use Rattle.machine_state.specs.World.{World, GuestFile}
use Rattle.host_edge.specs.declared.outside.HostCall.{HostCall}
use Rattle.host_edge.specs.declared.outside.HostCall.TheVariants.{Load, SwapOpen}
use Rattle.command_words.specs.declared.kinds.Command.{Command}
use Rattle.command_words.specs.declared.kinds.WordFault.{WordFault}
use Rattle.command_words.specs.Reading.{words_read}
use Rattle.command_words.specs.Pairs.{name_at}
use Rattle.elf_image.specs.declared.kinds.Image.{Image as ImageRead}
use Rattle.elf_image.specs.declared.kinds.ImageFault.{ImageFault}
use Rattle.elf_image.specs.Checks.{image_read}
use Rattle.start_stack.specs.declared.kinds.TooLong.{TooLong}
use Rattle.program_load.specs.Load.{Program, first_world}
use Rattle.guest_run.specs.Step.{Ran, paging_calls}
use Rattle.guest_run.specs.Run.{run}
use Rattle.guest_run.specs.Outside.{Files, Outside, outside}
use Rattle.guest_run.specs.Trail.{HangTogether, Piece, run_trail}
use Rattle.guest_run.specs.Starting.{stack_fault}
use Rattle.guest_run.proofs.TrailLemmas.{hang-none, hang-more, hang-append, run_hangs}
use Rattle.xemu_top.specs.declared.ends.End.{End}
use Rattle.xemu_top.specs.Lines.{refusal_line, report}
use Rattle.xemu_top.specs.Files.{file_named, in_loaded, out_files, path_at}
use Rattle.xemu_top.specs.Command.{Stores, Work, behind, command, end_of, ended, file_of, line_piece, load_piece, on_file, on_image, on_ins, on_run, on_stack, on_words, on_world, opening, program_of, reported, said, starting, still, stopped, store_piece, stored, stores, trail, with_store, work}

-- the pieces of some work hang together, and lead to what comes of it
abbrev Hangs : Outside → Work → Type 0
Hangs on w = HangTogether on w.pieces w.outcome.outside

behind_hangs : (on mid : Outside) (front : List Piece) (w : Work) → HangTogether on front mid → Hangs mid w → Hangs on (behind front w)
behind_hangs on mid front w first rest = hang-append on front w.pieces mid w.outcome.outside first rest

ended_hangs : (line : Option (List ℕ)) (end : End) (machine : Option State) (on : Outside) → Hangs on (ended line end machine on)
ended_hangs None end machine on = hang-none on
ended_hangs (Some line) end machine on = hang-more on (line_piece line on) [] (said line on) refl (hang-none (said line on))

still_hangs : (calls : List HostCall) (on : Outside) → HangTogether on (still calls on ∷ []) on
still_hangs calls on = hang-more on (still calls on) [] on refl (hang-none on)

-- ---- the stores
module _ (words : List (List ℕ)) (files : List GuestFile) (from : Outside) where
  abbrev Leads : Stores → Type 0
  Leads done = HangTogether from done.pieces done.outside

  one_leads : (place : ℕ) (path : List ℕ) (file : GuestFile) (done : Stores) → Leads done → Leads (with_store place path file done)
  one_leads place path file done leads = by_exists file.exists
    where
      piece : Piece
      piece = store_piece place path file.content done.outside

      by_exists : (b : Bool) → Leads (with_store place path (record file { exists = b }) done)
      by_exists true =
          hang-append from done.pieces (store_piece place path file.content done.outside ∷ []) done.outside (stored path file.content done.outside) leads
          (hang-more done.outside (store_piece place path file.content done.outside) [] _ refl (hang-none _))
      by_exists false = leads

  all_lead : (places : List ℕ) (done : Stores) → Leads done
      → Leads (fold (λ done place. with_store place (path_at words place) (file_named files (name_at words place)) done) done places)
  all_lead [] done leads = leads
  all_lead (place ∷ places) done leads =
      all_lead places (with_store place (path_at words place) (file_named files (name_at words place)) done)
      (one_leads place (path_at words place) (file_named files (name_at words place)) done leads)

  stores_hang : (places : List ℕ) → Leads (stores words files places from)
  unfolding stores
  stores_hang places = all_lead places (record { pieces = []; outside = from }) (hang-none from)

-- ---- the run
run_ends : (words : List (List ℕ)) (spoken : Command) (ran : Ran) (on : Outside) → Hangs on (on_run words spoken ran on)
run_ends words spoken ran on =
    let done = stores words ran.world.files spoken.outs.items on in
    behind_hangs on done.outside done.pieces (reported spoken.report ran done.outside) (stores_hang words ran.world.files on spoken.outs.items)
    (ended_hangs (report spoken.report ran.end ran.world.state.steps) (end_of ran.end) (Some ran.world.state) done.outside)

world_hangs : (words : List (List ℕ)) (spoken : Command) (files : Files) (first : World) → Hangs (outside files first) (on_world words spoken files first)
world_hangs words spoken files first =
    behind_hangs (outside files first) (outside files (run first spoken.budget).world) (run_trail files first spoken.budget)
    (on_run words spoken (run first spoken.budget) (outside files (run first spoken.budget).world)) (run_hangs files first spoken.budget)
    (run_ends words spoken (run first spoken.budget) (outside files (run first spoken.budget).world))

-- ---- before the run
opening_hangs : (swap : Option ℕ) (on : Outside) → HangTogether on (opening swap on) on
opening_hangs None on = hang-none on
opening_hangs (Some place) on = still_hangs (SwapOpen ∷ []) on

starting_hangs : (spoken : Command) (on : Outside) → HangTogether on (starting spoken on) on
starting_hangs spoken on = hang-append on (opening spoken.swap on) (still paging_calls on ∷ []) on on (opening_hangs spoken.swap on) (still_hangs paging_calls on)

pub first_world-outside : (program : Program) (pages cap : ℕ) (files : List GuestFile) (on : Outside)
    → outside on.files (first_world program pages cap files on.left on.out on.err) ≡ on
unfolding first_world
first_world-outside program pages cap files on = refl

stack_hangs : (words : List (List ℕ)) (spoken : Command) (program : Program) (files : List GuestFile) (fault : Option TooLong) (on : Outside)
    → Hangs on (on_stack words spoken program files fault on)
stack_hangs words spoken program files None on =
    let first = first_world program spoken.pages spoken.cap files on.left on.out on.err in
    behind_hangs on on (starting spoken on) (on_world words spoken on.files first) (starting_hangs spoken on)
    (subst (λ (x : Outside). Hangs x (on_world words spoken on.files first)) (first_world-outside program spoken.pages spoken.cap files on)
    (world_hangs words spoken on.files first))
stack_hangs words spoken program files (Some fault) on = ended_hangs (refusal_line (End.Start fault)) (End.Start fault) None on

ins_hang : (words : List (List ℕ)) (spoken : Command) (program : Program) (places : List ℕ) (files : List GuestFile) (on : Outside)
    → Hangs on (on_ins words spoken program places files on)
unfolding on_ins
ins_hang words spoken program [] files on = stack_hangs words spoken program (files ++ out_files words spoken) (stack_fault program) on
ins_hang words spoken program (place ∷ places) files on =
    behind_hangs on on (load_piece place on ∷ [])
    (elim (in_loaded words spoken place (on.files (path_at words place))) [ Ok file ↦ on_ins words spoken program places (files ++ file ∷ []) on | Err end ↦ stopped end on ])
    (still_hangs (Load place ∷ []) on)
    (by_loaded (λ file. ins_hang words spoken program places (files ++ file ∷ []) on) (in_loaded words spoken place (on.files (path_at words place))))
  where
    by_loaded : ((file : GuestFile) → Hangs on (on_ins words spoken program places (files ++ file ∷ []) on)) → (loaded : Result GuestFile End)
        → Hangs on (elim loaded [ Ok file ↦ on_ins words spoken program places (files ++ file ∷ []) on | Err end ↦ stopped end on ])
    by_loaded later (Ok file) = later file
    by_loaded later (Err end) = ended_hangs (refusal_line end) end None on

image_hangs : (words : List (List ℕ)) (spoken : Command) (bytes : List ℕ) (read : Result ImageRead ImageFault) (on : Outside)
    → Hangs on (on_image words spoken bytes read on)
image_hangs words spoken bytes (Err fault) on = ended_hangs (refusal_line (End.Image fault)) (End.Image fault) None on
image_hangs words spoken bytes (Ok image) on = ins_hang words spoken (program_of words spoken bytes image) spoken.ins.items [] on

file_hangs : (words : List (List ℕ)) (spoken : Command) (file : Option (List ℕ)) (on : Outside) → Hangs on (on_file words spoken file on)
file_hangs words spoken None on = hang-none on
file_hangs words spoken (Some bytes) on = image_hangs words spoken bytes (image_read bytes spoken.pages) on

words_hang : (words : List (List ℕ)) (read : Result Command WordFault) (on : Outside) → Hangs on (on_words words read on)
words_hang words (Err fault) on = ended_hangs (refusal_line (End.Words fault)) (End.Words fault) None on
words_hang words (Ok spoken) on =
    behind_hangs on on (load_piece spoken.program on ∷ []) (on_file words spoken (file_of words spoken on.files) on) (still_hangs (Load spoken.program ∷ []) on)
    (file_hangs words spoken (file_of words spoken on.files) on)

pub trail_hangs : (words : List (List ℕ)) (on : Outside) → HangTogether on (trail words on) (command words on).outside
unfolding work
trail_hangs words on = words_hang words (words_read words) on

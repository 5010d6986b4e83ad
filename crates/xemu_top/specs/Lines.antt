-- The lines that the command puts on the error output, each with its line feed; numbers are decimal (this program's own).
use Rattle.std.specs.Prelude.{ℕ, List, ◌++◌, Bool, true, false, Option, Some, None, codes}
use Rattle.std.specs.Fmt.{decimal}
use Rattle.machine_state.specs.declared.kinds.GuestEnd.{GuestEnd}
use Rattle.machine_state.specs.declared.kinds.GuestEnd.TheVariants.{Exit, Killed}
use Rattle.command_words.specs.declared.kinds.WordFault.{WordFault}
use Rattle.elf_image.specs.declared.kinds.ImageFault.{ImageFault}
use Rattle.start_stack.specs.declared.kinds.TooLong.{TooLong}
use Rattle.xemu_top.specs.declared.ends.End.{End}

-- words that aren't accepted: `xemu: words`, the word and the kind
unfoldable pub words_line : WordFault → List ℕ
words_line fault = codes "xemu: words " ++ decimal fault.word ++ codes " " ++ decimal fault.kind ++ codes "\n"

-- a program file that isn't accepted: `xemu: image`, the check, `at` and the place
unfoldable pub image_line : ImageFault → List ℕ
image_line fault = codes "xemu: image " ++ decimal fault.number ++ codes " at " ++ decimal fault.place ++ codes "\n"

-- a start stack that is too long: `xemu: start` and its size
unfoldable pub start_line : TooLong → List ℕ
start_line fault = codes "xemu: start " ++ decimal fault.size ++ codes "\n"

-- the line that says an end, where one does so: those of refusals
abbrev pub refusal_line : End → Option (List ℕ)
refusal_line (End.Words fault) = Some (words_line fault)
refusal_line (End.Image fault) = Some (image_line fault)
refusal_line (End.Start fault) = Some (start_line fault)
refusal_line (End.Exit code) = None
refusal_line (End.Killed signal) = None
refusal_line End.Budget = None
refusal_line (End.Host call) = None
refusal_line End.Memory = None

-- the end of a run, with the number of steps: `xemu: exit` with the status, `xemu: killed` with the signal, or `xemu: budget`
unfoldable pub report_line : Option GuestEnd → (steps : ℕ) → List ℕ
report_line (Some (Exit code)) steps = codes "xemu: exit " ++ decimal code ++ codes " steps " ++ decimal steps ++ codes "\n"
report_line (Some (Killed signal)) steps = codes "xemu: killed " ++ decimal signal ++ codes " steps " ++ decimal steps ++ codes "\n"
report_line None steps = codes "xemu: budget " ++ decimal steps ++ codes "\n"

-- the same, where it is wanted
abbrev pub report : Bool → Option GuestEnd → (steps : ℕ) → Option (List ℕ)
report false end steps = None
report true end steps = Some (report_line end steps)

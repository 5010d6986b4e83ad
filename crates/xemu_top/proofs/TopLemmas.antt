-- The command of the code does the work of the written command.
use Rattle.std.proofs.Common.{◌≡◌, ◌∙◌, ℕ, ◌<◌, ◌++◌, List, [], ◌∷◌, length, false, Option, Some, None, IsTrue, Result, Ok, Err, refl, sym, ap, subst, arith, map, append-nil, inl, inr, ◌⊎◌}
use Rattle.std.proofs.lemmas.Bool.{le-leb, lt-leb}
use Rattle.machine_state.specs.Memory.{Swap}
use Rattle.host_edge.specs.declared.outside.HostCall.{HostCall}
use Rattle.host_edge.specs.declared.outside.HostCall.TheVariants.{Load, PutErr}
use Rattle.host_edge.specs.Causes.{Counts}
use Rattle.host_edge.specs.Files.{Held}
use Rattle.command_words.specs.declared.kinds.Command.{Command}
use Rattle.command_words.specs.declared.kinds.WordFault.{WordFault}
use Rattle.command_words.specs.Texts.{word_at}
use Rattle.command_words.specs.Reading.{words_read}
use Rattle.command_words.specs.Command.{arguments, environment}
use Rattle.elf_image.specs.declared.kinds.Image.{Image as ImageRead}
use Rattle.elf_image.specs.declared.kinds.ImageFault.{ImageFault}
use Rattle.elf_image.specs.Segments.{longest_file}
use Rattle.elf_image.specs.Checks.{image_read, checks, identity_checks}
use Rattle.program_load.specs.Load.{Program}
use Rattle.guest_run.specs.Outside.{Files, Outside, files_of}
use Rattle.guest_run.specs.Trail.{Piece}
use Rattle.guest_run.specs.Guests.{Around, around}
use Rattle.guest_run.specs.Tally.{Tally, IsCounted, NoneRose, tally}
use Rattle.guest_run.specs.Starting.{program_from, stack_fault}
use Rattle.xemu_top.specs.declared.ends.End.{End}
use Rattle.xemu_top.specs.declared.ends.End.TheVariants.{Words, Image, Host, Memory}
use Rattle.xemu_top.specs.declared.ends.Ended.{Ended}
use Rattle.xemu_top.specs.declared.loading.Loaded.{Loaded}
use Rattle.xemu_top.specs.Lines.{refusal_line}
use Rattle.xemu_top.specs.Loading.{LoadCaused, failed_load}
use Rattle.xemu_top.specs.Command.{Work, behind, calls_made, file_of, load_piece, on_file, on_image, on_ins, on_stack, on_words, program_of, stopped, work}
use Rattle.xemu_top.specs.Headline.{IsAnswer, IsRefused, IsRunnable, Meets, MeetsWork, RefusesAs, RefusesWords, failed_call, is_own, is_run_or_memory, refusal_in}
use Rattle.xemu_top.specs.Files.{out_files, path_at}
use Rattle.linux_calls.specs.Outside.{Streams}
use Rattle.linux_calls.specs.Following.{StillTell}
use Rattle.start_stack.specs.declared.kinds.TooLong.{TooLong}
use Rattle.machine_state.specs.World.{GuestFile}
use Rattle.xemu_top.specs.Parts.{DoesWork, Ends, StandsAround, answer_of}
use Rattle.xemu_top.proofs.WorkLemmas.{fails-first, makes-load, not-failed, others-none, others-same, still-fails, tell-none}
use Rattle.xemu_top.proofs.PartLemmas.{GoesOn, passes-failed, passes-memory, still-counted, still-same, works-behind, works-failed, works-memory, works-stopped}
use Rattle.xemu_top.proofs.FileLemmas.{ins-none, ins-read, ins-there}
use Rattle.xemu_top.proofs.StartLemmas.{fit-no_refusal}

-- ---- the same around
-- where a host is as it was, so is what stands around
pub around-same : (held held' : Option Held) (opened opened' : ℕ) (counts counts' : Counts) (left : Option (List ℕ)) (take : ℕ)
    (out : Option (List ℕ)) (puts : ℕ) (err : Option (List ℕ)) (err_puts : ℕ) → held' ≡ held → opened' ≡ opened → counts' ≡ counts
    → around held' opened' counts' left take out puts err err_puts ≡ around held opened counts left take out puts err err_puts
around-same held held' opened opened' counts counts' left take out puts err err_puts same_held same_opened same_counts =
    rw (same_held, same_opened, same_counts) refl

-- and where its counts alone changed
pub around-counted : (held held' : Option Held) (opened opened' : ℕ) (counts counts' : Counts) (left : Option (List ℕ)) (take : ℕ)
    (out : Option (List ℕ)) (puts : ℕ) (err : Option (List ℕ)) (err_puts : ℕ) → held' ≡ held → opened' ≡ opened
    → around held' opened' counts' left take out puts err err_puts
    ≡ record (around held opened counts left take out puts err err_puts) { tally = tally counts' take puts err_puts }
around-counted held held' opened opened' counts counts' left take out puts err err_puts same_held same_opened =
    rw (same_held, same_opened) refl

-- no count rose in a load that didn't fail
pub counts-none : (loaded : Loaded) (old new : Counts) → failed_load 0 loaded ≡ None → LoadCaused loaded old new → new ≡ old
counts-none loaded old new none caused =
    ap (λ (t : Tally). t.host)
    (subst (λ (f : Option HostCall). IsCounted (Load 0 ∷ []) f (tally old 0 0 0) (tally new 0 0 0)) none (caused 0 (tally old 0 0 0)))

-- a file that is longer than may be
abbrev pub too_long : ImageFault
too_long = record { number = 1; place = longest_file }

image_read-long : (bytes : List ℕ) (pages : ℕ) → longest_file < length bytes → image_read bytes pages ≡ Err too_long
unfolding image_read checks identity_checks
image_read-long bytes pages long =
    rw (le-leb 64 (length bytes) (omega (arith, long)), lt-leb (length bytes) longest_file long) refl

-- nothing goes on
pub goes-none : (words : List (List ℕ)) (spoken : Command) (a : Around) → GoesOn words spoken a a
goes-none words spoken a = record { held = others-none _ a.held; streams = tell-none a.streams; opened = λ none. refl; tally = refl }

-- memory was wanting before anything was done
pub works-wanting : (words : List (List ℕ)) (spoken : Command) (work : Outside → Work) (before mid : Around) → mid ≡ before
    → DoesWork words spoken work before mid (answer_of Memory None)
works-wanting words spoken work before mid same =
    subst (λ (a : Around). DoesWork words spoken work before a (answer_of Memory None)) (sym same)
    (works-memory words spoken work before before (still-same before) (passes-memory words spoken before before (goes-none words spoken before)))

-- ---- after the load of a program, by what it gave
module _ (words : List (List ℕ)) (spoken : Command) (before after : Around) where
  abbrev loaded_work : Outside → Work
  loaded_work = on_words words (Ok spoken)

  abbrev front : Outside → List Piece
  front on = load_piece spoken.program on ∷ []

  abbrev path : List ℕ
  path = word_at words spoken.program

  -- a file that gives some work
  works-file : (rest : Outside → Work) (ended : Ended)
      → ((held : Held) → before.held ≡ Some held → (on : Outside) → on_file words spoken (held.file path) on ≡ rest on)
      → DoesWork words spoken rest before after ended → DoesWork words spoken loaded_work before after ended
  works-file rest ended is h =
      works-behind words spoken loaded_work rest front before after ended
      (λ held was on files.
      ap (λ (f : Files). behind (front on) (on_file words spoken (f path) on)) files ∙ ap (behind (front on)) (is held was on)) h

  pub works-whole : (bytes : List ℕ) (ended : Ended) → ((held : Held) → before.held ≡ Some held → held.file path ≡ Some bytes)
      → DoesWork words spoken (on_image words spoken bytes (image_read bytes spoken.pages)) before after ended
      → DoesWork words spoken loaded_work before after ended
  works-whole bytes ended told h =
      works-file (on_image words spoken bytes (image_read bytes spoken.pages)) ended
      (λ held was on. ap (λ (f : Option (List ℕ)). on_file words spoken f on) (told held was)) h

  pub works-long : (result : Ended)
      → ((held : Held) → before.held ≡ Some held → (bytes : List ℕ) × (held.file path ≡ Some bytes) × (longest_file < length bytes))
      → Ends (refusal_line (Image too_long)) (Image too_long) None before after result → DoesWork words spoken loaded_work before after result
  works-long result told ends =
      works-file (stopped (Image too_long)) result
      (λ held was on.
      let file = told held was in
      ap (λ (f : Option (List ℕ)). on_file words spoken f on) file.1
      ∙ ap (λ (r : Result ImageRead ImageFault). on_image words spoken file.0 r on) (image_read-long file.0 spoken.pages file.2))
      (works-stopped words spoken (Image too_long) before after result refl (λ fault is. cc) ends)

  pub works-not_loaded : after ≡ record before { tally = after.tally }
      → IsCounted (Load spoken.program ∷ []) (Some (Load spoken.program)) before.tally after.tally
      → DoesWork words spoken loaded_work before after (answer_of (Host (Load spoken.program)) None)
  works-not_loaded same cause =
      works-failed words spoken loaded_work before after (Load spoken.program) (still-counted before after same)
      (λ held was on files. fails-first (load_piece spoken.program on) _ (Load spoken.program) on
      (still-fails (Load spoken.program ∷ []) on (Load spoken.program) (0, omega arith, refl)))
      (passes-failed words spoken before after (Load spoken.program)
      (others-same (map (path_at words) spoken.outs.items) before.held after.held (ap (λ (a : Around). a.held) same))
      (subst (λ (s : Streams). StillTell before.streams s) (sym (ap (λ (a : Around). a.streams) same)) (tell-none before.streams))
      (λ none. ap (λ (a : Around). a.opened) same) (makes-load spoken, cause.1, cause.2))

-- an image that was read so, or refused
pub works-image : (words : List (List ℕ)) (spoken : Command) (bytes : List ℕ) (read : Result ImageRead ImageFault) (before after : Around)
    (ended : Ended) → image_read bytes spoken.pages ≡ read → DoesWork words spoken (on_image words spoken bytes read) before after ended
    → DoesWork words spoken (on_image words spoken bytes (image_read bytes spoken.pages)) before after ended
works-image words spoken bytes read before after ended is works = rw is works

-- what holds of a program holds of that of the words
pub of_words : (P : Program → Type 0) (words : List (List ℕ)) (spoken : Command) (bytes : List ℕ) (image : ImageRead) (args env : List (List ℕ))
    → args ≡ arguments words spoken → env ≡ environment words spoken → P (program_from bytes image args env spoken.seed)
    → P (program_of words spoken bytes image)
of_words P words spoken bytes image args env args_is env_is h =
    subst (λ (e : List (List ℕ)). P (program_from bytes image (arguments words spoken) e spoken.seed)) env_is
    (subst (λ (a : List (List ℕ)). P (program_from bytes image a env spoken.seed)) args_is h)

-- ---- the whole command
module _ (words : List (List ℕ)) (read : Result Command WordFault) (is : words_read words ≡ read) where
  work-is : (on : Outside) → work words on ≡ on_words words read on
  unfolding work
  work-is on = ap (λ (r : Result Command WordFault). on_words words r on) is

  pub meets-read : (on : Outside) (swap : Swap) (ended : Ended) (Stands : Outside → Type 0) → MeetsWork (on_words words read on) on swap ended Stands
      → Meets words on swap ended Stands
  meets-read on swap ended Stands h = subst (λ (w : Work). MeetsWork w on swap ended Stands) (sym (work-is on)) h

  pub refuses-read : (on : Outside) (end : End) → RefusesAs (on_words words read on) end → RefusesAs (work words on) end
  refuses-read on end h = subst (λ (w : Work). RefusesAs w end) (sym (work-is on)) h

-- words that are refused end by their line
module _ (words : List (List ℕ)) (fault : WordFault) (before after : Around) (result : Ended) (is : words_read words ≡ Err fault)
    (ends : Ends (refusal_line (Words fault)) (Words fault) None before after result) where
  abbrev IsSaid : Type 0
  IsSaid = (result ≡ answer_of (Words fault) None) ⊎ (result ≡ answer_of (Host PutErr) None)

  pub refused-headline : (on : Outside) (swap : Swap) → StandsAround before on → Meets words on swap result (StandsAround after)
  refused-headline on swap stands = meets-read words (Err fault) is on swap result (StandsAround after) (ends.meets refl swap None tt on stands)

  pub refused-refusal : (on : Outside) → RefusesAs (work words on) result.end
  refused-refusal on = refuses-read words (Err fault) is on result.end (by_end ends.is)
    where
      by_end : IsSaid → RefusesAs (on_words words (Err fault) on) result.end
      by_end (inl said) own = ap (λ (r : Ended). refusal_in r.end) said
      by_end (inr said) own = absurd (let e : is_own result.end ≡ false = ap (λ (r : Ended). is_own r.end) said in cc)

  pub refused-cause : IsCounted (calls_made (words_read words)) (failed_call result.end) before.tally after.tally
  refused-cause =
      subst (λ (r : Result Command WordFault). IsCounted (calls_made r) (failed_call result.end) before.tally after.tally) (sym is) (ends.cause refl)

  pub refused-words : (count : ℕ) → RefusesWords count (words_read words) result.end
  refused-words count = record {
    always = λ other few e. let same : fault ≡ other = let both : Err fault ≡ Err other = sym is ∙ e in cc in
        subst (λ (f : WordFault). IsRefused (Words f) result.end) same (by_end ends.is);
    only = λ other e. inl (is ∙ ap (λ (f : WordFault). Err f) (by_words ends.is other e));
  }
    where
      by_end : IsSaid → IsRefused (Words fault) result.end
      by_end (inl said) = inl (ap (λ (r : Ended). r.end) said)
      by_end (inr said) = inr (ap (λ (r : Ended). r.end) said)

      by_words : IsSaid → (other : WordFault) → result.end ≡ Words other → fault ≡ other
      by_words (inl said) other e = let f : Words fault ≡ Words other = sym (ap (λ (r : Ended). r.end) said) ∙ e in cc
      by_words (inr said) other e = absurd (let f : Host PutErr ≡ Words other = sym (ap (λ (r : Ended). r.end) said) ∙ e in cc)

  pub refused-answer : IsAnswer result
  refused-answer = by_end ends.is
    where
      by_end : IsSaid → IsAnswer result
      by_end (inl said) = rw said (record { status = refl; no_machine = λ own. refl })
      by_end (inr said) = rw said (record { status = refl; no_machine = λ own. refl })

-- ---- completeness
-- what can be run isn't refused
runs-no_refusal : (words : List (List ℕ)) (files : Files) (r : IsRunnable words files) (on : Outside) → on.files ≡ files
    → refusal_in (on_words words (Ok r.command) on).outcome.end ≡ None
runs-no_refusal words files r on same =
    let program : Program = program_of words r.command r.bytes r.image in
    let there = ins-there words r.command files r.command.ins.items r.ins in
    let P : Work → Type 0 = λ w. refusal_in w.outcome.end ≡ None in
    let file_is : file_of words r.command on.files ≡ Some r.bytes = ap (λ (f : Files). file_of words r.command f) same ∙ r.file in
    let read : on_file words r.command (file_of words r.command on.files) on ≡ on_ins words r.command program r.command.ins.items [] on
    = ap (λ (f : Option (List ℕ)). on_file words r.command f on) file_is
    ∙ ap (λ (i : Result ImageRead ImageFault). on_image words r.command r.bytes i on) r.image_is in
    let loaded : on_ins words r.command program r.command.ins.items [] on
    ≡ behind (map (λ place. load_piece place on) r.command.ins.items) (on_ins words r.command program [] there.0 on)
    = ap (λ (some : List ℕ). on_ins words r.command program some [] on) (sym (append-nil r.command.ins.items))
    ∙ ins-read words r.command files program r.command.ins.items [] [] there.0 on same there.1 in
    subst P (sym read) (subst P (sym loaded) (fits words r.command program there.0 on r.stack))
  where
    fits : (words : List (List ℕ)) (spoken : Command) (program : Program) (ins : List GuestFile) (on : Outside) → stack_fault program ≡ None
        → refusal_in (on_ins words spoken program [] ins on).outcome.end ≡ None
    fits words spoken program ins on stack =
        subst (λ (w : Work). refusal_in w.outcome.end ≡ None) (sym (ins-none words spoken program ins on))
        (subst (λ (f : Option TooLong). refusal_in (on_stack words spoken program (ins ++ out_files words spoken) f on).outcome.end ≡ None) (sym stack)
        (fit-no_refusal words spoken program (ins ++ out_files words spoken) on))

run-or-memory : (end : End) → failed_call end ≡ None → (IsTrue (is_own end) → refusal_in end ≡ None) → IsTrue (is_run_or_memory end)
run-or-memory (End.Exit code) failed refused = refl
run-or-memory (End.Killed signal) failed refused = refl
run-or-memory End.Budget failed refused = refl
run-or-memory (End.Words fault) failed refused = let e = refused refl in cc
run-or-memory (End.Image fault) failed refused = let e = refused refl in cc
run-or-memory (End.Start fault) failed refused = let e = refused refl in cc
run-or-memory (End.Host call) failed refused = cc
run-or-memory End.Memory failed refused = refl

pub complete : (holds : Option Held) (words : List (List ℕ)) (end : End) (old new : Tally)
    → ((held : Held) → holds ≡ Some held → (on : Outside) → on.files ≡ held.file → RefusesAs (work words on) end)
    → IsRunnable words (files_of holds) → IsCounted (calls_made (words_read words)) (failed_call end) old new
    → NoneRose (calls_made (words_read words)) old new → IsTrue (is_run_or_memory end)
complete None words end old new refuses r cause none = absurd (let e = r.file in cc)
complete (Some held) words end old new refuses r cause none =
    let on : Outside = record { files = held.file; left = []; out = []; err = [] } in
    run-or-memory end (not-failed (calls_made (words_read words)) (failed_call end) old new cause none)
    (λ own. refuses held refl on refl own ∙ ap (λ (w : Work). refusal_in w.outcome.end) (work-is words (Ok r.command) r.read on)
    ∙ runs-no_refusal words held.file r on refl)

-- The guest's files of a command, loaded and made.
use Rattle.std.proofs.Common.{◌≡◌, ◌≢◌, ◌∙◌, ℕ, ◌<◌, ◌≤◌, ◌++◌, List, [], ◌∷◌, length, true, false, Option, Some, None, Result, Ok, Err, refl, sym, ap, subst, arith, All, get_or, map, take, drop, slice_get, zero, suc, append-nil, append_assoc}
use Rattle.std.specs.List.{AllPairs, Contains}
use Rattle.std.proofs.lemmas.Bool.{le-ltb, lt-ltb}
use Rattle.std.proofs.lemmas.List.{get_or-map, length-map, map-append}
use Rattle.std.proofs.lemmas.Option.{get_or_from_slice_get, slice_get_within}
use Rattle.std.proofs.lemmas.List.Elements.{All-append, All-cons, All-map, All-nil}
use Rattle.host_edge.specs.declared.outside.HostCall.{HostCall}
use Rattle.host_edge.specs.declared.outside.HostCall.TheVariants.{Load}
use Rattle.host_edge.specs.Files.{Held}
use Rattle.machine_state.specs.World.{GuestFile}
use Rattle.guest_files.specs.declared.entries.Entry.{Entry}
use Rattle.guest_files.specs.Entries.{guest_file}
use Rattle.command_words.specs.declared.kinds.Command.{Command}
use Rattle.command_words.specs.declared.kinds.WordFault.{WordFault}
use Rattle.guest_files.specs.Files.{AreEntries}
use Rattle.command_words.specs.Pairs.{name_at}
use Rattle.command_words.specs.Files.{NamedFile, file_in, file_out, files_named, only_out}
use Rattle.command_words.specs.Command.{IsCommand}
use Rattle.command_words.proofs.FileLemmas.{IsName, name_of, names-differ, names-fit}
use Rattle.guest_run.specs.Outside.{Files, Outside}
use Rattle.guest_run.specs.Trail.{Piece, FailsOn}
use Rattle.program_load.specs.Load.{Program}
use Rattle.xemu_top.specs.declared.ends.End.{End}
use Rattle.xemu_top.specs.declared.ends.End.TheVariants.{Words, Host, Memory}
use Rattle.xemu_top.specs.Files.{in_file, in_loaded, in_refusal, out_file, out_files, path_at}
use Rattle.xemu_top.specs.Command.{Work, behind, command_calls, load_piece, on_ins, on_program, stopped}
use Rattle.guest_run.specs.Guests.{Around}
use Rattle.xemu_top.specs.declared.ends.Ended.{Ended}
use Rattle.xemu_top.specs.Lines.{refusal_line}
use Rattle.guest_run.specs.Tally.{Tally, IsCounted}
use Rattle.linux_calls.specs.Outside.{Streams}
use Rattle.linux_calls.specs.Following.{StillTell}
use Rattle.xemu_top.specs.Headline.{HasFile, IsTooLong, MeetsWork, failed_call, refusal_in}
use Rattle.xemu_top.specs.Loading.{AreIns, HaveNames, IsInEnd, LoadsIn, LoadsIns, StopsIns}
use Rattle.xemu_top.specs.Parts.{DoesWork, Ends, Passes, StandsAround, answer_of}
use Rattle.xemu_top.proofs.WorkLemmas.{counted-among, fails-back, fails-first, makes-ins, meets-behind, others-same, still-fails, tell-none}
use Rattle.xemu_top.proofs.PartLemmas.{GoesOn, IsStill, files-told, passes-failed, passes-memory, works-behind, works-failed, works-memory, works-stopped, still-counted}

-- ---- one file
module _ (words : List (List ℕ)) (spoken : Command) (place : ℕ) where
  pub loaded-fits : (bytes : List ℕ) → length bytes ≤ spoken.cap → in_loaded words spoken place (Some bytes) ≡ Ok (in_file words spoken place bytes)
  loaded-fits bytes fits = rw (le-ltb spoken.cap (length bytes) fits) refl

  pub loaded-long : (bytes : List ℕ) → spoken.cap < length bytes → in_loaded words spoken place (Some bytes) ≡ Err (in_refusal place)
  loaded-long bytes long = rw (lt-ltb spoken.cap (length bytes) long) refl

-- ---- the files of some pairs
module _ (words : List (List ℕ)) (spoken : Command) (files : Files) where
  abbrev loaded_at : ℕ → Result GuestFile End
  loaded_at place = in_loaded words spoken place (files (path_at words place))

  pub ins-more : (places : List ℕ) (place : ℕ) (ins : List GuestFile) (file : GuestFile) → AreIns words spoken files places ins
      → loaded_at place ≡ Ok file → AreIns words spoken files (places ++ place ∷ []) (ins ++ file ∷ [])
  ins-more places place ins file h one =
      map-append loaded_at places (place ∷ [])
      ∙ ap (λ (xs : List (Result GuestFile End)). xs ++ loaded_at place ∷ []) h
      ∙ ap (λ (r : Result GuestFile End). map (λ f. Ok f) ins ++ r ∷ []) one
      ∙ sym (map-append (λ f. Ok f) ins (file ∷ []))

  -- the loads of pairs whose files are there change nothing
  pub ins-read : (program : Program) (places rest : List ℕ) (before ins : List GuestFile) (on : Outside) → on.files ≡ files
      → AreIns words spoken files places ins
      → on_ins words spoken program (places ++ rest) before on
      ≡ behind (map (λ place. load_piece place on) places) (on_ins words spoken program rest (before ++ ins) on)
  unfolding on_ins
  ins-read program [] rest before [] on same h = ap (λ (fs : List GuestFile). on_ins words spoken program rest fs on) (sym (append-nil before))
  ins-read program [] rest before (file ∷ ins) on same h = cc
  ins-read program (place ∷ places) rest before [] on same h = cc
  ins-read program (place ∷ places) rest before (file ∷ ins) on same h =
      let one : in_loaded words spoken place (on.files (path_at words place)) ≡ Ok file = rw same cc in
      let more : AreIns words spoken files places ins = cc in
      let later = ins-read program places rest (before ++ file ∷ []) ins on same more in
      let P : Result GuestFile End → Type 0 = λ r.
      behind (load_piece place on ∷ []) (elim r [ Ok file ↦ on_ins words spoken program (places ++ rest) (before ++ file ∷ []) on | Err end ↦ stopped end on ]) ≡ behind (map (λ place. load_piece place on) (place ∷ places)) (on_ins words spoken program rest (before ++ file ∷ ins) on) in
      subst P (sym one)
      (ap (behind (load_piece place on ∷ [])) (later ∙ ap (λ (fs : List GuestFile). behind (map (λ place. load_piece place on) places) (on_ins words spoken program rest fs on)) (append_assoc before (file ∷ []) ins)))

  -- a file that is too long ends the work there
  pub ins-stop : (program : Program) (place : ℕ) (rest : List ℕ) (before : List GuestFile) (end : End) (on : Outside) → on.files ≡ files
      → loaded_at place ≡ Err end
      → on_ins words spoken program (place ∷ rest) before on ≡ behind (load_piece place on ∷ []) (stopped end on)
  unfolding on_ins
  ins-stop program place rest before end on same one =
      let here : in_loaded words spoken place (on.files (path_at words place)) ≡ Err end = rw same one in
      let P : Result GuestFile End → Type 0 = λ r.
      behind (load_piece place on ∷ []) (elim r [ Ok file ↦ on_ins words spoken program rest (before ++ file ∷ []) on | Err end ↦ stopped end on ]) ≡ behind (load_piece place on ∷ []) (stopped end on) in
      subst P (sym here) refl

  -- a load comes first on the trail of what is left
  pub ins-first : (program : Program) (place : ℕ) (rest : List ℕ) (before : List GuestFile) (on : Outside)
      → FailsOn (on_ins words spoken program (place ∷ rest) before on).pieces (Load place) on
  unfolding on_ins
  ins-first program place rest before on =
      fails-first (load_piece place on) _ (Load place) on (still-fails (Load place ∷ []) on (Load place) (0, omega arith, refl))

-- ---- the files of some pairs, as far as they were loaded
-- what the loads gave, from a host that tells its files, and whatever it tells
pub record AreLoaded (words : List (List ℕ)) (spoken : Command) (places : List ℕ) (held : Option Held) (ins : List GuestFile) : Type 0 where
  pub told : (told : Held) → held ≡ Some told → AreIns words spoken told.file places ins
  pub names : HaveNames words spoken places ins

pub loaded-none : (words : List (List ℕ)) (spoken : Command) (held : Option Held) → AreLoaded words spoken [] held []
loaded-none words spoken held = record {
  told = λ told is. refl;
  names = record { names = refl; there = λ i d within. absurd (omega arith); short = λ i d within. absurd (omega arith) };
}

pub loaded-more : (words : List (List ℕ)) (spoken : Command) (places : List ℕ) (place : ℕ) (held : Option Held) (ins : List GuestFile) (entry : Entry)
    → AreLoaded words spoken places held ins → LoadsIn words spoken place held (Ok entry)
    → AreLoaded words spoken (places ++ place ∷ []) held (ins ++ guest_file entry ∷ [])
loaded-more words spoken places place held ins entry h one = record {
  told = λ told is. ins-more words spoken told.file places place ins (guest_file entry) (h.told told is) (one.told told is);
  names = record {
    names = map-append (λ (f : GuestFile). f.name) ins (guest_file entry ∷ [])
        ∙ ap (λ (xs : List (List ℕ)). xs ++ (guest_file entry).name ∷ []) h.names.names
        ∙ ap (λ (n : List ℕ). map (name_at words) places ++ n ∷ []) (ap (λ (f : GuestFile). f.name) one.file)
        ∙ sym (map-append (name_at words) places (place ∷ []));
    there = All-append (λ file. file.exists ≡ true) ins (guest_file entry ∷ []) h.names.there (All-one (λ file. file.exists ≡ true) (guest_file entry) (ap (λ (f : GuestFile). f.exists) one.file));
    short = All-append (λ file. length file.content ≤ spoken.cap) ins (guest_file entry ∷ []) h.names.short (All-one (λ file. length file.content ≤ spoken.cap) (guest_file entry) one.short);
  };
}
  where
    All-one : (P : GuestFile → Type 0) (file : GuestFile) → P file → All P (file ∷ [])
    All-one P file h = All-cons P file [] h (All-nil P)

-- the only element of a list
only-one : (X : Type 0) (x y : X) → Contains (x ∷ []) y → y ≡ x
only-one X x y h = at-index h.0 h.1 h.2
  where
    at-index : (k : ℕ) → k < 1 → get_or (x ∷ []) k y ≡ y → y ≡ x
    at-index zero below is = sym is
    at-index (suc k) below is = absurd (omega arith)

module _ (words : List (List ℕ)) (spoken : Command) (places : List ℕ) (index place : ℕ) (is : slice_get places index ≡ Some place) where
  contains-place : Contains places place
  contains-place = (index, slice_get_within places index place is, get_or_from_slice_get places index place place is)

  in-places : (other : ℕ) → Contains (place ∷ []) other → Contains places other
  in-places other h = rw (only-one ℕ place other h) contains-place

  contains-load : Contains (map (λ place. Load place) places) (Load place)
  contains-load =
      let within : index < length places = slice_get_within places index place is in (
        index,
        rw (length-map places (λ (p : ℕ). Load p)) within,
        get_or-map (λ (p : ℕ). Load p) places index place (Load place) within
            ∙ ap (λ (p : ℕ). Load p) (get_or_from_slice_get places index place place is),
      )

  pub in-calls : (call : HostCall) → Contains (map (λ place. Load place) (place ∷ [])) call → Contains (map (λ place. Load place) places) call
  in-calls call h = rw (only-one HostCall (Load place) call h) contains-load

  end-in : (end : End) → IsInEnd (place ∷ []) end → IsInEnd places end
  end-in (End.Words fault) h = (h.0, in-places fault.word h.1)
  end-in (End.Host call) h = in-calls call h
  end-in End.Memory h = tt
  end-in (End.Exit code) h = h
  end-in (End.Killed signal) h = h
  end-in End.Budget h = h
  end-in (End.Image fault) h = h
  end-in (End.Start fault) h = h

  -- the loads end at this place
  stops-here : (files : Files) (front : List GuestFile) (end : End) → AreIns words spoken files (take index places) front
      → ((fault : WordFault) → end ≡ Words fault → in_loaded words spoken place (files (path_at words place)) ≡ Err end) → IsInEnd (place ∷ []) end
      → StopsIns words spoken files places end
  stops-here files front end loaded refused in_end = record {
    index = index;
    place = place;
    is = is;
    front = front;
    loaded = loaded;
    refused = refused;
    failed = λ call e. only-one HostCall (Load place) call (subst (λ (x : End). IsInEnd (place ∷ []) x) e in_end);
  }

  pub loads-stop : (A : Type 0) (held : Option Held) (front : List GuestFile) (end : End) → AreLoaded words spoken (take index places) held front
      → LoadsIn words spoken place held (Err end) → LoadsIns {A = A} words spoken places held (Err end)
  loads-stop A held front end h one = record {
    told = λ told was. stops-here told.file front end (h.told told was) (one.told told was) one.end;
    names = tt;
    end = end-in end one.end;
  }

  pub loads-memory : (A : Type 0) (held : Option Held) (front : List GuestFile) → AreLoaded words spoken (take index places) held front
      → LoadsIns {A = A} words spoken places held (Err Memory)
  loads-memory A held front h = record {
    told = λ told was. stops-here told.file front Memory (h.told told was) (λ fault e. cc) tt;
    names = tt;
    end = tt;
  }

-- ---- all files of a command
-- what holds of what a function gives of each element
All-of : (X Y : Type 0) (P : Y → Type 0) (f : X → Y) (xs : List X) → All P (map f xs) → All (λ x. P (f x)) xs
All-of X Y P f xs h = λ k d within.
    subst P (get_or-map f xs k d (f d) within) (h k (f d) (rw (length-map xs f) within))

module _ (words : List (List ℕ)) (spoken : Command) (is : IsCommand words spoken) (ins : List GuestFile)
    (h : HaveNames words spoken spoken.ins.items ins) where
  abbrev alone : List ℕ
  alone = only_out words spoken.ins.items spoken.outs.items

  abbrev all_files : List GuestFile
  all_files = ins ++ out_files words spoken

  abbrev file_name : GuestFile → List ℕ
  file_name file = file.name

  names-of : (X : Type 0) (f : ℕ → X) (name : X → List ℕ) (places : List ℕ) → ((place : ℕ) → name (f place) ≡ name_at words place)
      → map name (map f places) ≡ map (name_at words) places
  names-of X f name [] e = refl
  names-of X f name (place ∷ places) e =
      ap (λ (n : List ℕ). n ∷ map name (map f places)) (e place) ∙ ap (λ (ns : List (List ℕ)). name_at words place ∷ ns) (names-of X f name places e)

  names-same : map file_name all_files ≡ map name_of (files_named words spoken)
  names-same =
      map-append file_name ins (out_files words spoken)
      ∙ ap (λ (ns : List (List ℕ)). ns ++ map file_name (out_files words spoken)) h.names
      ∙ ap (λ (ns : List (List ℕ)). map (name_at words) spoken.ins.items ++ ns) (names-of GuestFile (out_file words) file_name alone (λ place. refl))
      ∙ sym (map-append name_of (map (file_in words spoken.outs.items) spoken.ins.items) (map (file_out words) alone)
      ∙ ap (λ (ns : List (List ℕ)). ns ++ map name_of (map (file_out words) alone)) (names-of NamedFile (file_in words spoken.outs.items) name_of spoken.ins.items (λ place. refl))
      ∙ ap (λ (ns : List (List ℕ)). map (name_at words) spoken.ins.items ++ ns) (names-of NamedFile (file_out words) name_of alone (λ place. refl)))

  named : All (λ file. IsName file.name) all_files
  named =
      All-of GuestFile (List ℕ) IsName file_name all_files
      (subst (λ (ns : List (List ℕ)). All IsName ns) (sym names-same) (All-map IsName name_of (files_named words spoken) (names-fit words spoken is)))

  short : All (λ file. length file.content ≤ spoken.cap) all_files
  short = All-append (λ file. length file.content ≤ spoken.cap) ins (out_files words spoken) h.short
      (All-map (λ (file : GuestFile). length file.content ≤ spoken.cap) (out_file words) alone (λ k d within. omega arith))

  absent : All (λ file. file.exists ≡ false → length file.content ≡ 0) all_files
  absent = All-append (λ file. file.exists ≡ false → length file.content ≡ 0) ins (out_files words spoken)
      (λ k d within gone. absurd (let there = h.there k d within in cc))
      (All-map (λ (file : GuestFile). file.exists ≡ false → length file.content ≡ 0) (out_file words) alone (λ k d within gone. refl))

  pub files-fit : AreEntries spoken.cap all_files
  files-fit = record {
    count =
        let same : length all_files ≡ length (files_named words spoken)
        = sym (length-map all_files file_name) ∙ ap length names-same ∙ length-map (files_named words spoken) name_of in
        rw same is.few_files;
    fit = λ k d within. record {
      named = (named k d within).0;
      short = (named k d within).1;
      most = short k d within;
      absent = absent k d within;
    };
    distinct = λ i j d less within same.
        let differ = subst (λ (ns : List (List ℕ)). AllPairs (λ a b. a ≢ b) ns) (sym names-same) (names-differ words spoken is) in
        let before : i < length all_files = omega arith in
        differ i j d.name less (rw (length-map all_files file_name) within)
        (get_or-map file_name all_files i d d.name before ∙ same ∙ sym (get_or-map file_name all_files j d d.name within));
  }

-- ---- the part behind the loads of `--in`
-- a list, at one of its places
at-place : (xs : List ℕ) (index place : ℕ) → slice_get xs index ≡ Some place → xs ≡ take index xs ++ (place ∷ drop (suc index) xs)
at-place [] index place is = cc
at-place (x ∷ xs) zero place is = let same : x ≡ place = cc in ap (λ (y : ℕ). y ∷ xs) same
at-place (x ∷ xs) (suc index) place is = ap (λ (ys : List ℕ). x ∷ ys) (at-place xs index place is)

pub ins-none : (words : List (List ℕ)) (spoken : Command) (program : Program) (ins : List GuestFile) (on : Outside)
    → on_ins words spoken program [] ins on ≡ on_program words spoken program ins on
unfolding on_ins
ins-none words spoken program ins on = refl

module _ (words : List (List ℕ)) (spoken : Command) (program : Program) (before after : Around) where
  abbrev places : List ℕ
  places = spoken.ins.items

  abbrev ins_work : Outside → Work
  ins_work on = on_ins words spoken program places [] on

  abbrev loads : List ℕ → Outside → List Piece
  loads some on = map (λ place. load_piece place on) some

  -- all were loaded
  pub works-read : (ins : List GuestFile) (ended : Ended) → ((held : Held) → before.held ≡ Some held → AreIns words spoken held.file places ins)
      → DoesWork words spoken (λ on. on_program words spoken program ins on) before after ended → DoesWork words spoken ins_work before after ended
  works-read ins ended told h =
      works-behind words spoken ins_work (λ on. on_program words spoken program ins on) (loads places) before after ended
      (λ held was on files.
      ap (λ (some : List ℕ). on_ins words spoken program some [] on) (sym (append-nil places))
      ∙ ins-read words spoken held.file program places [] [] ins on files (told held was)
      ∙ ap (behind (loads places on)) (ins-none words spoken program ins on)) h

  -- what is left at a place where the loads end
  left-at : (files : Files) (on : Outside) → on.files ≡ files → (end : End) (stops : StopsIns words spoken files places end)
      → ins_work on ≡ behind (loads (take stops.index places) on) (on_ins words spoken program (stops.place ∷ drop (suc stops.index) places) stops.front on)
  left-at files on same end stops =
      ap (λ (some : List ℕ). on_ins words spoken program some [] on) (at-place places stops.index stops.place stops.is)
      ∙ ins-read words spoken files program (take stops.index places) (stops.place ∷ drop (suc stops.index) places) [] stops.front on same stops.loaded

  -- a file was too long
  module _ (fault : WordFault) (result : Ended) (told : (held : Held) → before.held ≡ Some held → StopsIns words spoken held.file places (Words fault))
      (fits : IsTooLong (Ok spoken) fault) (ends : Ends (refusal_line (Words fault)) (Words fault) None before after result) where
    refusal : DoesWork words spoken (stopped (Words fault)) before after result
    refusal = works-stopped words spoken (Words fault) before after result refl
        (λ other is. let same : fault ≡ other = cc in subst (λ (f : WordFault). IsTooLong (Ok spoken) f) same fits) ends

    front_at : (held : Held) → before.held ≡ Some held → Outside → List Piece
    front_at held was on = loads (take (told held was).index places) on ++ load_piece (told held was).place on ∷ []

    whole : (held : Held) (was : before.held ≡ Some held) (on : Outside) → on.files ≡ held.file
        → ins_work on ≡ behind (front_at held was on) (stopped (Words fault) on)
    unfolding front_at
    whole held was on files =
        let stops = told held was in
        left-at held.file on files (Words fault) stops
        ∙ ap (behind (loads (take stops.index places) on)) (ins-stop words spoken held.file program stops.place (drop (suc stops.index) places) stops.front (Words fault) on files (stops.refused fault refl))
        ∙ ap (λ (ps : List Piece). record { outcome = (stopped (Words fault) on).outcome; pieces = ps })
        (sym (append_assoc (loads (take stops.index places) on) (load_piece stops.place on ∷ []) (stopped (Words fault) on).pieces))

    pub works-too_long : DoesWork words spoken ins_work before after result
    works-too_long = record {
      meets = λ held now was then streams on stands.
          subst (λ (w : Work). MeetsWork w on now.page result (StandsAround after)) (sym (whole held was on (files-told before held on was stands)))
          (meets-behind now.page result (StandsAround after) (front_at held was on) (stopped (Words fault) on) on (refusal.meets held now was then streams on stands));
      refuses = λ held was on files own.
          refusal.refuses held was on files own ∙ ap (λ (w : Work). refusal_in w.outcome.end) (sym (whole held was on files));
      passes = refusal.passes;
    }

  -- a load failed
  pub works-unloaded : (call : HostCall) → ((held : Held) → before.held ≡ Some held → StopsIns words spoken held.file places (Host call))
      → IsStill before after → Passes words spoken before after (answer_of (Host call) None)
      → DoesWork words spoken ins_work before after (answer_of (Host call) None)
  works-unloaded call told same passes =
      works-failed words spoken ins_work before after call same
      (λ held was on files.
      let stops = told held was in
      let fails = fails-back (loads (take stops.index places) on) (on_ins words spoken program (stops.place ∷ drop (suc stops.index) places) stops.front on).pieces
      (Load stops.place) on (ins-first words spoken held.file program stops.place (drop (suc stops.index) places) stops.front on) in
      subst (λ (w : Work). FailsOn w.pieces call on) (sym (left-at held.file on files (Host call) stops))
      (subst (λ (c : HostCall). FailsOn (behind (loads (take stops.index places) on) (on_ins words spoken program (stops.place ∷ drop (suc stops.index) places) stops.front on)).pieces c on)
      (sym (stops.failed call refl)) fails))
      passes

-- ---- an end of the loads, with its line
module _ (words : List (List ℕ)) (spoken : Command) (program : Program) (before mid after : Around) (result : Ended)
    (same : mid ≡ record before { tally = mid.tally }) where
  abbrev stop_work : Outside → Work
  stop_work on = on_ins words spoken program spoken.ins.items [] on

  -- the same stands then
  pub mid-still : IsStill before mid
  mid-still = still-counted before mid same

  held-same : mid.held ≡ before.held
  held-same = ap (λ (a : Around). a.held) same

  streams-tell : StillTell before.streams mid.streams
  streams-tell = subst (λ (s : Streams). StillTell before.streams s) (sym (ap (λ (a : Around). a.streams) same)) (tell-none before.streams)

  opened-same : mid.opened ≡ before.opened
  opened-same = ap (λ (a : Around). a.opened) same

  pub mid-goes_on : mid.tally ≡ before.tally → GoesOn words spoken before mid
  mid-goes_on tally = record {
    held = others-same (map (path_at words) spoken.outs.items) before.held mid.held held-same;
    streams = streams-tell;
    opened = λ none. opened-same;
    tally = tally;
  }

  mid-same : mid.tally ≡ before.tally → mid ≡ before
  mid-same tally = same ∙ ap (λ (t : Tally). record before { tally = t }) tally

  pub works-ended : (end : End) → ((held : Held) → before.held ≡ Some held → StopsIns words spoken held.file spoken.ins.items end)
      → IsInEnd spoken.ins.items end → IsCounted (map (λ place. Load place) spoken.ins.items) (failed_call end) before.tally mid.tally
      → Ends (refusal_line end) end None mid after result → DoesWork words spoken stop_work before after result
  works-ended (End.Words fault) told is cause ends =
      works-too_long words spoken program before after fault result told is (subst (λ (a : Around). Ends (refusal_line (Words fault)) (Words fault) None a after result) (mid-same cause) ends)
  works-ended (End.Host call) told is cause ends =
      let silent = ends.silent refl in
      subst (λ (a : Around). DoesWork words spoken stop_work before a result) (sym silent.1)
      (subst (λ (r : Ended). DoesWork words spoken stop_work before mid r) (sym silent.0)
      (works-unloaded words spoken program before mid call told mid-still
      (passes-failed words spoken before mid call (others-same (map (path_at words) spoken.outs.items) before.held mid.held held-same) streams-tell (λ none. opened-same)
      (counted-among (map (λ place. Load place) spoken.ins.items) (command_calls spoken) (Some call) before.tally mid.tally (makes-ins spoken) cause))))
  works-ended End.Memory told is cause ends =
      let silent = ends.silent refl in
      subst (λ (a : Around). DoesWork words spoken stop_work before a result) (sym silent.1)
      (subst (λ (r : Ended). DoesWork words spoken stop_work before mid r) (sym silent.0)
      (works-memory words spoken stop_work before mid mid-still (passes-memory words spoken before mid (mid-goes_on cause))))
  works-ended (End.Exit code) told is cause ends = absurd is
  works-ended (End.Killed signal) told is cause ends = absurd is
  works-ended End.Budget told is cause ends = absurd is
  works-ended (End.Image fault) told is cause ends = absurd is
  works-ended (End.Start fault) told is cause ends = absurd is

-- ---- files that are there
module _ (words : List (List ℕ)) (spoken : Command) (files : Files) where
  pub ins-there : (places : List ℕ) → All (λ place. HasFile files (path_at words place) spoken.cap) places
      → (ins : List GuestFile) × AreIns words spoken files places ins
  ins-there [] all = ([], refl)
  ins-there (place ∷ places) all =
      let head : HasFile files (path_at words place) spoken.cap = all 0 place (omega arith) in
      let tail = ins-there places (λ k d within. all (suc k) d (omega arith)) in
      let file : GuestFile = in_file words spoken place head.0 in
      let one : loaded_at words spoken files place ≡ Ok file
      = ap (λ (f : Option (List ℕ)). in_loaded words spoken place f) head.1 ∙ loaded-fits words spoken place head.0 head.2 in (
        file ∷ tail.0,
        ap (λ (r : Result GuestFile End). r ∷ map (loaded_at words spoken files) places) one
            ∙ ap (λ (rs : List (Result GuestFile End)). Ok file ∷ rs) tail.1,
      )

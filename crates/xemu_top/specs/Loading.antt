-- What came of the loads: of one file, and of those of `--in`.
use Rattle.std.specs.Prelude.{true, ◌≡◌, ℕ, ◌<◌, ◌≤◌, ⊤, All, Contains, List, [], ◌∷◌, length, map, take, slice_get, Option, Some, None, Result, Ok, Err, IfOk, IfErr, Vec}
use Rattle.host_edge.specs.declared.outside.HostCall.{HostCall}
use Rattle.host_edge.specs.declared.outside.HostCall.TheVariants.{Load}
use Rattle.host_edge.specs.Causes.{Counts}
use Rattle.machine_state.specs.World.{GuestFile}
use Rattle.guest_files.specs.declared.entries.Entry.{Entry}
use Rattle.guest_files.specs.Entries.{guest_file}
use Rattle.host_edge.specs.Files.{Held}
use Rattle.guest_run.specs.Outside.{Files}
use Rattle.guest_run.specs.Tally.{Tally, IsCounted}
use Rattle.command_words.specs.declared.kinds.Command.{Command}
use Rattle.command_words.specs.declared.kinds.WordFault.{WordFault}
use Rattle.xemu_top.specs.declared.ends.End.{End}
use Rattle.xemu_top.specs.declared.ends.End.TheVariants.{Exit, Killed, Budget, Words, Image, Start, Host, Memory as NoMemory}
use Rattle.xemu_top.specs.declared.loading.Loaded.{Loaded}
use Rattle.xemu_top.specs.declared.loading.Loaded.TheVariants.{Whole, Long, Failed, Memory}
use Rattle.command_words.specs.Pairs.{name_at}
use Rattle.xemu_top.specs.Files.{in_file, in_loaded, path_at}
use Rattle.xemu_top.specs.Headline.{failed_call}

-- ---- one file
-- what was loaded is the file of a host that tells its files, of which so many bytes are the most
abbrev pub IsLoaded : (most : ℕ) → Loaded → Option (List ℕ) → Type 0
IsLoaded most (Whole bytes) file = file ≡ Some bytes.items
IsLoaded most Long file = (bytes : List ℕ) × (file ≡ Some bytes) × (most < length bytes)
IsLoaded most Failed file = Unit {0}
IsLoaded most Memory file = Unit {0}

-- the call that failed in the load of a word's path, if it did
abbrev pub failed_load : ℕ → Loaded → Option HostCall
failed_load word (Whole bytes) = None
failed_load word Long = None
failed_load word Failed = Some (Load word)
failed_load word Memory = None

-- a load that failed has its count, whatever word names its path
abbrev pub LoadCaused : Loaded → Counts → Counts → Type 0
LoadCaused loaded old new =
    (word : ℕ) (rest : Tally) → IsCounted (Load word ∷ []) (failed_load word loaded) (record rest { host = old }) (record rest { host = new })

-- it has at most so many bytes
abbrev pub HasAtMost : (most : ℕ) → Loaded → Type 0
HasAtMost most (Whole bytes) = length bytes.items ≤ most
HasAtMost most Long = ⊤
HasAtMost most Failed = ⊤
HasAtMost most Memory = ⊤

-- ---- the files of `--in`
-- the host's call that failed in loads, if one did
abbrev pub failed_by : {T : Type 0} → Result T End → Option HostCall
failed_by (Ok loaded) = None
failed_by (Err end) = failed_call end

-- the loads of some places end so, whatever the host tells: a file is too long, or a load failed, or memory was wanting
abbrev pub IsInEnd : (places : List ℕ) → End → Type 0
IsInEnd places (Words fault) = (fault.kind ≡ 10) × Contains places fault.word
IsInEnd places (Host call) = Contains (map (λ place. Load place) places) call
IsInEnd places NoMemory = ⊤
IsInEnd places (Exit code) = ⊥
IsInEnd places (Killed signal) = ⊥
IsInEnd places Budget = ⊥
IsInEnd places (Image fault) = ⊥
IsInEnd places (Start fault) = ⊥

-- the counts of loads of some places
abbrev pub InsCaused : {T : Type 0} → (places : List ℕ) → Result T End → Counts → Counts → Type 0
InsCaused places result old new =
    (rest : Tally) → IsCounted (map (λ place. Load place) places) (failed_by result) (record rest { host = old }) (record rest { host = new })

-- the pair at a place is loaded from a host that tells its files, or refused for what the host has at its path
abbrev pub IsInOf : List (List ℕ) → Command → (place : ℕ) → Files → Result Entry End → Type 0
IsInOf words command place files (Ok entry) = in_loaded words command place (files (path_at words place)) ≡ Ok (guest_file entry)
IsInOf words command place files (Err end) = (fault : WordFault) → end ≡ Words fault
    → in_loaded words command place (files (path_at words place)) ≡ Err end

-- what comes of the load of the pair at a place
pub record LoadsIn (words : List (List ℕ)) (command : Command) (place : ℕ) (held : Option Held) (result : Result Entry End) : Type 0 where
  pub told : (told : Held) → held ≡ Some told → IsInOf words command place told.file result
  pub file : IfOk result (λ entry. guest_file entry ≡ in_file words command place (guest_file entry).content)
  pub short : IfOk result (λ entry. length (guest_file entry).content ≤ command.cap)
  pub end : IfErr result (IsInEnd (place ∷ []))

-- the host has these files for the pairs at some places
abbrev pub AreIns : List (List ℕ) → Command → Files → (places : List ℕ) → List GuestFile → Type 0
AreIns words command files places ins =
    map (λ place. in_loaded words command place (files (path_at words place))) places ≡ map (λ file. Ok file) ins

-- one of some pairs is refused for what the host has at its path, or another end comes there; those before it were loaded
pub record StopsIns (words : List (List ℕ)) (command : Command) (files : Files) (places : List ℕ) (end : End) : Type 0 where
  pub index : ℕ
  pub place : ℕ
  pub is : slice_get places index ≡ Some place
  pub front : List GuestFile
  pub loaded : AreIns words command files (take index places) front
  pub refused : (fault : WordFault) → end ≡ Words fault → in_loaded words command place (files (path_at words place)) ≡ Err end
  pub failed : (call : HostCall) → end ≡ Host call → call ≡ Load place

abbrev pub AreInsOf : {A : Type 0} → List (List ℕ) → Command → (places : List ℕ) → Files → Result (Vec Entry A) End → Type 0
AreInsOf words command places files (Ok ins) = AreIns words command files places (map guest_file ins.items)
AreInsOf words command places files (Err end) = StopsIns words command files places end

-- files for the pairs at some places, whatever the host tells: they have the names, and fit
pub record HaveNames (words : List (List ℕ)) (command : Command) (places : List ℕ) (ins : List GuestFile) : Type 0 where
  pub names : map (λ file. file.name) ins ≡ map (name_at words) places
  pub there : All (λ file. file.exists ≡ true) ins
  pub short : All (λ file. length file.content ≤ command.cap) ins

-- what comes of the loads of the pairs at some places
pub record LoadsIns {A : Type 0} (words : List (List ℕ)) (command : Command) (places : List ℕ) (held : Option Held) (result : Result (Vec Entry A) End) : Type 0 where
  pub told : (told : Held) → held ≡ Some told → AreInsOf words command places told.file result
  pub names : IfOk result (λ ins. HaveNames words command places (map guest_file ins.items))
  pub end : IfErr result (IsInEnd places)

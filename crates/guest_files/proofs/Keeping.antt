-- What entries and places keep: what they stand for, and room.
use Rattle.std.proofs.Common.{◌≡◌, ◌≢◌, ℕ, ◌<◌, ◌⊎◌, zero, suc, inl, inr, true, List, length, get_or, replicate, set, map, Option, Some, None, IfSome, refl, ap, sym, ◌∙◌, subst, arith, lit<}
use Rattle.std.proofs.lemmas.List.{get_or-map, get_or-set_other, get_or-set_same, length-map, length-set, map-set}
use Rattle.std.proofs.lemmas.List.Elements.{All-set}
use Rattle.std.specs.List.{All}
use Rattle.machine_state.specs.World.{GuestFile, IsGuestFile, IsPlace, descriptor_count, first_descriptors, input_place, output_place, place_at, FitsFile, IsOpened, no_file}
use Rattle.machine_state.specs.declared.kinds.Place.{Place}
use Rattle.guest_files.specs.Entries.{guest_file}
use Rattle.guest_files.specs.Files.{AreEntries, file_of}
use Rattle.guest_files.specs.Kept.{AreKept, HasBytes, HasRoom}
use Rattle.guest_files.specs.declared.entries.Entry.{Entry}

-- what holds of every file holds of the one that an entry is
pub entry_holds : (P : GuestFile → Type 0) (entries : List Entry) (k : ℕ) (d : Entry) → All P (map guest_file entries) → k < length entries →
    P (guest_file (get_or entries k d))
entry_holds P entries k d all within =
    let inside : k < length (map guest_file entries) = simp length-map (omega arith) in
    rw (get_or-map guest_file entries k d (guest_file d) within) at (all k (guest_file d) inside)

-- the file of a number is that of the entry
pub file_of_entry : (entries : List Entry) (number : ℕ) (entry : Entry) → number < length entries → entry ≡ get_or entries number entry →
    file_of (map guest_file entries) (Some number) ≡ guest_file entry
file_of_entry entries number entry within is =
    get_or-map guest_file entries number entry no_file within ∙ ap guest_file (sym is)

-- two numbers are equal, or they aren't
apart : (a b : ℕ) → (a ≡ b) ⊎ (a ≢ b)
apart a b = grind arith

-- what holds of each place holds once one is put that it holds of
place_put : (P : ℕ → Place → Type 0) (places : List (Option Place)) (fd : ℕ) (place : Option Place) → fd < length places →
    ((number : ℕ) → IfSome (place_at places number) (P number)) → IfSome place (P fd) →
    (number : ℕ) → IfSome (place_at (set places fd place) number) (P number)
place_put P places fd place within all here number =
    elim (apart number fd) as (λ _. IfSome (place_at (set places fd place) number) (P number)) [
      | inl same ↦
          let put : IfSome (place_at (set places fd place) fd) (P fd) = rw (get_or-set_same places fd place None within) here in
          subst (λ n. IfSome (place_at (set places fd place) n) (P n)) (sym same) put
      | inr differs ↦ rw (get_or-set_other places fd number place None differs) (all number)
    ]

-- entries and places stay as they can be once a place is put
pub kept_with_place : (entries : List Entry) (places : List (Option Place)) (cap fd : ℕ) (place : Option Place) → AreKept entries places cap →
    fd < descriptor_count → IfSome place (IsPlace (length (map guest_file entries)) fd) → IfSome place (IsOpened (map guest_file entries)) →
    AreKept entries (set places fd place) cap
kept_with_place entries places cap fd place kept within is opened =
    let inside : fd < length places = omega (arith, kept.files.descriptors) in
    record {
      files = record {
        count = kept.files.count;
        files = kept.files.files;
        descriptors = length-set places fd place ∙ kept.files.descriptors;
        place = place_put (IsPlace (length (map guest_file entries))) places fd place inside kept.files.place is;
        opened = place_put (λ _. IsOpened (map guest_file entries)) places fd place inside kept.files.opened opened;
      };
      room = kept.room;
    }

-- what follows from what holds of a value that there is
pub if_some : {X : Type 0} (o : Option X) (P Q : X → Type 0) → ((x : X) → P x → Q x) → IfSome o P → IfSome o Q
if_some None P Q then holds = tt
if_some (Some x) P Q then holds = then x holds

-- what holds of a value that there is holds of this one
pub if_some_at : {X : Type 0} (o : Option X) (x : X) (P : X → Type 0) → Some x ≡ o → IfSome o P → P x
if_some_at None x P is holds = (cc)
if_some_at (Some y) x P is holds = let same : y ≡ x = (cc) in subst P same holds

-- a place that fits its file fits the file that stands there instead
opened_set : (files : List GuestFile) (at : ℕ) (file : GuestFile) (place : Place) → at < length files →
    (FitsFile place (get_or files at no_file) → FitsFile place file) → IsOpened files place → IsOpened (set files at file) place
opened_set files at file place within fits =
    if_some place.file (λ number. FitsFile place (get_or files number no_file)) (λ number. FitsFile place (get_or (set files at file) number no_file))
    (λ number old.
    elim (apart number at) as (λ _. FitsFile place (get_or (set files at file) number no_file)) [
      | inl same ↦
          let before : FitsFile place (get_or files at no_file) = subst (λ n. FitsFile place (get_or files n no_file)) same old in
          let now : FitsFile place (get_or (set files at file) at no_file) = rw (get_or-set_same files at file no_file within) (fits before) in
          subst (λ n. FitsFile place (get_or (set files at file) n no_file)) (sym same) now
      | inr differs ↦ rw (get_or-set_other files at number file no_file differs) old
    ])

-- entries and places stay as they can be once an entry is another that exists and may be written as before
pub kept_with_entry : (entries : List Entry) (places : List (Option Place)) (cap at : ℕ) (old new : Entry) → AreKept entries places cap →
    at < length entries → old ≡ get_or entries at old → new.exists ≡ true → new.writable ≡ old.writable →
    IsGuestFile cap (guest_file new) → HasRoom cap new → AreKept (set entries at new) places cap
kept_with_entry entries places cap at old new kept within is exists writable file room =
    let files = map guest_file entries in
    let changed : map guest_file (set entries at new) ≡ set files at (guest_file new) = map-set guest_file entries at new in
    let len : length (map guest_file (set entries at new)) ≡ length files = ap length changed ∙ length-set files at (guest_file new) in
    let inside : at < length files = simp length-map (omega arith) in
    let before : get_or files at no_file ≡ guest_file old = file_of_entry entries at old within is in
    let fits : (place : Place) → FitsFile place (get_or files at no_file) → FitsFile place (guest_file new) =
    λ place was. let held = rw before at was in record { exists = exists; writable = λ w. writable ∙ held.writable w } in
    record {
      files = record {
        count = rw len kept.files.count;
        files = rw changed (All-set (IsGuestFile cap) files at (guest_file new) file kept.files.files);
        descriptors = kept.files.descriptors;
        place = λ number. rw len (kept.files.place number);
        opened = λ number. rw changed (if_some (place_at places number) (IsOpened files) (IsOpened (set files at (guest_file new)))
            (λ place. opened_set files at (guest_file new) place inside (fits place)) (kept.files.opened number));
      };
      room = All-set (HasRoom cap) entries at new room kept.room;
    }

-- a list of nothing has nothing at each place
none_at : (count n : ℕ) → get_or {A = Option Place} (replicate count None) n None ≡ None
none_at zero n = refl
none_at (suc count) zero = refl
none_at (suc count) (suc n) = none_at count n

-- what holds of the first three places holds of each
first_hold : (P : ℕ → Place → Type 0) → P 0 input_place → P 1 output_place → P 2 output_place →
    (number : ℕ) → IfSome (place_at first_descriptors number) (P number)
unfolding first_descriptors
first_hold P zeroth first second zero = zeroth
first_hold P zeroth first second (suc zero) = first
first_hold P zeroth first second (suc (suc zero)) = second
first_hold P zeroth first second (suc (suc (suc n))) = rw (none_at 61 n) tt

-- entries that may be given are kept, with the first descriptors
pub kept_at_start : (entries : List Entry) (cap : ℕ) → AreEntries cap (map guest_file entries) → All HasBytes (map guest_file entries) →
    All (HasRoom cap) entries → AreKept entries first_descriptors cap
unfolding first_descriptors
kept_at_start entries cap given bytes room =
    let n = length (map guest_file entries) in
    record {
      files = record {
        count = given.count;
        files = λ k d within. record {
          name = (bytes k d within).name;
          content = (bytes k d within).content;
          most = (given.fit k d within).most;
          absent = (given.fit k d within).absent;
        };
        descriptors = refl;
        place = first_hold (IsPlace n)
            (record { stream = λ _. (lit< tt, refl); file = tt; at = lit< tt })
            (record { stream = λ _. (lit< tt, refl); file = tt; at = lit< tt })
            (record { stream = λ _. (lit< tt, refl); file = tt; at = lit< tt });
        opened = first_hold (λ _. IsOpened (map guest_file entries)) tt tt tt;
      };
      room = room;
    }

-- What opening a file answers and leaves.
use Rattle.std.proofs.Common.{◌≡◌, ℕ, ◌<◌, Bool, true, false, ◌&&◌, List, [], ◌∷◌, length, get_or, set, map, Option, Some, None, if◌then◌else◌, is_none, refl, ap, sym, ◌∙◌, arith, lit<}
use Rattle.std.proofs.lemmas.List.{get_or-set_same, length-map, length-set, map-set}
use Rattle.std.specs.Vec.{vec_capacity}
use Rattle.machine_state.specs.World.{GuestFile, IsGuestFile, descriptor_count, FitsFile, no_file}
use Rattle.machine_state.specs.declared.kinds.Place.{Place}
use Rattle.guest_files.specs.Checks.{Check, first_failing}
use Rattle.guest_files.specs.Entries.{guest_file}
use Rattle.guest_files.specs.Errnos.{emfile}
use Rattle.guest_files.specs.Files.{FilesValue}
use Rattle.guest_files.specs.Kept.{AreKept, HasRoom, value_of}
use Rattle.guest_files.specs.Open.{asks_to_write, file_checks, has_flag, lowest_free, name_checks, number_of, open_refusal, opened, opened_file, opened_place}
use Rattle.guest_files.specs.declared.entries.Entry.{Entry}
use Rattle.guest_files.specs.declared.errno.Errno.{Errno}
use Rattle.guest_files.proofs.Keeping.{entry_holds, file_of_entry, kept_with_entry, kept_with_place}
use Rattle.guest_files.proofs.Refusals.{each_passes, refused_early, refused_late}

-- the last check
abbrev free_check : FilesValue → Check
free_check value = (is_none (lowest_free value.places), emfile)

-- a check of the file refuses
pub open_refused : (value : FilesValue) (name : List ℕ) (flags : ℕ) (errno : Errno) →
    Some errno ≡ first_failing (name_checks value.files name flags) → open_refusal value name flags ≡ Some errno
unfolding open_refusal
open_refused value name flags errno fails =
    refused_early (name_checks value.files name flags) (free_check value ∷ []) errno (sym fails)

-- the last check refuses
pub open_full : (value : FilesValue) (name : List ℕ) (flags : ℕ) → None ≡ first_failing (name_checks value.files name flags) →
    None ≡ lowest_free value.places → open_refusal value name flags ≡ Some emfile
unfolding open_refusal
open_full value name flags passes full =
    refused_late (name_checks value.files name flags) (free_check value ∷ []) (sym passes) ∙ rw (sym full) refl

-- nothing refuses
pub open_granted : (value : FilesValue) (name : List ℕ) (flags fd : ℕ) → None ≡ first_failing (name_checks value.files name flags) →
    Some fd ≡ lowest_free value.places → open_refusal value name flags ≡ None
unfolding open_refusal
open_granted value name flags fd passes free =
    refused_late (name_checks value.files name flags) (free_check value ∷ []) (sym passes) ∙ rw (sym free) refl

-- a file that is opened for writing may be written
may_write : (exists writable : Bool) (flags : ℕ) → first_failing (file_checks exists writable flags) ≡ None → asks_to_write flags ≡ true →
    writable ≡ true
may_write exists true flags passes writes = refl
may_write exists false flags passes writes =
    let d : Check = (false, emfile) in
    let last : (asks_to_write flags && true) ≡ false = each_passes (file_checks exists false flags) 4 d passes (lit< tt) in
    (cc (rw writes at last))

-- a file that is made, and may be cut, is as it can be
made_is : (cap : ℕ) (file : GuestFile) (cut : Bool) → IsGuestFile cap file →
    IsGuestFile cap (record file { exists = true; content = if cut then [] else file.content })
made_is cap file true is =
    record { name = is.name; content = λ k d within. absurd (omega (arith, within)); most = omega arith; absent = λ gone. (cc) }
made_is cap file false is = record { name = is.name; content = is.content; most = is.most; absent = λ gone. (cc) }

-- the checks of a name are those of the entry that has it
pub entry_checked : (entries : List Entry) (number : ℕ) (old : Entry) (name : List ℕ) (flags : ℕ) →
    number < length entries → old ≡ get_or entries number old → number_of (map guest_file entries) name ≡ Some number →
    None ≡ first_failing (name_checks (map guest_file entries) name flags) → None ≡ first_failing (file_checks old.exists old.writable flags)
entry_checked entries number old name flags within is is_number passes =
    let before : get_or (map guest_file entries) number no_file ≡ guest_file old = file_of_entry entries number old within is in
    rw (is_number, before) at passes

-- what is kept once a file is opened
pub open_kept : (entries : List Entry) (places : List (Option Place)) (cap number fd : ℕ) (old new : Entry) (flags : ℕ) →
    AreKept entries places cap → number < length entries → old ≡ get_or entries number old → fd < descriptor_count →
    guest_file new ≡ opened_file (guest_file old) flags → vec_capacity new.bytes ≡ vec_capacity old.bytes →
    None ≡ first_failing (file_checks old.exists old.writable flags) →
    AreKept (set entries number new) (set places fd (Some (opened_place (Some number) flags))) cap
open_kept entries places cap number fd old new flags kept within is free file capacity passes =
    let exists : new.exists ≡ true = ap (λ (f : GuestFile). f.exists) file in
    let writable : new.writable ≡ old.writable = ap (λ (f : GuestFile). f.writable) file in
    let was : IsGuestFile cap (guest_file old) =
    rw (sym is) at (entry_holds (IsGuestFile cap) entries number old kept.files.files within) in
    let room : HasRoom cap (get_or entries number old) = kept.room number old within in
    let room_now : HasRoom cap new = λ w. rw capacity ((rw (sym is) at room) (sym writable ∙ w)) in
    let kept_file = kept_with_entry entries places cap number old new kept within is exists writable
    (rw file (made_is cap (guest_file old) (asks_to_write flags && has_flag flags 0x200) was)) room_now in
    let after = set entries number new in
    let inside : number < length (map guest_file after) = simp (length-map, length-set) (omega arith) in
    let here : get_or (map guest_file after) number no_file ≡ guest_file new =
    file_of_entry after number new (simp length-set (omega arith)) (sym (get_or-set_same entries number new new within)) in
    let place : Place = opened_place (Some number) flags in
    let fits : FitsFile place (guest_file new) =
    record { exists = exists; writable = λ w. writable ∙ may_write old.exists old.writable flags (sym passes) w } in
    kept_with_place after places cap fd (Some place) kept_file free
    (record { stream = λ none. (cc); file = inside; at = lit< tt }) (rw here fits)

-- what is left then
pub open_left : (entries : List Entry) (places : List (Option Place)) (cap number fd : ℕ) (old new : Entry) (name : List ℕ) (flags : ℕ) →
    number < length entries → old ≡ get_or entries number old → number_of (map guest_file entries) name ≡ Some number →
    Some fd ≡ lowest_free places → guest_file new ≡ opened_file (guest_file old) flags →
    value_of (set entries number new) (set places fd (Some (opened_place (Some number) flags))) cap
    ≡ opened (value_of entries places cap) name flags
open_left entries places cap number fd old new name flags within is is_number is_free file =
    let before : get_or (map guest_file entries) number no_file ≡ guest_file old = file_of_entry entries number old within is in
    rw (is_number, sym is_free, before, map-set guest_file entries number new, file) refl

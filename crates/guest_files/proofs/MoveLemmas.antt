-- What writing at an offset and moving an offset leave.
use Rattle.std.proofs.Common.{◌≡◌, ℕ, ◌+◌, ◌^◌, ◌<◌, ◌≤◌, ◌⊎◌, inl, inr, true, List, length, get_or, set, map, Option, Some, None, take, refl, ap, sym, ◌∙◌, arith}
use Rattle.std.proofs.lemmas.List.{get_or_past, map-set}
use Rattle.std.specs.Vec.{vec_capacity}
use Rattle.machine_state.specs.Memory.{AreBytes}
use Rattle.machine_state.specs.World.{GuestFile, IsGuestFile, IsPlace, descriptor_count, place_at, FitsFile, IsOpened, no_file}
use Rattle.machine_state.specs.declared.kinds.Place.{Place}
use Rattle.guest_files.specs.Content.{content_with, count_below}
use Rattle.guest_files.specs.Entries.{guest_file}
use Rattle.guest_files.specs.Kept.{AreKept, HasRoom, value_of}
use Rattle.guest_files.specs.Moves.{written_at}
use Rattle.guest_files.specs.declared.entries.Entry.{Entry}
use Rattle.guest_files.proofs.Bytes.{written_bytes, written_most}
use Rattle.guest_files.proofs.Keeping.{entry_holds, file_of_entry, if_some, if_some_at, kept_with_entry, kept_with_place}

-- a number lies below another, or it doesn't
in_order : (a b : ℕ) → (a < b) ⊎ (b ≤ a)
in_order a b = grind arith

-- a descriptor that is open has a number of the table
place_within : (places : List (Option Place)) (fd : ℕ) (place : Place) → length places ≡ descriptor_count → place_at places fd ≡ Some place →
    fd < descriptor_count
place_within places fd place len is =
    elim (in_order fd descriptor_count) as (λ _. fd < descriptor_count) [
      | inl below ↦ below
      | inr past ↦
          let none : place_at places fd ≡ None = get_or_past places fd None (omega (arith, len)) in
          let never : None ≡ Some place = sym none ∙ is in (cc)
    ]

-- an open file's place is as it can be at another offset
pub seek_kept : (entries : List Entry) (places : List (Option Place)) (cap fd : ℕ) (place : Place) (number at : ℕ) →
    AreKept entries places cap → Some place ≡ place_at places fd → Some number ≡ place.file → at < 2 ^ 63 →
    AreKept entries (set places fd (Some (record place { at = at }))) cap
seek_kept entries places cap fd place number at kept is file below =
    let moved : Place = record place { at = at } in
    let files = map guest_file entries in
    let old : IsPlace (length files) fd place = if_some_at (place_at places fd) place (IsPlace (length files) fd) is (kept.files.place fd) in
    let opened : IsOpened files place = if_some_at (place_at places fd) place (IsOpened files) is (kept.files.opened fd) in
    kept_with_place entries places cap fd (Some moved) kept (place_within places fd place kept.files.descriptors (sym is))
    (record { stream = λ none. (let never : Some number ≡ None = file ∙ none in (cc)); file = old.file; at = below })
    (if_some place.file (λ n. FitsFile place (get_or (map guest_file entries) n no_file)) (λ n. FitsFile moved (get_or (map guest_file entries) n no_file))
    (λ n fits. record { exists = fits.exists; writable = fits.writable }) opened)

-- the file that a descriptor is of fits it, and lies in the list
opened_fits : (entries : List Entry) (places : List (Option Place)) (cap fd : ℕ) (place : Place) (number : ℕ) (old : Entry) →
    AreKept entries places cap → Some place ≡ place_at places fd → Some number ≡ place.file → number < length entries →
    old ≡ get_or entries number old → FitsFile place (guest_file old)
opened_fits entries places cap fd place number old kept is file within entry =
    let files = map guest_file entries in
    let opened : IsOpened files place = if_some_at (place_at places fd) place (IsOpened files) is (kept.files.opened fd) in
    let fits = if_some_at place.file number (λ n. FitsFile place (get_or files n no_file)) file opened in
    rw (file_of_entry entries number old within entry) at fits

-- what is kept once an open file is written
pub write_kept : (entries : List Entry) (places : List (Option Place)) (cap fd : ℕ) (place : Place) (number : ℕ) (old new : Entry)
    (at : ℕ) (piece : List ℕ) →
    AreKept entries places cap → Some place ≡ place_at places fd → Some number ≡ place.file → number < length entries →
    old ≡ get_or entries number old → guest_file new ≡ record (guest_file old) { content = content_with old.bytes.items at piece } →
    vec_capacity new.bytes ≡ vec_capacity old.bytes → AreBytes piece → (0 < length piece → at + length piece ≤ cap) →
    AreKept (set entries number new) places cap
write_kept entries places cap fd place number old new at piece kept is file within entry changed capacity bytes fits =
    let opened = opened_fits entries places cap fd place number old kept is file within entry in
    let writable : new.writable ≡ old.writable = ap (λ (f : GuestFile). f.writable) changed in
    let exists : new.exists ≡ true = ap (λ (f : GuestFile). f.exists) changed ∙ opened.exists in
    let was : IsGuestFile cap (guest_file old) =
    rw (sym entry) at (entry_holds (IsGuestFile cap) entries number old kept.files.files within) in
    let room : HasRoom cap (get_or entries number old) = kept.room number old within in
    let room_now : HasRoom cap new = λ w. rw capacity ((rw (sym entry) at room) (sym writable ∙ w)) in
    let now : IsGuestFile cap (record (guest_file old) { content = content_with old.bytes.items at piece }) = record {
      name = was.name;
      content = written_bytes old.bytes.items at piece was.content bytes;
      most = written_most old.bytes.items at piece cap was.most fits;
      absent = λ gone. (let never : true ≡ old.exists = sym opened.exists in (cc));
    } in
    kept_with_entry entries places cap number old new kept within entry exists writable (rw changed now) room_now

-- what is left then
pub write_left : (entries : List Entry) (places : List (Option Place)) (cap fd : ℕ) (place : Place) (number : ℕ) (old new : Entry)
    (at : ℕ) (bytes : List ℕ) →
    Some place ≡ place_at places fd → Some number ≡ place.file → number < length entries → old ≡ get_or entries number old →
    guest_file new ≡ record (guest_file old) { content = content_with old.bytes.items at (take (count_below cap at (length bytes)) bytes) } →
    value_of (set entries number new) places cap ≡ written_at (value_of entries places cap) fd at bytes
write_left entries places cap fd place number old new at bytes is file within entry changed =
    let before : get_or (map guest_file entries) number no_file ≡ guest_file old = file_of_entry entries number old within entry in
    rw (sym is, sym file, before, map-set guest_file entries number new, changed) refl

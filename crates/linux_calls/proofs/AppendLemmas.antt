-- That a transfer is the same one in each of its parts.
use Rattle.std.proofs.Common.{◌≡◌, ℕ, ◌+◌, ◌-◌, ◌≤◌, ◌<◌, ◌==◌, ◌⊎◌, inl, inr, Bool, true, false, cond, not, List, [], ◌∷◌, ◌++◌, length}
use Rattle.std.proofs.Common.{take, drop, replicate, Option, Some, None, IsSome, is_none, IfSome, unwrap_or, refl, sym, ap, ◌∙◌, subst}
use Rattle.std.proofs.Common.{arith, length-append, length-take, length-drop}
use Rattle.std.proofs.lemmas.Bool.{cases_lt}
use Rattle.std.proofs.lemmas.List.{get_or-set_same, length-replicate, take_all}
use Rattle.std.specs.Option.{option_map}
use Rattle.machine_state.specs.World.{GuestFile, IsPlace, no_file, place_at}
use Rattle.machine_state.specs.declared.kinds.Kind.TheVariants.{Read as ReadKind}
use Rattle.machine_state.specs.declared.kinds.Place.{Place}
use Rattle.guest_pages.specs.Table.{Table}
use Rattle.guest_files.specs.Checks.{does_write, file_number}
use Rattle.guest_files.specs.Content.{content_with, count_below}
use Rattle.guest_files.specs.Files.{FilesValue, AreFiles, file_of, with_file}
use Rattle.guest_files.specs.Moves.{content_at, size_at, written_at}
use Rattle.guest_transfers.specs.Pieces.{bytes_between, pieces_bytes}
use Rattle.guest_transfers.specs.Moves.{Writes as WritesTo, Stops, blocked_access}
use Rattle.guest_transfers.specs.declared.kinds.Piece.{Piece}
use Rattle.guest_transfers.specs.declared.kinds.Stop.{Stop}
use Rattle.guest_transfers.specs.declared.kinds.Stop.TheVariants.{Whole, Away, Failed}
use Rattle.guest_transfers.proofs.Along.{length-pieces_bytes}
use Rattle.guest_transfers.proofs.FileLemmas.{written_nothing}
use Rattle.linux_calls.specs.declared.kinds.Call.{Call}
use Rattle.linux_calls.specs.declared.kinds.Call.TheVariants.{Write, Writev}
use Rattle.linux_calls.specs.declared.kinds.Transfer.{Transfer}
use Rattle.linux_calls.specs.declared.kinds.Transfer.TheVariants.{Takes, PutsOut, PutsErr, Reads, Writes, Draws}
use Rattle.linux_calls.specs.Call.{low, rax, rdi}
use Rattle.linux_calls.specs.Transfers.{read_through, reads_at, write_through, writes_at}
use Rattle.linux_calls.specs.Waiting.{IsListed, IsListedBy}
use Rattle.linux_calls.specs.Table.{call_numbered}
use Rattle.linux_calls.specs.Rest.{call_transfer, outside_calls, transfer_of}

-- a descriptor that writes is open
pub opened_some : (place : Option Place) → does_write place ≡ true → IsSome place
opened_some None e = cc
opened_some (Some place) e = refl

-- ---- the length of a file that is written at its end
length_at_end : (content : List ℕ) (at : ℕ) (bytes : List ℕ) → length content ≤ at → 0 < length bytes → length (content_with content at bytes) ≡ at + length bytes
unfolding content_with
length_at_end content at [] behind some = absurd (omega arith)
length_at_end content at (b ∷ bytes) behind some =
    let zero_byte : ℕ = 0 in
    let gap : List ℕ = replicate (at - length content) zero_byte in
    let rest : List ℕ = drop (at + length (b ∷ bytes)) content in
    let whole = length-append (take at content) (gap ++ ((b ∷ bytes) ++ rest)) in
    let one = length-append gap ((b ∷ bytes) ++ rest) in
    let two = length-append (b ∷ bytes) rest in
    let three = length-take at content in
    let four : length gap ≡ at - length content = length-replicate (at - length content) zero_byte in
    let five = length-drop (at + length (b ∷ bytes)) content in
    omega arith

sized : (n number : ℕ) (o : Option ℕ) → o ≡ Some number → unwrap_or (option_map (λ _. n) o) 0 ≡ n
sized n number None e = cc
sized n number (Some other) e = refl

module _ (files : FilesValue) (fd at : ℕ) (bytes : List ℕ) where
  abbrev piece : List ℕ
  piece = take (count_below files.cap at (length bytes)) bytes

  -- the content of a file that was written
  content_now : (number : ℕ) → file_number (place_at files.places fd) ≡ Some number → number < length files.files
      → content_at (written_at files fd at bytes) fd ≡ content_with (content_at files fd) at piece
  content_now number is within = here (file_number (place_at files.places fd)) is
    where
      now : Option ℕ → GuestFile
      now o = let old = file_of files.files o in record old { content = content_with old.content at (take (count_below files.cap at (length bytes)) bytes) }

      here : (o : Option ℕ) → o ≡ Some number
          → (file_of (with_file files.files o (let old = file_of files.files o in record old { content = content_with old.content at (take (count_below files.cap at (length bytes)) bytes) })) o).content
          ≡ content_with (file_of files.files o).content at (take (count_below files.cap at (length bytes)) bytes)
      here None e = cc
      here (Some n) e =
          let same : n ≡ number = cc in
          let old = file_of files.files (Some n) in
          let new : GuestFile = record old { content = content_with old.content at (take (count_below files.cap at (length bytes)) bytes) } in
          let lt : n < length files.files = omega arith in
          ap (λ (file : GuestFile). file.content) (get_or-set_same files.files n new no_file lt)

  pub size_now : (place : Place) → place_at files.places fd ≡ Some place → IfSome place.file (λ number. number < length files.files) → is_none place.file ≡ false
      → length (content_at files fd) ≤ at → count_below files.cap at (length bytes) ≡ length bytes → 0 < length bytes
      → unwrap_or (size_at (written_at files fd at bytes) fd) 0 ≡ at + length bytes
  size_now place is fits file behind below some = here place.file refl fits file
    where
      content_len : (number : ℕ) → file_number (place_at files.places fd) ≡ Some number → number < length files.files → length (content_at (written_at files fd at bytes) fd) ≡ at + length bytes
      content_len number there w =
          ap (λ (xs : List ℕ). length xs) (content_now number there w)
          ∙ rw (below, take_all (length bytes) bytes (omega arith)) (length_at_end (content_at files fd) at bytes behind some)

      here : (o : Option ℕ) → place.file ≡ o → IfSome o (λ number. number < length files.files) → is_none o ≡ false
          → unwrap_or (size_at (written_at files fd at bytes) fd) 0 ≡ at + length bytes
      here None e w f = cc
      here (Some number) e w f =
          let there : file_number (place_at files.places fd) ≡ Some number = ap file_number is ∙ e in
          sized (length (content_at (written_at files fd at bytes) fd)) number (file_number (place_at files.places fd)) there ∙ content_len number there w

-- ---- a write through a descriptor
writes_at_is : (fd size done : ℕ) (place : Place) (fd' at : ℕ) (moves : Bool) → writes_at fd size done place ≡ Some (Writes fd' at moves)
    → (place.writes ≡ true) × (is_none place.file ≡ false) × (fd' ≡ fd) × (at ≡ cond place.append (size - done) place.at) × (moves ≡ true)
writes_at_is fd size done place fd' at moves e = here place.writes (is_none place.file) (cond place.append (size - done) place.at) (fd == 1) (fd == 2) e
  where
    here : (writes stream : Bool) (from : ℕ) (one two : Bool)
        → cond (not writes) None (cond (not stream) (Some (Writes fd from true)) (cond one (Some PutsOut) (cond two (Some PutsErr) None))) ≡ Some (Writes fd' at moves)
        → (writes ≡ true) × (stream ≡ false) × (fd' ≡ fd) × (at ≡ from) × (moves ≡ true)
    here false stream from one two h = cc
    here true false from one two h = (refl, refl, cc, cc, cc)
    here true true from true two h = cc
    here true true from false true h = cc
    here true true from false false h = cc

-- what a write through a descriptor is once some bytes are written
write_again : (fd : ℕ) (files : FilesValue) (from : ℕ) (fd' at : ℕ) (moves : Bool) (bytes : List ℕ) → AreFiles files
    → write_through files fd from ≡ Some (Writes fd' at moves) → count_below files.cap (at + from) (length bytes) ≡ length bytes
    → write_through (written_at files fd' (at + from) bytes) fd (from + length bytes) ≡ Some (Writes fd' at moves)
unfolding write_through
write_again fd files from fd' at moves bytes are is fits = here (place_at files.places fd) refl is
  where
    none_more : (place : Place) → place_at files.places fd ≡ Some place → writes_at fd (unwrap_or (size_at files fd) 0) from place ≡ Some (Writes fd' at moves) → length bytes ≡ 0
        → writes_at fd (unwrap_or (size_at (written_at files fd' (at + from) bytes) fd) 0) (from + length bytes) place ≡ Some (Writes fd' at moves)
    none_more place there e none =
        let nothing : written_at files fd' (at + from) bytes ≡ files = written_nothing files fd' (at + from) bytes (omega (arith, none, fits)) in
        let same : from + length bytes ≡ from = omega (arith, none) in
        rw (nothing, same) e

    size_before : (place : Place) → place_at files.places fd ≡ Some place → is_none place.file ≡ false → length (content_at files fd) ≡ unwrap_or (size_at files fd) 0
    size_before place there file = by_file place.file refl file
      where
        by_file : (o : Option ℕ) → place.file ≡ o → is_none o ≡ false → length (content_at files fd) ≡ unwrap_or (size_at files fd) 0
        by_file None e f = cc
        by_file (Some number) e f = let number_is : file_number (place_at files.places fd) ≡ Some number = ap file_number there ∙ e in rw number_is refl

    offset_is : (place : Place) → place_at files.places fd ≡ Some place → is_none place.file ≡ false → at ≡ cond place.append (unwrap_or (size_at files fd) 0 - from) place.at → 0 < length bytes
        → cond place.append (unwrap_or (size_at (written_at files fd (at + from) bytes) fd) 0 - (from + length bytes)) place.at ≡ at
    offset_is place there file is_at some = by_append place.append is_at
      where
        by_append : (append : Bool) → at ≡ cond append (unwrap_or (size_at files fd) 0 - from) place.at
            → cond append (unwrap_or (size_at (written_at files fd (at + from) bytes) fd) 0 - (from + length bytes)) place.at ≡ at
        by_append false e = sym e
        by_append true e =
            let before = size_before place there file in
            let fits_place = subst (λ (o : Option Place). IfSome o (IsPlace (length files.files) fd)) there (are.place fd) in
            let now = size_now files fd (at + from) bytes place there fits_place.file file (omega arith) fits some in
            omega arith

    some_more : (place : Place) → place_at files.places fd ≡ Some place → writes_at fd (unwrap_or (size_at files fd) 0) from place ≡ Some (Writes fd' at moves) → 0 < length bytes
        → writes_at fd (unwrap_or (size_at (written_at files fd' (at + from) bytes) fd) 0) (from + length bytes) place ≡ Some (Writes fd' at moves)
    some_more place there e some =
        let is_write = writes_at_is fd (unwrap_or (size_at files fd) 0) from place fd' at moves e in
        rw (is_write.0, is_write.1, is_write.2, is_write.4) (ap (λ (n : ℕ). let t : Option Transfer = Some (Writes fd n true) in t) (offset_is place there is_write.1 is_write.3 some))

    here : (o : Option Place) → place_at files.places fd ≡ o → elim o [ None ↦ None | Some place ↦ writes_at fd (unwrap_or (size_at files fd) 0) from place ] ≡ Some (Writes fd' at moves)
        → elim o [ None ↦ None | Some place ↦ writes_at fd (unwrap_or (size_at (written_at files fd' (at + from) bytes) fd) 0) (from + length bytes) place ] ≡ Some (Writes fd' at moves)
    here None there e = cc
    here (Some place) there e = either (cases_lt 0 (length bytes))
      where
        either : (0 < length bytes) ⊎ (length bytes ≤ 0) → writes_at fd (unwrap_or (size_at (written_at files fd' (at + from) bytes) fd) 0) (from + length bytes) place ≡ Some (Writes fd' at moves)
        either (inl some) = some_more place there e some
        either (inr none) = none_more place there e (omega arith)

again : (gprs : List ℕ) (files : FilesValue) (from fd at : ℕ) (moves : Bool) (bytes : List ℕ) → AreFiles files → transfer_of gprs files from ≡ Some (Writes fd at moves)
    → count_below files.cap (at + from) (length bytes) ≡ length bytes → transfer_of gprs (written_at files fd (at + from) bytes) (from + length bytes) ≡ Some (Writes fd at moves)
unfolding transfer_of read_through
again gprs files from fd at moves bytes are is fits = here (call_numbered (rax gprs)) is
  where
    by_call : (call : Call) → call_transfer call gprs files from ≡ Some (Writes fd at moves) → call_transfer call gprs (written_at files fd (at + from) bytes) (from + length bytes) ≡ Some (Writes fd at moves)
    by_call Write e = write_again (low (rdi gprs)) files from fd at moves bytes are e fits
    by_call Writev e = write_again (low (rdi gprs)) files from fd at moves bytes are e fits
    by_call other e = e

    here : (o : Option Call) → elim o [ None ↦ None | Some call ↦ call_transfer call gprs files from ] ≡ Some (Writes fd at moves)
        → elim o [ None ↦ None | Some call ↦ call_transfer call gprs (written_at files fd (at + from) bytes) (from + length bytes) ] ≡ Some (Writes fd at moves)
    here None e = cc
    here (Some call) e = by_call call e

pub same_writes : (gprs : List ℕ) (files files' : FilesValue) (byte : ℕ → ℕ) (pieces : List Piece) (from fd at : ℕ) (moves : Bool) (stop : Stop) (table : Table) → AreFiles files
    → transfer_of gprs files from ≡ Some (Writes fd at moves) → Stops (blocked_access table) ReadKind pieces from stop → WritesTo byte pieces from files files' fd at stop
    → (done slot : ℕ) → stop ≡ Away done slot → transfer_of gprs files' done ≡ Some (Writes fd at moves)
same_writes gprs files files' byte pieces from fd at moves (Whole end) table are is stops writes done slot e = cc
same_writes gprs files files' byte pieces from fd at moves Failed table are is stops writes done slot e = cc
same_writes gprs files files' byte pieces from fd at moves (Away end at_slot) table are is stops writes done slot e =
    let same : end ≡ done = cc in
    let less = stops.1 in
    let after = stops.0 in
    let bytes : List ℕ = bytes_between byte pieces from end in
    let len : length bytes ≡ end - from = omega (arith, length-take (end - from) (drop from (pieces_bytes byte pieces)), length-drop from (pieces_bytes byte pieces), length-pieces_bytes byte pieces) in
    let fits : count_below files.cap (at + from) (length bytes) ≡ length bytes = omega (arith, writes.0) in
    let place : done ≡ from + length bytes = omega arith in
    rw (place, writes.1) (again gprs files from fd at moves bytes are is fits)

-- ---- other transfers, which don't depend on what was moved
abbrev pub IsSteady : Transfer → Type 0
IsSteady Takes = Unit {0}
IsSteady PutsOut = Unit {0}
IsSteady PutsErr = Unit {0}
IsSteady (Reads fd at moves) = Unit {0}
IsSteady (Writes fd at moves) = ⊥
IsSteady Draws = Unit {0}

steady_write : (fd size from done : ℕ) (place : Place) (transfer : Transfer) → IsSteady transfer → writes_at fd size from place ≡ Some transfer → writes_at fd size done place ≡ Some transfer
steady_write fd size from done place transfer steady e =
    here place.writes (is_none place.file) (cond place.append (size - from) place.at) (cond place.append (size - done) place.at) (fd == 1) (fd == 2) e
  where
    here : (writes stream : Bool) (at at' : ℕ) (one two : Bool)
        → cond (not writes) None (cond (not stream) (Some (Writes fd at true)) (cond one (Some PutsOut) (cond two (Some PutsErr) None))) ≡ Some transfer
        → cond (not writes) None (cond (not stream) (Some (Writes fd at' true)) (cond one (Some PutsOut) (cond two (Some PutsErr) None))) ≡ Some transfer
    here false stream at at' one two h = h
    here true false at at' one two h = absurd (let is_write : transfer ≡ Writes fd at true = cc in subst (λ (t : Transfer). IsSteady t) is_write steady)
    here true true at at' one two h = h

steady_through : (files : FilesValue) (fd from done : ℕ) (transfer : Transfer) → IsSteady transfer → write_through files fd from ≡ Some transfer → write_through files fd done ≡ Some transfer
unfolding write_through
steady_through files fd from done transfer steady e = here (place_at files.places fd) e
  where
    here : (o : Option Place) → elim o [ None ↦ None | Some place ↦ writes_at fd (unwrap_or (size_at files fd) 0) from place ] ≡ Some transfer
        → elim o [ None ↦ None | Some place ↦ writes_at fd (unwrap_or (size_at files fd) 0) done place ] ≡ Some transfer
    here None e = e
    here (Some place) e = steady_write fd (unwrap_or (size_at files fd) 0) from done place transfer steady e

pub steady : (gprs : List ℕ) (files : FilesValue) (from done : ℕ) (transfer : Transfer) → IsSteady transfer → transfer_of gprs files from ≡ Some transfer → transfer_of gprs files done ≡ Some transfer
unfolding transfer_of
steady gprs files from done transfer is_steady e = here (call_numbered (rax gprs)) e
  where
    by_call : (call : Call) → call_transfer call gprs files from ≡ Some transfer → call_transfer call gprs files done ≡ Some transfer
    by_call Write h = steady_through files (low (rdi gprs)) from done transfer is_steady h
    by_call Writev h = steady_through files (low (rdi gprs)) from done transfer is_steady h
    by_call other h = h

    here : (o : Option Call) → elim o [ None ↦ None | Some call ↦ call_transfer call gprs files from ] ≡ Some transfer → elim o [ None ↦ None | Some call ↦ call_transfer call gprs files done ] ≡ Some transfer
    here None h = h
    here (Some call) h = by_call call h

-- how much has moved doesn't change the calls on the outside that a transfer makes
write_outside : (fd size from done : ℕ) (place : Place) → outside_calls (writes_at fd size from place) ≡ outside_calls (writes_at fd size done place)
write_outside fd size from done place =
    here place.writes (is_none place.file) (cond place.append (size - from) place.at) (cond place.append (size - done) place.at) (cond (fd == 1) (Some PutsOut) (cond (fd == 2) (Some PutsErr) None))
  where
    here : (writes stream : Bool) (at at' : ℕ) (other : Option Transfer)
        → outside_calls (cond (not writes) None (cond (not stream) (Some (Writes fd at true)) other)) ≡ outside_calls (cond (not writes) None (cond (not stream) (Some (Writes fd at' true)) other))
    here false stream at at' other = refl
    here true false at at' other = refl
    here true true at at' other = refl

outside_through : (files : FilesValue) (fd from done : ℕ) → outside_calls (write_through files fd from) ≡ outside_calls (write_through files fd done)
unfolding write_through
outside_through files fd from done = here (place_at files.places fd)
  where
    here : (o : Option Place) → outside_calls (elim o [ None ↦ None | Some place ↦ writes_at fd (unwrap_or (size_at files fd) 0) from place ])
        ≡ outside_calls (elim o [ None ↦ None | Some place ↦ writes_at fd (unwrap_or (size_at files fd) 0) done place ])
    here None = refl
    here (Some place) = write_outside fd (unwrap_or (size_at files fd) 0) from done place

pub outside_steady : (gprs : List ℕ) (files : FilesValue) (from done : ℕ) → outside_calls (transfer_of gprs files from) ≡ outside_calls (transfer_of gprs files done)
unfolding transfer_of
outside_steady gprs files from done = here (call_numbered (rax gprs))
  where
    by_call : (call : Call) → outside_calls (call_transfer call gprs files from) ≡ outside_calls (call_transfer call gprs files done)
    by_call Write = outside_through files (low (rdi gprs)) from done
    by_call Writev = outside_through files (low (rdi gprs)) from done
    by_call other = refl

    here : (o : Option Call) → outside_calls (elim o [ None ↦ None | Some call ↦ call_transfer call gprs files from ])
        ≡ outside_calls (elim o [ None ↦ None | Some call ↦ call_transfer call gprs files done ])
    here None = refl
    here (Some call) = by_call call

-- a write that goes on makes no call on the outside
pub outside_writes : (gprs : List ℕ) (files files' : FilesValue) (from fd at : ℕ) (moves : Bool) (stop : Stop) → transfer_of gprs files from ≡ Some (Writes fd at moves)
    → ((done slot : ℕ) → stop ≡ Away done slot → transfer_of gprs files' done ≡ Some (Writes fd at moves)) → (done slot : ℕ) → stop ≡ Away done slot
    → outside_calls (transfer_of gprs files' 0) ≡ outside_calls (transfer_of gprs files 0)
outside_writes gprs files files' from fd at moves stop is still done slot e =
    outside_steady gprs files' 0 done ∙ ap outside_calls (still done slot e) ∙ sym (ap outside_calls is) ∙ outside_steady gprs files from 0

-- ---- the transfers through a descriptor are none of random bytes
listed_one : (o : Option Transfer) (t : Transfer) → o ≡ Some t → IsListedBy o → IsListed t
listed_one o t e h = subst (λ (x : Option Transfer). IsListedBy x) e h

reads_listed : (fd : ℕ) (place : Place) (t : Transfer) → reads_at fd place ≡ Some t → IsListed t
reads_listed fd place t e = here place.reads (is_none place.file) (fd == 0) e
  where
    here : (reads stream zero_is : Bool) → cond (not reads) None (cond (not stream) (Some (Reads fd place.at true)) (cond zero_is (Some Takes) None)) ≡ Some t → IsListed t
    here false stream z h = cc
    here true false z h = listed_one (Some (Reads fd place.at true)) t h tt
    here true true true h = listed_one (Some Takes) t h tt
    here true true false h = cc

writes_listed : (fd size done : ℕ) (place : Place) (t : Transfer) → writes_at fd size done place ≡ Some t → IsListed t
writes_listed fd size done place t e = here place.writes (is_none place.file) (cond place.append (size - done) place.at) (fd == 1) (fd == 2) e
  where
    here : (writes stream : Bool) (at : ℕ) (one two : Bool)
        → cond (not writes) None (cond (not stream) (Some (Writes fd at true)) (cond one (Some PutsOut) (cond two (Some PutsErr) None))) ≡ Some t → IsListed t
    here false stream at one two h = cc
    here true false at one two h = listed_one (Some (Writes fd at true)) t h tt
    here true true at true two h = listed_one (Some PutsOut) t h tt
    here true true at false true h = listed_one (Some PutsErr) t h tt
    here true true at false false h = cc

pub read_listed : (files : FilesValue) (fd : ℕ) (t : Transfer) → read_through files fd ≡ Some t → IsListed t
unfolding read_through
read_listed files fd t e = here (place_at files.places fd) e
  where
    here : (o : Option Place) → elim o [ None ↦ None | Some place ↦ reads_at fd place ] ≡ Some t → IsListed t
    here None h = cc
    here (Some place) h = reads_listed fd place t h

pub write_listed : (files : FilesValue) (fd done : ℕ) (t : Transfer) → write_through files fd done ≡ Some t → IsListed t
unfolding write_through
write_listed files fd done t e = here (place_at files.places fd) e
  where
    here : (o : Option Place) → elim o [ None ↦ None | Some place ↦ writes_at fd (unwrap_or (size_at files fd) 0) done place ] ≡ Some t → IsListed t
    here None h = cc
    here (Some place) h = writes_listed fd (unwrap_or (size_at files fd) 0) done place t h

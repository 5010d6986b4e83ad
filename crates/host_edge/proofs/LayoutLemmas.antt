-- How the files that lie in a buffer change with it.
use Rattle.std.proofs.Common.{◌≡◌, ℕ, ◌+◌, ◌-◌, ◌≤◌, ◌<◌, true, false, cond, suc, IsTrue, nat_le, nat_lt, ◌&&◌, List, [], ◌∷◌, ◌++◌, length, take, drop, remove, sum_by, Some, None, refl, ap, sym, ◌∙◌, arith, slice_index_or, add-one, add_assoc, append_assoc}
use Rattle.std.proofs.lemmas.List.{drop-append-le, drop_at, length-append, length-drop, length-take-le, take-append-le, take_at}
use Rattle.std.proofs.lemmas.Bool.Decides.{nat_tests}
use Rattle.std.proofs.lemmas.List.Edits.{length-remove}
use Rattle.std.proofs.lemmas.List.Sums.{sum_by-cons}
use Rattle.std.proofs.Math.Seq.{take-append-add}
use Rattle.std.specs.Str.{bytes_eq}
use Rattle.host_edge.proofs.ByteLemmas.{drop_behind}
use Rattle.host_edge.specs.Layout.{IsPlaced, entry_size, files_at}
use Rattle.host_edge.specs.NamedFiles.{NamedFile, file_in, file_size, fits_in, stored, total_size, without}
use Rattle.host_edge.specs.declared.mem_files.Entry.{Entry}
use Rattle.host_edge.specs.declared.mem_files.Place.{Place}

-- the first file takes the front of the buffer
pub files_at-cons : (entry : Entry) (entries : List Entry) (file others : List ℕ) → length file ≡ entry_size entry →
    files_at (entry ∷ entries) (file ++ others)
    ≡ record { path = take entry.path file; bytes = drop entry.path file } ∷ files_at entries others
files_at-cons entry entries file others size =
    let within : entry.path ≤ length file = omega arith in
    let len : length (drop entry.path file) ≡ entry.content = length-drop entry.path file ∙ omega arith in
    rw (
      take-append-le entry.path file others within,
      drop-append-le entry.path file others within,
      take_at (drop entry.path file) others entry.content len,
      drop_at file others (entry_size entry) size,
    ) refl

-- a cut behind a file leaves the file in front
cut_behind : (file others : List ℕ) (size at len : ℕ) → length file ≡ size →
    take (size + at) (file ++ others) ++ drop (size + at + len) (file ++ others)
    ≡ file ++ (take at others ++ drop (at + len) others)
cut_behind file others size at len is_size =
    rw (add_assoc size at len, drop_behind file others size (at + len) is_size, ← is_size, take-append-add file others at)
    (append_assoc file (take at others) (drop (at + len) others))

-- a later element is taken away as from the rest of the list
remove-cons : {X : Type 0} (x : X) (xs : List X) (i : ℕ) → remove (x ∷ xs) (i + 1) ≡ x ∷ remove xs i
remove-cons x xs i = rw add-one refl

-- a place behind a file of another path
pub places_behind : (entry : Entry) (entries : List Entry) (file others path : List ℕ) (place : Place) →
    length file ≡ entry_size entry → bytes_eq (take entry.path file) path ≡ false → IsPlaced entries others path place →
    IsPlaced (entry ∷ entries) (file ++ others) path
    (record { index = place.index + 1; at = entry_size entry + place.at; entry = place.entry })
places_behind entry entries file others path place size other placed =
    let named : NamedFile = record { path = take entry.path file; bytes = drop entry.path file } in
    let first = files_at-cons entry entries file others size in
    let kept : file_in (named ∷ files_at entries others) path ≡ file_in (files_at entries others) path = rw other refl in
    let stays : without path (named ∷ files_at entries others) ≡ named ∷ without path (files_at entries others) = rw other refl in
    record {
      index = omega (arith, placed.index);
      inside = omega (arith, placed.inside, length-append file others);
      sizes = rw (remove-cons entry entries place.index)
          (omega (arith, placed.sizes, sum_by-cons entry_size entry entries, sum_by-cons entry_size entry (remove entries place.index)));
      content = ap (λ files. file_in files path) first ∙ kept ∙ placed.content
          ∙ rw (add_assoc (entry_size entry) place.at place.entry.path, drop_behind file others (entry_size entry) (place.at + place.entry.path) size) refl;
      others = rw (remove-cons entry entries place.index, cut_behind file others (entry_size entry) place.at (entry_size place.entry) size)
          (files_at-cons entry (remove entries place.index) file _ size ∙ ap (λ files. named ∷ files) placed.others
          ∙ sym stays ∙ sym (ap (without path) first));
    }

-- a place in the rest of the entries is one behind the first of them
pub places_in_rest : (entries rest : List Entry) (none : Entry) (buffer file others path : List ℕ) (place : Place) →
    0 < length entries → rest ≡ drop 1 entries → buffer ≡ file ++ others →
    length file ≡ entry_size (slice_index_or entries 0 none) →
    bytes_eq (take (slice_index_or entries 0 none).path file) path ≡ false → IsPlaced rest others path place →
    IsPlaced entries buffer path
    (record { index = place.index + 1; at = entry_size (slice_index_or entries 0 none) + place.at; entry = place.entry })
places_in_rest [] rest none buffer file others path place some rest_is buffer_is size other placed = absurd (omega arith)
places_in_rest (entry ∷ entries) rest none buffer file others path place some rest_is buffer_is size other placed =
    rw buffer_is (places_behind entry entries file others path place size other (rw rest_is at placed))

-- the files have as many bytes as their entries say
pub total_size-files_at : (entries : List Entry) (buffer : List ℕ) → sum_by entry_size entries ≤ length buffer →
    total_size (files_at entries buffer) ≡ sum_by entry_size entries
total_size-files_at [] buffer within = refl
total_size-files_at (entry ∷ entries) buffer within =
    let whole = sum_by-cons entry_size entry entries in
    let rest = drop (entry_size entry) buffer in
    let path_len : length (take entry.path buffer) ≡ entry.path = length-take-le entry.path buffer (omega arith) in
    let content_len : length (take entry.content (drop entry.path buffer)) ≡ entry.content =
    length-take-le entry.content (drop entry.path buffer) (omega (arith, length-drop entry.path buffer)) in
    let others = total_size-files_at entries rest (omega (arith, length-drop (entry_size entry) buffer)) in
    rw (sum_by-cons file_size (record { path = take entry.path buffer; bytes = take entry.content (drop entry.path buffer) }) (files_at entries rest), path_len, content_len, others)
    (sym whole)

-- there are as many files as entries
pub length-files_at : (entries : List Entry) (buffer : List ℕ) → length (files_at entries buffer) ≡ length entries
length-files_at [] buffer = refl
length-files_at (entry ∷ entries) buffer = ap suc (length-files_at entries (drop (entry_size entry) buffer))

-- what a file that fits finds free
pub room_for : (entries : List Entry) (held : List ℕ) (start room : ℕ) (file : NamedFile) →
    start + sum_by entry_size entries ≡ room → sum_by entry_size entries ≤ length held →
    IsTrue (fits_in room (file ∷ files_at entries held)) → (file_size file ≤ start) × (length entries < 64)
room_for entries held start room file is_room within fits =
    let total = sum_by-cons file_size file (files_at entries held) in
    let size = total_size-files_at entries held within in
    let count = length-files_at entries held in
    grind (arith, nat_tests)

-- the bytes of a file that is written in front of the others
pub file_in_front : (buffer between after path content : List ℕ) (start middle low : ℕ) →
    middle + length content ≡ start → low + length path ≡ middle → start ≤ length buffer →
    between ≡ take middle buffer ++ (content ++ drop (middle + length content) buffer) →
    after ≡ take low between ++ (path ++ drop (low + length path) between) →
    drop low after ≡ (path ++ content) ++ drop start buffer
file_in_front buffer between after path content start middle low is_start is_middle fits is_between is_after =
    let first : length (take middle buffer) ≡ middle = length-take-le middle buffer (omega arith) in
    let behind : drop middle between ≡ content ++ drop start buffer =
    rw (is_between, drop_at (take middle buffer) (content ++ drop (middle + length content) buffer) middle first, is_start) refl in
    let len : length between ≡ middle + length (content ++ drop (middle + length content) buffer) =
    ap length is_between ∙ length-append (take middle buffer) _ ∙ ap (λ n. n + length (content ++ drop (middle + length content) buffer)) first in
    let second : length (take low between) ≡ low = length-take-le low between (omega arith) in
    rw (is_after, drop_at (take low between) (path ++ drop (low + length path) between) low second, is_middle, behind)
    (sym (append_assoc path content (drop start buffer)))

-- the files stay where none has the path that is taken away
pub without_none : (files : List NamedFile) (path : List ℕ) → file_in files path ≡ None → without path files ≡ files
without_none [] path none = refl
without_none (file ∷ files) path none =
    elim (bytes_eq file.path path) as (λ b. cond b (Some file.bytes) (file_in files path) ≡ None
    → cond b files (file ∷ without path files) ≡ file ∷ files)
    [ true ↦ (λ some. absurd (cc)) | false ↦ (λ h. ap (λ fs. file ∷ fs) (without_none files path h)) ] none

-- whether files fit goes by their size and their number
fits_by : (room total count : ℕ) (files : List NamedFile) → total_size files ≡ total → length files ≡ count →
    fits_in room files ≡ (nat_le total room && nat_le count 64)
fits_by room total count files is_total is_count =
    ap (λ n. nat_le n room && nat_le (length files) 64) is_total ∙ ap (λ n. nat_le total room && nat_le n 64) is_count

-- a file fits in place of one of its path where the bytes of that one and the free ones are enough
pub fits_in_place : (entries : List Entry) (held path content : List ℕ) (start room : ℕ) (place : Place) →
    start + sum_by entry_size entries ≡ room → sum_by entry_size entries ≤ length held → length entries ≤ 64 →
    IsPlaced entries held path place →
    fits_in room (stored (files_at entries held) path content)
    ≡ nat_le (length path + length content) (start + place.entry.path + place.entry.content)
fits_in_place entries held path content start room place is_room within few placed =
    let rest = remove entries place.index in
    let front = take place.at held in
    let back = drop (place.at + entry_size place.entry) held in
    let front_len : length front ≡ place.at = length-take-le place.at held (omega (arith, placed.inside)) in
    let back_len : length back ≡ length held - (place.at + entry_size place.entry) = length-drop (place.at + entry_size place.entry) held in
    let left : sum_by entry_size rest ≤ length (front ++ back) =
    omega (arith, placed.sizes, placed.inside, front_len, back_len, length-append front back) in
    let total : total_size (stored (files_at entries held) path content) ≡ length path + length content + sum_by entry_size rest =
    sum_by-cons file_size (record { path = path; bytes = content }) (without path (files_at entries held))
    ∙ ap (λ files. length path + length content + total_size files) (sym placed.others)
    ∙ ap (λ n. length path + length content + n) (total_size-files_at rest (front ++ back) left) in
    let count : length (stored (files_at entries held) path content) ≡ suc (length rest) =
    ap (λ files. suc (length files)) (sym placed.others) ∙ ap suc (length-files_at rest (front ++ back)) in
    fits_by room _ _ (stored (files_at entries held) path content) total count ∙ grind (arith, nat_tests, placed.sizes, length-remove entries place.index placed.index)

-- a file of another path fits where there is an entry for it and the free bytes are enough
pub fits_as_new : (entries : List Entry) (held path content : List ℕ) (start room : ℕ) →
    start + sum_by entry_size entries ≡ room → sum_by entry_size entries ≤ length held →
    file_in (files_at entries held) path ≡ None →
    fits_in room (stored (files_at entries held) path content)
    ≡ (nat_lt (length entries) 64 && nat_le (length path + length content) start)
fits_as_new entries held path content start room is_room within none =
    let stay = without_none (files_at entries held) path none in
    let total : total_size (stored (files_at entries held) path content) ≡ length path + length content + sum_by entry_size entries =
    sum_by-cons file_size (record { path = path; bytes = content }) (without path (files_at entries held))
    ∙ ap (λ files. length path + length content + total_size files) stay
    ∙ ap (λ n. length path + length content + n) (total_size-files_at entries held within) in
    let count : length (stored (files_at entries held) path content) ≡ suc (length entries) =
    ap (λ files. suc (length files)) stay ∙ ap suc (length-files_at entries held) in
    fits_by room _ _ (stored (files_at entries held) path content) total count ∙ grind (arith, nat_tests)

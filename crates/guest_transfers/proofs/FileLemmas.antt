-- Lemmas on files that are read and written part by part.
use Rattle.std.proofs.Common.{◌≡◌, ℕ, ◌+◌, ◌-◌, ◌≤◌, ◌<◌, ◌^◌, List, [], ◌∷◌, ◌++◌, Option, Some, None, Ok, Err, refl, sym, ap, ◌∙◌, ⊎_elim, arith, take, drop, replicate, length, get_or, set, append_assoc, append-nil, add-zero}
use Rattle.std.proofs.lemmas.Bool.{cases_lt, lt-leb, ne_eqb, lt-ltb, le-ltb}
use Rattle.std.proofs.lemmas.List.{take_all, drop_all, drop-drop, take-take, set-set, set_past, set-get_or, get_or-set_same, get_or_past, length-append, length-take, length-replicate, length-take-le}
use Rattle.std.proofs.Math.Seq.{take-add, take-append-add, take-append_seam, drop-append-add, take-length}
use Rattle.machine_state.specs.World.{GuestFile, no_file, place_at}
use Rattle.guest_files.specs.Checks.{answer_of, file_number}
use Rattle.guest_files.specs.Content.{content_with, count_below}
use Rattle.guest_files.specs.Files.{AreFiles, FilesValue, file_of, with_file}
use Rattle.guest_files.specs.Moves.{content_at, offset_end, read_piece, read_refusal, write_refusal, written_at}
use Rattle.guest_files.specs.declared.errno.Errno.{Errno}
use Rattle.guest_files.proofs.Bytes.{none_written}
use Rattle.guest_transfers.specs.Moves.{ReadsFile, WritesFile}

-- a call that isn't refused
pub never_refused : {T : Type 0} (o : Option Errno) (value : T) (errno : Errno) → o ≡ None → Err errno ≡ answer_of o value → ⊥
never_refused o value errno none answer = no_error (answer ∙ ap (λ (p : Option Errno). answer_of p value) none)
  where
    no_error : Err errno ≡ Ok value → ⊥
    no_error h = cc

-- no content passes the cap
pub content_short : (files : FilesValue) (fd : ℕ) → AreFiles files → length (content_at files fd) ≤ files.cap
content_short files fd are = of (file_number (place_at files.places fd))
  where
    of : (number : Option ℕ) → length (file_of files.files number).content ≤ files.cap
    of None = omega arith
    of (Some number) = ⊎_elim
        (λ (inside : number < length files.files). (are.files number no_file inside).most)
        (λ (past : length files.files ≤ number). rw (get_or_past files.files number no_file past) (omega arith))
        (cases_lt number (length files.files))

-- nothing is read behind the cap
pub none_behind : (files : FilesValue) (fd at most : ℕ) → AreFiles files → files.cap ≤ at → read_piece files fd at most ≡ []
none_behind files fd at most are past =
    let short = content_short files fd are in
    rw (drop_all at (content_at files fd) (omega (arith, short))) (take_all most [] (omega arith))

pub read_passes : (files : FilesValue) (fd at : ℕ) → ReadsFile files fd → at < 2 ^ 63 → read_refusal files fd at ≡ None
unfolding read_refusal
read_passes files fd at file low = rw (file.reads, file.file, lt-leb offset_end at low) refl

pub write_passes : (files : FilesValue) (fd at count : ℕ) → WritesFile files fd → at < 2 ^ 63 → at < files.cap → write_refusal files fd at count ≡ None
unfolding write_refusal
write_passes files fd at count file low room = ⊎_elim
    (λ (some : 0 < count). rw (file.writes, file.file, lt-leb offset_end at low, lt-ltb 0 count some, ne_eqb (count_below files.cap at count) 0 (λ e. absurd (omega (arith, e)))) refl)
    (λ (none : count ≤ 0). rw (file.writes, file.file, lt-leb offset_end at low, le-ltb 0 count none) refl)
    (cases_lt 0 count)

-- ---- reading
take_short : (n : ℕ) (xs : List ℕ) → take (length (take n xs)) xs ≡ take n xs
take_short n xs = ⊎_elim
    (λ (h : length xs < n). rw (take_all n xs (omega arith)) (take-length xs))
    (λ (h : n ≤ length xs). rw (length-take-le n xs h) refl)
    (cases_lt (length xs) n)

pub piece_short : (files : FilesValue) (fd at most : ℕ) → length (read_piece files fd at most) ≤ most
piece_short files fd at most = omega (arith, length-take most (drop at (content_at files fd)))

-- what is read, and what is read behind it
pub piece-append : (files : FilesValue) (fd at count more : ℕ) → read_piece files fd at (count + more) ≡ read_piece files fd at count ++ read_piece files fd (at + count) more
piece-append files fd at count more =
    take-add count more (drop at (content_at files fd))
    ∙ ap (λ (xs : List ℕ). take count (drop at (content_at files fd)) ++ take more xs) (drop-drop count at (content_at files fd))

-- no less is read where more is asked for
pub piece_longer : (files : FilesValue) (fd at n most : ℕ) → n ≤ most → length (read_piece files fd at n) ≤ length (read_piece files fd at most)
piece_longer files fd at n most le =
    let split : most ≡ n + (most - n) = omega arith in
    let len : length (read_piece files fd at most) ≡ length (read_piece files fd at n) + length (read_piece files fd (at + n) (most - n)) =
    ap (λ (m : ℕ). length (read_piece files fd at m)) split ∙ ap (λ (xs : List ℕ). length xs) (piece-append files fd at n (most - n))
    ∙ length-append (read_piece files fd at n) (read_piece files fd (at + n) (most - n)) in
    omega (arith, len)

-- what was read, and what is read from there on
pub read_on : (files : FilesValue) (fd at from done n : ℕ) → from ≤ done
    → read_piece files fd (at + from) (done - from) ++ read_piece files fd (at + done) n
    ≡ read_piece files fd (at + from) (done + length (read_piece files fd (at + done) n) - from)
read_on files fd at from done n after =
    let came = length (read_piece files fd (at + done) n) in
    let split : done + came - from ≡ done - from + came = omega arith in
    let place : at + from + (done - from) ≡ at + done = omega arith in
    ap (λ (xs : List ℕ). read_piece files fd (at + from) (done - from) ++ xs) (sym (take_short n (drop (at + done) (content_at files fd))))
    ∙ ap (λ (k : ℕ). read_piece files fd (at + from) (done - from) ++ read_piece files fd k came) (sym place)
    ∙ sym (piece-append files fd (at + from) (done - from) came)
    ∙ ap (read_piece files fd (at + from)) (sym split)

nothing_left : (xs : List ℕ) (n : ℕ) → 0 < n → length (take n xs) ≡ 0 → xs ≡ []
nothing_left [] n some none = refl
nothing_left (x ∷ xs) n some none = absurd (let count = length-take n (x ∷ xs) in omega (arith, count, none))

-- where nothing is left to read, all was read
pub read_ended : (files : FilesValue) (fd at from done n asked : ℕ) → from ≤ done → done ≤ asked → 0 < n → length (read_piece files fd (at + done) n) ≡ 0
    → read_piece files fd (at + from) (asked - from) ≡ read_piece files fd (at + from) (done - from)
read_ended files fd at from done n asked after within some none =
    let split : asked - from ≡ done - from + (asked - done) = omega arith in
    let place : at + from + (done - from) ≡ at + done = omega arith in
    let empty : read_piece files fd (at + from + (done - from)) (asked - done) ≡ [] =
    rw (place, nothing_left (drop (at + done) (content_at files fd)) n some none) (take_all (asked - done) [] (omega arith)) in
    ap (read_piece files fd (at + from)) split
    ∙ piece-append files fd (at + from) (done - from) (asked - done)
    ∙ rw empty (append-nil (read_piece files fd (at + from) (done - from)))

-- ---- writing
-- what stands before bytes that are written at an offset
abbrev front : List ℕ → ℕ → List ℕ
front content at = take at content ++ replicate (at - length content) 0

length-front : (content : List ℕ) (at : ℕ) → length (front content at) ≡ at
length-front content at =
    length-append (take at content) (replicate (at - length content) 0)
    ∙ rw (length-take at content, zeros (at - length content)) (omega arith)
  where
    zeros : (n : ℕ) → length (replicate {A = ℕ} n 0) ≡ n
    zeros n = length-replicate n 0

content_is : (content : List ℕ) (at : ℕ) (bytes : List ℕ) → 0 < length bytes
    → content_with content at bytes ≡ front content at ++ (bytes ++ drop (at + length bytes) content)
unfolding content_with
content_is content at [] some = absurd (omega arith)
content_is content at (byte ∷ bytes) some = sym (append_assoc (take at content) (replicate (at - length content) 0) (byte ∷ bytes ++ drop (at + length (byte ∷ bytes)) content))

joined_is : (content : List ℕ) (at : ℕ) (xs ys : List ℕ) → 0 < length xs → 0 < length ys
    → content_with (content_with content at xs) (at + length xs) ys ≡ content_with content at (xs ++ ys)
joined_is content at xs ys some more =
    let before = front content at ++ xs in
    let behind = drop (at + length xs) content in
    let whole : content_with content at xs ≡ before ++ behind = content_is content at xs some ∙ sym (append_assoc (front content at) xs behind) in
    let count : length before ≡ at + length xs = length-append (front content at) xs ∙ rw (length-front content at) refl in
    let long : at + length xs - length (before ++ behind) ≡ 0 = (let sum = length-append before behind in omega (arith, sum, count)) in
    let first : take (at + length xs) (before ++ behind) ≡ before = ap (λ (k : ℕ). take k (before ++ behind)) (sym count) ∙ take-append_seam before behind in
    let last : drop (at + length xs + length ys) (before ++ behind) ≡ drop (at + length (xs ++ ys)) content =
    (let split : at + length xs + length ys ≡ length before + length ys = rw count refl in
    let total : at + length xs + length ys ≡ at + length (xs ++ ys) = (let sum = length-append xs ys in omega (arith, sum)) in
    ap (λ (k : ℕ). drop k (before ++ behind)) split ∙ drop-append-add before behind (length ys) ∙ drop-drop (length ys) (at + length xs) content ∙ ap (λ (k : ℕ). drop k content) total) in
    let both : 0 < length (xs ++ ys) = (let sum = length-append xs ys in omega (arith, sum)) in
    ap (λ (c : List ℕ). content_with c (at + length xs) ys) whole
    ∙ content_is (before ++ behind) (at + length xs) ys more
    ∙ rw (first, long, last, append-nil before)
    (append_assoc (front content at) xs (ys ++ drop (at + length (xs ++ ys)) content)
    ∙ ap (λ (zs : List ℕ). front content at ++ zs) (sym (append_assoc xs ys (drop (at + length (xs ++ ys)) content)))
    ∙ sym (content_is content at (xs ++ ys) both))

-- bytes that are written, and others behind them, are all written at once
pub content-append : (content : List ℕ) (at : ℕ) (xs ys : List ℕ) → content_with (content_with content at xs) (at + length xs) ys ≡ content_with content at (xs ++ ys)
content-append content at [] ys = rw (none_written content at [] refl, add-zero at) refl
content-append content at (x ∷ xs) [] = rw append-nil (none_written (content_with content at (x ∷ xs)) (at + length (x ∷ xs)) [] refl)
content-append content at (x ∷ xs) (y ∷ ys) = joined_is content at (x ∷ xs) (y ∷ ys) (omega arith) (omega arith)

-- of a write only what lies below the cap counts
pub written_front : (files : FilesValue) (fd at n : ℕ) (bytes : List ℕ) → count_below files.cap at (length bytes) ≤ n
    → written_at files fd at (take n bytes) ≡ written_at files fd at bytes
written_front files fd at n bytes le =
    let same : take (count_below files.cap at (length (take n bytes))) (take n bytes) ≡ take (count_below files.cap at (length bytes)) bytes =
    (let count : count_below files.cap at (length (take n bytes)) ≡ count_below files.cap at (length bytes) = (let len = length-take n bytes in omega (arith, len, le)) in
    rw count (take-take (count_below files.cap at (length bytes)) n bytes le)) in
    rw same refl

-- files of which one is written at an offset
abbrev put : List GuestFile → Option ℕ → ℕ → List ℕ → List GuestFile
put files number at bytes = with_file files number (record (file_of files number) { content = content_with (file_of files number).content at bytes })

put-append : (files : List GuestFile) (number : Option ℕ) (at : ℕ) (xs ys : List ℕ) → put (put files number at xs) number (at + length xs) ys ≡ put files number at (xs ++ ys)
put-append files None at xs ys = refl
put-append files (Some number) at xs ys = ⊎_elim
    (λ (inside : number < length files).
    let file : GuestFile = get_or files number no_file in
    let first : GuestFile = record file { content = content_with file.content at xs } in
    let there : get_or (set files number first) number no_file ≡ first = get_or-set_same files number first no_file inside in
    rw (there, set-set files number first (record first { content = content_with first.content (at + length xs) ys }), content-append file.content at xs ys) refl)
    (λ (past : length files ≤ number).
    let same : (file : GuestFile) → set files number file ≡ files = λ file. set_past files number file past in
    rw (
      same (record (get_or files number no_file) { content = content_with (get_or files number no_file).content at xs }),
      same (record (get_or files number no_file) { content = content_with (get_or files number no_file).content (at + length xs) ys }),
      same (record (get_or files number no_file) { content = content_with (get_or files number no_file).content at (xs ++ ys) }),
    ) refl)
    (cases_lt number (length files))

pub written_at-append : (files : FilesValue) (fd at : ℕ) (xs ys : List ℕ) → count_below files.cap at (length xs) ≡ length xs
    → written_at (written_at files fd at xs) fd (at + length xs) ys ≡ written_at files fd at (xs ++ ys)
written_at-append files fd at xs ys fits =
    let number = file_number (place_at files.places fd) in
    let last : List ℕ = take (count_below files.cap (at + length xs) (length ys)) ys in
    let all : take (count_below files.cap at (length xs)) xs ≡ xs = rw fits (take-length xs) in
    let both : take (count_below files.cap at (length (xs ++ ys))) (xs ++ ys) ≡ xs ++ last =
    (let count : count_below files.cap at (length (xs ++ ys)) ≡ length xs + count_below files.cap (at + length xs) (length ys) =
    (let sum = length-append xs ys in omega (arith, sum, fits)) in
    rw count (take-append-add xs ys (count_below files.cap (at + length xs) (length ys)))) in
    let here : List GuestFile → FilesValue = λ list. record files { files = list } in
    ap (λ (zs : List ℕ). here (put (put files.files number at zs) number (at + length xs) last)) all
    ∙ ap here (put-append files.files number at xs last)
    ∙ ap (λ (zs : List ℕ). here (put files.files number at zs)) (sym both)

-- a write of nothing changes nothing
pub written_nothing : (files : FilesValue) (fd at : ℕ) (bytes : List ℕ) → count_below files.cap at (length bytes) ≡ 0 → written_at files fd at bytes ≡ files
written_nothing files fd at bytes none =
    let empty : take (count_below files.cap at (length bytes)) bytes ≡ [] = rw none refl in
    ap (λ (zs : List ℕ). record files { files = put files.files (file_number (place_at files.places fd)) at zs }) empty
    ∙ ap (λ (list : List GuestFile). record files { files = list }) (same (file_number (place_at files.places fd)))
  where
    same : (number : Option ℕ) → put files.files number at [] ≡ files.files
    same None = refl
    same (Some number) = rw (none_written (get_or files.files number no_file).content at [] refl) (set-get_or files.files number no_file)

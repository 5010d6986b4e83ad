-- Reading and writing at an offset, and moving the offset (Linux, pread(2), pwrite(2), lseek(2); the choice of errors is this
-- program's own).
use Rattle.std.specs.Prelude.{ℕ, ◌^◌, ◌==◌, ℤ, pos, negsuc, ◌+ℤ◌, not, ◌&&◌, List, [], ◌∷◌, length, take, Option, Some, None, option_and_then, option_map, if◌then◌else◌, is_none, unwrap_or, slice_set, nat_le, nat_lt}
use Rattle.machine_state.specs.World.{place_at}
use Rattle.machine_state.specs.declared.kinds.Place.{Place}
use Rattle.guest_files.specs.Checks.{does_read, does_write, file_number, first_failing, is_stream}
use Rattle.guest_files.specs.Content.{content_with, count_below, piece_of}
use Rattle.guest_files.specs.Errnos.{ebadf, einval, enospc, espipe}
use Rattle.guest_files.specs.Files.{FilesValue, file_of, with_file}
use Rattle.guest_files.specs.declared.errno.Errno.{Errno}

-- offsets lie below this (off_t of Linux, without a sign)
abbrev pub offset_end : ℕ
offset_end = 2 ^ 63

-- the bytes of the file that a descriptor is of
abbrev pub content_at : FilesValue → ℕ → List ℕ
content_at value fd = (file_of value.files (file_number (place_at value.places fd))).content

-- the length of that file
abbrev pub size_at : FilesValue → ℕ → Option ℕ
size_at value fd = option_map (λ _. length (content_at value fd)) (file_number (place_at value.places fd))

-- why nothing is read at an offset
unfoldable pub read_refusal : FilesValue → (fd at : ℕ) → Option Errno
read_refusal value fd at =
    let place = place_at value.places fd in
    first_failing ((not (does_read place), ebadf) ∷ (is_stream place, espipe) ∷ (nat_le offset_end at, einval) ∷ [])

-- what is read
abbrev pub read_piece : FilesValue → (fd at most : ℕ) → List ℕ
read_piece value fd at most = piece_of (content_at value fd) at most

-- why nothing is written at an offset: the last check fails where none of some bytes lies below the cap
unfoldable pub write_refusal : FilesValue → (fd at count : ℕ) → Option Errno
write_refusal value fd at count =
    let place = place_at value.places fd in
    first_failing (
    (not (does_write place), ebadf)
    ∷ (is_stream place, espipe)
    ∷ (nat_le offset_end at, einval)
    ∷ (nat_lt 0 count && count_below value.cap at count == 0, enospc)
    ∷ []
    )

-- what a write leaves: the bytes that lie below the cap are written
abbrev pub written_at : FilesValue → (fd at : ℕ) → List ℕ → FilesValue
written_at value fd at bytes =
    let number = file_number (place_at value.places fd) in
    let file = file_of value.files number in
    let piece = take (count_below value.cap at (length bytes)) bytes in
    record value { files = with_file value.files number (record file { content = content_with file.content at piece }) }

-- from where a move counts: SEEK_SET 0 the start, SEEK_CUR 1 the offset, SEEK_END 2 the end
abbrev pub base_of : (whence at size : ℕ) → Option ℕ
base_of whence at size =
    if whence == 0 then Some 0 else (if whence == 1 then Some at else (if whence == 2 then Some size else None))

-- a number as an offset, if it is one
abbrev pub offset_of : ℤ → Option ℕ
offset_of (pos number) = if nat_lt number offset_end then Some number else None
offset_of (negsuc number) = None

-- the offset of a descriptor
abbrev pub offset_at : Option Place → ℕ
offset_at None = 0
offset_at (Some place) = place.at

-- from where a move of a descriptor counts, and where it leads
abbrev pub base_at : FilesValue → (fd whence : ℕ) → Option ℕ
base_at value fd whence = base_of whence (offset_at (place_at value.places fd)) (length (content_at value fd))

abbrev pub target_of : FilesValue → ℕ → ℤ → ℕ → Option ℕ
target_of value fd to whence = option_and_then (λ base. offset_of (pos base +ℤ to)) (base_at value fd whence)

-- why an offset isn't moved
unfoldable pub seek_refusal : FilesValue → ℕ → ℤ → ℕ → Option Errno
seek_refusal value fd to whence =
    let place = place_at value.places fd in
    first_failing (
    (is_none place, ebadf)
    ∷ (is_stream place, espipe)
    ∷ (is_none (base_at value fd whence), einval)
    ∷ (is_none (target_of value fd to whence), einval)
    ∷ []
    )

-- the offset that a move leads to
abbrev pub offset_after : FilesValue → ℕ → ℤ → ℕ → ℕ
offset_after value fd to whence = unwrap_or (target_of value fd to whence) 0

-- a place at another offset
abbrev pub place_moved : Option Place → ℕ → Option Place
place_moved None at = None
place_moved (Some place) at = Some (record place { at = at })

-- what a move to an offset leaves
abbrev pub moved_to : FilesValue → (fd at : ℕ) → FilesValue
moved_to value fd at = record value { places = slice_set value.places fd (place_moved (place_at value.places fd) at) }

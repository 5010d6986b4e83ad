-- Opening a file and closing a descriptor (Linux, open(2) and close(2), in part; the choice of errors is this program's own).
use Rattle.std.specs.Prelude.{ℕ, ◌%◌, ◌==◌, Bool, true, not, ◌&&◌, ◌||◌, List, [], ◌∷◌, ◌++◌, Option, Some, None, if◌then◌else◌, is_none, unwrap_or, slice_set}
use Rattle.std.specs.Int.RustNames.{bit_and}
use Rattle.std.specs.List.{position}
use Rattle.std.specs.Str.{bytes_eq}
use Rattle.machine_state.specs.World.{GuestFile, place_at}
use Rattle.machine_state.specs.declared.kinds.Place.{Place}
use Rattle.guest_files.specs.Checks.{Check, first_failing}
use Rattle.guest_files.specs.Errnos.{eacces, ebadf, eexist, einval, emfile, enoent, erofs}
use Rattle.guest_files.specs.Files.{FilesValue, file_of, with_file}
use Rattle.guest_files.specs.declared.errno.Errno.{Errno}

-- the access that flags ask for: O_RDONLY 0, O_WRONLY 1, O_RDWR 2
abbrev pub access_of : ℕ → ℕ
access_of flags = flags % 4

abbrev pub asks_to_read : ℕ → Bool
asks_to_read flags = access_of flags == 0 || access_of flags == 2

abbrev pub asks_to_write : ℕ → Bool
asks_to_write flags = access_of flags == 1 || access_of flags == 2

-- whether flags have one of them: O_CREAT 40H, O_EXCL 80H, O_TRUNC 200H, O_APPEND 400H
abbrev pub has_flag : ℕ → ℕ → Bool
has_flag flags one = bit_and flags one == one

-- the number of the first file with a name
unfoldable pub number_of : List GuestFile → List ℕ → Option ℕ
number_of files name = position (λ file. bytes_eq file.name name) files

-- the lowest number of a descriptor that isn't open
unfoldable pub lowest_free : List (Option Place) → Option ℕ
lowest_free places = position (λ place. is_none place) places

-- what is checked of a file that is to be opened; a name that isn't a file's is as one of a file that neither exists nor
-- may be written
abbrev pub file_checks : (exists writable : Bool) → ℕ → List Check
file_checks exists writable flags =
    (access_of flags == 3, einval)
    ∷ (not exists && not (has_flag flags 0x40), enoent)
    ∷ (not exists && not writable, eacces)
    ∷ (exists && has_flag flags 0x40 && has_flag flags 0x80, eexist)
    ∷ (asks_to_write flags && not writable, erofs)
    ∷ []

-- the checks of the file with a name
abbrev pub name_checks : List GuestFile → List ℕ → ℕ → List Check
name_checks files name flags =
    let file = file_of files (number_of files name) in
    file_checks file.exists file.writable flags

-- why nothing is opened; the last check is that a descriptor is free
unfoldable pub open_refusal : FilesValue → List ℕ → ℕ → Option Errno
open_refusal value name flags =
    first_failing (name_checks value.files name flags ++ (is_none (lowest_free value.places), emfile) ∷ [])

-- the descriptor that is opened, and what it stands for
abbrev pub opened_number : FilesValue → ℕ
opened_number value = unwrap_or (lowest_free value.places) 0

abbrev pub opened_place : Option ℕ → ℕ → Place
opened_place file flags =
    record { file = file; at = 0; reads = asks_to_read flags; writes = asks_to_write flags; append = has_flag flags 0x400 }

-- the file exists then, and is empty where it is to be cut and written
abbrev pub opened_file : GuestFile → ℕ → GuestFile
opened_file file flags =
    record file { exists = true; content = if asks_to_write flags && has_flag flags 0x200 then [] else file.content }

-- what an open leaves
abbrev pub opened : FilesValue → List ℕ → ℕ → FilesValue
opened value name flags =
    let number = number_of value.files name in
    record value {
      files = with_file value.files number (opened_file (file_of value.files number) flags);
      places = slice_set value.places (opened_number value) (Some (opened_place number flags));
    }

-- why a descriptor isn't closed
unfoldable pub close_refusal : FilesValue → ℕ → Option Errno
close_refusal value fd = first_failing ((is_none (place_at value.places fd), ebadf) ∷ [])

-- what a close leaves
abbrev pub closed : FilesValue → ℕ → FilesValue
closed value fd = record value { places = slice_set value.places fd None }

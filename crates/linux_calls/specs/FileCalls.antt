-- The calls on descriptors that move no bytes of a file (Linux, open(2), close(2), lseek(2), ioctl(2), in part).
use Rattle.std.specs.Prelude.{ℕ, ◌-◌, ◌^◌, ◌==◌, Bool, not, ◌&&◌, List, [], ◌∷◌, slice_index, is_none}
use Rattle.std.specs.Int.{w64, cast_signed}
use Rattle.machine_state.specs.World.{World, place_at}
use Rattle.guest_files.specs.Checks.{first_failing}
use Rattle.guest_files.specs.Errnos.{ebadf}
use Rattle.guest_files.specs.Moves.{seek_refusal, offset_after, moved_to}
use Rattle.guest_files.specs.Open.{close_refusal, closed, open_refusal, opened, opened_number}
use Rattle.guest_transfers.specs.Paths.{Path, Text, TooLong, Fault, path_at}
use Rattle.linux_calls.specs.Errnos.{efault, enametoolong, enotdir, enotty}
use Rattle.linux_calls.specs.Call.{Called, gives, refuses, unless, low, rdi, rsi, rdx}
use Rattle.linux_calls.specs.Parts.{files_of, with_files}

-- ---- close: rdi is the descriptor
unfoldable pub close_call : World → Called
close_call w =
    let fd = low (rdi w.state.gprs) in
    unless (close_refusal (files_of w) fd) w (gives 0 (with_files w (closed (files_of w) fd)))

-- ---- lseek: rdi is the descriptor, rsi the move as a signed number, rdx from where it counts
unfoldable pub lseek_call : World → Called
lseek_call w =
    let gprs = w.state.gprs in
    let fd = low (rdi gprs) in
    let to = cast_signed w64 (rsi gprs) in
    let whence = low (rdx gprs) in
    let at = offset_after (files_of w) fd to whence in
    unless (seek_refusal (files_of w) fd to whence) w (gives at (with_files w (moved_to (files_of w) fd at)))

-- ---- ioctl: rdi is the descriptor; no descriptor is a terminal
unfoldable pub ioctl_call : World → Called
ioctl_call w =
    unless (first_failing ((is_none (place_at w.descriptors (low (rdi w.state.gprs))), ebadf) ∷ [])) w (refuses enotty w)

-- ---- open: rdi is the address of the path, rsi the flags; openat: rdi is a descriptor, rsi the address, rdx the flags
-- a descriptor that stands for the working directory (AT_FDCWD, -100)
abbrev pub working_directory : ℕ
working_directory = 2 ^ 32 - 100

-- whether a path is taken from the root, whatever the directory: it begins with a slash
abbrev pub is_absolute : List ℕ → Bool
is_absolute path = slice_index path 0 == 0x2F

-- the file with a name is opened
unfoldable pub opened_call : List ℕ → (flags : ℕ) → World → Called
opened_call name flags w =
    unless (open_refusal (files_of w) name flags) w
    (gives (opened_number (files_of w)) (with_files w (opened (files_of w) name flags)))

-- a path is opened from a descriptor on; no descriptor is a directory
unfoldable pub opened_from : (fd : ℕ) → List ℕ → (flags : ℕ) → World → Called
opened_from fd path flags w =
    let elsewhere = not (is_absolute path) && not (fd == working_directory) in
    unless (first_failing ((elsewhere && is_none (place_at w.descriptors fd), ebadf) ∷ (elsewhere, enotdir) ∷ [])) w
    (opened_call path flags w)

abbrev pub open_path : (fd : ℕ) → Path → (flags : ℕ) → World → Called
open_path fd (Text path) flags w = opened_from fd path flags w
open_path fd TooLong flags w = refuses enametoolong w
open_path fd Fault flags w = refuses efault w

-- the path at an address is opened
unfoldable pub open_path_at : (fd addr flags : ℕ) → World → Called
open_path_at fd addr flags w = open_path fd (path_at w.state.memory addr) flags w

unfoldable pub open_call : World → Called
open_call w =
    let gprs = w.state.gprs in
    open_path_at working_directory (rdi gprs) (low (rsi gprs)) w

unfoldable pub openat_call : World → Called
openat_call w =
    let gprs = w.state.gprs in
    open_path_at (low (rdi gprs)) (rsi gprs) (low (rdx gprs)) w

-- The calls that write a record of fixed length, and those on the bases of FS and GS (Linux, uname(2), arch_prctl(2),
-- clock_gettime(2), stat(2) of x86-64).
use Rattle.std.specs.Prelude.{ℕ, ◌-◌, ◌*◌, ◌/◌, ◌%◌, ◌^◌, ◌==◌, Bool, not, ◌||◌, nat_le, if◌then◌else◌, List, [], ◌∷◌, ◌++◌, length}
use Rattle.std.specs.Prelude.{Option, is_none, replicate, codes, unwrap_or}
use Rattle.machine_state.specs.declared.kinds.Kind.TheVariants.{Write}
use Rattle.machine_state.specs.Memory.{page_size, number_bytes}
use Rattle.machine_state.specs.World.{World, place_at}
use Rattle.guest_files.specs.Checks.{first_failing, is_stream}
use Rattle.guest_files.specs.Errnos.{ebadf, einval}
use Rattle.guest_files.specs.Moves.{size_at}
use Rattle.guest_files.specs.declared.errno.Errno.{Errno}
use Rattle.region_map.specs.Calls.{highest_end}
use Rattle.linux_calls.specs.Errnos.{efault, eperm}
use Rattle.linux_calls.specs.Call.{Called, gives, refuses, unless, allows, with_bytes, low, rdi, rsi}
use Rattle.linux_calls.specs.Parts.{files_of}

-- a record is written to an address, where all of its bytes may be
abbrev pub put_record : (addr : ℕ) → List ℕ → World → Called
put_record addr record_bytes w =
    unless (first_failing ((not (allows w.state.memory Write addr (length record_bytes)), efault) ∷ [])) w
    (gives 0 (with_bytes w addr record_bytes))

-- ---- fstat: rdi is the descriptor, rsi the address of the record
-- the kind of a descriptor and what its owner may: a pipe (S_IFIFO) or a file (S_IFREG), read and written by its owner, and a file
-- read by all
abbrev pub stream_mode : ℕ
stream_mode = 0x1180

abbrev pub file_mode : ℕ
file_mode = 0x81A4

-- struct stat: st_dev, st_ino, st_nlink, st_mode, st_uid and st_gid with 4 bytes behind them, st_rdev, st_size, st_blksize, and then
-- the blocks and the times, which are 0
unfoldable pub stat_bytes : (fd : ℕ) → (of_stream : Bool) → (size : ℕ) → List ℕ
stat_bytes fd of_stream size =
    number_bytes 8 0
    ++ number_bytes 8 fd
    ++ number_bytes 8 1
    ++ number_bytes 4 (if of_stream then stream_mode else file_mode)
    ++ replicate 12 0
    ++ number_bytes 8 0
    ++ number_bytes 8 size
    ++ number_bytes 8 page_size
    ++ replicate 80 0

unfoldable pub fstat_call : World → Called
fstat_call w =
    let fd = low (rdi w.state.gprs) in
    let place = place_at w.descriptors fd in
    unless (first_failing ((is_none place, ebadf) ∷ [])) w
    (put_record (rsi w.state.gprs) (stat_bytes fd (is_stream place) (unwrap_or (size_at (files_of w) fd) 0)) w)

-- ---- uname: rdi is the address of the record
-- a text in a field of 65 bytes (__NEW_UTS_LEN of Linux, and one)
abbrev pub name_field : List ℕ → List ℕ
name_field text = text ++ replicate (65 - length text) 0

-- struct utsname: sysname, nodename, release, version, machine, domainname
unfoldable pub uname_bytes : List ℕ
uname_bytes =
    name_field (codes "Linux")
    ++ name_field (codes "xemu")
    ++ name_field (codes "6.1.0")
    ++ name_field (codes "#1")
    ++ name_field (codes "x86_64")
    ++ name_field (codes "(none)")

unfoldable pub uname_call : World → Called
uname_call w = put_record (rdi w.state.gprs) uname_bytes w

-- ---- arch_prctl: rdi says which base is set or written, rsi is the base or the address for it
-- ARCH_SET_GS, ARCH_SET_FS, ARCH_GET_FS, ARCH_GET_GS
abbrev pub set_gs : ℕ
set_gs = 0x1001

abbrev pub set_fs : ℕ
set_fs = 0x1002

abbrev pub get_fs : ℕ
get_fs = 0x1003

abbrev pub get_gs : ℕ
get_gs = 0x1004

-- a base is below the end of the addresses that a guest may choose
abbrev pub base_refusal : ℕ → Option Errno
base_refusal base = first_failing ((nat_le (highest_end * page_size) base, eperm) ∷ [])

unfoldable pub arch_prctl_call : World → Called
arch_prctl_call w =
    let code = low (rdi w.state.gprs) in
    let base = rsi w.state.gprs in
    if code == set_fs then unless (base_refusal base) w (gives 0 (record w { state = record w.state { fs = base } }))
    else (if code == set_gs then unless (base_refusal base) w (gives 0 (record w { state = record w.state { gs = base } }))
    else (if code == get_fs then put_record base (number_bytes 8 w.state.fs) w
    else (if code == get_gs then put_record base (number_bytes 8 w.state.gs) w
    else refuses einval w)))

-- ---- clock_gettime: rdi is the clock, rsi the address of the record
-- CLOCK_REALTIME 0, CLOCK_MONOTONIC 1, CLOCK_MONOTONIC_RAW 4, CLOCK_REALTIME_COARSE 5, CLOCK_MONOTONIC_COARSE 6, CLOCK_BOOTTIME 7
abbrev pub is_clock : ℕ → Bool
is_clock id = nat_le id 1 || id == 4 || id == 5 || id == 6 || id == 7

-- struct timespec: a completed step takes a nanosecond
unfoldable pub time_bytes : (steps : ℕ) → List ℕ
time_bytes steps = number_bytes 8 (steps / 10 ^ 9) ++ number_bytes 8 (steps % 10 ^ 9)

unfoldable pub clock_gettime_call : World → Called
clock_gettime_call w =
    unless (first_failing ((not (is_clock (low (rdi w.state.gprs))), einval) ∷ [])) w
    (put_record (rsi w.state.gprs) (time_bytes w.state.steps) w)

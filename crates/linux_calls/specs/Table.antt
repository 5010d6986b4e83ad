-- The system calls that there are, and what each does.
use Rattle.std.specs.Prelude.{ℕ, ◌%◌, ◌^◌, ◌==◌, Bool, true, false, if◌then◌else◌, List, [], ◌∷◌, Option, Some, None}
use Rattle.machine_state.specs.World.{World}
use Rattle.linux_calls.specs.declared.kinds.Call.{Call}
use Rattle.linux_calls.specs.declared.kinds.Call.TheVariants.{Read, Write, Open, Close, Fstat, Lseek, Mmap, Mprotect, Munmap, Brk, Ioctl}
use Rattle.linux_calls.specs.declared.kinds.Call.TheVariants.{Pread64, Pwrite64, Readv, Writev, Madvise, Getpid, Exit, Uname, ArchPrctl}
use Rattle.linux_calls.specs.declared.kinds.Call.TheVariants.{SetTidAddress, ClockGettime, ExitGroup, Openat, Getrandom}
use Rattle.linux_calls.specs.Errnos.{enosys}
use Rattle.linux_calls.specs.Call.{Called, Exits, gives, refuses, rax, rdi}
use Rattle.linux_calls.specs.FileCalls.{open_call, close_call, lseek_call, ioctl_call, openat_call}
use Rattle.linux_calls.specs.Mapping.{mmap_call, mprotect_call, munmap_call, brk_call, madvise_call}
use Rattle.linux_calls.specs.Transfers.{read_call, write_call, pread64_call, pwrite64_call, readv_call, writev_call, getrandom_call}
use Rattle.linux_calls.specs.Records.{fstat_call, uname_call, arch_prctl_call, clock_gettime_call}

-- the calls by their numbers (Linux, syscall_64.tbl)
abbrev pub Numbered : Type 0
Numbered = ℕ × Call

abbrev pub numbers : List Numbered
numbers =
    (0, Read)
    ∷ (1, Write)
    ∷ (2, Open)
    ∷ (3, Close)
    ∷ (5, Fstat)
    ∷ (8, Lseek)
    ∷ (9, Mmap)
    ∷ (10, Mprotect)
    ∷ (11, Munmap)
    ∷ (12, Brk)
    ∷ (16, Ioctl)
    ∷ (17, Pread64)
    ∷ (18, Pwrite64)
    ∷ (19, Readv)
    ∷ (20, Writev)
    ∷ (28, Madvise)
    ∷ (39, Getpid)
    ∷ (60, Exit)
    ∷ (63, Uname)
    ∷ (158, ArchPrctl)
    ∷ (218, SetTidAddress)
    ∷ (228, ClockGettime)
    ∷ (231, ExitGroup)
    ∷ (257, Openat)
    ∷ (318, Getrandom)
    ∷ []

-- the call with a number, if there is one
abbrev pub named : List Numbered → ℕ → Option Call
named [] number = None
named (row ∷ rows) number = if number == row.0 then Some row.1 else named rows number

unfoldable pub call_numbered : ℕ → Option Call
call_numbered number = named numbers number

-- the process and its only thread have this number
abbrev pub process_id : ℕ
process_id = 1

-- whether a call ends the guest
abbrev pub ends_guest : Call → Bool
ends_guest Read = false
ends_guest Write = false
ends_guest Open = false
ends_guest Close = false
ends_guest Fstat = false
ends_guest Lseek = false
ends_guest Mmap = false
ends_guest Mprotect = false
ends_guest Munmap = false
ends_guest Brk = false
ends_guest Ioctl = false
ends_guest Pread64 = false
ends_guest Pwrite64 = false
ends_guest Readv = false
ends_guest Writev = false
ends_guest Madvise = false
ends_guest Getpid = false
ends_guest Exit = true
ends_guest Uname = false
ends_guest ArchPrctl = false
ends_guest SetTidAddress = false
ends_guest ClockGettime = false
ends_guest ExitGroup = true
ends_guest Openat = false
ends_guest Getrandom = false

-- the guest ends with the low 8 bits of rdi
abbrev pub exit_call : World → Called
exit_call w = record { outcome = Exits (rdi w.state.gprs % 2 ^ 8); world = w }

-- what a call does
abbrev pub act : Call → World → Called
act Read w = read_call w
act Write w = write_call w
act Open w = open_call w
act Close w = close_call w
act Fstat w = fstat_call w
act Lseek w = lseek_call w
act Mmap w = mmap_call w
act Mprotect w = mprotect_call w
act Munmap w = munmap_call w
act Brk w = brk_call w
act Ioctl w = ioctl_call w
act Pread64 w = pread64_call w
act Pwrite64 w = pwrite64_call w
act Readv w = readv_call w
act Writev w = writev_call w
act Madvise w = madvise_call w
act Getpid w = gives process_id w
act Exit w = exit_call w
act Uname w = uname_call w
act ArchPrctl w = arch_prctl_call w
act SetTidAddress w = gives process_id w
act ClockGettime w = clock_gettime_call w
act ExitGroup w = exit_call w
act Openat w = openat_call w
act Getrandom w = getrandom_call w

abbrev pub acted : Option Call → World → Called
acted None w = refuses enosys w
acted (Some call) w = act call w

-- the system call that the registers ask for
unfoldable pub called : World → Called
called w = acted (call_numbered (rax w.state.gprs)) w

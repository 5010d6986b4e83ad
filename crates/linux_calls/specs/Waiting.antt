-- Where a call may go on, and for which page it waits.
use Rattle.std.specs.Prelude.{◌≡◌, ◌≤◌, ◌<◌, ◌+◌, ◌-◌, ◌*◌, ◌^◌, ◌⊎◌, ℕ, Bool, true, false, ⊤, List, length, Option, Some, None, IsSome}
use Rattle.std.specs.Prelude.{Result, Ok, Err}
use Rattle.machine_state.specs.declared.kinds.Kind.TheVariants.{Write}
use Rattle.machine_state.specs.declared.kinds.Miss.TheVariants.{Away}
use Rattle.machine_state.specs.Memory.{Permissions, page_size}
use Rattle.machine_state.specs.World.{place_at}
use Rattle.guest_pages.specs.Table.{blocked, perms_in}
use Rattle.guest_pages.specs.Pages.{table_of}
use Rattle.guest_files.specs.Files.{FilesValue}
use Rattle.guest_files.specs.Moves.{read_piece}
use Rattle.region_map.specs.Calls.{pages_up}
use Rattle.guest_transfers.specs.Pieces.{are_allowed, asked, most_asked, part_at, single}
use Rattle.guest_transfers.specs.Buffers.{most_buffers}
use Rattle.guest_transfers.specs.Moves.{ReadsFile, WritesFile, IsMappedRange, PathWaits, ListWaits, record_place, away_access}
use Rattle.guest_transfers.specs.Moves.{blocked_access}
use Rattle.guest_transfers.specs.declared.kinds.Piece.{Piece}
use Rattle.linux_calls.specs.declared.kinds.Call.{Call}
use Rattle.linux_calls.specs.declared.kinds.Call.TheVariants.{Read, Write as WriteCall, Open, Close, Fstat, Lseek, Mmap, Mprotect, Munmap}
use Rattle.linux_calls.specs.declared.kinds.Call.TheVariants.{Brk, Ioctl, Pread64, Pwrite64, Readv, Writev, Madvise, Getpid, Exit, Uname}
use Rattle.linux_calls.specs.declared.kinds.Call.TheVariants.{ArchPrctl, SetTidAddress, ClockGettime, ExitGroup, Openat, Getrandom}
use Rattle.linux_calls.specs.declared.kinds.CallEnd.{CallEnd}
use Rattle.linux_calls.specs.declared.kinds.CallEnd.TheVariants.{Value, Exit as ExitEnd, Need as NeedEnd, Host}
use Rattle.linux_calls.specs.declared.kinds.Halt.{Halt}
use Rattle.linux_calls.specs.declared.kinds.Halt.TheVariants.{Refused, Need, Failed}
use Rattle.linux_calls.specs.declared.kinds.Stage.{Stage}
use Rattle.linux_calls.specs.declared.kinds.Stage.TheVariants.{Start, Listing, Moving, Copying}
use Rattle.linux_calls.specs.declared.kinds.Transfer.{Transfer}
use Rattle.linux_calls.specs.declared.kinds.Transfer.TheVariants.{Takes, PutsOut, PutsErr, Reads, Writes, Draws}
use Rattle.linux_calls.specs.Call.{low, rax, rdi, rsi, rdx, r9}
use Rattle.linux_calls.specs.Mapping.{mapped_descriptor}
use Rattle.linux_calls.specs.Records.{get_fs, get_gs, is_clock}
use Rattle.linux_calls.specs.Table.{call_numbered}
use Rattle.linux_calls.specs.Transfers.{kind_of}
use Rattle.linux_calls.specs.Rest.{transfer_of}
use Rattle.linux_calls.specs.View.{View}

-- ---- the condition of a call: it begins, or it goes on with a part of it that was begun. It looks at registers, descriptors,
-- permissions and progress alone, so that no page that is brought breaks it
-- what a transfer works on is there: its file, and for random bytes its one piece
abbrev pub HasOther : Transfer → FilesValue → List Piece → (done : ℕ) → Type 0
HasOther Takes files pieces done = ⊤
HasOther PutsOut files pieces done = ⊤
HasOther PutsErr files pieces done = ⊤
HasOther (Reads fd at moves) files pieces done = ReadsFile files fd × (at + done < 2 ^ 63)
HasOther (Writes fd at moves) files pieces done = WritesFile files fd × (at + done < 2 ^ 63)
HasOther Draws files pieces done = length pieces ≡ 1

-- random bytes have one piece
abbrev pub IsOne : Transfer → List Piece → Type 0
IsOne Takes pieces = ⊤
IsOne PutsOut pieces = ⊤
IsOne PutsErr pieces = ⊤
IsOne (Reads fd at moves) pieces = ⊤
IsOne (Writes fd at moves) pieces = ⊤
IsOne Draws pieces = length pieces ≡ 1

pub record CanMove (transfer : Transfer) (perms : Permissions) (files : FilesValue) (pieces : List Piece) (done : ℕ) : Type 0 where
  pub allowed : are_allowed perms (kind_of transfer) pieces ≡ true
  pub most : asked pieces ≤ most_asked
  pub within : done ≤ asked pieces
  pub other : HasOther transfer files pieces done

abbrev pub CanMoveBy : Option Transfer → Permissions → FilesValue → List Piece → (done : ℕ) → Type 0
CanMoveBy None perms files pieces done = ⊥
CanMoveBy (Some transfer) perms files pieces done = CanMove transfer perms files pieces done

-- whether a call begins
abbrev pub is_start : Stage → Bool
is_start Start = true
is_start Listing = false
is_start (Moving done) = false
is_start (Copying at done) = false

-- the transfers that a list of buffers is read for
abbrev pub IsListed : Transfer → Type 0
IsListed Takes = ⊤
IsListed PutsOut = ⊤
IsListed PutsErr = ⊤
IsListed (Reads fd at moves) = ⊤
IsListed (Writes fd at moves) = ⊤
IsListed Draws = ⊥

abbrev pub IsListedBy : Option Transfer → Type 0
IsListedBy None = ⊥
IsListedBy (Some transfer) = IsListed transfer

-- a list of buffers goes on behind those that have been read
pub record CanList (transfer : Option Transfer) (gprs : List ℕ) (pieces : List Piece) : Type 0 where
  pub listed : IsListedBy transfer
  pub most : rdx gprs ≤ most_buffers
  pub within : length pieces ≤ rdx gprs
  pub place : record_place (rsi gprs) (length pieces) < 2 ^ 64

-- the bytes of the pages that mmap maps
abbrev pub mapped_bytes : List ℕ → ℕ
mapped_bytes gprs = pages_up (rsi gprs) * page_size

-- the bytes of the file that come there, behind so many of them
abbrev pub bytes_to_copy : View → (done : ℕ) → List ℕ
bytes_to_copy v done = read_piece v.files (mapped_descriptor v.gprs) (r9 v.gprs + done) (mapped_bytes v.gprs - done)

-- a copy of a file to new pages goes on
pub record CanCopy (v : View) (at done : ℕ) : Type 0 where
  pub mapped : IsMappedRange (table_of v.pages) at (mapped_bytes v.gprs)
  pub within : done ≤ mapped_bytes v.gprs
  pub file : ReadsFile v.files (mapped_descriptor v.gprs)
  pub offset : r9 v.gprs < 2 ^ 63
  pub low : at + mapped_bytes v.gprs ≤ 2 ^ 47

abbrev pub CanGoOnBy : Stage → View → Type 0
CanGoOnBy Start v = ⊤
CanGoOnBy Listing v = CanList (transfer_of v.gprs v.files 0) v.gprs v.progress.pieces
CanGoOnBy (Moving done) v = CanMoveBy (transfer_of v.gprs v.files done) (perms_in (table_of v.pages)) v.files v.progress.pieces done
CanGoOnBy (Copying at done) v = CanCopy v at done

abbrev pub CanGoOn : View → Type 0
CanGoOn v = CanGoOnBy v.progress.stage v

-- ---- the page that a call waits for: the next unit is allowed, and its first page that is away is in this slot
-- a record of so many bytes at an address
abbrev pub NeedsRecord : View → (addr count slot : ℕ) → Type 0
NeedsRecord v addr count slot = blocked (table_of v.pages) Write addr count ≡ Some (Away slot)

-- the part of a path, or the record that a call writes once its checks have passed
abbrev pub NeedsFor : Call → View → (slot : ℕ) → Type 0
NeedsFor Open v slot = PathWaits v.pages (rdi v.gprs) slot
NeedsFor Fstat v slot = IsSome (place_at v.files.places (low (rdi v.gprs))) × NeedsRecord v (rsi v.gprs) 144 slot
NeedsFor Uname v slot = NeedsRecord v (rdi v.gprs) 390 slot
NeedsFor ArchPrctl v slot =
    ((low (rdi v.gprs) ≡ get_fs) ⊎ (low (rdi v.gprs) ≡ get_gs)) × NeedsRecord v (rsi v.gprs) 8 slot
NeedsFor ClockGettime v slot = (is_clock (low (rdi v.gprs)) ≡ true) × NeedsRecord v (rsi v.gprs) 16 slot
NeedsFor Openat v slot = PathWaits v.pages (rsi v.gprs) slot
NeedsFor Read v slot = ⊥
NeedsFor WriteCall v slot = ⊥
NeedsFor Close v slot = ⊥
NeedsFor Lseek v slot = ⊥
NeedsFor Mmap v slot = ⊥
NeedsFor Mprotect v slot = ⊥
NeedsFor Munmap v slot = ⊥
NeedsFor Brk v slot = ⊥
NeedsFor Ioctl v slot = ⊥
NeedsFor Pread64 v slot = ⊥
NeedsFor Pwrite64 v slot = ⊥
NeedsFor Readv v slot = ⊥
NeedsFor Writev v slot = ⊥
NeedsFor Madvise v slot = ⊥
NeedsFor Getpid v slot = ⊥
NeedsFor Exit v slot = ⊥
NeedsFor SetTidAddress v slot = ⊥
NeedsFor ExitGroup v slot = ⊥
NeedsFor Getrandom v slot = ⊥

abbrev pub NeedsAtStart : Option Call → View → (slot : ℕ) → Type 0
NeedsAtStart None v slot = ⊥
NeedsAtStart (Some call) v slot = NeedsFor call v slot

-- the part of a transfer
abbrev pub NeedsPart : Option Transfer → View → (done slot : ℕ) → Type 0
NeedsPart None v done slot = ⊥
NeedsPart (Some transfer) v done slot =
    blocked_access (table_of v.pages) (part_at (kind_of transfer) v.progress.pieces done) ≡ Some (Away slot)

abbrev pub NeedsBy : Stage → View → (slot : ℕ) → Type 0
NeedsBy Start v slot = NeedsAtStart (call_numbered (rax v.gprs)) v slot
NeedsBy Listing v slot = ListWaits v.pages (rsi v.gprs) (rdx v.gprs) v.progress.pieces v.progress.pieces slot
NeedsBy (Moving done) v slot = NeedsPart (transfer_of v.gprs v.files done) v done slot
NeedsBy (Copying at done) v slot =
    (done < mapped_bytes v.gprs) × (0 < length (bytes_to_copy v done))
    × (away_access (table_of v.pages) (part_at Write (single at (mapped_bytes v.gprs)) done) ≡ Some (Away slot))

pub record IsNeeded (v : View) (slot : ℕ) : Type 0 where
  pub needs : NeedsBy v.progress.stage v slot
  pub can_go_on : CanGoOn v

-- where a call waits, it does so for this page; where it is over, its progress stands before a call
abbrev pub NeedsAt : View → CallEnd → Type 0
NeedsAt v (Value value) = v.progress.stage ≡ Start
NeedsAt v (ExitEnd code) = v.progress.stage ≡ Start
NeedsAt v (NeedEnd slot) = IsNeeded v slot
NeedsAt v (Host call) = ⊤

-- the same of a piece of a call
abbrev pub NeedsIn : View → Result ℕ Halt → Type 0
NeedsIn v (Ok value) = ⊤
NeedsIn v (Err (Refused errno)) = ⊤
NeedsIn v (Err (Need slot)) = IsNeeded v slot
NeedsIn v (Err (Failed call)) = ⊤

-- where a call that reads a path or writes a record waits
abbrev pub NeedsFirst : Call → View → Result ℕ Halt → Type 0
NeedsFirst call v (Ok value) = ⊤
NeedsFirst call v (Err (Refused errno)) = ⊤
NeedsFirst call v (Err (Need slot)) = NeedsFor call v slot
NeedsFirst call v (Err (Failed call')) = ⊥

-- where the writing of a record waits
abbrev pub NeedsRecordIn : View → (addr count : ℕ) → Result ℕ Halt → Type 0
NeedsRecordIn v addr count (Ok value) = ⊤
NeedsRecordIn v addr count (Err (Refused errno)) = ⊤
NeedsRecordIn v addr count (Err (Need slot)) = NeedsRecord v addr count slot
NeedsRecordIn v addr count (Err (Failed call)) = ⊥

-- where the reading of a path waits
abbrev pub NeedsPathIn : View → (addr : ℕ) → Result ℕ Halt → Type 0
NeedsPathIn v addr (Ok value) = ⊤
NeedsPathIn v addr (Err (Refused errno)) = ⊤
NeedsPathIn v addr (Err (Need slot)) = PathWaits v.pages addr slot
NeedsPathIn v addr (Err (Failed call)) = ⊥

-- ---- kinds of calls
-- the calls that never wait, other than exit
abbrev pub IsQuick : Call → Type 0
IsQuick Read = ⊥
IsQuick WriteCall = ⊥
IsQuick Open = ⊥
IsQuick Close = ⊤
IsQuick Fstat = ⊥
IsQuick Lseek = ⊤
IsQuick Mmap = ⊥
IsQuick Mprotect = ⊤
IsQuick Munmap = ⊤
IsQuick Brk = ⊤
IsQuick Ioctl = ⊤
IsQuick Pread64 = ⊥
IsQuick Pwrite64 = ⊥
IsQuick Readv = ⊥
IsQuick Writev = ⊥
IsQuick Madvise = ⊤
IsQuick Getpid = ⊤
IsQuick Exit = ⊥
IsQuick Uname = ⊥
IsQuick ArchPrctl = ⊥
IsQuick SetTidAddress = ⊤
IsQuick ClockGettime = ⊥
IsQuick ExitGroup = ⊥
IsQuick Openat = ⊥
IsQuick Getrandom = ⊥

-- the calls that read a path or write a record, and mmap
abbrev pub IsSlow : Call → Type 0
IsSlow Read = ⊥
IsSlow WriteCall = ⊥
IsSlow Open = ⊤
IsSlow Close = ⊥
IsSlow Fstat = ⊤
IsSlow Lseek = ⊥
IsSlow Mmap = ⊤
IsSlow Mprotect = ⊥
IsSlow Munmap = ⊥
IsSlow Brk = ⊥
IsSlow Ioctl = ⊥
IsSlow Pread64 = ⊥
IsSlow Pwrite64 = ⊥
IsSlow Readv = ⊥
IsSlow Writev = ⊥
IsSlow Madvise = ⊥
IsSlow Getpid = ⊥
IsSlow Exit = ⊥
IsSlow Uname = ⊤
IsSlow ArchPrctl = ⊤
IsSlow SetTidAddress = ⊥
IsSlow ClockGettime = ⊤
IsSlow ExitGroup = ⊥
IsSlow Openat = ⊤
IsSlow Getrandom = ⊥

-- after an answer and at the guest's end a call may begin
abbrev pub Begins : CallEnd → Stage → Type 0
Begins (Value value) stage = stage ≡ Start
Begins (ExitEnd code) stage = stage ≡ Start
Begins (NeedEnd slot) stage = ⊤
Begins (Host call) stage = ⊤

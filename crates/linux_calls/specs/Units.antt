-- The units of work of a call: the pages that the next one lies on, and how many may still come. No byte of memory is looked at, and
-- of the pages nothing, so that no page that is brought changes them.
use Rattle.std.specs.Prelude.{ℕ, zero, suc, ◌≡◌, ◌≤◌, ◌<◌, ◌+◌, ◌-◌, ◌/◌, ◌%◌, ◌^◌, ◌==◌, ◌⊎◌, ⊤, if◌then◌else◌, min, sum_by, List, [], ◌∷◌, length}
use Rattle.std.specs.Prelude.{Option, Some, None, Result, Ok, Err}
use Rattle.std.specs.List.{Contains}
use Rattle.machine_state.specs.Memory.{page_size, Swap}
use Rattle.guest_pages.specs.Pages.{PagesValue, table_of}
use Rattle.guest_pages.specs.Order.{IsAwayIn}
use Rattle.guest_pages.specs.Together.{AreClean, NoneSwapped}
use Rattle.region_map.specs.Calls.{pages_up}
use Rattle.guest_transfers.specs.Buffers.{most_buffers, record_size}
use Rattle.guest_transfers.specs.Moves.{record_place}
use Rattle.guest_transfers.specs.Paths.{path_max}
use Rattle.guest_transfers.specs.Pieces.{most_asked, pieces_from, single}
use Rattle.guest_transfers.specs.declared.kinds.Piece.{Piece}
use Rattle.linux_calls.specs.declared.kinds.Call.{Call}
use Rattle.linux_calls.specs.declared.kinds.Call.TheVariants.{Read, Write, Open, Close, Fstat, Lseek, Mmap, Mprotect, Munmap, Brk, Ioctl}
use Rattle.linux_calls.specs.declared.kinds.Call.TheVariants.{Pread64, Pwrite64, Readv, Writev, Madvise, Getpid, Exit, Uname, ArchPrctl}
use Rattle.linux_calls.specs.declared.kinds.Call.TheVariants.{SetTidAddress, ClockGettime, ExitGroup, Openat, Getrandom}
use Rattle.linux_calls.specs.declared.kinds.CallEnd.{CallEnd}
use Rattle.linux_calls.specs.declared.kinds.CallEnd.TheVariants.{Value, Exit as ExitEnd, Need as NeedEnd, Host}
use Rattle.linux_calls.specs.declared.kinds.Halt.{Halt}
use Rattle.linux_calls.specs.declared.kinds.Halt.TheVariants.{Refused, Need, Failed}
use Rattle.linux_calls.specs.declared.kinds.Stage.{Stage}
use Rattle.linux_calls.specs.declared.kinds.Stage.TheVariants.{Start, Listing, Moving, Copying}
use Rattle.linux_calls.specs.Call.{rax, rdi, rsi, rdx}
use Rattle.linux_calls.specs.Table.{call_numbered}
use Rattle.linux_calls.specs.Transfers.{named_piece}
use Rattle.linux_calls.specs.Rest.{ProgressValue, outside_calls, transfer_of}
use Rattle.linux_calls.specs.View.{View}
use Rattle.linux_calls.specs.Waiting.{mapped_bytes}

-- ---- the pages of accesses
-- how many pages an access lies on
unfoldable pub pages_over : (addr len : ℕ) → ℕ
pages_over addr len = if len == 0 then 0 else (addr % page_size + len - 1) / page_size + 1

-- so many pages from one on
unfoldable pub pages_from : (first count : ℕ) → List ℕ
pages_from first zero = []
pages_from first (suc count) = first ∷ pages_from (first + 1) count

abbrev pub access_pages : (addr len : ℕ) → List ℕ
access_pages addr len = pages_from (addr / page_size) (pages_over addr len)

-- ---- the pages of the next unit: a path or a record as a whole, of a list the next record, and of a transfer the part with the
-- next byte, which lies on one page
abbrev pub record_pages : (gprs : List ℕ) → (count : ℕ) → List ℕ
record_pages gprs count = access_pages (record_place (rsi gprs) count) record_size

abbrev pub first_pages : List Piece → List ℕ
first_pages [] = []
first_pages (piece ∷ pieces) = piece.addr / page_size ∷ []

abbrev pub part_pages : List Piece → (done : ℕ) → List ℕ
part_pages pieces done = first_pages (pieces_from pieces done)

-- of a call that begins. The pages of mmap aren't mapped yet
abbrev pub call_pages : Call → (gprs : List ℕ) → List ℕ
call_pages Read gprs = part_pages (named_piece (rsi gprs) (rdx gprs)) 0
call_pages Write gprs = part_pages (named_piece (rsi gprs) (rdx gprs)) 0
call_pages Open gprs = access_pages (rdi gprs) path_max
call_pages Close gprs = []
call_pages Fstat gprs = access_pages (rsi gprs) 144
call_pages Lseek gprs = []
call_pages Mmap gprs = []
call_pages Mprotect gprs = []
call_pages Munmap gprs = []
call_pages Brk gprs = []
call_pages Ioctl gprs = []
call_pages Pread64 gprs = part_pages (named_piece (rsi gprs) (rdx gprs)) 0
call_pages Pwrite64 gprs = part_pages (named_piece (rsi gprs) (rdx gprs)) 0
call_pages Readv gprs = record_pages gprs 0
call_pages Writev gprs = record_pages gprs 0
call_pages Madvise gprs = []
call_pages Getpid gprs = []
call_pages Exit gprs = []
call_pages Uname gprs = access_pages (rdi gprs) 390
call_pages ArchPrctl gprs = access_pages (rsi gprs) 8
call_pages SetTidAddress gprs = []
call_pages ClockGettime gprs = access_pages (rsi gprs) 16
call_pages ExitGroup gprs = []
call_pages Openat gprs = access_pages (rsi gprs) path_max
call_pages Getrandom gprs = part_pages (named_piece (rdi gprs) (rsi gprs)) 0

abbrev pub start_pages : Option Call → (gprs : List ℕ) → List ℕ
start_pages None gprs = []
start_pages (Some call) gprs = call_pages call gprs

abbrev pub stage_pages : Stage → List Piece → (gprs : List ℕ) → List ℕ
stage_pages Start pieces gprs = start_pages (call_numbered (rax gprs)) gprs
stage_pages Listing pieces gprs = record_pages gprs (length pieces)
stage_pages (Moving done) pieces gprs = part_pages pieces done
stage_pages (Copying at done) pieces gprs = part_pages (single at (mapped_bytes gprs)) done

unfoldable pub unit_pages : View → List ℕ
unit_pages v = stage_pages v.progress.stage v.progress.pieces v.gprs

-- ---- how many units may still come
-- the parts of pieces behind so many of their bytes
unfoldable pub parts_left : List Piece → (done : ℕ) → ℕ
parts_left pieces done = sum_by (λ piece. pages_over piece.addr piece.len) (pieces_from pieces done)

-- the records of a list, behind those that were read, and then no more parts than a transfer has bytes
abbrev pub list_rank : (gprs : List ℕ) → (count : ℕ) → ℕ
list_rank gprs count = min (rdx gprs) most_buffers - count + 1 + most_asked

abbrev pub call_rank : Call → (gprs : List ℕ) → ℕ
call_rank Read gprs = parts_left (named_piece (rsi gprs) (rdx gprs)) 0
call_rank Write gprs = parts_left (named_piece (rsi gprs) (rdx gprs)) 0
call_rank Open gprs = 1
call_rank Close gprs = 0
call_rank Fstat gprs = 1
call_rank Lseek gprs = 0
call_rank Mmap gprs = pages_up (rsi gprs) + 1
call_rank Mprotect gprs = 0
call_rank Munmap gprs = 0
call_rank Brk gprs = 0
call_rank Ioctl gprs = 0
call_rank Pread64 gprs = parts_left (named_piece (rsi gprs) (rdx gprs)) 0
call_rank Pwrite64 gprs = parts_left (named_piece (rsi gprs) (rdx gprs)) 0
call_rank Readv gprs = list_rank gprs 0
call_rank Writev gprs = list_rank gprs 0
call_rank Madvise gprs = 0
call_rank Getpid gprs = 0
call_rank Exit gprs = 0
call_rank Uname gprs = 1
call_rank ArchPrctl gprs = 1
call_rank SetTidAddress gprs = 0
call_rank ClockGettime gprs = 1
call_rank ExitGroup gprs = 0
call_rank Openat gprs = 1
call_rank Getrandom gprs = parts_left (named_piece (rdi gprs) (rsi gprs)) 0

abbrev pub start_rank : Option Call → (gprs : List ℕ) → ℕ
start_rank None gprs = 0
start_rank (Some call) gprs = call_rank call gprs

abbrev pub stage_rank : Stage → List Piece → (gprs : List ℕ) → ℕ
stage_rank Start pieces gprs = start_rank (call_numbered (rax gprs)) gprs
stage_rank Listing pieces gprs = list_rank gprs (length pieces)
stage_rank (Moving done) pieces gprs = parts_left pieces done
stage_rank (Copying at done) pieces gprs = parts_left (single at (mapped_bytes gprs)) done

unfoldable pub unit_rank : View → ℕ
unit_rank v = stage_rank v.progress.stage v.progress.pieces v.gprs

-- ---- a call that waits for a page
-- it waits in the same unit again, and nothing was done
pub record SameUnit (old new : View) : Type 0 where
  pub rank : unit_rank new ≡ unit_rank old
  pub pages : unit_pages new ≡ unit_pages old
  pub table : table_of new.pages ≡ table_of old.pages
  pub recent : new.pages.recent ≡ old.pages.recent

-- units were finished, or none was; and the calls on the outside that it may make stay
pub record GoesOn (old new : View) : Type 0 where
  pub most : unit_rank old ≤ 2 ^ 64
  pub unit : (unit_rank new < unit_rank old) ⊎ SameUnit old new
  pub calls : outside_calls (transfer_of new.gprs new.files 0) ≡ outside_calls (transfer_of old.gprs old.files 0)

-- the same of a piece of a call
abbrev pub WaitsIn : View → View → Result ℕ Halt → Type 0
WaitsIn old new (Ok value) = ⊤
WaitsIn old new (Err (Refused errno)) = ⊤
WaitsIn old new (Err (Need slot)) = GoesOn old new
WaitsIn old new (Err (Failed call)) = ⊤

-- the parts that a call sees, where it stands elsewhere: so many bytes of a transfer have moved, or the records of a list before its next
-- one were read
abbrev pub standing_at : View → ProgressValue → View
standing_at v progress = record v { progress = progress }

abbrev pub moving_from : List Piece → (done : ℕ) → ProgressValue
moving_from pieces done = record { stage = Moving done; pieces = pieces }

abbrev pub listing_from : List Piece → ProgressValue
listing_from pieces = record { stage = Listing; pieces = pieces }

-- or so many bytes of a file were copied to the pages from an address on
abbrev pub copying_from : (at done : ℕ) → List Piece → ProgressValue
copying_from at done pieces = record { stage = Copying at done; pieces = pieces }

-- it waits for one of the few pages of its next unit, which is away
pub record WaitsFor (old new : View) (slot : ℕ) : Type 0 where
  pub few : length (unit_pages new) ≤ 4
  pub away : IsAwayIn new.pages slot
  pub of : Contains (unit_pages new) away.page
  pub most : unit_rank old ≤ 2 ^ 64
  pub unit : (unit_rank new < unit_rank old) ⊎ SameUnit old new
  pub calls : outside_calls (transfer_of new.gprs new.files 0) ≡ outside_calls (transfer_of old.gprs old.files 0)

abbrev pub WaitsAt : View → View → CallEnd → Type 0
WaitsAt old new (Value value) = ⊤
WaitsAt old new (ExitEnd code) = ⊤
WaitsAt old new (NeedEnd slot) = WaitsFor old new slot
WaitsAt old new (Host call) = ⊤

-- ---- pages and the swap
-- pages that weren't written still equal what a swap or the zeros give, and where none was on the swap, none is
pub record KeepsSwap (old new : PagesValue) : Type 0 where
  pub clean : (swap : Swap) → AreClean old swap → AreClean new swap
  pub none : NoneSwapped old → NoneSwapped new

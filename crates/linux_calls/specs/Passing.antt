-- That a call waits wherever it has to: where it is over, or a call on the outside failed in it, no unit of it was kept by a page that
-- is away. A unit comes next where those before it are done and the checks before it have passed.
use Rattle.std.specs.Prelude.{ℕ, ◌≡◌, ◌≤◌, ◌+◌, ◌*◌, true, false, ⊤, List, [], length, Option, Some, None, Result, Ok, Err}
use Rattle.std.specs.Int.{w64, cast_unsigned}
use Rattle.machine_state.specs.Memory.{page_size}
use Rattle.machine_state.specs.declared.kinds.Kind.TheVariants.{Write as WriteKind}
use Rattle.guest_pages.specs.Table.{Table, perms_in}
use Rattle.guest_pages.specs.Pages.{table_of}
use Rattle.region_map.specs.Calls.{pages_up}
use Rattle.region_map.specs.Ranges.{changed_regions}
use Rattle.guest_transfers.specs.Buffers.{most_buffers}
use Rattle.guest_transfers.specs.Moves.{AreReady, ReadsList, Stops, away_access, blocked_access}
use Rattle.guest_transfers.specs.Pieces.{are_allowed, asked, most_asked, single}
use Rattle.guest_transfers.specs.declared.kinds.Piece.{Piece}
use Rattle.guest_transfers.specs.declared.kinds.Stop.{Stop}
use Rattle.guest_transfers.specs.declared.kinds.Stop.TheVariants.{Whole, Failed as FailedStop}
use Rattle.guest_transfers.specs.declared.kinds.ListRead.{ListRead}
use Rattle.guest_transfers.specs.declared.kinds.ListRead.TheVariants.{Whole as ListWhole, Away as ListAway}
use Rattle.linux_calls.specs.declared.kinds.Call.{Call}
use Rattle.linux_calls.specs.declared.kinds.Call.TheVariants.{Read, Write, Open, Close, Fstat, Lseek, Mmap, Mprotect, Munmap, Brk, Ioctl}
use Rattle.linux_calls.specs.declared.kinds.Call.TheVariants.{Pread64, Pwrite64, Readv, Writev, Madvise, Getpid, Exit, Uname, ArchPrctl}
use Rattle.linux_calls.specs.declared.kinds.Call.TheVariants.{SetTidAddress, ClockGettime, ExitGroup, Openat, Getrandom}
use Rattle.linux_calls.specs.declared.kinds.CallEnd.{CallEnd}
use Rattle.linux_calls.specs.declared.kinds.CallEnd.TheVariants.{Value, Exit as ExitEnd, Need as NeedEnd, Host}
use Rattle.linux_calls.specs.declared.kinds.Halt.{Halt}
use Rattle.linux_calls.specs.declared.kinds.Halt.TheVariants.{Refused, Need, Failed}
use Rattle.linux_calls.specs.declared.kinds.Stage.{Stage}
use Rattle.linux_calls.specs.declared.kinds.Stage.TheVariants.{Start, Listing, Moving, Copying}
use Rattle.linux_calls.specs.declared.kinds.Transfer.{Transfer}
use Rattle.linux_calls.specs.declared.kinds.Transfer.TheVariants.{Draws}
use Rattle.linux_calls.specs.Call.{low, negative, r10, rax, rdi, rdx, rsi}
use Rattle.linux_calls.specs.Mapping.{is_anonymous, mmap_change, mmap_page, mmap_refusal}
use Rattle.linux_calls.specs.Parts.{passes_limits}
use Rattle.linux_calls.specs.Rest.{transfer_of}
use Rattle.linux_calls.specs.Table.{call_numbered}
use Rattle.linux_calls.specs.Transfers.{kind_of, named_piece, random_flags, refusal_of}
use Rattle.linux_calls.specs.View.{View}
use Rattle.linux_calls.specs.Waiting.{NeedsFor, bytes_to_copy, mapped_bytes}

-- no page, in whichever slot, is waited for
abbrev pub NeverWaits : ((slot : ℕ) → Type 0) → Type 0
NeverWaits Waits = (slot : ℕ) → Waits slot → ⊥

-- ---- the units of a transfer
-- the parts with the bytes from one on, up to the part in which it stopped
abbrev pub PassesParts : Transfer → View → List Piece → (from : ℕ) → Stop → Type 0
PassesParts transfer v pieces from stop = Stops (blocked_access (table_of v.pages)) (kind_of transfer) pieces from stop

abbrev pub PassesRest : Option Transfer → View → List Piece → (from : ℕ) → Stop → Type 0
PassesRest None v pieces from stop = ⊤
PassesRest (Some transfer) v pieces from stop = PassesParts transfer v pieces from stop

-- all of them come behind its checks, the last of which is that of all its buffers
abbrev pub PassesTransfer : Option Transfer → View → List Piece → Stop → Type 0
PassesTransfer None v pieces stop = ⊤
PassesTransfer (Some transfer) v pieces stop =
    refusal_of transfer (asked pieces) v.files ≡ None
    → are_allowed (perms_in (table_of v.pages)) (kind_of transfer) pieces ≡ true
    → PassesParts transfer v pieces 0 stop

-- ---- the units of a list of buffers, behind those that were read, and of the transfer that it is read for
abbrev pub Lists : View → (old new : List Piece) → ListRead → Type 0
Lists v old new came = ReadsList v.pages (rsi v.gprs) (rdx v.gprs) old new came

abbrev pub PassesList : Option Transfer → View → List Piece → Stop → Type 0
PassesList None v pieces stop = ⊤
PassesList (Some transfer) v pieces stop =
    (read : List Piece)
    → NeverWaits (λ slot. Lists v pieces read (ListAway slot))
    × (Lists v pieces read ListWhole → asked read ≤ most_asked → PassesTransfer (Some transfer) v read stop)

-- ---- the units of a path, and the record that a call writes
abbrev pub PassesFirst : Call → View → Type 0
PassesFirst call v = NeverWaits (λ slot. NeedsFor call v slot)

-- ---- the units of a copy of a file to new pages
-- the parts from one byte on that the file has bytes for, whatever the permissions of the pages
abbrev pub PassesCopy : Table → View → (at from : ℕ) → Type 0
PassesCopy table v at from =
    AreReady (away_access table) WriteKind (single at (mapped_bytes v.gprs)) from (from + length (bytes_to_copy v from))

-- all of them come behind the checks of mmap, and behind the mapping of the pages, which stand in this table then
abbrev pub PassesMmap : View → Table → Type 0
PassesMmap v table =
    mmap_refusal v.gprs v.files.places ≡ None
    → (page : ℕ) → mmap_page v.gprs v.regions.regions ≡ Some page
    → passes_limits (length v.pages.slots)
    (changed_regions (mmap_change v.gprs) page (page + pages_up (rsi v.gprs)) v.regions.regions) ≡ false
    → is_anonymous (r10 v.gprs) ≡ false
    → PassesCopy table v (page * page_size) 0

-- ---- the units of a call
-- of read, write, pread64 and pwrite64, and of readv and writev
abbrev pub PassesNamed : View → Stop → Type 0
PassesNamed v stop = PassesTransfer (transfer_of v.gprs v.files 0) v (named_piece (rsi v.gprs) (rdx v.gprs)) stop

abbrev pub PassesListed : View → Stop → Type 0
PassesListed v stop = rdx v.gprs ≤ most_buffers → PassesList (transfer_of v.gprs v.files 0) v [] stop

abbrev pub PassesFor : Call → View → Table → Stop → Type 0
PassesFor Read v table stop = PassesNamed v stop
PassesFor Write v table stop = PassesNamed v stop
PassesFor Open v table stop = PassesFirst Open v
PassesFor Close v table stop = ⊤
PassesFor Fstat v table stop = PassesFirst Fstat v
PassesFor Lseek v table stop = ⊤
PassesFor Mmap v table stop = PassesMmap v table
PassesFor Mprotect v table stop = ⊤
PassesFor Munmap v table stop = ⊤
PassesFor Brk v table stop = ⊤
PassesFor Ioctl v table stop = ⊤
PassesFor Pread64 v table stop = PassesNamed v stop
PassesFor Pwrite64 v table stop = PassesNamed v stop
PassesFor Readv v table stop = PassesListed v stop
PassesFor Writev v table stop = PassesListed v stop
PassesFor Madvise v table stop = ⊤
PassesFor Getpid v table stop = ⊤
PassesFor Exit v table stop = ⊤
PassesFor Uname v table stop = PassesFirst Uname v
PassesFor ArchPrctl v table stop = PassesFirst ArchPrctl v
PassesFor SetTidAddress v table stop = ⊤
PassesFor ClockGettime v table stop = PassesFirst ClockGettime v
PassesFor ExitGroup v table stop = ⊤
PassesFor Openat v table stop = PassesFirst Openat v
PassesFor Getrandom v table stop =
    low (rdx v.gprs) ≤ random_flags → PassesTransfer (Some Draws) v (named_piece (rdi v.gprs) (rsi v.gprs)) stop

abbrev pub PassesAtStart : Option Call → View → Table → Stop → Type 0
PassesAtStart None v table stop = ⊤
PassesAtStart (Some call) v table stop = PassesFor call v table stop

-- of a call from where it stands
abbrev pub PassesBy : Stage → View → Table → Stop → Type 0
PassesBy Start v table stop = PassesAtStart (call_numbered (rax v.gprs)) v table stop
PassesBy Listing v table stop = PassesList (transfer_of v.gprs v.files 0) v v.progress.pieces stop
PassesBy (Moving done) v table stop = PassesRest (transfer_of v.gprs v.files done) v v.progress.pieces done stop
PassesBy (Copying at done) v table stop = PassesCopy (table_of v.pages) v at done

unfoldable pub Passes : (old new : View) → Stop → Type 0
Passes old new stop = PassesBy old.progress.stage old (table_of new.pages) stop

-- ---- how a call ended
-- where it doesn't wait, its units up to the one in which it stopped were passed: an answer tells how many bytes of a transfer moved
abbrev pub PassedAt : ((stop : Stop) → Type 0) → CallEnd → Type 0
PassedAt Passed (Value value) = Passed (Whole (cast_unsigned w64 value))
PassedAt Passed (ExitEnd code) = ⊤
PassedAt Passed (NeedEnd slot) = ⊤
PassedAt Passed (Host call) = Passed FailedStop

-- the same of a piece of a call
abbrev pub PassedIn : ((stop : Stop) → Type 0) → Result ℕ Halt → Type 0
PassedIn Passed (Ok value) = Passed (Whole value)
PassedIn Passed (Err (Refused errno)) = Passed (Whole (negative errno))
PassedIn Passed (Err (Need slot)) = ⊤
PassedIn Passed (Err (Failed call)) = Passed FailedStop

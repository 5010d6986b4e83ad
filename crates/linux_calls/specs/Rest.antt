-- A call in parts: what is left of it, from where it has come to.
use Rattle.std.specs.Prelude.{ℕ, false, List, [], ◌∷◌, Option, Some, None}
use Rattle.machine_state.specs.World.{World}
use Rattle.host_edge.specs.declared.outside.HostCall.{HostCall}
use Rattle.host_edge.specs.declared.outside.HostCall.TheVariants.{Take, PutOut, PutErr}
use Rattle.guest_files.specs.Files.{FilesValue}
use Rattle.guest_transfers.specs.declared.kinds.Piece.{Piece}
use Rattle.linux_calls.specs.declared.kinds.Call.{Call}
use Rattle.linux_calls.specs.declared.kinds.Call.TheVariants.{Read, Write, Open, Close, Fstat, Lseek, Mmap, Mprotect, Munmap, Brk, Ioctl}
use Rattle.linux_calls.specs.declared.kinds.Call.TheVariants.{Pread64, Pwrite64, Readv, Writev, Madvise, Getpid, Exit, Uname, ArchPrctl}
use Rattle.linux_calls.specs.declared.kinds.Call.TheVariants.{SetTidAddress, ClockGettime, ExitGroup, Openat, Getrandom}
use Rattle.linux_calls.specs.declared.kinds.Stage.{Stage}
use Rattle.linux_calls.specs.declared.kinds.Stage.TheVariants.{Start, Listing, Moving, Copying}
use Rattle.linux_calls.specs.declared.kinds.Transfer.{Transfer}
use Rattle.linux_calls.specs.declared.kinds.Transfer.TheVariants.{Takes, PutsOut, PutsErr, Reads, Writes, Draws}
use Rattle.linux_calls.specs.Call.{Called, low, rax, rdi, r10}
use Rattle.linux_calls.specs.Parts.{files_of}
use Rattle.linux_calls.specs.Transfers.{read_through, write_through, transfer_rest, list_rest}
use Rattle.linux_calls.specs.Mapping.{copy_rest}
use Rattle.linux_calls.specs.Table.{call_numbered, called}

-- how far a call came, and the buffers of its transfer, as they were first read
pub record ProgressValue : Type 0 where
  pub stage : Stage
  pub pieces : List Piece

-- the transfer that a call makes, of which so many bytes have moved
abbrev pub call_transfer : Call → (gprs : List ℕ) → FilesValue → (done : ℕ) → Option Transfer
call_transfer Read gprs files done = read_through files (low (rdi gprs))
call_transfer Write gprs files done = write_through files (low (rdi gprs)) done
call_transfer Open gprs files done = None
call_transfer Close gprs files done = None
call_transfer Fstat gprs files done = None
call_transfer Lseek gprs files done = None
call_transfer Mmap gprs files done = None
call_transfer Mprotect gprs files done = None
call_transfer Munmap gprs files done = None
call_transfer Brk gprs files done = None
call_transfer Ioctl gprs files done = None
call_transfer Pread64 gprs files done = Some (Reads (low (rdi gprs)) (r10 gprs) false)
call_transfer Pwrite64 gprs files done = Some (Writes (low (rdi gprs)) (r10 gprs) false)
call_transfer Readv gprs files done = read_through files (low (rdi gprs))
call_transfer Writev gprs files done = write_through files (low (rdi gprs)) done
call_transfer Madvise gprs files done = None
call_transfer Getpid gprs files done = None
call_transfer Exit gprs files done = None
call_transfer Uname gprs files done = None
call_transfer ArchPrctl gprs files done = None
call_transfer SetTidAddress gprs files done = None
call_transfer ClockGettime gprs files done = None
call_transfer ExitGroup gprs files done = None
call_transfer Openat gprs files done = None
call_transfer Getrandom gprs files done = Some Draws

unfoldable pub transfer_of : (gprs : List ℕ) → FilesValue → (done : ℕ) → Option Transfer
transfer_of gprs files done = elim (call_numbered (rax gprs)) [ None ↦ None | Some call ↦ call_transfer call gprs files done ]

-- what is left of a transfer, or of the list that is read for it; a call that makes none is left whole
abbrev pub moving_rest : Option Transfer → List Piece → (done : ℕ) → World → Called
moving_rest None pieces done w = called w
moving_rest (Some transfer) pieces done w = transfer_rest transfer pieces done w

abbrev pub listing_rest : Option Transfer → List Piece → World → Called
listing_rest None pieces w = called w
listing_rest (Some transfer) pieces w = list_rest transfer pieces w

abbrev pub stage_rest : Stage → List Piece → World → Called
stage_rest Start pieces w = called w
stage_rest Listing pieces w = listing_rest (transfer_of w.state.gprs (files_of w) 0) pieces w
stage_rest (Moving done) pieces w = moving_rest (transfer_of w.state.gprs (files_of w) done) pieces done w
stage_rest (Copying at done) pieces w = copy_rest at done w

-- what is left of a call: the whole of it, or what follows so much of it
unfoldable pub rest_of : ProgressValue → World → Called
rest_of progress w = stage_rest progress.stage progress.pieces w

-- ---- the calls on the outside that a call may make
abbrev pub outside_calls : Option Transfer → List HostCall
outside_calls None = []
outside_calls (Some Takes) = Take ∷ []
outside_calls (Some PutsOut) = PutOut ∷ []
outside_calls (Some PutsErr) = PutErr ∷ []
outside_calls (Some (Reads fd at moves)) = []
outside_calls (Some (Writes fd at moves)) = []
outside_calls (Some Draws) = []

unfoldable pub calls_in_call : World → List HostCall
calls_in_call w = outside_calls (transfer_of w.state.gprs (files_of w) 0)

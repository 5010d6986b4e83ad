-- The calls that move bytes between memory and streams, files and the random stream (Linux, read(2), write(2), pread(2), pwrite(2),
-- readv(2), writev(2), getrandom(2), in part).
use Rattle.std.specs.Prelude.{ℕ, ◌+◌, ◌-◌, ◌*◌, ◌/◌, ◌%◌, ◌==◌, Bool, true, false, not, if◌then◌else◌, is_none, nat_lt, min, List, []}
use Rattle.std.specs.Prelude.{◌∷◌, ◌++◌, take, drop, length, Option, Some, None, unwrap_or}
use Rattle.machine_state.specs.declared.kinds.Kind.{Kind}
use Rattle.machine_state.specs.declared.kinds.Kind.TheVariants.{Read, Write}
use Rattle.machine_state.specs.declared.kinds.Place.{Place}
use Rattle.machine_state.specs.World.{World, place_at}
use Rattle.guest_files.specs.Checks.{first_failing}
use Rattle.guest_files.specs.Content.{count_below}
use Rattle.guest_files.specs.Errnos.{ebadf, einval}
use Rattle.guest_files.specs.Files.{FilesValue}
use Rattle.guest_files.specs.Moves.{read_piece, read_refusal, size_at, write_refusal, written_at, moved_to}
use Rattle.guest_files.specs.declared.errno.Errno.{Errno}
use Rattle.guest_transfers.specs.Pieces.{are_allowed, asked, bytes_between, most_asked, pieces_from, single, spread}
use Rattle.guest_transfers.specs.Draws.{drawn, number_after}
use Rattle.guest_transfers.specs.Buffers.{buffers_at, most_buffers, record_size}
use Rattle.guest_transfers.specs.Moves.{record_place}
use Rattle.guest_transfers.specs.declared.kinds.Piece.{Piece}
use Rattle.linux_calls.specs.declared.kinds.Transfer.{Transfer}
use Rattle.linux_calls.specs.declared.kinds.Transfer.TheVariants.{Takes, PutsOut, PutsErr, Reads, Writes, Draws}
use Rattle.linux_calls.specs.Errnos.{efault}
use Rattle.linux_calls.specs.Call.{Called, gives, refuses, unless, allows, low, rdi, rsi, rdx, r10}
use Rattle.linux_calls.specs.Parts.{files_of, with_files}

-- ---- which transfer a call makes
-- a read through a descriptor, if that is open for reading: 0 is the input while it is that stream
abbrev pub reads_at : (fd : ℕ) → Place → Option Transfer
reads_at fd place =
    if not place.reads then None
    else (if not (is_none place.file) then Some (Reads fd place.at true) else (if fd == 0 then Some Takes else None))

-- a write through a descriptor, if that is open for writing: 1 is the output and 2 the error output while they are these streams.
-- Where it appends, it begins at the file's end, of which `done` bytes are its own
abbrev pub writes_at : (fd : ℕ) → (size done : ℕ) → Place → Option Transfer
writes_at fd size done place =
    if not place.writes then None
    else (if not (is_none place.file) then Some (Writes fd (if place.append then size - done else place.at) true)
    else (if fd == 1 then Some PutsOut else (if fd == 2 then Some PutsErr else None)))

unfoldable pub read_through : FilesValue → (fd : ℕ) → Option Transfer
read_through files fd = elim (place_at files.places fd) [ None ↦ None | Some place ↦ reads_at fd place ]

unfoldable pub write_through : FilesValue → (fd done : ℕ) → Option Transfer
write_through files fd done =
    elim (place_at files.places fd) [ None ↦ None | Some place ↦ writes_at fd (unwrap_or (size_at files fd) 0) done place ]

-- ---- what a transfer does
-- what it does with memory
abbrev pub kind_of : Transfer → Kind
kind_of Takes = Write
kind_of PutsOut = Read
kind_of PutsErr = Read
kind_of (Reads fd at moves) = Write
kind_of (Writes fd at moves) = Read
kind_of Draws = Write

-- why it isn't made, beside its buffers
abbrev pub refusal_of : Transfer → (count : ℕ) → FilesValue → Option Errno
refusal_of Takes count files = None
refusal_of PutsOut count files = None
refusal_of PutsErr count files = None
refusal_of (Reads fd at moves) count files = read_refusal files fd at
refusal_of (Writes fd at moves) count files = write_refusal files fd at count
refusal_of Draws count files = None

-- the world with these bytes along pieces of memory
abbrev pub with_spread : World → List Piece → List ℕ → World
with_spread w pieces bytes =
    record w { state = record w.state { memory = record w.state.memory { byte = spread w.state.memory.byte pieces bytes } } }

-- the files with a descriptor at this offset, where the transfer moves it
abbrev pub left_at : Bool → FilesValue → (fd at : ℕ) → FilesValue
left_at moves files fd at = if moves then moved_to files fd at else files

-- ---- a transfer of which so many bytes have moved
-- all that are left of the input, or as many as were asked for
unfoldable pub takes_rest : List Piece → (done : ℕ) → World → Called
takes_rest pieces done w =
    let bytes = take (asked pieces - done) w.left in
    gives (done + length bytes) (record (with_spread w (pieces_from pieces done) bytes) { left = drop (asked pieces - done) w.left })

unfoldable pub out_rest : List Piece → (done : ℕ) → World → Called
out_rest pieces done w = gives (asked pieces) (record w { out = w.out ++ bytes_between w.state.memory.byte pieces done (asked pieces) })

unfoldable pub err_rest : List Piece → (done : ℕ) → World → Called
err_rest pieces done w = gives (asked pieces) (record w { err = w.err ++ bytes_between w.state.memory.byte pieces done (asked pieces) })

-- all that the file has from its offset on, or as many as were asked for; byte `done` of the transfer is the file's `at + done`
unfoldable pub reads_rest : (fd at : ℕ) → (moves : Bool) → List Piece → (done : ℕ) → World → Called
reads_rest fd at moves pieces done w =
    let files = files_of w in
    let bytes = read_piece files fd (at + done) (asked pieces - done) in
    let count = done + length bytes in
    gives count (with_files (with_spread w (pieces_from pieces done) bytes) (left_at moves files fd (at + count)))

-- as many as lie below the cap
unfoldable pub writes_rest : (fd at : ℕ) → (moves : Bool) → List Piece → (done : ℕ) → World → Called
writes_rest fd at moves pieces done w =
    let bytes = bytes_between w.state.memory.byte pieces done (asked pieces) in
    let files = written_at (files_of w) fd (at + done) bytes in
    let count = done + count_below w.cap (at + done) (asked pieces - done) in
    gives count (with_files w (left_at moves files fd (at + count)))

-- the bytes of successive draws, and the rest of the last one is dropped. The number of the random stream stands behind the draws
-- that are used up, so that byte `done` is of the next one
unfoldable pub draws_rest : List Piece → (done : ℕ) → World → Called
draws_rest pieces done w =
    let count = asked pieces in
    gives count (record (with_spread w (pieces_from pieces done) (drawn w.random (done % 8) (count - done))) {
      random = number_after w.random ((count + 7) / 8 - done / 8);
    })

abbrev pub transfer_rest : Transfer → List Piece → (done : ℕ) → World → Called
transfer_rest Takes pieces done w = takes_rest pieces done w
transfer_rest PutsOut pieces done w = out_rest pieces done w
transfer_rest PutsErr pieces done w = err_rest pieces done w
transfer_rest (Reads fd at moves) pieces done w = reads_rest fd at moves pieces done w
transfer_rest (Writes fd at moves) pieces done w = writes_rest fd at moves pieces done w
transfer_rest Draws pieces done w = draws_rest pieces done w

-- ---- a transfer from its checks on
-- the buffers are checked last, and all of them before any byte moves
unfoldable pub transferred : Transfer → List Piece → World → Called
transferred transfer pieces w =
    unless (refusal_of transfer (asked pieces) (files_of w)) w
    (unless (first_failing ((not (are_allowed w.state.memory.perms (kind_of transfer) pieces), efault) ∷ [])) w
    (transfer_rest transfer pieces 0 w))

abbrev pub begun : Option Transfer → List Piece → World → Called
begun None pieces w = refuses ebadf w
begun (Some transfer) pieces w = transferred transfer pieces w

-- the piece that a call names by an address and a length; lengths above the most count as that
abbrev pub named_piece : (addr count : ℕ) → List Piece
named_piece addr count = single addr (min count most_asked)

-- ---- read: rdi is the descriptor, rsi the address, rdx the length; pread64: r10 is the offset
unfoldable pub read_call : World → Called
read_call w =
    let gprs = w.state.gprs in
    begun (read_through (files_of w) (low (rdi gprs))) (named_piece (rsi gprs) (rdx gprs)) w

unfoldable pub pread64_call : World → Called
pread64_call w =
    let gprs = w.state.gprs in
    begun (Some (Reads (low (rdi gprs)) (r10 gprs) false)) (named_piece (rsi gprs) (rdx gprs)) w

-- ---- write: rdi is the descriptor, rsi the address, rdx the length; pwrite64: r10 is the offset
unfoldable pub write_call : World → Called
write_call w =
    let gprs = w.state.gprs in
    begun (write_through (files_of w) (low (rdi gprs)) 0) (named_piece (rsi gprs) (rdx gprs)) w

unfoldable pub pwrite64_call : World → Called
pwrite64_call w =
    let gprs = w.state.gprs in
    begun (Some (Writes (low (rdi gprs)) (r10 gprs) false)) (named_piece (rsi gprs) (rdx gprs)) w

-- ---- getrandom: rdi is the address, rsi the length, rdx the flags
-- GRND_NONBLOCK 1, GRND_RANDOM 2, GRND_INSECURE 4
abbrev pub random_flags : ℕ
random_flags = 7

unfoldable pub getrandom_call : World → Called
getrandom_call w =
    let gprs = w.state.gprs in
    unless (first_failing ((nat_lt random_flags (low (rdx gprs)), einval) ∷ [])) w
    (begun (Some Draws) (named_piece (rdi gprs) (rsi gprs)) w)

-- ---- readv, writev: rdi is the descriptor, rsi the address of the list, rdx how many buffers it has
-- the list is read; then its buffers are one transfer, joined
unfoldable pub joined_transfer : Transfer → List Piece → World → Called
joined_transfer transfer pieces w =
    unless (first_failing ((nat_lt most_asked (asked pieces), einval) ∷ [])) w (transferred transfer pieces w)

-- the list of which some buffers have been read
unfoldable pub list_rest : Transfer → List Piece → World → Called
list_rest transfer pieces w =
    let gprs = w.state.gprs in
    let at = record_place (rsi gprs) (length pieces) in
    let left = rdx gprs - length pieces in
    unless (first_failing ((not (allows w.state.memory Read at (record_size * left)), efault) ∷ [])) w
    (joined_transfer transfer (pieces ++ buffers_at w.state.memory.byte at left) w)

abbrev pub listed : Option Transfer → World → Called
listed None w = refuses ebadf w
listed (Some transfer) w =
    unless (first_failing ((nat_lt most_buffers (rdx w.state.gprs), einval) ∷ [])) w (list_rest transfer [] w)

unfoldable pub readv_call : World → Called
readv_call w = listed (read_through (files_of w) (low (rdi w.state.gprs))) w

unfoldable pub writev_call : World → Called
writev_call w = listed (write_through (files_of w) (low (rdi w.state.gprs)) 0) w

-- What transfers move, as far as they come, and where they stop.
use Rattle.std.specs.Prelude.{ℕ, ◌≡◌, ◌≤◌, ◌<◌, ◌+◌, ◌-◌, ◌*◌, ◌/◌, ◌%◌, ◌^◌, ◌⊎◌, true, false, ⊤, List, [], ◌++◌, length, Option, Some, None, IsSome}
use Rattle.machine_state.specs.Memory.{Swap, page_size, first_miss, miss_at, bytes_at}
use Rattle.machine_state.specs.World.{place_at}
use Rattle.machine_state.specs.declared.kinds.Access.{Access}
use Rattle.machine_state.specs.declared.kinds.Kind.{Kind}
use Rattle.machine_state.specs.declared.kinds.Kind.TheVariants.{Read, Write}
use Rattle.machine_state.specs.declared.kinds.Miss.{Miss}
use Rattle.machine_state.specs.declared.kinds.Miss.TheVariants.{Away as AwayMiss}
use Rattle.host_edge.specs.Causes.{Rose}
use Rattle.host_edge.specs.Streams.{told}
use Rattle.guest_pages.specs.Table.{Table, away_at, blocked, perms_in}
use Rattle.guest_pages.specs.Pages.{PagesValue, byte_of, memory_of, table_of}
use Rattle.guest_pages.specs.Changes.{KeepsTable}
use Rattle.guest_files.specs.Checks.{does_read, does_write, is_stream}
use Rattle.guest_files.specs.Content.{count_below}
use Rattle.guest_files.specs.Files.{FilesValue}
use Rattle.guest_files.specs.Moves.{read_piece, written_at}
use Rattle.guest_transfers.specs.Pieces.{asked, bytes_between, part_at, pieces_from, spread, single}
use Rattle.guest_transfers.specs.Draws.{drawn, number_after}
use Rattle.guest_transfers.specs.Paths.{Text, TooLong, Fault, end_of, path_at, path_max}
use Rattle.guest_transfers.specs.Buffers.{buffers_at, record_size}
use Rattle.guest_transfers.specs.declared.kinds.Piece.{Piece}
use Rattle.guest_transfers.specs.declared.kinds.Stop.{Stop}
use Rattle.guest_transfers.specs.declared.kinds.Stop.TheVariants.{Whole, Away, Failed}
use Rattle.guest_transfers.specs.declared.kinds.PathRead.{PathRead}
use Rattle.guest_transfers.specs.declared.kinds.PathRead.TheVariants.{Text as ReadText, TooLong as ReadTooLong, Fault as ReadFault, Away as ReadAway}
use Rattle.guest_transfers.specs.declared.kinds.ListRead.{ListRead}
use Rattle.guest_transfers.specs.declared.kinds.ListRead.TheVariants.{Whole as ListWhole, Fault as ListFault, Away as ListAway}

-- ---- where a transfer stops
-- what keeps a part from being moved now
abbrev pub blocked_access : Table → Access → Option Miss
blocked_access table part = blocked table part.kind part.addr part.len

-- what keeps a part from being written by the kernel, which doesn't look at permissions
abbrev pub away_access : Table → Access → Option Miss
away_access table part = away_at (table (part.addr / page_size))

-- nothing keeps the parts with the bytes from one up to another from being moved
abbrev pub AreReady : (Access → Option Miss) → Kind → List Piece → (from to : ℕ) → Type 0
AreReady keeps kind pieces from to =
    (done : ℕ) → from ≤ done → done < to → done < asked pieces → keeps (part_at kind pieces done) ≡ None

-- the parts up to the stop were ready; where the next is away, its page is in this slot; a call on the stream fails in a part that
-- is ready
abbrev pub Stops : (Access → Option Miss) → Kind → List Piece → (from : ℕ) → Stop → Type 0
Stops keeps kind pieces from (Whole done) = (from ≤ done) × (done ≤ asked pieces) × AreReady keeps kind pieces from (done + 1)
Stops keeps kind pieces from (Away done slot) =
    (from ≤ done) × (done < asked pieces) × AreReady keeps kind pieces from done
    × (keeps (part_at kind pieces done) ≡ Some (AwayMiss slot))
Stops keeps kind pieces from Failed =
    (done : ℕ) × (from ≤ done) × (done < asked pieces) × AreReady keeps kind pieces from (done + 1)

-- a call that failed is counted, and nothing else is
abbrev pub IsCounted : (old new : ℕ) → Stop → Type 0
IsCounted old new (Whole done) = new ≡ old
IsCounted old new (Away done slot) = new ≡ old
IsCounted old new Failed = Rose old new

-- ---- from memory to a sink
-- the bytes of pieces from one up to another were put, where the sink tells
abbrev pub IsPut : (ℕ → ℕ) → List Piece → (from to : ℕ) → (old new : Option (List ℕ)) → Type 0
IsPut byte pieces from to old new = IsSome old → told new ≡ told old ++ bytes_between byte pieces from to

-- all bytes from one on were put, or those up to the next part, or a front of them
abbrev pub Puts : (ℕ → ℕ) → List Piece → (from : ℕ) → (old new : Option (List ℕ)) → Stop → Type 0
Puts byte pieces from old new (Whole done) = (done ≡ asked pieces) × IsPut byte pieces from done old new
Puts byte pieces from old new (Away done slot) = IsPut byte pieces from done old new
Puts byte pieces from old new Failed = (to : ℕ) × (from ≤ to) × (to ≤ asked pieces) × IsPut byte pieces from to old new

-- ---- to memory
-- these bytes were written along pieces, behind so many of their bytes, and nothing else changed
pub record Moved (old new : PagesValue) (pieces : List Piece) (from : ℕ) (bytes : List ℕ) : Type 0 where
  pub within : from + length bytes ≤ asked pieces
  pub keeps : KeepsTable old new
  pub byte : (swap : Swap) → byte_of new swap ≡ spread (byte_of old swap) (pieces_from pieces from) bytes

-- bytes came from a source to the bytes of pieces from one up to another
pub record Took (old new : PagesValue) (pieces : List Piece) (from to : ℕ) (left left' : Option (List ℕ)) : Type 0 where
  pub bytes : List ℕ
  pub count : from + length bytes ≡ to
  pub moved : Moved old new pieces from bytes
  pub taken : IsSome left → told left ≡ bytes ++ told left'

-- as many bytes were taken as were asked for or as were left, or those up to the next part, or some
abbrev pub Takes : (old new : PagesValue) → List Piece → (from : ℕ) → (left left' : Option (List ℕ)) → Stop → Type 0
Takes old new pieces from left left' (Whole done) =
    Took old new pieces from done left left' × (IsSome left → (done ≡ asked pieces) ⊎ (told left' ≡ []))
Takes old new pieces from left left' (Away done slot) = Took old new pieces from done left left'
Takes old new pieces from left left' Failed = (to : ℕ) × Took old new pieces from to left left'

-- ---- files
-- a descriptor is open on a file, for reading, and for writing
pub record ReadsFile (files : FilesValue) (fd : ℕ) : Type 0 where
  pub reads : does_read (place_at files.places fd) ≡ true
  pub file : is_stream (place_at files.places fd) ≡ false

pub record WritesFile (files : FilesValue) (fd : ℕ) : Type 0 where
  pub writes : does_write (place_at files.places fd) ≡ true
  pub file : is_stream (place_at files.places fd) ≡ false

-- all bytes that the file has, of those that were asked for, came from its offset on, or those up to the next part
abbrev pub Reads : (old new : PagesValue) → List Piece → (from : ℕ) → FilesValue → (fd at : ℕ) → Stop → Type 0
Reads old new pieces from files fd at (Whole done) =
    (done ≡ from + length (read_piece files fd (at + from) (asked pieces - from)))
    × Moved old new pieces from (read_piece files fd (at + from) (asked pieces - from))
Reads old new pieces from files fd at (Away done slot) =
    (done ≡ from + length (read_piece files fd (at + from) (done - from)))
    × Moved old new pieces from (read_piece files fd (at + from) (done - from))
Reads old new pieces from files fd at Failed = ⊥

-- all bytes that lie below the cap went to the file from its offset on, or those up to the next part
abbrev pub Writes : (ℕ → ℕ) → List Piece → (from : ℕ) → (old new : FilesValue) → (fd at : ℕ) → Stop → Type 0
Writes byte pieces from old new fd at (Whole done) =
    (done ≡ from + count_below old.cap (at + from) (asked pieces - from))
    × (new ≡ written_at old fd (at + from) (bytes_between byte pieces from (asked pieces)))
Writes byte pieces from old new fd at (Away done slot) =
    (done ≡ from + count_below old.cap (at + from) (done - from))
    × (new ≡ written_at old fd (at + from) (bytes_between byte pieces from done))
Writes byte pieces from old new fd at Failed = ⊥

-- each byte of a range is on a mapped page
abbrev pub IsMappedRange : Table → (addr count : ℕ) → Type 0
IsMappedRange table addr count = (at : ℕ) → addr ≤ at → at < addr + count → IsSome (table (at / page_size))

-- a copy goes on with the next part while the file has bytes: the parts that were copied were in frames; where the next is
-- away, its page is in this slot
abbrev pub Copies : Table → (addr count from : ℕ) → Stop → Type 0
Copies table addr count from (Whole done) =
    (from ≤ done) × (done ≤ count) × AreReady (away_access table) Write (single addr count) from done
Copies table addr count from (Away done slot) = Stops (away_access table) Write (single addr count) from (Away done slot)
Copies table addr count from Failed = ⊥

-- where it waits, the file has bytes for the next part
abbrev pub HasNext : FilesValue → (fd at count : ℕ) → Stop → Type 0
HasNext files fd at count (Whole done) = ⊤
HasNext files fd at count (Away done slot) = 0 < length (read_piece files fd (at + done) (count - done))
HasNext files fd at count Failed = ⊤

-- ---- random bytes
-- the bytes of successive draws came, from within the first draw on; the number passes the draws that are used up, and at the
-- end also the one that was begun
abbrev pub Draws : (old new : PagesValue) → (addr len from : ℕ) → (number number' : ℕ) → Stop → Type 0
Draws old new addr len from number number' (Whole done) =
    (done ≡ len) × (number' ≡ number_after number ((done + 7) / 8 - from / 8))
    × Moved old new (single addr len) from (drawn number (from % 8) (done - from))
Draws old new addr len from number number' (Away done slot) =
    (number' ≡ number_after number (done / 8 - from / 8))
    × Moved old new (single addr len) from (drawn number (from % 8) (done - from))
Draws old new addr len from number number' Failed = ⊥

-- ---- paths
-- nothing keeps the parts of a path up to so many bytes from being read now
abbrev pub IsPathReady : PagesValue → (addr to : ℕ) → Type 0
IsPathReady pages addr to = AreReady (blocked_access (table_of pages)) Read (single addr path_max) 0 to

-- a path goes on with a part that is away: the bytes before it can be read, and none of them is 0
pub record PathWaits (pages : PagesValue) (addr slot : ℕ) : Type 0 where
  pub done : ℕ
  pub within : done < path_max
  pub begins : (done ≡ 0) ⊎ ((addr + done) % page_size ≡ 0)
  pub readable : first_miss (perms_in (table_of pages)) Read addr done ≡ None
  pub more : (swap : Swap) → end_of (bytes_at (byte_of pages swap) addr done) ≡ None
  pub ready : IsPathReady pages addr done
  pub away : blocked_access (table_of pages) (part_at Read (single addr path_max) done) ≡ Some (AwayMiss slot)

-- a byte of a path can't be read; nothing keeps the parts before it from being read
pub record PathFaults (pages : PagesValue) (addr : ℕ) : Type 0 where
  pub done : ℕ
  pub within : done < path_max
  pub ready : IsPathReady pages addr done
  pub denied : IsSome (miss_at (perms_in (table_of pages)) Read (addr + done))

-- the path, and the parts that it was read from, the one with its 0 among them
abbrev pub ReadsPath : PagesValue → (addr : ℕ) → PathRead → Type 0
ReadsPath pages addr (ReadText text) =
    ((swap : Swap) → path_at (memory_of pages swap) addr ≡ Text text.items) × IsPathReady pages addr (length text.items + 1)
ReadsPath pages addr ReadTooLong = ((swap : Swap) → path_at (memory_of pages swap) addr ≡ TooLong) × IsPathReady pages addr path_max
ReadsPath pages addr ReadFault = ((swap : Swap) → path_at (memory_of pages swap) addr ≡ Fault) × PathFaults pages addr
ReadsPath pages addr (ReadAway slot) = PathWaits pages addr slot

-- ---- lists of buffers
-- where the record behind so many stands
abbrev pub record_place : (addr count : ℕ) → ℕ
record_place addr count = addr + record_size * count

-- the records behind those that stand in a list were read, up to so many
abbrev pub AreRead : PagesValue → (addr : ℕ) → (old new : List Piece) → (count : ℕ) → Type 0
AreRead pages addr old new count =
    (swap : Swap) → new ≡ old ++ buffers_at (byte_of pages swap) (record_place addr (length old)) (count - length old)

-- nothing keeps so many bytes of the records behind those in a list from being read now
abbrev pub AreReadable : PagesValue → (addr : ℕ) → (old : List Piece) → (count : ℕ) → Type 0
AreReadable pages addr old count = blocked (table_of pages) Read (record_place addr (length old)) count ≡ None

-- a list goes on with a part that is away, with a byte of the next record; the bytes before it were read
pub record ListWaits (pages : PagesValue) (addr count : ℕ) (old new : List Piece) (slot : ℕ) : Type 0 where
  pub done : ℕ
  pub within : length new < count
  pub here : done / record_size ≡ length new
  pub begins : (done % record_size ≡ 0) ⊎ ((addr + done) % page_size ≡ 0)
  pub place : record_place addr (length new) < 2 ^ 64
  pub before : AreReadable pages addr old (done - record_size * length old)
  pub away : blocked_access (table_of pages) (part_at Read (single addr (record_size * count)) done) ≡ Some (AwayMiss slot)

-- a byte of a list isn't allowed; the bytes before it were read
pub record ListFaults (pages : PagesValue) (addr count : ℕ) (old : List Piece) : Type 0 where
  pub done : ℕ
  pub within : done < record_size * (count - length old)
  pub before : AreReadable pages addr old done
  pub denied : IsSome (miss_at (perms_in (table_of pages)) Read (record_place addr (length old) + done))

-- all records were read, or one of their bytes can't be read, or the next part is away
abbrev pub ReadsList : PagesValue → (addr count : ℕ) → (old new : List Piece) → ListRead → Type 0
ReadsList pages addr count old new ListWhole =
    AreRead pages addr old new count × AreReadable pages addr old (record_size * (count - length old))
ReadsList pages addr count old new ListFault = ListFaults pages addr count old
ReadsList pages addr count old new (ListAway slot) =
    AreRead pages addr old new (length new) × ListWaits pages addr count old new slot

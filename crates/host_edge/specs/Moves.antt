-- What the forms over std do to the bytes of a reader or a writer, where those are known: this program's own.
use Rattle.std.specs.Prelude.{ℕ, ◌*◌, ◌≤◌, ◌<◌, List, length, take, ◌≡◌, Option, Some, IfSome, Result, OnOk, OnErr, IfOk}
use Rattle.std.specs.Io.KnownBytes.{Appends, Consumes, IsAtEnd, Keeps}
use Rattle.host_edge.specs.Files.{Loads, page_len}
use Rattle.host_edge.specs.declared.file_streams.FileSink.{FileSink}
use Rattle.host_edge.specs.declared.file_streams.FileSource.{FileSource}

-- all bytes are written; after an error, a prefix of them is
pub record Writes {E : Type 0} (old new : Option (List ℕ)) (bytes : List ℕ) (result : Result (Unit {0}) E) : Type 0 where
  pub all : OnOk result (Appends old new bytes)
  pub front : OnErr result ((n : ℕ) × (n ≤ length bytes) × Appends old new (take n bytes))

-- the bytes at the front of the buffer are read, and the reader is at its end where they don't fill it
pub record Reads {E : Type 0} (old new : Option (List ℕ)) (into : List ℕ) (result : Result ℕ E) : Type 0 where
  pub front : IfOk result (λ count. Consumes old new (take count into))
  pub ended : IfOk result (λ count. count < length into → IsAtEnd new)

-- a position that is known is this one
abbrev pub StandsAt : Option ℕ → Option ℕ → ℕ → Type 0
StandsAt old new place = IfSome old (λ position. new ≡ Some place)

-- a stream went to a place, and holds what it held
pub record GoesTo {F : Type 0} (position : F → Option ℕ) (holds : F → Option (List ℕ)) (old new : F) (place : ℕ) : Type 0 where
  pub moved : StandsAt (position old) (position new) place
  pub kept : Keeps (holds old) (holds new)

-- a stream went to a place, and then these bytes were read
pub record ReadsAt {F : Type 0} (position : F → Option ℕ) (holds remaining : F → Option (List ℕ)) (old new : F) (place : ℕ) (bytes : List ℕ) : Type 0 where
  pub between : F
  pub goes : GoesTo position holds old between place
  pub read : Consumes (remaining between) (remaining new) bytes

-- a stream went to a place, and then these bytes were written
pub record WritesAt {F : Type 0} (position : F → Option ℕ) (holds contents : F → Option (List ℕ)) (old new : F) (place : ℕ) (bytes : List ℕ) : Type 0 where
  pub between : F
  pub goes : GoesTo position holds old between place
  pub written : Appends (contents between) (contents new) bytes

-- a file was opened, and loaded into a buffer
pub record LoadsFile {F : Type 0} (remaining : F → Option (List ℕ)) (before after : List ℕ) (len : ℕ) : Type 0 where
  pub file : F
  pub loads : IfSome (remaining file) (λ bytes. Loads bytes before after len)

-- a file was opened, and these bytes were written to it
pub record WritesFile {F : Type 0} (contents : F → Option (List ℕ)) (bytes : List ℕ) : Type 0 where
  pub opened : F
  pub closed : F
  pub writes : Appends (contents opened) (contents closed) bytes

-- these bytes were read from the place of a page of the swap's file, which stays open
pub record SwapReads {F : Type 0} (position : F → Option ℕ) (holds remaining : F → Option (List ℕ)) (old new : Option F) (page : ℕ) (bytes : List ℕ) : Type 0 where
  pub from : F
  pub to : F
  pub was : old ≡ Some from
  pub is : new ≡ Some to
  pub reads : ReadsAt position holds remaining from to (page * page_len) bytes

-- these bytes were written to the place of a page of the swap's file, which stays open
pub record SwapWrites {F : Type 0} (position : F → Option ℕ) (holds contents : F → Option (List ℕ)) (old new : Option F) (page : ℕ) (bytes : List ℕ) : Type 0 where
  pub from : F
  pub to : F
  pub was : old ≡ Some from
  pub is : new ≡ Some to
  pub writes : WritesAt position holds contents from to (page * page_len) bytes

-- what a source reads
abbrev pub reader_of : {R : Type 0} → FileSource R → R
reader_of source = source.reader

-- what a sink writes to
abbrev pub writer_of : {W : Type 0} → FileSink W → W
writer_of sink = sink.writer

-- What a host in memory is, and when its calls fail: this program's own.
use Rattle.std.specs.Prelude.{ℕ, ◌+◌, ◌*◌, Bool, ◌||◌, not, List, ◌++◌, length, take, drop, is_none, nat_lt}
use Rattle.host_edge.specs.Causes.{Counts, is_listed, no_faults, raised}
use Rattle.host_edge.specs.Files.{Held, page_len}
use Rattle.host_edge.specs.NamedFiles.{NamedFile, file_in, fits_in, stored}

-- the files, how many bytes their paths and contents may have, how many pages a swap may have and how many the open one has,
-- its pages one behind the other, the numbers of the calls that fail, how many calls came, and how many of each kind failed
pub record HostState : Type 0 where
  pub files : List NamedFile
  pub room : ℕ
  pub pages : ℕ
  pub opened : ℕ
  pub swap : List ℕ
  pub fail : List ℕ
  pub calls : ℕ
  pub faults : Counts

-- the bytes of a page
abbrev pub page_in : List ℕ → ℕ → List ℕ
page_in swap page = take page_len (drop (page * page_len) swap)

-- the pages once one of them is put
abbrev pub with_page : List ℕ → ℕ → List ℕ → List ℕ
with_page swap page bytes = take (page * page_len) swap ++ (bytes ++ drop (page * page_len + length bytes) swap)

-- the files and pages that a host in memory tells
abbrev pub held_by : HostState → Held
held_by h = record { file = file_in h.files; page = page_in h.swap }

-- a host as it is made, with pages of some bytes
abbrev pub new_host : List NamedFile → ℕ → ℕ → List ℕ → List ℕ → HostState
new_host files room pages fail swap = record {
  files = files;
  room = room;
  pages = pages;
  opened = 0;
  swap = swap;
  fail = fail;
  calls = 0;
  faults = no_faults;
}

-- whether the next call is listed to fail
abbrev pub next_is_listed : HostState → Bool
next_is_listed h = is_listed h.fail (raised h.calls)

-- whether a `load` of this path fails
abbrev pub load_fails : HostState → List ℕ → Bool
load_fails h path = next_is_listed h || is_none (file_in h.files path)

-- whether a `store` of these bytes under this path fails
abbrev pub store_fails : HostState → List ℕ → List ℕ → Bool
store_fails h path bytes = next_is_listed h || not (fits_in h.room (stored h.files path bytes))

-- whether a `swap_open` of so many pages fails
abbrev pub open_fails : HostState → ℕ → Bool
open_fails h pages = next_is_listed h || nat_lt h.pages pages

-- the host after a call that changes nothing else
abbrev pub after_call : HostState → HostState
after_call h = record h { calls = raised h.calls }

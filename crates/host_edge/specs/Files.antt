-- What a host does with files and swap pages: this program's own.
use Rattle.std.specs.Prelude.{◌≡◌, ◌≢◌, ℕ, ◌+◌, ◌≤◌, ◌++◌, List, length, take, drop, Option, Some, is_some, Result, OnOk, OnErr, IfOk, nat_lt, if◌then◌else◌}

-- the length of a page of the swap, in bytes
abbrev pub page_len : ℕ
page_len = 4096

-- what a host holds: its files by their paths, and the pages of its swap by their numbers
pub record Held : Type 0 where
  pub file : List ℕ → Option (List ℕ)
  pub page : ℕ → List ℕ

-- a file's length, or one more than the buffer's where the file is longer
abbrev pub length_within : ℕ → ℕ → ℕ
length_within len room = if nat_lt room len then room + 1 else len

-- where a host tells what it holds, it still tells it after the call, and the two are so related
pub record Becomes (Related : Held → Held → Type 0) (old new : Option Held) : Type 0 where
  pub tells : is_some new ≡ is_some old
  pub related : (held : Held) → old ≡ Some held → (after : Held) × (new ≡ Some after) × Related held after

-- the file's first bytes stand in the buffer, as many as fit
pub record Loads (file before after : List ℕ) (len : ℕ) : Type 0 where
  pub says : len ≡ length_within (length file) (length before)
  pub bytes : after ≡ take (length before) file ++ drop (length file) before

-- `load` changes nothing that is held, answers at most one more than the buffer's length, and leaves the bytes behind
-- the file; where what is held is told, the path is held and its file is loaded
pub record LoadMeets {E : Type 0} (old new : Option Held) (path before after : List ℕ) (result : Result ℕ E) : Type 0 where
  pub keeps : new ≡ old
  pub fits : IfOk result (λ len. len ≤ length before + 1)
  pub rest : IfOk result (λ len. drop len after ≡ drop len before)
  pub loads : IfOk result (λ len. (held : Held) → old ≡ Some held
      → (file : List ℕ) × (held.file path ≡ Some file) × Loads file before after len)

-- no other file and no page is another than it was
pub record KeepsOthers (path : List ℕ) (old new : Held) : Type 0 where
  pub files : (other : List ℕ) → other ≢ path → new.file other ≡ old.file other
  pub pages : new.page ≡ old.page

-- the file holds exactly these bytes
pub record Stores (path bytes : List ℕ) (old new : Held) : Type 0 where
  pub stored : new.file path ≡ Some bytes
  pub others : KeepsOthers path old new

-- `store` makes the file hold the bytes; after a fault that file may hold anything
pub record StoreMeets {E : Type 0} (old new : Option Held) (path bytes : List ℕ) (result : Result (Unit {0}) E) : Type 0 where
  pub stores : OnOk result (Becomes (Stores path bytes) old new)
  pub failed : OnErr result (Becomes (KeepsOthers path) old new)

-- no file is another than it was
abbrev pub KeepsFiles : Held → Held → Type 0
KeepsFiles old new = new.file ≡ old.file

-- `swap_open` changes no file; what the pages hold after it is left open
pub record OpenMeets (old new : Option Held) : Type 0 where
  pub keeps : Becomes KeepsFiles old new

-- `swap_get` changes nothing that is held, and hands the page back
pub record GetMeets {E : Type 0} (old new : Option Held) (page : ℕ) (after : List ℕ) (result : Result (Unit {0}) E) : Type 0 where
  pub keeps : new ≡ old
  pub page_is : OnOk result ((held : Held) → old ≡ Some held → after ≡ held.page page)

-- no other page and no file is another than it was
pub record KeepsOtherPages (page : ℕ) (old new : Held) : Type 0 where
  pub files : new.file ≡ old.file
  pub pages : (other : ℕ) → other ≢ page → new.page other ≡ old.page other

-- the page is these bytes
pub record PutsPage (page : ℕ) (bytes : List ℕ) (old new : Held) : Type 0 where
  pub is_put : new.page page ≡ bytes
  pub others : KeepsOtherPages page old new

-- `swap_put` makes the page these bytes; after a fault that page may be anything
pub record PutMeets {E : Type 0} (old new : Option Held) (page : ℕ) (bytes : List ℕ) (result : Result (Unit {0}) E) : Type 0 where
  pub puts : OnOk result (Becomes (PutsPage page bytes) old new)
  pub failed : OnErr result (Becomes (KeepsOtherPages page) old new)

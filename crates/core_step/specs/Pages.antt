-- How many pages accesses touch.
use Rattle.std.specs.Prelude.{ℕ, ◌≤◌, ◌<◌, ◌+◌, ◌/◌, List, [], ◌∷◌, length}
use Rattle.std.specs.List.{All, Contains}
use Rattle.machine_state.specs.Memory.{page_size}
use Rattle.machine_state.specs.declared.kinds.Kind.TheVariants.{Execute}
use Rattle.machine_state.specs.declared.kinds.Access.{Access}
use Rattle.form_scan.specs.Shaped.{most_bytes}

-- each byte of an access lies on one of these pages
abbrev pub LiesOn : List ℕ → Access → Type 0
LiesOn pages access = (at : ℕ) → access.addr ≤ at → at < access.addr + access.len → Contains pages (at / page_size)

-- there are at most so many pages such that each byte of each access lies on one of them
pub record TouchesAtMost (most : ℕ) (accesses : List Access) : Type 0 where
  pub pages : List ℕ
  pub few : length pages ≤ most
  pub lie : All (LiesOn pages) accesses

-- the bytes that the fetch of an instruction may read
abbrev pub fetch_accesses : (rip : ℕ) → List Access
fetch_accesses rip = record { kind = Execute; addr = rip; len = most_bytes } ∷ []

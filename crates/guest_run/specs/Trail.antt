-- The trail: the pieces of work that lead from one outside to another, and what may stand where a call failed in one of them.
use Rattle.std.specs.Prelude.{◌≡◌, ◌≢◌, ℕ, zero, suc, List, [], ◌∷◌, Contains, slice_get, Option, Some, None}
use Rattle.machine_state.specs.declared.kinds.GuestEnd.{GuestEnd}
use Rattle.host_edge.specs.declared.outside.HostCall.{HostCall}
use Rattle.machine_state.specs.World.{World}
use Rattle.linux_calls.specs.Outside.{Between}
use Rattle.guest_run.specs.Step.{Ran, step, calls_in_step}
use Rattle.guest_run.specs.Outside.{Files, Outside, outside, standing_on}

-- a piece of work: what stands before and after it, the calls on the outside that are made in it, which are those that may fail
-- there, and the path of the file that it stores, if it stores one
pub record Piece : Type 0 where
  pub before : Outside
  pub after : Outside
  pub calls : List HostCall
  pub stores : Option (List ℕ)

-- pieces that lead from one outside to another: the first begins with what stands at the start, each begins with what the one
-- before it leaves, and the last leaves what stands at the end
unfoldable pub HangTogether : Outside → List Piece → Outside → Type 0
HangTogether from [] to = to ≡ from
HangTogether from (piece ∷ rest) to = (piece.before ≡ from) × HangTogether piece.after rest to

-- ---- a call that failed
-- the files after a failure in work that stores this file, if any: all others are as they were
abbrev pub FilesLeft : Option (List ℕ) → (before now : Files) → Type 0
FilesLeft None before now = now ≡ before
FilesLeft (Some path) before now = (other : List ℕ) → other ≢ path → now other ≡ before other

-- what may stand where this call failed in a piece: the streams have all that stood before it, and nothing that it would not have
-- put, and no more input is taken than it takes
pub record FailsIn (piece : Piece) (call : HostCall) (now : Outside) : Type 0 where
  pub made : Contains piece.calls call
  pub streams : Between (standing_on piece.before) (standing_on piece.after) (standing_on now)
  pub files : FilesLeft piece.stores piece.before.files now.files

-- what may stand where this call failed on a trail: it did in one of the pieces. So all that the pieces before that one leave is
-- there, and nothing of a later one
pub record FailsOn (trail : List Piece) (call : HostCall) (now : Outside) : Type 0 where
  pub index : ℕ
  pub piece : Piece
  pub is : slice_get trail index ≡ Some piece
  pub fails : FailsIn piece call now

-- ---- runs
-- the piece of work that leads from a world, with these calls in it; it stores no file
abbrev pub piece_of : Files → World → Ran → List HostCall → Piece
piece_of files from to calls = record { before = outside files from; after = outside files to.world; calls = calls; stores = None }

-- the pieces of a run: its steps
unfoldable pub run_trail : Files → World → ℕ → List Piece
run_trail files w zero = []
run_trail files w (suc steps) =
    piece_of files w (step w) (calls_in_step w)
    ∷ elim (step w).end [ None ↦ run_trail files (step w).world steps | Some end ↦ [] ]

-- and those from an end that may already be there
abbrev pub trail_on : Files → World → Option GuestEnd → ℕ → List Piece
trail_on files w None steps = run_trail files w steps
trail_on files w (Some end) steps = []

-- The fetch of an instruction: by the written machine, and as far as its bytes can be had now.
use Rattle.std.specs.Prelude.{ℕ, ◌≡◌, ◌<◌, ◌≤◌, ◌+◌, ◌/◌, true, false, List, Option, Some, None, MatchOption, ⊤}
use Rattle.machine_state.specs.declared.kinds.Kind.TheVariants.{Execute}
use Rattle.machine_state.specs.declared.kinds.Miss.{Miss}
use Rattle.machine_state.specs.declared.kinds.Miss.TheVariants.{Unmapped, Denied, NonCanonical, Away}
use Rattle.gpr_flags.specs.declared.kinds.Fault.TheVariants.{Undefined, General, Page}
use Rattle.machine_state.specs.Memory.{page_size, miss_at, first_miss, bytes_at, allowed_run}
use Rattle.machine_state.specs.State.{State}
use Rattle.guest_pages.specs.Table.{Table, perms_in, away_at, blocked}
use Rattle.form_scan.specs.Shaped.{most_bytes}
use Rattle.x_decode.specs.declared.kinds.Seen.{Seen}
use Rattle.x_decode.specs.declared.kinds.Seen.TheVariants.{Instr as Spells, Short, TooLong, Bad}
use Rattle.x_decode.specs.Seeing.{IsDecoded, seen, IsSeen}
use Rattle.core_step.specs.declared.fetching.Fetched.{Fetched}
use Rattle.core_step.specs.declared.fetching.Fetched.TheVariants.{Instr, Trap, Need}

-- ---- the written machine
-- what comes of bytes that are short, by what keeps the next one from being had: #PF names that byte (SDM volume 3, 4.7); a byte
-- that isn't canonical is #GP, and so are fifteen bytes that don't end (SDM volume 3, 6.15)
abbrev pub stopped : Option Miss → Fetched
stopped None = Trap General
stopped (Some (Unmapped addr)) = Trap (Page addr false true false)
stopped (Some (Denied addr)) = Trap (Page addr false true true)
stopped (Some (NonCanonical addr)) = Trap General
stopped (Some (Away slot)) = Need slot

-- what comes of bytes by what they spell, and by what keeps the next one from being had
abbrev pub outcome : Seen → Option Miss → Fetched
outcome (Spells d len) stop = Instr d len
outcome Short stop = stopped stop
outcome TooLong stop = Trap General
outcome Bad stop = Trap Undefined

-- what is fetched from whole memory: by the bytes from the instruction pointer up to the first that isn't allowed, as many at
-- most as an instruction has, and by that first byte. No page is away there, so none is needed
unfoldable pub fetched : State → Fetched
fetched s = outcome (seen (allowed_run s.memory Execute s.rip most_bytes)) (first_miss s.memory.perms Execute s.rip most_bytes)

-- ---- as far as bytes can be had now
-- so many bytes can be fetched now, and they are `most`, or the next one can't
pub record IsRun (table : Table) (addr most count : ℕ) (stop : Option Miss) : Type 0 where
  pub ready : blocked table Execute addr count ≡ None
  pub end : MatchOption stop (count ≡ most)
      (λ miss. (count < most) × (blocked table Execute (addr + count) 1 ≡ Some miss))

-- the first bytes from the instruction pointer up can be fetched now and don't end an instruction, and the next one may be
-- executed, but lies on the away page in this slot
pub record NeedsPage (table : Table) (byte : ℕ → ℕ) (rip slot : ℕ) : Type 0 where
  pub count : ℕ
  pub fewer : count < most_bytes
  pub ready : blocked table Execute rip count ≡ None
  pub short : seen (bytes_at byte rip count) ≡ Short
  pub allowed : miss_at (perms_in table) Execute (rip + count) ≡ None
  pub away : away_at (table ((rip + count) / page_size)) ≡ Some (Away slot)

-- what comes of bytes all of which could be read
pub record IsOutcome (bytes : List ℕ) (answer : Fetched) : Type 0 where
  pub what : Seen
  pub seen : IsSeen bytes what
  pub is : answer ≡ outcome what None

-- an answer that isn't Need is what is fetched from whole memory
abbrev pub IsFetched : State → Fetched → Type 0
IsFetched s (Instr d len) = Instr d len ≡ fetched s
IsFetched s (Trap fault) = Trap fault ≡ fetched s
IsFetched s (Need slot) = ⊤

-- the fields of the instruction spell its row, and it has at least one byte and at most as many as an instruction has
abbrev pub IsFetchFit : Fetched → Type 0
IsFetchFit (Instr d len) = IsDecoded d.fields d × (1 ≤ len) × (len ≤ most_bytes)
IsFetchFit (Trap fault) = ⊤
IsFetchFit (Need slot) = ⊤

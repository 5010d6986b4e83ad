-- What a cache of fetches keeps.
use Rattle.std.specs.Prelude.{ℕ, ◌≡◌, ◌<◌, List, length, slice_index_or, ⊤}
use Rattle.core_step.specs.declared.fetch_cache.Sighting.{Sighting}
use Rattle.core_step.specs.declared.fetching.Fetched.{Fetched}
use Rattle.core_step.specs.declared.fetching.Fetched.TheVariants.{Instr, Trap, Need}
use Rattle.core_step.specs.declared.prepared.Kept.{Kept}
use Rattle.core_step.specs.declared.prepared.Kept.TheVariants.{Instr as KeptInstr, Trap as KeptTrap, Need as KeptNeed}
use Rattle.core_step.specs.Fetch.{IsOutcome}
use Rattle.core_step.specs.Forms.{IsPrepared}

-- how a fetch ends
abbrev pub fetched_of : Kept → Fetched
fetched_of (KeptInstr p) = Instr p.decoded p.len
fetched_of (KeptTrap fault) = Trap fault
fetched_of (KeptNeed slot) = Need slot

-- the instruction is prepared
abbrev pub IsKeptFit : Kept → Type 0
IsKeptFit (KeptInstr p) = IsPrepared p
IsKeptFit (KeptTrap fault) = ⊤
IsKeptFit (KeptNeed slot) = ⊤

-- what is kept of how a fetch ends
pub record IsKeptOf (fetched : Fetched) (kept : Kept) : Type 0 where
  pub fetched_is : fetched_of kept ≡ fetched
  pub fits : IsKeptFit kept

-- what is kept of bytes all of which could be read
pub record IsSighting (bytes : List ℕ) (kept : Kept) : Type 0 where
  pub outcome : IsOutcome bytes (fetched_of kept)
  pub fits : IsKeptFit kept

-- 4,096 byte strings, each with what is kept of its fetch
pub record AreKept (all : List Sighting) : Type 0 where
  pub count : length all ≡ 4096
  pub fetched : (k : ℕ) (other : Sighting) → k < length all → let one = slice_index_or all k other in IsSighting one.bytes one.kept

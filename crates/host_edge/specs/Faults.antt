-- The counts that a host keeps, as its contracts see them: this program's own.
use Rattle.std.specs.Prelude.{◌<◌, ◌^◌}
use Rattle.host_edge.specs.Causes.{Counts}
use Rattle.host_edge.specs.declared.counts.Faults.{Faults}

-- the five counts
abbrev pub counts_of : Faults → Counts
counts_of f = record { load = f.load; store = f.store; swap_open = f.swap_open; swap_get = f.swap_get; swap_put = f.swap_put }

-- each count is within its type
pub record IsCounted (f : Faults) : Type 0 where
  pub load : f.load < 2 ^ 64
  pub store : f.store < 2 ^ 64
  pub swap_open : f.swap_open < 2 ^ 64
  pub swap_get : f.swap_get < 2 ^ 64
  pub swap_put : f.swap_put < 2 ^ 64

-- The counts of faults, by which a call that failed is told from one that didn't: this program's own.
use Rattle.std.specs.Prelude.{◌≡◌, ℕ, ◌+◌, ◌-◌, ◌^◌, ◌≤◌, ◌<◌, Bool, List, min, nat_eq, Result, OnOk, OnErr}
use Rattle.std.specs.List.{list_any}

-- one more, up to the last value of a count
abbrev pub raised : ℕ → ℕ
raised count = min (count + 1) (2 ^ 64 - 1)

-- the count went up, or stands at its last value
abbrev pub Rose : ℕ → ℕ → Type 0
Rose before now = raised before ≤ now

-- a count never falls, stays in a call that doesn't fail, and rises in a call that fails
pub record HasCause {T E : Type 0} (before now : ℕ) (result : Result T E) : Type 0 where
  pub later : before ≤ now
  pub fits : now < 2 ^ 64
  pub kept : OnOk result (now ≡ before)
  pub failed : OnErr result (Rose before now)

-- how often each of the five calls of a host has failed
pub record Counts : Type 0 where
  pub load : ℕ
  pub store : ℕ
  pub swap_open : ℕ
  pub swap_get : ℕ
  pub swap_put : ℕ

-- whether the call with this number is listed to fail
abbrev pub is_listed : List ℕ → ℕ → Bool
is_listed fail call = list_any (λ number. nat_eq number call) fail

-- no call has failed
abbrev pub no_faults : Counts
no_faults = record { load = 0; store = 0; swap_open = 0; swap_get = 0; swap_put = 0 }

-- How often the calls on the outside have failed, and by which count an end by one of them is caused.
use Rattle.std.specs.Prelude.{◌≡◌, ℕ, All, List, Contains, Option, Some, None}
use Rattle.host_edge.specs.declared.outside.HostCall.{HostCall}
use Rattle.host_edge.specs.declared.outside.HostCall.TheVariants.{Load, Store, SwapOpen, SwapGet, SwapPut, Take, PutOut, PutErr}
use Rattle.host_edge.specs.Causes.{Rose, Counts}

-- the counts of failed calls of a host, a source and two sinks
pub record Tally : Type 0 where
  pub host : Counts
  pub take : ℕ
  pub out : ℕ
  pub err : ℕ

abbrev pub tally : (host : Counts) → (take out err : ℕ) → Tally
tally host take out err = record { host = host; take = take; out = out; err = err }

-- the count of a call
abbrev pub count_of : HostCall → Tally → ℕ
count_of (Load word) t = t.host.load
count_of (Store word) t = t.host.store
count_of SwapOpen t = t.host.swap_open
count_of SwapGet t = t.host.swap_get
count_of SwapPut t = t.host.swap_put
count_of Take t = t.take
count_of PutOut t = t.out
count_of PutErr t = t.err

-- the counts with another count of that call
abbrev pub with_count : HostCall → ℕ → Tally → Tally
with_count (Load word) count t = record t { host = record t.host { load = count } }
with_count (Store word) count t = record t { host = record t.host { store = count } }
with_count SwapOpen count t = record t { host = record t.host { swap_open = count } }
with_count SwapGet count t = record t { host = record t.host { swap_get = count } }
with_count SwapPut count t = record t { host = record t.host { swap_put = count } }
with_count Take count t = record t { take = count }
with_count PutOut count t = record t { out = count }
with_count PutErr count t = record t { err = count }

-- where no call failed no count changed; a call that failed is one of these, its count rose, and no other changed
abbrev pub IsCounted : List HostCall → Option HostCall → Tally → Tally → Type 0
IsCounted calls None old new = new ≡ old
IsCounted calls (Some call) old new =
    Contains calls call × Rose (count_of call old) (count_of call new) × (new ≡ with_count call (count_of call new) old)

-- the count of none of these calls rose, where one that stands at its end counts as one that rose
abbrev pub NoneRose : List HostCall → Tally → Tally → Type 0
NoneRose calls old new = All (λ call. Rose (count_of call old) (count_of call new) → ⊥) calls

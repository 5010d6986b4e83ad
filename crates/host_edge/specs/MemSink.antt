-- What a sink in memory is, and when its calls fail: this program's own.
use Rattle.std.specs.Prelude.{ℕ, ◌+◌, List, ◌++◌, length, take, find, Option, option_map, Some, nat_eq, nat_lt, if◌then◌else◌}
use Rattle.host_edge.specs.Causes.{raised}

-- how many bytes the call with this number puts before it fails, by the first entry with that number
abbrev pub listed_part : List (ℕ × ℕ) → ℕ → Option ℕ
listed_part fail call = option_map (λ entry. entry.1) (find (λ entry. nat_eq entry.0 call) fail)

-- the bytes that were put, how many may be put, the numbers of the calls that fail with the bytes that each puts before,
-- and how many calls came and failed
pub record SinkState : Type 0 where
  pub taken : List ℕ
  pub room : ℕ
  pub fail : List (ℕ × ℕ)
  pub calls : ℕ
  pub faults : ℕ

-- how many bytes a call of so many bytes puts before it fails, if it fails: none where they pass the room
abbrev pub part_put : SinkState → ℕ → Option ℕ
part_put s count = if nat_lt s.room (length s.taken + count) then Some 0 else listed_part s.fail (raised s.calls)

-- the sink after a call that put all its bytes
abbrev pub after_put : SinkState → List ℕ → SinkState
after_put s bytes = record s { taken = s.taken ++ bytes; calls = raised s.calls }

-- the sink after a call that put so many bytes and failed
abbrev pub after_failed_put : SinkState → List ℕ → ℕ → SinkState
after_failed_put s bytes part =
    record s { taken = s.taken ++ take part bytes; calls = raised s.calls; faults = raised s.faults }

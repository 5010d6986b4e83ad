-- What a source in memory is, and when its calls fail: this program's own.
use Rattle.std.specs.Prelude.{ℕ, List, length, drop, min}
use Rattle.host_edge.specs.Causes.{raised}

-- the bytes that are left, the most that one call gives, the numbers of the calls that fail, and how many calls came and failed
pub record SourceState : Type 0 where
  pub left : List ℕ
  pub most : ℕ
  pub fail : List ℕ
  pub calls : ℕ
  pub faults : ℕ

-- how many bytes a call gives that doesn't fail
abbrev pub count_given : SourceState → ℕ → ℕ
count_given s room = min (min (length s.left) s.most) room

-- the source after a call that gave so many bytes
abbrev pub after_take : SourceState → ℕ → SourceState
after_take s count = record s { left = drop count s.left; calls = raised s.calls }

-- the source after a call that failed
abbrev pub after_failed_take : SourceState → SourceState
after_failed_take s = record s { calls = raised s.calls; faults = raised s.faults }

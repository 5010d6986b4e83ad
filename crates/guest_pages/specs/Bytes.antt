-- Bytes within a page.
use Rattle.std.specs.Prelude.{ℕ, List, ◌++◌, take, drop, length}

-- bytes with others in place of their part from an index on, at the same length
abbrev pub put_at : List ℕ → ℕ → List ℕ → List ℕ
put_at bytes at other = take (length bytes) (take at bytes ++ (other ++ drop (length other) (drop at bytes)))

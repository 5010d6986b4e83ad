-- The bytes of a file, read and written at an offset (POSIX, pread and pwrite).
use Rattle.std.specs.Prelude.{ℕ, ◌+◌, ◌-◌, List, [], ◌∷◌, ◌++◌, length, take, drop, replicate, min}

-- the bytes from an offset on, at most so many; none at or behind the end
abbrev pub piece_of : List ℕ → (at most : ℕ) → List ℕ
piece_of content at most = take most (drop at content)

-- a buffer whose first bytes are these
abbrev pub filled : List ℕ → List ℕ → List ℕ
filled piece into = piece ++ drop (length piece) into

-- a content of which some bytes from an offset on are these: what lies between its end and the offset is 0 then, and no
-- bytes change nothing
unfoldable pub content_with : List ℕ → ℕ → List ℕ → List ℕ
content_with content at [] = content
content_with content at (byte ∷ bytes) =
    take at content ++ (replicate (at - length content) 0 ++ ((byte ∷ bytes) ++ drop (at + length (byte ∷ bytes)) content))

-- how many of so many bytes from an offset on lie below the cap
abbrev pub count_below : (cap at count : ℕ) → ℕ
count_below cap at count = min count (cap - at)

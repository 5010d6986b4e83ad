-- What stands on a guest's streams, and what a call that failed may leave there.
use Rattle.std.specs.Prelude.{◌≡◌, ℕ, ⊤, List, ◌++◌, Option, Some, None}
use Rattle.machine_state.specs.World.{World}

-- the input that is left, output and error output
pub record Standing : Type 0 where
  pub left : List ℕ
  pub out : List ℕ
  pub err : List ℕ

abbrev pub standing_in : World → Standing
standing_in w = record { left = w.left; out = w.out; err = w.err }

abbrev pub with_standing : World → Standing → World
with_standing w on = record w { left = on.left; out = on.out; err = on.err }

-- what three streams tell: the input that is left, and what output and error output were given
pub record Streams : Type 0 where
  pub left : Option (List ℕ)
  pub out : Option (List ℕ)
  pub err : Option (List ℕ)

abbrev pub streams : (left out err : Option (List ℕ)) → Streams
streams left out err = record { left = left; out = out; err = err }

-- a stream has these bytes, where it is told
abbrev pub IsTold : Option (List ℕ) → List ℕ → Type 0
IsTold None bytes = ⊤
IsTold (Some told) bytes = bytes ≡ told

-- this stands on the streams, as far as they tell it
pub record AreTold (s : Streams) (on : Standing) : Type 0 where
  pub left : IsTold s.left on.left
  pub out : IsTold s.out on.out
  pub err : IsTold s.err on.err

-- `longer` is `xs` with something behind it
abbrev pub Extends : List ℕ → List ℕ → Type 0
Extends xs longer = (more : List ℕ) × (longer ≡ xs ++ more)

-- `xs` is something and then `rest`
abbrev pub EndsIn : List ℕ → List ℕ → Type 0
EndsIn xs rest = (front : List ℕ) × (xs ≡ front ++ rest)

-- the streams have gone on from one to the other: more is put, and input is taken from the front
pub record Grown (from now : Standing) : Type 0 where
  pub out : Extends from.out now.out
  pub err : Extends from.err now.err
  pub left : EndsIn from.left now.left

-- what may stand after a failure in the work that leads from one to the other: the streams have all of what stood before, and
-- nothing that the work would not have put; no more input is taken than the work takes
pub record Between (from to now : Standing) : Type 0 where
  pub has : Grown from now
  pub within : Grown now to

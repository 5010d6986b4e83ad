-- Numbers in linked lists. No public clause cites this module.
use Rattle.std.specs.Prelude.{ℕ, false, ◌≡◌, ◌<◌, ◌==◌, List, [], ◌∷◌, ◌++◌, ◌&&◌, not, true, Bool, Option, Some, None, slice_index_or, length, if◌then◌else◌}
use Rattle.std.specs.List.{list_any}
use Rattle.guest_pages.specs.declared.lists.Lists.{Lists}

-- whether a number is one of these
abbrev pub among : ℕ → List ℕ → Bool
among k numbers = list_any (λ n. k == n) numbers

-- from a number on, the links lead along these numbers and then nowhere; none of them comes twice
abbrev pub IsChain : List (Option ℕ) → Option ℕ → List ℕ → Type 0
IsChain nexts at [] = at ≡ None
IsChain nexts at (k ∷ ks) = (at ≡ Some k) × (k < length nexts) × (among k ks ≡ false) × IsChain nexts (slice_index_or nexts k None) ks

-- these are the numbers of a list, in order
abbrev pub IsList : Lists → ℕ → List ℕ → Type 0
IsList lists list numbers = IsChain lists.nexts.items (slice_index_or lists.heads.items list None) numbers

-- a number is in a list
pub record IsIn (lists : Lists) (list number : ℕ) : Type 0 where
  pub numbers : List ℕ
  pub is : IsList lists list numbers
  pub has : among number numbers ≡ true

-- the number before another in a list, if there is one
abbrev pub IsBefore : Lists → ℕ → ℕ → Option ℕ → Type 0
IsBefore lists list number None = (after : List ℕ) × IsList lists list (number ∷ after)
IsBefore lists list number (Some before) = (front after : List ℕ) × IsList lists list (front ++ before ∷ number ∷ after)

-- a list has the numbers that it had without one of them
pub record IsRemoved (lists : Lists) (list number : ℕ) (numbers : List ℕ) : Type 0 where
  pub rest : List ℕ
  pub is : IsList lists list rest
  pub has : (k : ℕ) → among k rest ≡ (among k numbers && not (k == number))

-- no number is in both
abbrev pub AreDisjoint : List ℕ → List ℕ → Type 0
AreDisjoint some others = (k : ℕ) → among k some ≡ true → among k others ≡ false

-- a list has exactly the numbers that belong there
pub record IsListing (lists : Lists) (home : ℕ → ℕ) (list : ℕ) : Type 0 where
  pub numbers : List ℕ
  pub is : IsList lists list numbers
  pub has : (k : ℕ) → k < length lists.nexts.items → among k numbers ≡ (home k == list)

-- each number is in its home list, once, and in no other
abbrev pub AreListed : Lists → (ℕ → ℕ) → Type 0
AreListed lists home = (list : ℕ) → list < length lists.heads.items → IsListing lists home list

-- the homes where one number moves to another list
abbrev pub moved : (ℕ → ℕ) → ℕ → ℕ → ℕ → ℕ
moved home number to k = if k == number then to else home k

-- What a source and a sink do, where they tell their bytes and where they don't: this program's own.
use Rattle.std.specs.Prelude.{◌≡◌, ℕ, ◌≤◌, ◌++◌, [], List, length, take, drop, Option, unwrap_or, is_some, IsSome, Result, OnOk, OnErr, IfOk, ◌↔◌}

-- the bytes that are told, or none
abbrev pub told : Option (List ℕ) → List ℕ
told bytes = unwrap_or bytes []

-- all bytes are appended; after a fault, a prefix of them is
pub record Puts {E : Type 0} (old new : Option (List ℕ)) (bytes : List ℕ) (result : Result (Unit {0}) E) : Type 0 where
  pub tells : is_some new ≡ is_some old
  pub all : OnOk result (IsSome old → told new ≡ told old ++ bytes)
  pub front : OnErr result (IsSome old → (n : ℕ) × (n ≤ length bytes) × (told new ≡ told old ++ take n bytes))

-- the first bytes that are left move to the front of the buffer, whose rest stays; 0 says that none was left;
-- after a fault the same bytes are left
pub record Takes {E : Type 0} (old new : Option (List ℕ)) (before after : List ℕ) (result : Result ℕ E) : Type 0 where
  pub tells : is_some new ≡ is_some old
  pub fits : IfOk result (λ n. n ≤ length before)
  pub moved : IfOk result (λ n. IsSome old → told old ≡ take n after ++ told new)
  pub rest : IfOk result (λ n. IsSome old → drop n after ≡ drop n before)
  pub ended : IfOk result (λ n. IsSome old → (n ≡ 0 ↔ (told old ≡ [])))
  pub unmoved : OnErr result (new ≡ old)

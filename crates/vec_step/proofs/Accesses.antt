-- Lists of accesses, and bytes that are written.
use Rattle.std.proofs.Common.{◌≡◌, ℕ, ◌+◌, ◌-◌, ◌<◌, ◌≤◌, ◌⊎◌, inl, inr, cond, ◌&&◌, nat_le, nat_lt, List, [], ◌∷◌, ◌++◌, length, slice_index, ap}
use Rattle.std.specs.List.{All}
use Rattle.std.proofs.lemmas.List.Elements.{All-nil, All-cons, All-head, All-tail}
use Rattle.machine_state.specs.declared.kinds.Access.{Access}
use Rattle.machine_state.specs.Memory.{written}
use Rattle.machine_state.proofs.MemoryLemmas.{written_below, written_above}

-- what holds of each of two lists' elements holds of the first's
pub All_before : (P : Access → Type 0) (xs ys : List Access) → All P (xs ++ ys) → All P xs
All_before P [] ys all = All-nil P
All_before P (x ∷ xs) ys all = All-cons P x xs (All-head P x (xs ++ ys) all) (All_before P xs ys (All-tail P x (xs ++ ys) all))

-- and of the second's
pub All_behind : (P : Access → Type 0) (xs ys : List Access) → All P (xs ++ ys) → All P ys
All_behind P [] ys all = all
All_behind P (x ∷ xs) ys all = All_behind P xs ys (All-tail P x (xs ++ ys) all)

-- bytes that are written change no byte before them or behind them
pub written_outside : (byte : ℕ → ℕ) (addr len : ℕ) (bytes : List ℕ) (at : ℕ) → length bytes ≡ len → (at < addr) ⊎ (addr + len ≤ at)
    → written byte addr bytes at ≡ byte at
written_outside byte addr len bytes at count (inl below) = written_below byte addr bytes at below
written_outside byte addr len bytes at count (inr above) = written_above byte addr bytes at (rw count above)

-- bytes that are written leave a byte the same in two memories where it was the same
pub written_same : (byte other : ℕ → ℕ) (addr : ℕ) (bytes : List ℕ) (at : ℕ) → byte at ≡ other at
    → written byte addr bytes at ≡ written other addr bytes at
written_same byte other addr bytes at same =
    ap (λ (old : ℕ). cond (nat_le addr at && nat_lt at (addr + length bytes)) (slice_index bytes (at - addr)) old) same

-- A search from the front, place by place.
use Rattle.std.proofs.Common.{◌≡◌, ℕ, ◌+◌, ◌<◌, ◌≤◌, Bool, true, false, cond, List, length, get_or, drop, Option, Some, None, ◌∙◌, ap, find}
use Rattle.std.proofs.lemmas.List.{at_drop_more, at_drop_all}

-- the element at a place passes, or doesn't; no place is left
module _ {X : Type 0} (p : X → Bool) (xs : List X) (i : ℕ) where
  pub find-here : (d : X) → i < length xs → p (get_or xs i d) ≡ true → find p (drop i xs) ≡ Some (get_or xs i d)
  find-here d h e = at_drop_more (find p) xs i d h ∙ ap (λ (b : Bool). cond b (Some (get_or xs i d)) (find p (drop (i + 1) xs))) e

  pub find-behind : (d : X) → i < length xs → p (get_or xs i d) ≡ false → find p (drop i xs) ≡ find p (drop (i + 1) xs)
  find-behind d h e = at_drop_more (find p) xs i d h ∙ ap (λ (b : Bool). cond b (Some (get_or xs i d)) (find p (drop (i + 1) xs))) e

  pub find-none : length xs ≤ i → find p (drop i xs) ≡ None
  find-none h = at_drop_all (find p) xs i h

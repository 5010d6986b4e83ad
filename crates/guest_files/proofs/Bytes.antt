-- Cuts of joined bytes, and what a write at an offset leaves.
use Rattle.std.proofs.Common.{◌≡◌, ℕ, zero, suc, ◌+◌, ◌-◌, ◌≤◌, ◌<◌, List, [], ◌∷◌, ◌++◌, length, get_or, take, drop, replicate, refl, ap, ◌∙◌, arith, append_assoc, lit<}
use Rattle.std.proofs.lemmas.List.{append-nil, drop-drop, drop-replicate, get_or_default, length-append, length-drop, length-replicate, length-take, take-replicate}
use Rattle.std.proofs.lemmas.List.Elements.{All-append, All-drop, All-replicate, All-take}
use Rattle.machine_state.specs.Memory.{AreBytes}
use Rattle.guest_files.specs.Content.{content_with}

-- the first bytes of two lists that are joined
take_joined : (n : ℕ) (xs ys : List ℕ) → take n (xs ++ ys) ≡ take n xs ++ take (n - length xs) ys
take_joined zero xs ys = let none : 0 - length xs ≡ 0 = omega arith in rw none refl
take_joined (suc n) [] ys = let all : suc n - 0 ≡ suc n = omega arith in rw all refl
take_joined (suc n) (x ∷ xs) ys =
    let less : suc n - suc (length xs) ≡ n - length xs = omega arith in
    rw less (ap (λ zs. x ∷ zs) (take_joined n xs ys))

-- what is left of them
drop_joined : (n : ℕ) (xs ys : List ℕ) → drop n (xs ++ ys) ≡ drop n xs ++ drop (n - length xs) ys
drop_joined zero xs ys = let none : 0 - length xs ≡ 0 = omega arith in rw none refl
drop_joined (suc n) [] ys = let all : suc n - 0 ≡ suc n = omega arith in rw all refl
drop_joined (suc n) (x ∷ xs) ys =
    let less : suc n - suc (length xs) ≡ n - length xs = omega arith in
    rw less (drop_joined n xs ys)

-- bytes over a content that was filled up with zeros to their end
pub written_over : (content : List ℕ) (at : ℕ) (bytes : List ℕ) → 0 < length bytes →
    let filled = content ++ replicate (at + length bytes - length content) 0 in
    take at filled ++ (bytes ++ drop (length bytes) (drop at filled)) ≡ content_with content at bytes
unfolding content_with
written_over content at [] some = absurd (omega (arith, some))
written_over content at (byte ∷ bytes) some =
    let whole = byte ∷ bytes in
    let end = at + length whole in
    let zeros = replicate (end - length content) 0 in
    let front : take at (content ++ zeros) ≡ take at content ++ replicate (at - length content) 0 =
    take_joined at content zeros
    ∙ ap (λ xs. take at content ++ xs) (take-replicate (at - length content) (end - length content) 0 (omega arith)) in
    let none : end - length content - (end - length content) ≡ 0 = omega arith in
    let rest : drop (length whole) (drop at (content ++ zeros)) ≡ drop end content =
    drop-drop (length whole) at (content ++ zeros)
    ∙ (drop_joined end content zeros
    ∙ (ap (λ xs. drop end content ++ xs) (drop-replicate (end - length content) (end - length content) 0 ∙ rw none refl)
    ∙ append-nil (drop end content))) in
    rw (front, rest) (append_assoc (take at content) (replicate (at - length content) 0) (whole ++ drop end content))

-- no bytes change nothing
pub none_written : (content : List ℕ) (at : ℕ) (bytes : List ℕ) → length bytes ≡ 0 → content_with content at bytes ≡ content
unfolding content_with
none_written content at [] none = refl
none_written content at (byte ∷ bytes) none = absurd (omega (arith, none))

-- numbers below 256 are bytes
pub are_bytes : (xs : List ℕ) → ((k : ℕ) → get_or xs k 0 < 256) → AreBytes xs
are_bytes xs fits = λ k d within. rw (get_or_default xs k d 0 within) (fits k)

-- a content that is written is bytes
pub written_bytes : (content : List ℕ) (at : ℕ) (bytes : List ℕ) → AreBytes content → AreBytes bytes → AreBytes (content_with content at bytes)
unfolding content_with
written_bytes content at [] old new = old
written_bytes content at (byte ∷ bytes) old new =
    let P : ℕ → Type 0 = λ b. b < 256 in
    let whole = byte ∷ bytes in
    let zeros = replicate (at - length content) 0 in
    All-append P (take at content) (zeros ++ (whole ++ drop (at + length whole) content)) (All-take P at content old)
    (All-append P zeros (whole ++ drop (at + length whole) content) (All-replicate P (at - length content) 0 (lit< tt))
    (All-append P whole (drop (at + length whole) content) new (All-drop P (at + length whole) content old)))

-- it is no longer than it was, or than the bytes need
pub written_most : (content : List ℕ) (at : ℕ) (bytes : List ℕ) (cap : ℕ) → length content ≤ cap → (0 < length bytes → at + length bytes ≤ cap) →
    length (content_with content at bytes) ≤ cap
unfolding content_with
written_most content at [] cap most fits = most
written_most content at (byte ∷ bytes) cap most fits =
    let whole = byte ∷ bytes in
    let count = at - length content in
    let zeros : List ℕ = replicate count 0 in
    let zeros_len : length zeros ≡ count = length-replicate count 0 in
    let room : at + length whole ≤ cap = fits (omega arith) in
    let len = length-append (take at content) (zeros ++ (whole ++ drop (at + length whole) content)) in
    let rest = length-append zeros (whole ++ drop (at + length whole) content) in
    let last = length-append whole (drop (at + length whole) content) in
    omega (arith, len, rest, last, zeros_len, room, most, length-take at content, length-drop (at + length whole) content)

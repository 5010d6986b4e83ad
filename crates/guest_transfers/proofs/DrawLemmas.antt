-- Lemmas on draws of the random stream.
use Rattle.std.proofs.Common.{◌≡◌, ℕ, zero, suc, ◌+◌, ◌*◌, ◌/◌, ◌%◌, [], ◌∷◌, ◌++◌, refl, ap, arith, add-zero, slice_index}
use Rattle.byteorder.specs.Endian.{little_bytes}
use Rattle.machine_state.specs.Memory.{bytes_at}
use Rattle.machine_state.specs.Random.{next_random}
use Rattle.machine_state.proofs.MemoryLemmas.{bytes_at-append}
use Rattle.guest_transfers.specs.Draws.{drawn, drawn_byte, number_after}

pub number_after-zero : (number : ℕ) → number_after number 0 ≡ number
unfolding number_after
number_after-zero number = refl

-- a draw more
pub number_after-next : (number draws : ℕ) → number_after number (draws + 1) ≡ next_random (number_after number draws)
unfolding number_after
number_after-next number zero = refl
number_after-next number (suc draws) =
    let split : suc draws + 1 ≡ suc (draws + 1) = omega arith in
    rw split (number_after-next (next_random number) draws)

-- some draws, and then others
pub number_after-after : (number draws more : ℕ) → number_after (number_after number draws) more ≡ number_after number (draws + more)
unfolding number_after
number_after-after number zero more = let all : 0 + more ≡ more = omega arith in rw all refl
number_after-after number (suc draws) more =
    let split : suc draws + more ≡ suc (draws + more) = omega arith in
    rw split (number_after-after (next_random number) draws more)

-- a byte more
pub drawn-next : (number skip count : ℕ) → drawn number skip (count + 1) ≡ drawn number skip count ++ drawn_byte number (skip + count) ∷ []
unfolding bytes_at
drawn-next number skip count = bytes_at-append (drawn_byte number) skip count 1

same_byte : (number draws from skip : ℕ) → from ≡ draws * 8 + skip → (i : ℕ) → drawn_byte (number_after number draws) (skip + i) ≡ drawn_byte number (from + i)
same_byte number draws from skip is i =
    let split : (from + i) / 8 + 1 ≡ draws + ((skip + i) / 8 + 1) = omega arith in
    let place : (from + i) % 8 ≡ (skip + i) % 8 = omega arith in
    rw (split, place) (ap (λ (n : ℕ). slice_index (little_bytes 8 n) ((skip + i) % 8)) (number_after-after number draws ((skip + i) / 8 + 1)))

same_bytes : (byte other : ℕ → ℕ) (at place count : ℕ) → ((i : ℕ) → byte (at + i) ≡ other (place + i)) → bytes_at byte at count ≡ bytes_at other place count
unfolding bytes_at
same_bytes byte other at place zero same = refl
same_bytes byte other at place (suc count) same =
    let here : byte at ≡ other place = (rw (add-zero, add-zero) at (same 0)) in
    let rest : bytes_at byte (at + 1) count ≡ bytes_at other (place + 1) count =
    same_bytes byte other (at + 1) (place + 1) count
    (λ i. let a : at + 1 + i ≡ at + suc i = omega arith in let b : place + 1 + i ≡ place + suc i = omega arith in rw (a, b) (same (suc i))) in
    rw (here, rest) refl

-- bytes from within a draw, by the number that stands behind the draws before it
pub drawn-after : (number draws skip place count : ℕ) → place ≡ draws * 8 + skip → drawn (number_after number draws) skip count ≡ drawn number place count
drawn-after number draws skip place count is =
    same_bytes (drawn_byte (number_after number draws)) (drawn_byte number) skip place count (same_byte number draws place skip is)

-- bytes of successive draws, and those behind them
pub drawn-append : (number from count more : ℕ) → drawn number from (count + more) ≡ drawn number from count ++ drawn number (from + count) more
drawn-append number from count more = bytes_at-append (drawn_byte number) from count more

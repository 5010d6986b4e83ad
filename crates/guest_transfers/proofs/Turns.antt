-- Lemmas on transfers that are taken up again.
use Rattle.std.proofs.Common.{◌≡◌, ℕ, ◌+◌, ◌-◌, ◌/◌, ◌%◌, ◌≤◌, List, ◌++◌, Option, length, sym, ap, ◌∙◌, arith, append_assoc}
use Rattle.std.specs.Prelude.{is_some}
use Rattle.std.proofs.lemmas.List.{length-append}
use Rattle.host_edge.specs.Streams.{told}
use Rattle.guest_pages.specs.Pages.{PagesValue, byte_of}
use Rattle.guest_pages.proofs.Carries.{keeps_on}
use Rattle.guest_transfers.specs.declared.kinds.Piece.{Piece}
use Rattle.guest_transfers.specs.Draws.{drawn, number_after}
use Rattle.guest_transfers.specs.Pieces.{bytes_between, pieces_bytes, pieces_from, spread}
use Rattle.guest_transfers.specs.Moves.{IsPut, Moved}
use Rattle.guest_transfers.proofs.Along.{from_from, spread-append}
use Rattle.guest_transfers.proofs.PartLemmas.{range-append}
use Rattle.guest_transfers.proofs.DrawLemmas.{drawn-after, drawn-append}

pub put_on : (byte : ℕ → ℕ) (pieces : List Piece) (from between to : ℕ) (old now new : Option (List ℕ)) → from ≤ between → between ≤ to → is_some now ≡ is_some old
    → IsPut byte pieces from between old now → IsPut byte pieces between to now new → IsPut byte pieces from to old new
put_on byte pieces from between to old now new after more tells first second some =
    let split : between + (to - between) ≡ to = omega arith in
    second (tells ∙ some)
    ∙ ap (λ (xs : List ℕ). xs ++ bytes_between byte pieces between to) (first some)
    ∙ append_assoc (told old) (bytes_between byte pieces from between) (bytes_between byte pieces between to)
    ∙ ap (λ (xs : List ℕ). told old ++ xs) (range-append (pieces_bytes byte pieces) from between (to - between) after ∙ ap (bytes_between byte pieces from) split)

pub moved_on : (old now new : PagesValue) (pieces : List Piece) (from : ℕ) (xs ys : List ℕ) → Moved old now pieces from xs → Moved now new pieces (from + length xs) ys
    → Moved old new pieces from (xs ++ ys)
moved_on old now new pieces from xs ys first second = record {
  within = (let sum = length-append xs ys in let le = second.within in omega (arith, sum, le));
  keeps = keeps_on old now new first.keeps second.keeps;
  byte = λ swap.
      second.byte swap
      ∙ ap (λ (byte : ℕ → ℕ). spread byte (pieces_from pieces (from + length xs)) ys) (first.byte swap)
      ∙ ap (λ (left : List Piece). spread (spread (byte_of old swap) (pieces_from pieces from) xs) left ys) (sym (from_from pieces from (length xs)))
      ∙ spread-append (byte_of old swap) (pieces_from pieces from) xs ys;
}

pub drawn_on : (number from count more : ℕ)
    → drawn number from (count + more) ≡ drawn number from count ++ drawn (number_after number ((from + count) / 8)) ((from + count) % 8) more
drawn_on number from count more =
    drawn-append number from count more
    ∙ ap (λ (xs : List ℕ). drawn number from count ++ xs) (sym (drawn-after number ((from + count) / 8) ((from + count) % 8) (from + count) more (omega arith)))

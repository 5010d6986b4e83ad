-- What parts of a write do to the bytes that a writer is known to hold.
use Rattle.std.proofs.Common.{◌≡◌, ℕ, ◌+◌, ◌-◌, ◌≤◌, List, [], ◌++◌, length, take, drop, Option, Some, None, Err, refl, sym, ap, ◌∙◌, subst, append_assoc, append-nil, arith}
use Rattle.std.proofs.KnownBytes.{Appends-trans}
use Rattle.std.proofs.Math.ListN.{drop_of_length-le}
use Rattle.std.proofs.Math.Seq.{take-append-add}
use Rattle.std.proofs.lemmas.List.{drop-drop, length-append, length-drop, length-take-le, take-append-drop, take_at, take_rest}
use borrow.Rule.Slice.PartMut.{put_mid}
use Rattle.host_edge.proofs.ByteLemmas.{drop_behind}
use Rattle.std.specs.Io.KnownBytes.{Appends, Keeps}
use Rattle.host_edge.specs.Moves.{Writes}

-- some of the bytes were written, and these are left
abbrev pub Wrote : Option (List ℕ) → Option (List ℕ) → List ℕ → List ℕ → Type 0
Wrote old new bytes rest = (done : List ℕ) × (bytes ≡ done ++ rest) × Appends old new done

-- bytes that are known stay known after a call that writes none
kept : (old between new : Option (List ℕ)) (bytes : List ℕ) → Appends old between bytes → Keeps between new → Appends old new bytes
kept None between new bytes appended same = tt
kept (Some xs) None new bytes appended same = absurd appended
kept (Some xs) (Some ys) None bytes appended same = absurd same
kept (Some xs) (Some ys) (Some zs) bytes appended same = same ∙ appended

-- a further part was written
pub wrote_more : (old between new : Option (List ℕ)) (bytes rest : List ℕ) (count : ℕ) → Wrote old between bytes rest →
    Appends between new (take count rest) → Wrote old new bytes (drop count rest)
wrote_more old between new bytes rest count (done, split, appended) more = (
  done ++ take count rest,
  split ∙ ap (λ l. done ++ l) (sym (take-append-drop count rest)) ∙ sym (append_assoc done (take count rest) (drop count rest)),
  Appends-trans old between new done (take count rest) appended more,
)

-- an error leaves a prefix written
pub writes_front : {E : Type 0} (old between new : Option (List ℕ)) (bytes rest : List ℕ) (error : E) →
    Wrote old between bytes rest → Keeps between new → Writes old new bytes (Err error)
writes_front old between new bytes rest error (done, split, appended) same = record {
  all = tt;
  front = (
    length done,
    omega (arith, ap length split, length-append done rest),
    subst (Appends old new) (sym (ap (take (length done)) split ∙ take_at done rest (length done) refl)) (kept old between new done appended same),
  );
}

-- a buffer whose part from a place on holds other bytes now
put_mid-end : (xs ys : List ℕ) (a : ℕ) → a ≤ length xs → put_mid a (length xs - a) xs ys ≡ take a xs ++ ys
put_mid-end xs ys a within =
    let none : drop (length xs - a) (drop a xs) ≡ [] = drop_of_length-le (drop a xs) (omega (arith, length-drop a xs)) in
    ap (λ l. take a xs ++ (ys ++ l)) none ∙ ap (λ l. take a xs ++ l) (append-nil ys)

-- what is read behind the first bytes stands behind them, and the rest of the buffer stays
pub record ReadsBehind (after xs ys before : List ℕ) (a n : ℕ) : Type 0 where
  pub fits : a + n ≤ length after
  pub front : take (a + n) after ≡ take a xs ++ take n ys
  pub rest : drop (a + n) after ≡ drop (a + n) before

pub reads_behind : (xs ys before : List ℕ) (a n : ℕ) → a ≤ length xs → n ≤ length ys → drop a xs ≡ drop a before →
    drop n ys ≡ drop n (take (length xs - a) (drop a xs)) →
    ReadsBehind (put_mid a (length xs - a) xs ys) xs ys before a n
reads_behind xs ys before a n within fits same rest =
    let front : length (take a xs) ≡ a = length-take-le a xs within in
    let whole = put_mid-end xs ys a within in
    record {
      fits = omega (arith, ap length whole, length-append (take a xs) ys);
      front = ap (take (a + n)) whole ∙ ap (λ m. take (m + n) (take a xs ++ ys)) (sym front) ∙ take-append-add (take a xs) ys n;
      rest = ap (drop (a + n)) whole ∙ drop_behind (take a xs) ys a n front ∙ rest ∙ ap (drop n) (take_rest xs a ∙ same)
          ∙ drop-drop n a before;
    }

-- One byte of a front after the other.
use Rattle.std.proofs.Common.{◌≡◌, ℕ, ◌+◌, ◌<◌, ◌≤◌, true, false, List, ◌∷◌, length, get_or, drop, take, ◌-◌, Ok, Err, ap, ◌∙◌, sym, cond, drop-cons, add-one}
use Rattle.std.proofs.Math.ListN.{drop_of_length-le}
use Rattle.std.proofs.lemmas.List.{take_rest}
use Rattle.form_scan.proofs.Reader.{got}
use Rattle.form_scan.specs.declared.kinds.Front.{Front}
use Rattle.form_scan.specs.declared.kinds.Lead.{Lead}
use Rattle.form_scan.specs.declared.kinds.Stop.TheVariants.{Short}
use Rattle.form_scan.specs.Front.{in_front}
use Rattle.form_scan.specs.Reading.{after, lead_at}

pub lead-cons-in : (f : Front) (b : ℕ) (bs : List ℕ) → in_front b ≡ true → lead_at f (b ∷ bs) ≡ lead_at (after f b) bs
unfolding lead_at
lead-cons-in f b bs h = ap (λ t. cond t (lead_at (after f b) bs) (Ok (record { front = f; byte = b }, bs))) h

pub lead-cons-out : (f : Front) (b : ℕ) (bs : List ℕ) → in_front b ≡ false → lead_at f (b ∷ bs) ≡ Ok (record { front = f; byte = b }, bs)
unfolding lead_at
lead-cons-out f b bs h = ap (λ t. cond t (lead_at (after f b) bs) (Ok (record { front = f; byte = b }, bs))) h

cell : (bs : List ℕ) (i : ℕ) → i < length bs → drop i bs ≡ get_or bs i 0 ∷ drop (i + 1) bs
cell bs i h = rw (add-one, drop-cons bs i 0)

pub lead-more : (f : Front) (bs : List ℕ) (i : ℕ) → i < length bs → in_front (get_or bs i 0) ≡ true → lead_at f (drop i bs) ≡ lead_at (after f (get_or bs i 0)) (drop (i + 1) bs)
lead-more f bs i lt h = ap (lead_at f) (cell bs i lt) ∙ lead-cons-in f _ _ h

pub lead-stop : (f : Front) (bs : List ℕ) (i : ℕ) → i < length bs → in_front (get_or bs i 0) ≡ false → lead_at f (drop i bs) ≡ Ok (record { front = f; byte = get_or bs i 0 }, drop (i + 1) bs)
lead-stop f bs i lt h = ap (lead_at f) (cell bs i lt) ∙ lead-cons-out f _ _ h

pub lead-end : (f : Front) (bs : List ℕ) (i : ℕ) → length bs ≤ i → lead_at f (drop i bs) ≡ Err Short
unfolding lead_at
lead-end f bs i le = ap (lead_at f) (drop_of_length-le bs le)

pub lead-stop-rest : (f : Front) (bs : List ℕ) (i : ℕ) → i < length bs → in_front (get_or bs i 0) ≡ false → lead_at f (drop i bs) ≡ Ok (record { front = f; byte = get_or bs i 0 }, take (length bs - (i + 1)) (drop (i + 1) bs))
lead-stop-rest f bs i lt h = lead-stop f bs i lt h ∙ ap (λ (r : List ℕ). got (let l : Lead = record { front = f; byte = get_or bs i 0 } in l) r) (sym (take_rest bs (i + 1)))

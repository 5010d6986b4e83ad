-- Readers of which each value has a text.
use Rattle.std.proofs.Common.{inl, inr, ◌≡◌, ℕ, suc, ◌-◌, ◌<◌, ◌≤◌, Bool, true, false, cond, List, [], ◌∷◌, ◌++◌, length, take, drop, replicate, Ok, refl, sym, ap, ◌∙◌, arith, length-append}
use Rattle.std.proofs.lemmas.Bool.{cases_lt, le-ltb, lt-ltb}
use Rattle.std.proofs.lemmas.List.{take-append-drop, length-take, length-replicate}
use Rattle.std.proofs.Math.Seq.{take-append_seam, drop-append_seam}
use Rattle.form_scan.specs.declared.kinds.Stop.TheVariants.{Short, Dead}
use Rattle.form_scan.specs.Reading.{byte_at, chunk_at}
use Rattle.form_scan.proofs.Reader.{Read, got, stopped, Some, Reads, Seq, then, then-reads, byte-reads, lift, Lifted, lift-reads, Choice, got_same, fits-append, fits-zeros, fits-nil}

abbrev pub any : {A : Type 0} → A → Type 0
any a = Unit {0}

pub record Full {A : Type 0} (run : List ℕ → Read A) (rel : List ℕ → A → Type 0) : Type 0 where
  pub reads : Reads run rel any
  pub some : Some rel any

pub good-reads : {A : Type 0} (run : List ℕ → Read A) (rel : List ℕ → A → Type 0) (good : A → Type 0) → Reads run rel any → ((a : A) → good a) → Reads run rel good
good-reads run rel good r all = record {
  sound = r.sound;
  complete = r.complete;
  dead = r.dead;
  short = λ bytes e. let s = r.short bytes e in record { next = s.next; more = s.more; value = s.value; says = s.says; fine = all s.value; fits = s.fits };
}

-- the same reader under another form of its relation
pub same-reads : {A : Type 0} (run : List ℕ → Read A) (rel rel2 : List ℕ → A → Type 0) (good : A → Type 0) → ((text : List ℕ) (a : A) → rel text a → rel2 text a) → ((text : List ℕ) (a : A) → rel2 text a → rel text a) → Reads run rel good → Reads run rel2 good
same-reads run rel rel2 good to back r = record {
  sound = λ bytes a rest e. let t = r.sound bytes a rest e in record { text = t.text; says = to _ _ t.says; parts = t.parts };
  complete = λ text a rest h. r.complete text a rest (back text a h);
  short = λ bytes e. let s = r.short bytes e in record { next = s.next; more = s.more; value = s.value; says = to _ _ s.says; fine = s.fine; fits = s.fits };
  dead = r.dead;
}

pub same-full : {A : Type 0} (run : List ℕ → Read A) (rel rel2 : List ℕ → A → Type 0) → ((text : List ℕ) (a : A) → rel text a → rel2 text a) → ((text : List ℕ) (a : A) → rel2 text a → rel text a) → Full run rel → Full run rel2
same-full run rel rel2 to back r = record { reads = same-reads run rel rel2 any to back r.reads; some = let s = r.some in record { text = s.text; value = s.value; says = to _ _ s.says; fine = tt; fits = s.fits } }

pub then-full : {A B : Type 0} (run : List ℕ → Read A) (rel : List ℕ → A → Type 0) (next : A → List ℕ → Read B) (rel2 : A → List ℕ → B → Type 0) → Full run rel → ((a : A) → Full (next a) (rel2 a)) → Full (then run next) (Seq rel rel2)
then-full run rel next rel2 p q = record {
  reads = then-reads run rel next rel2 any (good-reads run rel (λ a. Some (rel2 a) any) p.reads (λ a. (q a).some)) (λ a. (q a).reads);
  some = let s = p.some in let t = (q s.value).some in record { text = s.text ++ t.text; value = t.value; says = record { front = s.text; tail = t.text; value = s.value; starts = s.says; ends = t.says; parts = refl }; fine = tt; fits = fits-append s.text t.text s.fits t.fits };
}

pub byte-full : Full byte_at (λ text b. text ≡ b ∷ [])
byte-full = record { reads = byte-reads any 0 tt refl; some = record { text = 0 ∷ []; value = 0; says = refl; fine = tt; fits = fits-zeros 1 } }

pub done-full : {A : Type 0} (a : A) → Full (lift (Ok a)) (Lifted (Ok a))
done-full a = record { reads = lift-reads (Ok a) any (λ e. cc); some = record { text = []; value = a; says = record { nothing = refl; is = refl }; fine = tt; fits = fits-nil } }

pub if-full : {A : Type 0} (b : Bool) (run run2 : List ℕ → Read A) (rel rel2 : List ℕ → A → Type 0) → Full run rel → Full run2 rel2 → Full (λ bytes. cond b (run bytes) (run2 bytes)) (λ text a. Choice b (rel text a) (rel2 text a))
if-full true run run2 rel rel2 p q = p
if-full false run run2 rel rel2 p q = q

-- ---- so many bytes
pub record Chunk (size : ℕ) (text : List ℕ) (v : List ℕ) : Type 0 where
  pub long : length text ≡ size
  pub is : v ≡ text

chunk-ok : (size : ℕ) (bytes : List ℕ) → size ≤ length bytes → chunk_at size bytes ≡ got (take size bytes) (drop size bytes)
unfolding chunk_at
chunk-ok size bytes le = ap (λ t. cond t (stopped Short) (got (take size bytes) (drop size bytes))) (le-ltb (length bytes) size le)

chunk-less : (size : ℕ) (bytes : List ℕ) → length bytes < size → chunk_at size bytes ≡ stopped Short
unfolding chunk_at
chunk-less size bytes lt = ap (λ t. cond t (stopped Short) (got (take size bytes) (drop size bytes))) (lt-ltb (length bytes) size lt)

-- zeros fill what is missing
abbrev filled : ℕ → List ℕ → List ℕ
filled size bytes = replicate (size - length bytes - 1) 0

pub chunk-full : (size : ℕ) → Full (chunk_at size) (Chunk size)
chunk-full size = record {
  reads = record {
    sound = λ bytes v rest e. elim (cases_lt (length bytes) size) [
      | inl lt ↦ absurd (let h : stopped Short ≡ got v rest = sym (chunk-less size bytes lt) ∙ e in cc)
      | inr le ↦
          let h = got_same _ _ _ _ (sym (chunk-ok size bytes le) ∙ e) in
          record { text = take size bytes; says = record { long = omega (arith, length-take size bytes); is = sym h.0 }; parts = sym (take-append-drop size bytes) ∙ ap (λ (r : List ℕ). take size bytes ++ r) h.1 }
    ];
    complete = λ text v rest s.
        let t : take size (text ++ rest) ≡ text = ap (λ n. take n (text ++ rest)) (sym s.long) ∙ take-append_seam text rest in
        let d : drop size (text ++ rest) ≡ rest = ap (λ n. drop n (text ++ rest)) (sym s.long) ∙ drop-append_seam text rest in
        let l = s.long in
        chunk-ok size (text ++ rest) (omega (arith, length-append text rest)) ∙ ap (λ (x : List ℕ). got x (drop size (text ++ rest))) t ∙ ap (λ (x : List ℕ). got text x) d ∙ ap (λ (x : List ℕ). got x rest) (sym s.is);
    short = λ bytes e. elim (cases_lt (length bytes) size) [
      | inl lt ↦ record { next = 0; more = filled size bytes; value = bytes ++ 0 ∷ filled size bytes; says = record { long = omega (arith, length-append bytes (0 ∷ filled size bytes), length-replicate {A = ℕ} (size - length bytes - 1) 0); is = refl }; fine = tt; fits = fits-zeros (suc (size - length bytes - 1)) }
      | inr le ↦ absurd (let h : got (take size bytes) (drop size bytes) ≡ stopped Short = sym (chunk-ok size bytes le) ∙ e in cc)
    ];
    dead = λ bytes more e. elim (cases_lt (length bytes) size) [
      | inl lt ↦ absurd (let h : stopped {A = List ℕ} Short ≡ stopped Dead = sym (chunk-less size bytes lt) ∙ e in cc)
      | inr le ↦ absurd (let h : got (take size bytes) (drop size bytes) ≡ stopped Dead = sym (chunk-ok size bytes le) ∙ e in cc)
    ];
  };
  some = record { text = replicate size 0; value = replicate size 0; says = record { long = length-replicate {A = ℕ} size 0; is = refl }; fine = tt; fits = fits-zeros size };
}

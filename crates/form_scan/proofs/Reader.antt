-- A reader and the texts that it takes.
use Rattle.std.proofs.Common.{zero, suc, replicate, ◌≡◌, ℕ, Bool, true, false, cond, List, [], ◌∷◌, ◌++◌, nat_lt, ◌&&◌, Result, Ok, Err, refl, sym, ap, ◌∙◌, append_assoc}
use Rattle.std.proofs.lemmas.Bool.{and_parts}
use Rattle.form_scan.specs.Shaped.{all_bytes}
use Rattle.form_scan.specs.declared.kinds.Stop.{Stop}
use Rattle.form_scan.specs.declared.kinds.Stop.TheVariants.{Short, Dead}
use Rattle.form_scan.specs.Reading.{◌>>=◌, byte_at}

pub fits-append : (xs ys : List ℕ) → all_bytes xs ≡ true → all_bytes ys ≡ true → all_bytes (xs ++ ys) ≡ true
unfolding all_bytes
fits-append [] ys h k = k
fits-append (x ∷ xs) ys h k =
    let w = and_parts (nat_lt x 256) (all_bytes xs) h in ap (λ t. t && all_bytes (xs ++ ys)) w.0 ∙ fits-append xs ys w.1 k

pub fits-zeros : (n : ℕ) → all_bytes (replicate n 0) ≡ true
unfolding all_bytes
fits-zeros zero = refl
fits-zeros (suc n) = fits-zeros n

pub fits-cons : (x : ℕ) (xs : List ℕ) → nat_lt x 256 ≡ true → all_bytes xs ≡ true → all_bytes (x ∷ xs) ≡ true
unfolding all_bytes
fits-cons x xs h k = ap (λ t. t && all_bytes xs) h ∙ k

pub fits-nil : all_bytes [] ≡ true
unfolding all_bytes
fits-nil = refl

-- what was read, with what is left
abbrev pub Read : Type 0 → Type 0
Read A = Result (A × List ℕ) Stop

abbrev pub got : {A : Type 0} → A → List ℕ → Read A
got a rest = Ok (a, rest)

abbrev pub stopped : {A : Type 0} → Stop → Read A
stopped e = Err e

-- a text of the relation stands at the front
pub record Taken {A : Type 0} (rel : List ℕ → A → Type 0) (bytes : List ℕ) (a : A) (rest : List ℕ) : Type 0 where
  pub text : List ℕ
  pub says : rel text a
  pub parts : bytes ≡ text ++ rest

-- the bytes begin a longer text of the relation
pub record Begins {A : Type 0} (rel : List ℕ → A → Type 0) (good : A → Type 0) (bytes : List ℕ) : Type 0 where
  pub next : ℕ
  pub more : List ℕ
  pub value : A
  pub says : rel (bytes ++ next ∷ more) value
  pub fine : good value
  pub fits : all_bytes (next ∷ more) ≡ true

pub record Some {A : Type 0} (rel : List ℕ → A → Type 0) (good : A → Type 0) : Type 0 where
  pub text : List ℕ
  pub value : A
  pub says : rel text value
  pub fine : good value
  pub fits : all_bytes text ≡ true

pub record Reads {A : Type 0} (run : List ℕ → Read A) (rel : List ℕ → A → Type 0) (good : A → Type 0) : Type 0 where
  pub sound : (bytes : List ℕ) (a : A) (rest : List ℕ) → run bytes ≡ got a rest → Taken rel bytes a rest
  pub complete : (text : List ℕ) (a : A) (rest : List ℕ) → rel text a → run (text ++ rest) ≡ got a rest
  pub short : (bytes : List ℕ) → run bytes ≡ stopped Short → Begins rel good bytes
  pub dead : (bytes more : List ℕ) → run bytes ≡ stopped Dead → run (bytes ++ more) ≡ stopped Dead

-- ---- what holds of every reader

-- what was read is read again, whatever follows
pub again : {A : Type 0} (run : List ℕ → Read A) (rel : List ℕ → A → Type 0) (good : A → Type 0) → Reads run rel good → (bytes : List ℕ) (a : A) (rest more : List ℕ) → run bytes ≡ got a rest → run (bytes ++ more) ≡ got a (rest ++ more)
again run rel good r bytes a rest more e =
    let t = r.sound bytes a rest e in
    ap (λ b. run (b ++ more)) t.parts ∙ ap run (append_assoc t.text rest more) ∙ r.complete t.text a (rest ++ more) t.says

pair_same : {A : Type 0} (a b : A) (r q : List ℕ) → got a r ≡ got b q → let p : A × List ℕ = (a, r) in let o : A × List ℕ = (b, q) in p ≡ o
pair_same a b r q e = cc

pub got_same : {A : Type 0} (a b : A) (r q : List ℕ) → got a r ≡ got b q → (a ≡ b) × (r ≡ q)
got_same a b r q e = let h = pair_same a b r q e in (ap (λ p. p.0) h, ap (λ p. p.1) h)

-- ---- one after the other
pub record Seq {A B : Type 0} (first : List ℕ → A → Type 0) (second : A → List ℕ → B → Type 0) (text : List ℕ) (b : B) : Type 0 where
  pub front : List ℕ
  pub tail : List ℕ
  pub value : A
  pub starts : first front value
  pub ends : second value tail b
  pub parts : text ≡ front ++ tail

abbrev pub then : {A B : Type 0} → (List ℕ → Read A) → (A → List ℕ → Read B) → List ℕ → Read B
then run next bytes = run bytes >>= λ x. next x.0 x.1

pub data Outcome {A : Type 0} (r : Read A) : Type 0 where
  is_got : (a : A) (rest : List ℕ) → r ≡ got a rest → Outcome r
  is_short : r ≡ stopped Short → Outcome r
  is_dead : r ≡ stopped Dead → Outcome r

pub outcome : {A : Type 0} (r : Read A) → Outcome r
outcome (Ok x) = is_got x.0 x.1 refl
outcome (Err Short) = is_short refl
outcome (Err Dead) = is_dead refl

differ : {A B : Type 0} (r : Read B) (a : B) (rest : List ℕ) (e : Stop) → r ≡ stopped e → r ≡ got a rest → A
differ r a rest e h k = absurd cc

pub then-reads : {A B : Type 0} (run : List ℕ → Read A) (rel : List ℕ → A → Type 0) (next : A → List ℕ → Read B) (rel2 : A → List ℕ → B → Type 0) (good : B → Type 0) → Reads run rel (λ a. Some (rel2 a) good) → ((a : A) → Reads (next a) (rel2 a) good) → Reads (then run next) (Seq rel rel2) good
then-reads run rel next rel2 good p q = record {
  sound = λ bytes b rest e. elim (outcome (run bytes)) [
    | is_got a mid h ↦
        let k : next a mid ≡ got b rest = sym (ap (λ r. r >>= λ x. next x.0 x.1) h) ∙ e in
        let s = p.sound bytes a mid h in let t = (q a).sound mid b rest k in
        record {
          text = s.text ++ t.text;
          says = record { front = s.text; tail = t.text; value = a; starts = s.says; ends = t.says; parts = refl };
          parts = s.parts ∙ ap (λ (m : List ℕ). s.text ++ m) t.parts ∙ sym (append_assoc s.text t.text rest);
        }
    | is_short h ↦ differ (then run next bytes) b rest Short (ap (λ r. r >>= λ x. next x.0 x.1) h) e
    | is_dead h ↦ differ (then run next bytes) b rest Dead (ap (λ r. r >>= λ x. next x.0 x.1) h) e
  ];
  complete = λ text b rest s.
      let h : run (text ++ rest) ≡ got s.value (s.tail ++ rest) = ap (λ t. run (t ++ rest)) s.parts ∙ ap run (append_assoc s.front s.tail rest) ∙ p.complete s.front s.value (s.tail ++ rest) s.starts in
      ap (λ r. r >>= λ x. next x.0 x.1) h ∙ (q s.value).complete s.tail b rest s.ends;
  short = λ bytes e. elim (outcome (run bytes)) [
    | is_got a mid h ↦
        let k : next a mid ≡ stopped Short = sym (ap (λ r. r >>= λ x. next x.0 x.1) h) ∙ e in
        let s = p.sound bytes a mid h in let t = (q a).short mid k in
        record {
          next = t.next;
          more = t.more;
          value = t.value;
          says = record { front = s.text; tail = mid ++ t.next ∷ t.more; value = a; starts = s.says; ends = t.says; parts = ap (λ b. b ++ t.next ∷ t.more) s.parts ∙ append_assoc s.text mid (t.next ∷ t.more) };
          fine = t.fine;
          fits = t.fits;
        }
    | is_short h ↦
        let s = p.short bytes h in let t = s.fine in
        record {
          next = s.next;
          more = s.more ++ t.text;
          value = t.value;
          says = record { front = bytes ++ s.next ∷ s.more; tail = t.text; value = s.value; starts = s.says; ends = t.says; parts = sym (append_assoc bytes (s.next ∷ s.more) t.text) };
          fine = t.fine;
          fits = fits-append (s.next ∷ s.more) t.text s.fits t.fits;
        }
    | is_dead h ↦ absurd (let k : stopped Dead ≡ stopped Short = sym (ap (λ r. r >>= λ x. next x.0 x.1) h) ∙ e in cc)
  ];
  dead = λ bytes more e. elim (outcome (run bytes)) [
    | is_got a mid h ↦
        let k : next a mid ≡ stopped Dead = sym (ap (λ r. r >>= λ x. next x.0 x.1) h) ∙ e in
        ap (λ r. r >>= λ x. next x.0 x.1) (again run rel _ p bytes a mid more h) ∙ (q a).dead mid more k
    | is_short h ↦ absurd (let k : stopped Short ≡ stopped Dead = sym (ap (λ r. r >>= λ x. next x.0 x.1) h) ∙ e in cc)
    | is_dead h ↦ ap (λ r. r >>= λ x. next x.0 x.1) (p.dead bytes more h)
  ];
}

-- ---- the plain readers
byte-sound : (bytes : List ℕ) (a : ℕ) (rest : List ℕ) → byte_at bytes ≡ got a rest → Taken (λ text b. text ≡ b ∷ []) bytes a rest
byte-sound [] a rest e = absurd cc
byte-sound (b ∷ bs) a rest e = let h = got_same b a bs rest e in record { text = a ∷ []; says = refl; parts = let x = h.0 in let y = h.1 in cc }

byte-short : (good : ℕ → Type 0) (x : ℕ) → good x → nat_lt x 256 ≡ true → (bytes : List ℕ) → byte_at bytes ≡ stopped Short → Begins (λ text b. text ≡ b ∷ []) good bytes
byte-short good x fine lt [] e = record { next = x; more = []; value = x; says = refl; fine = fine; fits = fits-cons x [] lt fits-nil }
byte-short good x fine lt (b ∷ bs) e = absurd cc

byte-dead : (bytes more : List ℕ) → byte_at bytes ≡ stopped Dead → byte_at (bytes ++ more) ≡ stopped Dead
byte-dead [] more e = absurd cc
byte-dead (b ∷ bs) more e = absurd cc

pub byte-reads : (good : ℕ → Type 0) (x : ℕ) → good x → nat_lt x 256 ≡ true → Reads byte_at (λ text b. text ≡ b ∷ []) good
byte-reads good x fine lt = record { sound = byte-sound; complete = λ text a rest h. ap (λ t. byte_at (t ++ rest)) h; short = byte-short good x fine lt; dead = byte-dead }

abbrev pub lift : {A : Type 0} → Result A Stop → List ℕ → Read A
lift r bytes = r >>= λ a. Ok (a, bytes)

lift-sound : {A : Type 0} (r : Result A Stop) (bytes : List ℕ) (a : A) (rest : List ℕ) → lift r bytes ≡ got a rest → (r ≡ Ok a) × (bytes ≡ rest)
lift-sound (Ok x) bytes a rest e = let h = got_same x a bytes rest e in (let x : x ≡ a = h.0 in cc, h.1)
lift-sound (Err d) bytes a rest e = absurd cc

lift-short : {A : Type 0} (r : Result A Stop) (bytes : List ℕ) → (r ≡ Err Short → ⊥) → lift r bytes ≡ stopped Short → ⊥
lift-short (Ok x) bytes not e = cc
lift-short (Err Short) bytes not e = not refl
lift-short (Err Dead) bytes not e = cc

lift-dead : {A : Type 0} (r : Result A Stop) (bytes more : List ℕ) → lift r bytes ≡ stopped Dead → lift r (bytes ++ more) ≡ stopped Dead
lift-dead (Ok x) bytes more e = absurd cc
lift-dead (Err Short) bytes more e = absurd cc
lift-dead (Err Dead) bytes more e = refl

pub record Lifted {A : Type 0} (r : Result A Stop) (text : List ℕ) (a : A) : Type 0 where
  pub nothing : text ≡ []
  pub is : r ≡ Ok a

pub lift-reads : {A : Type 0} (r : Result A Stop) (good : A → Type 0) → (r ≡ Err Short → ⊥) → Reads (lift r) (Lifted r) good
lift-reads r good not = record {
  sound = λ bytes a rest e. let h = lift-sound r bytes a rest e in record { text = []; says = record { nothing = refl; is = h.0 }; parts = h.1 };
  complete = λ text a rest h. ap (λ t. lift r (t ++ rest)) h.nothing ∙ ap (λ q. lift q rest) h.is;
  short = λ bytes e. absurd (lift-short r bytes not e);
  dead = lift-dead r;
}

dead-short : {A : Type 0} → stopped {A = A} Dead ≡ stopped Short → ⊥
dead-short e = cc

pub dead-reads : {A : Type 0} (rel : List ℕ → A → Type 0) (good : A → Type 0) → ((text : List ℕ) (a : A) → rel text a → ⊥) → Reads (λ bytes. stopped Dead) rel good
dead-reads rel good none = record {
  sound = λ bytes a rest e. absurd (let h : stopped Dead ≡ got a rest = e in cc);
  complete = λ text a rest h. absurd (none text a h);
  short = λ bytes e. absurd (dead-short e);
  dead = λ bytes more e. refl;
}

abbrev pub Choice : Bool → Type 0 → Type 0 → Type 0
Choice true p q = p
Choice false p q = q

pub if-reads : {A : Type 0} (b : Bool) (run run2 : List ℕ → Read A) (rel rel2 : List ℕ → A → Type 0) (good : A → Type 0) → (b ≡ true → Reads run rel good) → (b ≡ false → Reads run2 rel2 good) → Reads (λ bytes. cond b (run bytes) (run2 bytes)) (λ text a. Choice b (rel text a) (rel2 text a)) good
if-reads true run run2 rel rel2 good p q = p refl
if-reads false run run2 rel rel2 good p q = q refl

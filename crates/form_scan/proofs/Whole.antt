-- The prefixes, and the whole.
use Rattle.std.proofs.Common.{◌≡◌, ℕ, zero, suc, ◌-◌, ◌≤◌, ◌==◌, Bool, true, false, not, ◌&&◌, ◌||◌, List, [], ◌∷◌, ◌++◌, length, take, drop, Ok, Err, refl, sym, ap, ap₂, subst, ◌∙◌, append_assoc, arith, ◌⊎◌, inl, inr, length-append, length-drop, ◌↔◌}
use Rattle.std.proofs.Common.{Some as some}
use Rattle.std.specs.Prelude.{option_to_list}
use Rattle.std.proofs.Math.Seq.{take-append_seam}
use Rattle.std.proofs.lemmas.Bool.{and_parts}
use Rattle.std.proofs.lemmas.List.{append-nil, take-append-drop}
use Rattle.row_table.specs.declared.kinds.Fields.{Fields}
use Rattle.row_table.specs.Matching.{shape_at}
use Rattle.form_scan.specs.declared.kinds.Stop.{Stop}
use Rattle.form_scan.specs.declared.kinds.Stop.TheVariants.{Short, Dead}
use Rattle.form_scan.specs.declared.kinds.Scan.TheVariants.{Whole, Short as TooFew, Dead as NoForm}
use Rattle.form_scan.specs.declared.kinds.Lead.{Lead}
use Rattle.form_scan.specs.declared.kinds.Head.{Head}
use Rattle.form_scan.specs.declared.kinds.Front.{Front}
use Rattle.form_scan.specs.declared.kinds.Payload.{Payload}
use Rattle.form_scan.specs.Front.{in_front, all_in_front, front_of, last_of, last_rex, has, is_segment, is_repeat}
use Rattle.form_scan.specs.Payload.{of_rex}
use Rattle.form_scan.specs.Shaped.{escape, is_opcode, fields_of, imm_size, Part, by_escape, by_vex_two, by_vex_three, by_evex, Shaped, IsWhole, IsCut}
use Rattle.form_scan.specs.Reading.{no_front, after, lead_at, head_at, tail_at, fields_at}
use Rattle.form_scan.proofs.Reader.{got, stopped, Taken, Begins, Some, Reads, Seq, then, then-reads, got_same, fits-cons, fits-nil}
use Rattle.form_scan.proofs.Full.{any, good-reads, same-reads}
use Rattle.form_scan.proofs.Rest.{Tail, tail-full}
use Rattle.form_scan.proofs.Heads.{Heads, Plain, escaped, two, three, four, head-reads, is_plain, rex-has}
use Rattle.form_scan.proofs.Reached.{one_byte}
use Rattle.form_scan.proofs.Lead.{lead-cons-in, lead-cons-out}

-- what is known of a front after some bytes
unfoldable pub after_all : Front → List ℕ → Front
after_all f [] = f
after_all f (b ∷ bs) = after_all (after f b) bs

pub record Leads (f : Front) (text : List ℕ) (l : Lead) : Type 0 where
  pub front : List ℕ
  pub front_bytes : all_in_front front ≡ true
  pub front_says : l.front ≡ after_all f front
  pub out : in_front l.byte ≡ false
  pub text_is : text ≡ front ++ l.byte ∷ []

Leads-cons : (f : Front) (b : ℕ) (text : List ℕ) (l : Lead) → in_front b ≡ true → Leads (after f b) text l → Leads f (b ∷ text) l
unfolding all_in_front after_all
Leads-cons f b text l h k = record {
  front = b ∷ k.front;
  front_bytes = ap (λ t. t && all_in_front k.front) h ∙ k.front_bytes;
  front_says = k.front_says;
  out = k.out;
  text_is = ap (λ (t : List ℕ). b ∷ t) k.text_is;
}

Leads-one : (f : Front) (b : ℕ) → in_front b ≡ false → Leads f (b ∷ []) (record { front = f; byte = b })
unfolding all_in_front after_all
Leads-one f b h = record { front = []; front_bytes = refl; front_says = refl; out = h; text_is = refl }

split : (b : Bool) → (b ≡ true) ⊎ (b ≡ false)
split true = inl refl
split false = inr refl

lead-nil : (f : Front) → lead_at f [] ≡ stopped Short
unfolding lead_at
lead-nil f = refl

lead-sound : (f : Front) (bytes : List ℕ) (l : Lead) (rest : List ℕ) → lead_at f bytes ≡ got l rest → Taken (Leads f) bytes l rest
lead-sound f [] l rest e = absurd (let h : stopped Short ≡ got l rest = sym (lead-nil f) ∙ e in cc)
lead-sound f (b ∷ bs) l rest e = elim (split (in_front b)) [
  | inl h ↦
      let t = lead-sound (after f b) bs l rest (sym (lead-cons-in f b bs h) ∙ e) in
      record { text = b ∷ t.text; says = Leads-cons f b t.text l h t.says; parts = ap (λ (x : List ℕ). b ∷ x) t.parts }
  | inr h ↦
      let k = got_same _ _ _ _ (sym (lead-cons-out f b bs h) ∙ e) in
      record { text = b ∷ []; says = subst (Leads f (b ∷ [])) k.0 (Leads-one f b h); parts = ap (λ (x : List ℕ). b ∷ x) k.1 }
]

lead-complete-at : (f : Front) (front : List ℕ) (b : ℕ) (rest : List ℕ) → all_in_front front ≡ true → in_front b ≡ false → lead_at f (front ++ b ∷ rest) ≡ got (record { front = after_all f front; byte = b }) rest
unfolding all_in_front after_all
lead-complete-at f [] b rest h out = lead-cons-out f b rest out
lead-complete-at f (x ∷ xs) b rest h out =
    let w = and_parts (in_front x) (all_in_front xs) h in lead-cons-in f x (xs ++ b ∷ rest) w.0 ∙ lead-complete-at (after f x) xs b rest w.1 out

lead-complete : (f : Front) (text : List ℕ) (l : Lead) (rest : List ℕ) → Leads f text l → lead_at f (text ++ rest) ≡ got l rest
lead-complete f text l rest h =
    ap (λ (t : List ℕ). lead_at f (t ++ rest)) h.text_is ∙ ap (lead_at f) (append_assoc h.front (l.byte ∷ []) rest)
    ∙ lead-complete-at f h.front l.byte rest h.front_bytes h.out
    ∙ (let a = h.front_says in λ i. got (let x : Lead = record { front = sym a i; byte = l.byte } in x) rest)

not-true : (b : Bool) → not b ≡ true → b ≡ false
not-true true e = sym e
not-true false e = refl

not-false : (b : Bool) → b ≡ false → not b ≡ true
not-false true e = sym e
not-false false e = refl

-- an opcode of the one-byte map, and that it is one
abbrev first_opcode : ℕ
first_opcode = one_byte.used.opcode

first-out : in_front first_opcode ≡ false
first-out = let w = and_parts (not (in_front first_opcode)) _ one_byte.is in not-true _ w.0

first-plain : is_plain 0 first_opcode ≡ true
first-plain = let w = and_parts (not (in_front first_opcode)) (is_plain 0 first_opcode) one_byte.is in w.1

lead-short : (good : Lead → Type 0) → ((f : Front) → good (record { front = f; byte = first_opcode })) → (f : Front) (bytes : List ℕ) → lead_at f bytes ≡ stopped Short → Begins (Leads f) good bytes
lead-short good fine f [] e = record { next = first_opcode; more = []; value = record { front = f; byte = first_opcode }; says = Leads-one f first_opcode first-out; fine = fine f; fits = fits-cons first_opcode [] one_byte.used.fits fits-nil }
lead-short good fine f (b ∷ bs) e = elim (split (in_front b)) [
  | inl h ↦
      let t = lead-short good fine (after f b) bs (sym (lead-cons-in f b bs h) ∙ e) in
      record { next = t.next; more = t.more; value = t.value; says = Leads-cons f b (bs ++ t.next ∷ t.more) t.value h t.says; fine = t.fine; fits = t.fits }
  | inr h ↦ absurd (let k : got (let x : Lead = record { front = f; byte = b } in x) bs ≡ stopped Short = sym (lead-cons-out f b bs h) ∙ e in cc)
]

lead-dead : (f : Front) (bytes : List ℕ) → lead_at f bytes ≡ stopped Dead → ⊥
lead-dead f [] e = let h : stopped {A = Lead} Short ≡ stopped Dead = sym (lead-nil f) ∙ e in cc
lead-dead f (b ∷ bs) e = elim (split (in_front b)) [
  | inl h ↦ lead-dead (after f b) bs (sym (lead-cons-in f b bs h) ∙ e)
  | inr h ↦ let k : got (let x : Lead = record { front = f; byte = b } in x) bs ≡ stopped Dead = sym (lead-cons-out f b bs h) ∙ e in cc
]

lead-reads : (good : Lead → Type 0) → ((f : Front) → good (record { front = f; byte = first_opcode })) → (f : Front) → Reads (lead_at f) (Leads f) good
lead-reads good fine f = record {
  sound = lead-sound f;
  complete = lead-complete f;
  short = lead-short good fine f;
  dead = λ bytes more e. absurd (lead-dead f bytes e);
}

-- ---- what a front says, by its last and its present bytes
segment-of : (f : Front) (bs : List ℕ) → (after_all f bs).segment ≡ last_of is_segment f.segment bs
unfolding after_all after last_of
segment-of f [] = refl
segment-of f (b ∷ bs) = segment-of (after f b) bs

rep-of : (f : Front) (bs : List ℕ) → (after_all f bs).rep ≡ last_of is_repeat f.rep bs
unfolding after_all after last_of
rep-of f [] = refl
rep-of f (b ∷ bs) = rep-of (after f b) bs

or-false : (x : Bool) → x || false ≡ x
or-false true = refl
or-false false = refl

or-assoc : (x y z : Bool) → (x || y) || z ≡ x || (y || z)
or-assoc true y z = refl
or-assoc false y z = refl

lock-of : (f : Front) (bs : List ℕ) → (after_all f bs).lock ≡ f.lock || has 0xF0 bs
unfolding after_all after has
lock-of f [] = sym (or-false f.lock)
lock-of f (b ∷ bs) = lock-of (after f b) bs ∙ or-assoc f.lock (b == 0xF0) (has 0xF0 bs)

p66-of : (f : Front) (bs : List ℕ) → (after_all f bs).p66 ≡ f.p66 || has 0x66 bs
unfolding after_all after has
p66-of f [] = sym (or-false f.p66)
p66-of f (b ∷ bs) = p66-of (after f b) bs ∙ or-assoc f.p66 (b == 0x66) (has 0x66 bs)

p67-of : (f : Front) (bs : List ℕ) → (after_all f bs).p67 ≡ f.p67 || has 0x67 bs
unfolding after_all after has
p67-of f [] = sym (or-false f.p67)
p67-of f (b ∷ bs) = p67-of (after f b) bs ∙ or-assoc f.p67 (b == 0x67) (has 0x67 bs)

rex-cons : (f : Front) (b : ℕ) (bs : List ℕ) → (after_all f (b ∷ bs)).rex ≡ last_rex (b ∷ bs)
unfolding after_all after last_rex
rex-cons f b [] = refl
rex-cons f b (c ∷ bs) = rex-cons (after f b) c bs

rex-of : (bs : List ℕ) → (after_all no_front bs).rex ≡ last_rex bs
unfolding after_all last_rex
rex-of [] = refl
rex-of (b ∷ bs) = rex-cons no_front b bs

front-of : (bs : List ℕ) → after_all no_front bs ≡ front_of bs
front-of bs =
    let a = segment-of no_front bs in let b = lock-of no_front bs in let c = rep-of no_front bs in let d = p66-of no_front bs in let e = p67-of no_front bs in let g = rex-of bs in
    λ i. record { segment = a i; lock = b i; rep = c i; p66 = d i; p67 = e i; rex = g i }

-- ---- the whole
abbrev Rest : Lead → List ℕ → Fields → Type 0
Rest l = Seq (Heads l) Tail

abbrev Raw : List ℕ → Fields → Type 0
Raw = Seq (Leads no_front) Rest

rest-reads : (l : Lead) → Reads (then (head_at l) tail_at) (Rest l) any
rest-reads l = then-reads (head_at l) (Heads l) tail_at Tail any (good-reads _ _ _ (head-reads l) (λ h. (tail-full h).some)) (λ h. (tail-full h).reads)

first_head : Front → Head
first_head f = record { front = f; payload = of_rex 0 f.rex; opcode = first_opcode; shape = one_byte.used.shape }

some-rest : (f : Front) → Some (Rest (record { front = f; byte = first_opcode })) any
unfolding first_head
some-rest f =
    let t = (tail-full (first_head f)).some in
    record {
      text = [] ++ t.text;
      value = t.value;
      says = record { front = []; tail = t.text; value = first_head f; starts = record { front_same = refl; part = escaped 0 refl first-plain refl; shape = rex-has 0 f.rex one_byte.used }; ends = t.says; parts = refl };
      fine = tt;
      fits = t.fits;
    }

raw-reads : Reads fields_at Raw any
unfolding fields_at
raw-reads = then-reads (lead_at no_front) (Leads no_front) (λ l. then (head_at l) tail_at) Rest any (lead-reads _ some-rest no_front) rest-reads

-- ---- the reader's relation and the shape relation
out-escape : in_front 0x0F ≡ false
unfolding in_front
out-escape = refl

out-c5 : in_front 0xC5 ≡ false
unfolding in_front
out-c5 = refl

out-c4 : in_front 0xC4 ≡ false
unfolding in_front
out-c4 = refl

out-62 : in_front 0x62 ≡ false
unfolding in_front
out-62 = refl

and_true : (a b : Bool) → a ≡ true → b ≡ true → (a && b) ≡ true
and_true true b h k = k
and_true false b h k = h

opcode-to : (m o b : ℕ) (t : List ℕ) → b ∷ t ≡ escape m ++ o ∷ [] → in_front b ≡ false → is_plain m o ≡ true → is_opcode m o ≡ true
opcode-to zero o b t e out p = let h : b ≡ o = cc in and_true _ _ (not-false _ (ap in_front (sym h) ∙ out)) p
opcode-to (suc zero) o b t e out p = p
opcode-to (suc (suc zero)) o b t e out p = refl
opcode-to (suc (suc (suc zero))) o b t e out p = refl
opcode-to (suc (suc (suc (suc n)))) o b t e out p = p

part-to : (rex b : ℕ) (t : List ℕ) (k : Payload) (o : ℕ) → in_front b ≡ false → Plain rex (b ∷ t) k o → Part rex (b ∷ t) k o
part-to rex b t k o out (escaped m is p parts) = by_escape m is (opcode-to m o b t parts out p) parts
part-to rex b t k o out (two p is parts) = by_vex_two p is parts
part-to rex b t k o out (three p q is parts) = by_vex_three p q is parts
part-to rex b t k o out (four p q s is x y parts) = by_evex p q s is x y parts

record Opens (rex : ℕ) (part : List ℕ) (k : Payload) (o : ℕ) : Type 0 where
  first : ℕ
  others : List ℕ
  spelled : part ≡ first ∷ others
  out : in_front first ≡ false
  plain : Plain rex (first ∷ others) k o

opens-escape : (rex : ℕ) (part : List ℕ) (k : Payload) (m o : ℕ) → k ≡ of_rex m rex → is_opcode m o ≡ true → part ≡ escape m ++ o ∷ [] → Opens rex part k o
opens-escape rex part k zero o is h e = let w = and_parts (not (in_front o)) _ h in record { first = o; others = []; spelled = e; out = not-true _ w.0; plain = escaped 0 is w.1 refl }
opens-escape rex part k (suc zero) o is h e = record { first = 0x0F; others = o ∷ []; spelled = e; out = out-escape; plain = escaped 1 is h refl }
opens-escape rex part k (suc (suc zero)) o is h e = record { first = 0x0F; others = 0x38 ∷ o ∷ []; spelled = e; out = out-escape; plain = escaped 2 is refl refl }
opens-escape rex part k (suc (suc (suc zero))) o is h e = record { first = 0x0F; others = 0x3A ∷ o ∷ []; spelled = e; out = out-escape; plain = escaped 3 is refl refl }
opens-escape rex part k (suc (suc (suc (suc n)))) o is h e = absurd cc

opens : (rex : ℕ) (part : List ℕ) (k : Payload) (o : ℕ) → Part rex part k o → Opens rex part k o
opens rex part k o (by_escape m is h e) = opens-escape rex part k m o is h e
opens rex part k o (by_vex_two p is e) = record { first = 0xC5; others = p ∷ o ∷ []; spelled = e; out = out-c5; plain = two p is refl }
opens rex part k o (by_vex_three p q is e) = record { first = 0xC4; others = p ∷ q ∷ o ∷ []; spelled = e; out = out-c4; plain = three p q is refl }
opens rex part k o (by_evex p q s is x y e) = record { first = 0x62; others = p ∷ q ∷ s ∷ o ∷ []; spelled = e; out = out-62; plain = four p q s is x y refl }

-- all parts of an instruction, from the reader's
shaped-from : (bytes : List ℕ) (f : Fields) (front : List ℕ) (b : ℕ) (text tail : List ℕ) (h : Head) → all_in_front front ≡ true → h.front ≡ front_of front → in_front b ≡ false → Plain h.front.rex (b ∷ text) h.payload h.opcode → shape_at h.payload.class h.payload.map h.opcode ≡ some h.shape → Tail h tail f → bytes ≡ front ++ ((b ∷ text) ++ tail) → Shaped bytes f
shaped-from bytes f front b text tail h all is out part shape t parts = record {
  front = front;
  front_bytes = all;
  part = b ∷ text;
  payload = h.payload;
  opcode = h.opcode;
  part_says = subst (λ (x : Front). Part x.rex (b ∷ text) h.payload h.opcode) is (part-to h.front.rex b text h.payload h.opcode out part);
  shape = h.shape;
  has_shape = shape;
  modrm = t.modrm;
  modrm_there = t.modrm_there;
  sib = t.sib;
  sib_there = t.sib_there;
  disp = t.disp;
  disp_length = t.disp_length;
  imm = t.imm;
  imm_length = t.imm_length ∙ ap (λ (x : Front). imm_size h.payload.w x.p66 x.p67 h.shape.imm t.modrm) is;
  fields = t.fields ∙ ap (λ (x : Front). fields_of x h.payload h.opcode t.modrm t.sib t.disp t.imm) is;
  spelled = parts ∙ ap (λ (x : List ℕ). front ++ ((b ∷ text) ++ x)) t.text_is;
}

to-shaped : (bytes : List ℕ) (f : Fields) → Raw bytes f → Shaped bytes f
to-shaped bytes f r =
    let a = r.starts in let s = r.ends in let h = s.starts in
    let b = (r.value).byte in
    let texts : bytes ≡ a.front ++ ((b ∷ s.front) ++ s.tail) =
    r.parts ∙ ap₂ (λ (x y : List ℕ). x ++ y) a.text_is s.parts ∙ append_assoc a.front (b ∷ []) (s.front ++ s.tail) in
    shaped-from bytes f a.front b s.front s.tail s.value a.front_bytes (h.front_same ∙ a.front_says ∙ front-of a.front) a.out
    (subst (λ (x : Front). Plain x.rex (b ∷ s.front) (s.value).payload (s.value).opcode) (sym h.front_same) h.part) h.shape s.ends texts

from-shaped : (bytes : List ℕ) (f : Fields) → Shaped bytes f → Raw bytes f
from-shaped bytes f s =
    let front = front_of s.front in
    let o = opens front.rex s.part s.payload s.opcode s.part_says in
    let l : Lead = record { front = front; byte = o.first } in
    let h : Head = record { front = front; payload = s.payload; opcode = s.opcode; shape = s.shape } in
    let tail = option_to_list s.modrm ++ (option_to_list s.sib ++ (s.disp ++ s.imm)) in
    record {
      front = s.front ++ o.first ∷ [];
      tail = o.others ++ tail;
      value = l;
      starts = record { front = s.front; front_bytes = s.front_bytes; front_says = sym (front-of s.front); out = o.out; text_is = refl };
      ends = record {
        front = o.others;
        tail = tail;
        value = h;
        starts = record { front_same = refl; part = o.plain; shape = s.has_shape };
        ends = record {
          modrm = s.modrm;
          modrm_there = s.modrm_there;
          sib = s.sib;
          sib_there = s.sib_there;
          disp = s.disp;
          disp_length = s.disp_length;
          imm = s.imm;
          imm_length = s.imm_length;
          fields = s.fields;
          text_is = refl;
        };
        parts = refl;
      };
      parts = s.spelled ∙ ap (λ (x : List ℕ). s.front ++ (x ++ tail)) o.spelled ∙ sym (append_assoc s.front (o.first ∷ []) (o.others ++ tail));
    }

pub shaped-reads : Reads fields_at Shaped any
shaped-reads = same-reads fields_at Raw Shaped any to-shaped from-shaped raw-reads

-- ---- what a scan answers
pub scan-length : (bytes : List ℕ) (f : Fields) (rest : List ℕ) → fields_at bytes ≡ Ok (f, rest) → length rest ≤ length bytes
scan-length bytes f rest e = let t = shaped-reads.sound bytes f rest e in let p = ap length t.parts in omega (arith, p, length-append t.text rest)

-- what was read is an instruction
pub scan-whole : (bytes : List ℕ) (f : Fields) (rest : List ℕ) → fields_at bytes ≡ Ok (f, rest) → IsWhole bytes f (length bytes - length rest)
scan-whole bytes f rest e =
    let t = shaped-reads.sound bytes f rest e in let p = ap length t.parts in
    let n : length bytes - length rest ≡ length t.text = omega (arith, p, length-append t.text rest) in
    record {
      within = omega arith;
      shaped = subst (λ x. Shaped x f) (sym (ap (λ k. take k bytes) n ∙ ap (take (length t.text)) t.parts ∙ take-append_seam t.text rest)) t.says;
    }

pub scan-short : (bytes : List ℕ) → fields_at bytes ≡ Err Short → IsCut bytes
scan-short bytes e = let s = shaped-reads.short bytes e in record { next = s.next; more = s.more; fields = s.value; bytes_fit = s.fits; shaped = s.says }

complete : (bytes : List ℕ) (f : Fields) → Shaped bytes f → fields_at bytes ≡ got f []
complete bytes f s = ap fields_at (sym (append-nil bytes)) ∙ shaped-reads.complete bytes f [] s

-- no instruction's bytes begin another's
pub one-shape : (a b : List ℕ) (f g : Fields) → Shaped a f → Shaped (a ++ b) g → (b ≡ []) × (f ≡ g)
one-shape a b f g s t = let h = got_same _ _ _ _ (sym (shaped-reads.complete a f b s) ∙ complete (a ++ b) g t) in (h.1, h.0)

-- an instruction at the front is read
pub whole-read : (bytes : List ℕ) (f : Fields) (n : ℕ) → IsWhole bytes f n → fields_at bytes ≡ got f (drop n bytes)
whole-read bytes f n w = ap fields_at (sym (take-append-drop n bytes)) ∙ shaped-reads.complete (take n bytes) f (drop n bytes) w.shaped

pub cut-not-dead : (bytes : List ℕ) → IsCut bytes → fields_at bytes ≡ Err Dead → ⊥
cut-not-dead bytes c e =
    let h : got c.fields [] ≡ stopped Dead = sym (complete (bytes ++ c.next ∷ c.more) c.fields c.shaped) ∙ shaped-reads.dead bytes (c.next ∷ c.more) e in cc

pub cut-not-whole : (bytes : List ℕ) (f : Fields) (n : ℕ) → IsCut bytes → IsWhole bytes f n → ⊥
cut-not-whole bytes f n c w =
    let more = drop n bytes ++ c.next ∷ c.more in
    let e : bytes ++ c.next ∷ c.more ≡ take n bytes ++ more = ap (λ (x : List ℕ). x ++ c.next ∷ c.more) (sym (take-append-drop n bytes)) ∙ append_assoc (take n bytes) (drop n bytes) (c.next ∷ c.more) in
    let k = one-shape (take n bytes) more f c.fields w.shaped (subst (λ x. Shaped x c.fields) e c.shaped) in
    let l = ap length k.0 in
    omega (arith, l, length-append (drop n bytes) (c.next ∷ c.more))

-- ---- the answers of scan, both ways
whole_parts : (f g : Fields) (m n : ℕ) → Whole f m ≡ Whole g n → (f ≡ g) × (m ≡ n)
whole_parts f g m n e = (cc, cc)

pub read-whole : (bytes : List ℕ) (f : Fields) (rest : List ℕ) → fields_at bytes ≡ Ok (f, rest) → (g : Fields) (n : ℕ) → (Whole f (length bytes - length rest) ≡ Whole g n) ↔ IsWhole bytes g n
read-whole bytes f rest e g n = (
  λ h. let p = whole_parts _ _ _ _ h in subst (λ (k : ℕ). IsWhole bytes g k) p.1 (subst (λ (x : Fields). IsWhole bytes x (length bytes - length rest)) p.0 (scan-whole bytes f rest e)),
  λ w.
      let s = got_same f g rest (drop n bytes) (sym e ∙ whole-read bytes g n w) in
      let l = ap length s.1 in let i = w.within in
      let k : length bytes - length rest ≡ n = omega (arith, l, length-drop n bytes) in
      ap₂ (λ (x : Fields) (y : ℕ). Whole x y) s.0 k,
)

pub read-not_cut : (bytes : List ℕ) (f : Fields) (rest : List ℕ) → fields_at bytes ≡ Ok (f, rest) → (Whole f (length bytes - length rest) ≡ TooFew) ↔ IsCut bytes
read-not_cut bytes f rest e = (λ h. absurd cc, λ c. absurd (cut-not-whole bytes f (length bytes - length rest) c (scan-whole bytes f rest e)))

not-read : {A : Type 0} (x : Stop) (f : A) (rest : List ℕ) → stopped x ≡ got f rest → ⊥
not-read x f rest e = cc

pub short-not_whole : (bytes : List ℕ) → fields_at bytes ≡ Err Short → (g : Fields) (n : ℕ) → (TooFew ≡ Whole g n) ↔ IsWhole bytes g n
short-not_whole bytes e g n = (λ h. absurd cc, λ w. absurd (not-read Short g (drop n bytes) (sym e ∙ whole-read bytes g n w)))

pub short-cut : (bytes : List ℕ) → fields_at bytes ≡ Err Short → (TooFew ≡ TooFew) ↔ IsCut bytes
short-cut bytes e = (λ h. scan-short bytes e, λ c. refl)

pub dead-not_whole : (bytes : List ℕ) → fields_at bytes ≡ Err Dead → (g : Fields) (n : ℕ) → (NoForm ≡ Whole g n) ↔ IsWhole bytes g n
dead-not_whole bytes e g n = (λ h. absurd cc, λ w. absurd (not-read Dead g (drop n bytes) (sym e ∙ whole-read bytes g n w)))

pub dead-not_cut : (bytes : List ℕ) → fields_at bytes ≡ Err Dead → (NoForm ≡ TooFew) ↔ IsCut bytes
dead-not_cut bytes e = (λ h. absurd cc, λ c. absurd (cut-not-dead bytes c e))

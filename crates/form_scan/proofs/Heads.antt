-- The part up to the opcode.
use Rattle.std.proofs.Common.{◌≡◌, ℕ, zero, suc, ◌%◌, ◌==◌, Bool, true, false, not, ◌&&◌, cond, List, [], ◌∷◌, ◌++◌, Ok, Err, Option, None, refl, sym, ap, ap₂, subst, ◌∙◌, ◌⊎◌, inl, inr, eqb-true, eq-eqb}
use Rattle.std.proofs.Common.{Some as some}
use Rattle.std.specs.Int.{bit_at}
use Rattle.std.proofs.lemmas.Bool.{and_parts}
use Rattle.row_table.specs.declared.kinds.Shape.{Shape}
use Rattle.row_table.specs.declared.kinds.Class.TheVariants.{Legacy, Vex, Evex}
use Rattle.row_table.specs.Matching.{shape_at, map_used}
use Rattle.form_scan.specs.declared.kinds.Stop.TheVariants.{Short, Dead}
use Rattle.form_scan.specs.declared.kinds.Lead.{Lead}
use Rattle.form_scan.specs.declared.kinds.Head.{Head}
use Rattle.form_scan.specs.declared.kinds.Front.{Front}
use Rattle.form_scan.specs.declared.kinds.Payload.{Payload}
use Rattle.form_scan.specs.Payload.{of_rex, of_vex_two, of_vex_three, of_evex}
use Rattle.form_scan.specs.Reading.{byte_at, head_of, shaped_head, opcode_at, class_used, long_at, escape_at, vex_two_at, vex_last_at, vex_three_at, evex_last_at, evex_more_at, evex_at, head_at}
use Rattle.form_scan.specs.Shaped.{escape}
use Rattle.form_scan.proofs.Reader.{Read, stopped, Some, Reads, Seq, then, then-reads, byte-reads, lift, Lifted, lift-reads, dead-reads, Choice, if-reads, fits-nil, fits-cons}
use Rattle.form_scan.proofs.Full.{any, Full, same-reads, then-full, byte-full}
use Rattle.form_scan.proofs.Reached.{Used, used, used-back, two_byte, map-byte, class-back}

-- an opcode of its map, where the first byte of a one-byte opcode is no prefix
abbrev pub is_plain : ℕ → ℕ → Bool
is_plain zero o = not (o == 0x0F) && (not (o == 0xC5) && (not (o == 0xC4) && not (o == 0x62)))
is_plain (suc zero) o = not (o == 0x38) && not (o == 0x3A)
is_plain (suc (suc zero)) o = true
is_plain (suc (suc (suc zero))) o = true
is_plain (suc (suc (suc (suc n)))) o = false

pub data Plain (rex : ℕ) (part : List ℕ) (k : Payload) (o : ℕ) : Type 0 where
  escaped : (m : ℕ) → k ≡ of_rex m rex → is_plain m o ≡ true → part ≡ escape m ++ o ∷ [] → Plain rex part k o
  two : (p : ℕ) → k ≡ of_vex_two p → part ≡ 0xC5 ∷ p ∷ o ∷ [] → Plain rex part k o
  three : (p q : ℕ) → k ≡ of_vex_three p q → part ≡ 0xC4 ∷ p ∷ q ∷ o ∷ [] → Plain rex part k o
  four : (p q s : ℕ) → k ≡ of_evex p q s → bit_at p 3 ≡ 0 → bit_at q 2 ≡ 1 → part ≡ 0x62 ∷ p ∷ q ∷ s ∷ o ∷ [] → Plain rex part k o

pub record Heads (l : Lead) (text : List ℕ) (h : Head) : Type 0 where
  pub front_same : h.front ≡ l.front
  pub part : Plain l.front.rex (l.byte ∷ text) h.payload h.opcode
  pub shape : shape_at h.payload.class h.payload.map h.opcode ≡ some h.shape

-- ---- the relation as the reader goes
abbrev One : List ℕ → ℕ → Type 0
One t b = t ≡ b ∷ []

abbrev OpcodeRaw : Front → Payload → List ℕ → Head → Type 0
OpcodeRaw f k = Seq One (λ o. Lifted (shaped_head f k o))

abbrev LongRaw : Front → ℕ → List ℕ → Head → Type 0
LongRaw f m t h = Choice (map_used Legacy m) (OpcodeRaw f (of_rex m f.rex) t h) ⊥

abbrev EscapeRaw : Front → ℕ → List ℕ → Head → Type 0
EscapeRaw f b t h = Choice (b == 0x38) (LongRaw f 2 t h) (Choice (b == 0x3A) (LongRaw f 3 t h) (Lifted (shaped_head f (of_rex 1 f.rex) b) t h))

abbrev TwoRaw : Front → List ℕ → Head → Type 0
TwoRaw f t h = Choice (map_used Vex 1) (Seq One (λ p. OpcodeRaw f (of_vex_two p)) t h) ⊥

abbrev ThreeLast : Front → ℕ → List ℕ → Head → Type 0
ThreeLast f p t h = Choice (map_used Vex (p % 32)) (Seq One (λ q. OpcodeRaw f (of_vex_three p q)) t h) ⊥

abbrev ThreeRaw : Front → List ℕ → Head → Type 0
ThreeRaw f t h = Choice (class_used Vex) (Seq One (ThreeLast f) t h) ⊥

abbrev FourLast : Front → ℕ → ℕ → List ℕ → Head → Type 0
FourLast f p q t h = Choice (bit_at q 2 == 1) (Seq One (λ s. OpcodeRaw f (of_evex p q s)) t h) ⊥

abbrev FourMore : Front → ℕ → List ℕ → Head → Type 0
FourMore f p t h = Choice ((bit_at p 3 == 0) && map_used Evex (p % 8)) (Seq One (FourLast f p) t h) ⊥

abbrev FourRaw : Front → List ℕ → Head → Type 0
FourRaw f t h = Choice (class_used Evex) (Seq One (FourMore f) t h) ⊥

abbrev HeadRaw : Lead → List ℕ → Head → Type 0
HeadRaw l t h = Choice (l.byte == 0x0F) (Seq One (EscapeRaw l.front) t h) (Choice (l.byte == 0xC5) (TwoRaw l.front t h) (Choice (l.byte == 0xC4) (ThreeRaw l.front t h) (Choice (l.byte == 0x62) (FourRaw l.front t h) (Lifted (shaped_head l.front (of_rex 0 l.front.rex) l.byte) t h))))

-- ---- an opcode and its shape
head_of-short : (f : Front) (k : Payload) (o : ℕ) (s : Option Shape) → head_of f k o s ≡ Err Short → ⊥
head_of-short f k o None e = cc
head_of-short f k o (some s) e = cc

shaped_head-short : (f : Front) (k : Payload) (o : ℕ) → shaped_head f k o ≡ Err Short → ⊥
unfolding shaped_head
shaped_head-short f k o e = head_of-short f k o (shape_at k.class k.map o) e

made : (f : Front) (k : Payload) (o : ℕ) (s : Shape) → shape_at k.class k.map o ≡ some s → shaped_head f k o ≡ Ok (record { front = f; payload = k; opcode = o; shape = s })
unfolding shaped_head
made f k o s e = ap (head_of f k o) e

used-rex : (m rex : ℕ) → Used Legacy m → let k = of_rex m rex in Used k.class k.map
unfolding of_rex
used-rex m rex u = u

pub rex-has : (m rex : ℕ) (u : Used Legacy m) → let k = of_rex m rex in shape_at k.class k.map u.opcode ≡ some u.shape
unfolding of_rex
rex-has m rex u = u.has

used-two : (p : ℕ) → map_used Vex 1 ≡ true → let k = of_vex_two p in Used k.class k.map
unfolding of_vex_two
used-two p h = used Vex 1 h

used-three : (p q : ℕ) → map_used Vex (p % 32) ≡ true → let k = of_vex_three p q in Used k.class k.map
unfolding of_vex_three
used-three p q h = used Vex (p % 32) h

used-four : (p q s : ℕ) → map_used Evex (p % 8) ≡ true → let k = of_evex p q s in Used k.class k.map
unfolding of_evex
used-four p q s h = used Evex (p % 8) h

-- ---- the readers
opcode-full : (f : Front) (k : Payload) → Used k.class k.map → Full (opcode_at f k) (OpcodeRaw f k)
unfolding opcode_at
opcode-full f k u =
    let h : Head = record { front = f; payload = k; opcode = u.opcode; shape = u.shape } in
    record {
      reads = then-reads byte_at One (λ o. lift (shaped_head f k o)) (λ o. Lifted (shaped_head f k o)) any
          (byte-reads (λ o. Some (Lifted (shaped_head f k o)) any) u.opcode (record { text = []; value = h; says = record { nothing = refl; is = made f k u.opcode u.shape u.has }; fine = tt; fits = fits-nil }) u.fits)
          (λ o. lift-reads (shaped_head f k o) any (shaped_head-short f k o));
      some = record { text = u.opcode ∷ []; value = h; says = record { front = u.opcode ∷ []; tail = []; value = u.opcode; starts = refl; ends = record { nothing = refl; is = made f k u.opcode u.shape u.has }; parts = refl }; fine = tt; fits = fits-cons u.opcode [] u.fits fits-nil };
    }

abbrev Never : List ℕ → Head → Type 0
Never t h = ⊥

never-reads : Reads (λ bytes. stopped Dead) Never any
never-reads = dead-reads Never any (λ t h x. x)

-- read on only where a test holds
guard-reads : (b : Bool) (run : List ℕ → Read Head) (rel : List ℕ → Head → Type 0) → (b ≡ true → Reads run rel any) → Reads (λ bytes. cond b (run bytes) (stopped Dead)) (λ t h. Choice b (rel t h) ⊥) any
guard-reads b run rel p = if-reads b run (λ bytes. stopped Dead) rel Never any p (λ _. never-reads)

guard-full : (b : Bool) (run : List ℕ → Read Head) (rel : List ℕ → Head → Type 0) → b ≡ true → Full run rel → Full (λ bytes. cond b (run bytes) (stopped Dead)) (λ t h. Choice b (rel t h) ⊥)
guard-full true run rel e p = p
guard-full false run rel e p = absurd cc

long-reads : (f : Front) (m : ℕ) → Reads (long_at f m) (LongRaw f m) any
unfolding long_at
long-reads f m = guard-reads (map_used Legacy m) (opcode_at f (of_rex m f.rex)) (OpcodeRaw f (of_rex m f.rex)) (λ h. (opcode-full f (of_rex m f.rex) (used-rex m f.rex (used Legacy m h))).reads)

chosen : (b : Bool) (p q : Type 0) → Choice b p q → ((b ≡ true) × p) ⊎ ((b ≡ false) × q)
chosen true p q h = inl (refl, h)
chosen false p q h = inr (refl, h)

left : (b : Bool) (p q : Type 0) → b ≡ true → p → Choice b p q
left true p q e h = h
left false p q e h = absurd cc

right : (b : Bool) (p q : Type 0) → b ≡ false → q → Choice b p q
right true p q e h = absurd cc
right false p q e h = h

not-false : (b : Bool) → b ≡ false → not b ≡ true
not-false true e = sym e
not-false false e = refl

not-true : (b : Bool) → not b ≡ true → b ≡ false
not-true true e = sym e
not-true false e = refl

and_true : (a b : Bool) → a ≡ true → b ≡ true → (a && b) ≡ true
and_true true b h k = k
and_true false b h k = h

-- an opcode behind 0F alone
escape-some : (f : Front) → Some (EscapeRaw f two_byte.used.opcode) any
escape-some f =
    let o = two_byte.used.opcode in
    let w = and_parts (not (o == 0x38)) (not (o == 0x3A)) two_byte.is in
    record {
      text = [];
      value = record { front = f; payload = of_rex 1 f.rex; opcode = o; shape = two_byte.used.shape };
      says = right (o == 0x38) _ _ (not-true _ w.0) (right (o == 0x3A) _ _ (not-true _ w.1) (record { nothing = refl; is = made f (of_rex 1 f.rex) o two_byte.used.shape (rex-has 1 f.rex two_byte.used) }));
      fine = tt;
      fits = fits-nil;
    }

escape-reads : (f : Front) → Reads (escape_at f) (Seq One (EscapeRaw f)) any
unfolding escape_at
escape-reads f =
    then-reads byte_at One (λ b bytes. cond (b == 0x38) (long_at f 2 bytes) (cond (b == 0x3A) (long_at f 3 bytes) (lift (shaped_head f (of_rex 1 f.rex) b) bytes))) (EscapeRaw f) any
    (byte-reads (λ b. Some (EscapeRaw f b) any) two_byte.used.opcode (escape-some f) two_byte.used.fits)
    (λ b. if-reads (b == 0x38) (long_at f 2) (λ bytes. cond (b == 0x3A) (long_at f 3 bytes) (lift (shaped_head f (of_rex 1 f.rex) b) bytes)) (LongRaw f 2) (λ t h. Choice (b == 0x3A) (LongRaw f 3 t h) (Lifted (shaped_head f (of_rex 1 f.rex) b) t h)) any
    (λ _. long-reads f 2)
    (λ _. if-reads (b == 0x3A) (long_at f 3) (lift (shaped_head f (of_rex 1 f.rex) b)) (LongRaw f 3) (Lifted (shaped_head f (of_rex 1 f.rex) b)) any (λ _. long-reads f 3) (λ _. lift-reads (shaped_head f (of_rex 1 f.rex) b) any (shaped_head-short f (of_rex 1 f.rex) b))))

two-reads : (f : Front) → Reads (vex_two_at f) (TwoRaw f) any
unfolding vex_two_at
two-reads f =
    guard-reads (map_used Vex 1) (then byte_at (λ p. opcode_at f (of_vex_two p))) (Seq One (λ p. OpcodeRaw f (of_vex_two p)))
    (λ h. (then-full byte_at One (λ p. opcode_at f (of_vex_two p)) (λ p. OpcodeRaw f (of_vex_two p)) byte-full (λ p. opcode-full f (of_vex_two p) (used-two p h))).reads)

three-then : (f : Front) (p : ℕ) → map_used Vex (p % 32) ≡ true → Full (then byte_at (λ q. opcode_at f (of_vex_three p q))) (Seq One (λ q. OpcodeRaw f (of_vex_three p q)))
three-then f p h = then-full byte_at One (λ q. opcode_at f (of_vex_three p q)) (λ q. OpcodeRaw f (of_vex_three p q)) byte-full (λ q. opcode-full f (of_vex_three p q) (used-three p q h))

three-last-reads : (f : Front) (p : ℕ) → Reads (vex_last_at f p) (ThreeLast f p) any
unfolding vex_last_at
three-last-reads f p = guard-reads (map_used Vex (p % 32)) (then byte_at (λ q. opcode_at f (of_vex_three p q))) (Seq One (λ q. OpcodeRaw f (of_vex_three p q))) (λ h. (three-then f p h).reads)

three-last-some : (f : Front) (p : ℕ) → map_used Vex (p % 32) ≡ true → Some (ThreeLast f p) any
unfolding vex_last_at
three-last-some f p h = (guard-full (map_used Vex (p % 32)) _ (Seq One (λ q. OpcodeRaw f (of_vex_three p q))) h (three-then f p h)).some

three-reads : (f : Front) → Reads (vex_three_at f) (ThreeRaw f) any
unfolding vex_three_at
three-reads f =
    guard-reads (class_used Vex) (then byte_at (vex_last_at f)) (Seq One (ThreeLast f)) (λ h.
    let m = map-byte Vex h in
    then-reads byte_at One (vex_last_at f) (ThreeLast f) any (byte-reads (λ p. Some (ThreeLast f p) any) m.byte (three-last-some f m.byte m.vex) m.fits) (three-last-reads f))

four-then : (f : Front) (p q : ℕ) → map_used Evex (p % 8) ≡ true → Full (then byte_at (λ s. opcode_at f (of_evex p q s))) (Seq One (λ s. OpcodeRaw f (of_evex p q s)))
four-then f p q h = then-full byte_at One (λ s. opcode_at f (of_evex p q s)) (λ s. OpcodeRaw f (of_evex p q s)) byte-full (λ s. opcode-full f (of_evex p q s) (used-four p q s h))

four-last-reads : (f : Front) (p q : ℕ) → map_used Evex (p % 8) ≡ true → Reads (evex_last_at f p q) (FourLast f p q) any
unfolding evex_last_at
four-last-reads f p q h = guard-reads (bit_at q 2 == 1) (then byte_at (λ s. opcode_at f (of_evex p q s))) (Seq One (λ s. OpcodeRaw f (of_evex p q s))) (λ _. (four-then f p q h).reads)

four-last-some : (f : Front) (p : ℕ) → map_used Evex (p % 8) ≡ true → Some (FourLast f p 4) any
four-last-some f p h = (four-then f p 4 h).some

four-more-then : (f : Front) (p : ℕ) → map_used Evex (p % 8) ≡ true → Full (then byte_at (evex_last_at f p)) (Seq One (FourLast f p))
four-more-then f p h =
    let t = four-last-some f p h in
    record {
      reads = then-reads byte_at One (evex_last_at f p) (FourLast f p) any (byte-reads (λ q. Some (FourLast f p q) any) 4 t refl) (λ q. four-last-reads f p q h);
      some = record { text = 4 ∷ t.text; value = t.value; says = record { front = 4 ∷ []; tail = t.text; value = 4; starts = refl; ends = t.says; parts = refl }; fine = tt; fits = fits-cons 4 t.text refl t.fits };
    }

evex-map : (p : ℕ) → ((bit_at p 3 == 0) && map_used Evex (p % 8)) ≡ true → map_used Evex (p % 8) ≡ true
evex-map p h = (and_parts (bit_at p 3 == 0) (map_used Evex (p % 8)) h).1

four-more-reads : (f : Front) (p : ℕ) → Reads (evex_more_at f p) (FourMore f p) any
unfolding evex_more_at
four-more-reads f p = guard-reads ((bit_at p 3 == 0) && map_used Evex (p % 8)) (then byte_at (evex_last_at f p)) (Seq One (FourLast f p)) (λ h. (four-more-then f p (evex-map p h)).reads)

four-more-some : (f : Front) (p : ℕ) → ((bit_at p 3 == 0) && map_used Evex (p % 8)) ≡ true → Some (FourMore f p) any
four-more-some f p h = (guard-full ((bit_at p 3 == 0) && map_used Evex (p % 8)) _ (Seq One (FourLast f p)) h (four-more-then f p (evex-map p h))).some

four-reads : (f : Front) → Reads (evex_at f) (FourRaw f) any
unfolding evex_at
four-reads f =
    guard-reads (class_used Evex) (then byte_at (evex_more_at f)) (Seq One (FourMore f)) (λ h.
    let m = map-byte Evex h in
    then-reads byte_at One (evex_more_at f) (FourMore f) any (byte-reads (λ p. Some (FourMore f p) any) m.byte (four-more-some f m.byte m.evex) m.fits) (four-more-reads f))

head-raw : (l : Lead) → Reads (head_at l) (HeadRaw l) any
unfolding head_at
head-raw l =
    let f = l.front in let b = l.byte in let last = lift (shaped_head f (of_rex 0 f.rex) b) in
    if-reads (b == 0x0F) (escape_at f) (λ bytes. cond (b == 0xC5) (vex_two_at f bytes) (cond (b == 0xC4) (vex_three_at f bytes) (cond (b == 0x62) (evex_at f bytes) (last bytes))))
    (Seq One (EscapeRaw f)) _ any (λ _. escape-reads f)
    (λ _. if-reads (b == 0xC5) (vex_two_at f) (λ bytes. cond (b == 0xC4) (vex_three_at f bytes) (cond (b == 0x62) (evex_at f bytes) (last bytes))) (TwoRaw f) _ any (λ _. two-reads f)
    (λ _. if-reads (b == 0xC4) (vex_three_at f) (λ bytes. cond (b == 0x62) (evex_at f bytes) (last bytes)) (ThreeRaw f) _ any (λ _. three-reads f)
    (λ _. if-reads (b == 0x62) (evex_at f) last (FourRaw f) (Lifted (shaped_head f (of_rex 0 f.rex) b)) any (λ _. four-reads f) (λ _. lift-reads (shaped_head f (of_rex 0 f.rex) b) any (shaped_head-short f (of_rex 0 f.rex) b)))))

-- ---- from the reader's relation
parts-of : (f : Front) (k : Payload) (o : ℕ) (s : Option Shape) (h : Head) → head_of f k o s ≡ Ok h → (h.front ≡ f) × (h.payload ≡ k) × (h.opcode ≡ o) × (s ≡ some h.shape)
parts-of f k o None h e = absurd cc
parts-of f k o (some s) h e =
    let g : Head = record { front = f; payload = k; opcode = o; shape = s } in
    let w : g ≡ h = cc in (sym (ap (λ x. x.front) w), sym (ap (λ x. x.payload) w), sym (ap (λ x. x.opcode) w), ap (λ x. some x.shape) w)

head-parts : (f : Front) (k : Payload) (o : ℕ) (h : Head) → shaped_head f k o ≡ Ok h → (h.front ≡ f) × (h.payload ≡ k) × (h.opcode ≡ o) × (shape_at k.class k.map o ≡ some h.shape)
unfolding shaped_head
head-parts f k o h e = parts-of f k o (shape_at k.class k.map o) h e

heads-made : (l : Lead) (text : List ℕ) (h : Head) (k : Payload) (o : ℕ) → shaped_head l.front k o ≡ Ok h → Plain l.front.rex (l.byte ∷ text) k o → Heads l text h
heads-made l text h k o e p =
    let w = head-parts l.front k o h e in
    record {
      front_same = w.0;
      part = subst (λ x. Plain l.front.rex (l.byte ∷ text) x h.opcode) (sym w.1) (subst (λ x. Plain l.front.rex (l.byte ∷ text) k x) (sym w.2) p);
      shape = ap₂ (λ (x : Payload) (y : ℕ). shape_at x.class x.map y) w.1 w.2 ∙ w.3;
    }

cell-of : (rel : ℕ → List ℕ → Head → Type 0) (t : List ℕ) (h : Head) (s : Seq One rel t h) → t ≡ s.value ∷ s.tail
cell-of rel t h s = s.parts ∙ ap (λ (x : List ℕ). x ++ s.tail) s.starts

last-cell : (f : Front) (k : Payload) (t : List ℕ) (h : Head) (s : OpcodeRaw f k t h) → t ≡ s.value ∷ []
last-cell f k t h s = cell-of _ t h s ∙ ap (λ (x : List ℕ). s.value ∷ x) s.ends.nothing

cons₂ : (a b : ℕ) (s t : List ℕ) → a ≡ b → s ≡ t → a ∷ s ≡ b ∷ t
cons₂ a b s t e h = ap₂ (λ (x : ℕ) (y : List ℕ). x ∷ y) e h

two-plain : (rex b p o : ℕ) (text w : List ℕ) → b ≡ 0xC5 → text ≡ p ∷ w → w ≡ o ∷ [] → Plain rex (b ∷ text) (of_vex_two p) o
two-plain rex b p o text w e f g = two p refl (cons₂ _ _ _ _ e (f ∙ ap (λ (t : List ℕ). p ∷ t) g))

three-plain : (rex b p q o : ℕ) (text w x : List ℕ) → b ≡ 0xC4 → text ≡ p ∷ w → w ≡ q ∷ x → x ≡ o ∷ [] → Plain rex (b ∷ text) (of_vex_three p q) o
three-plain rex b p q o text w x e f g h = three p q refl (cons₂ _ _ _ _ e (f ∙ ap (λ (t : List ℕ). p ∷ t) (g ∙ ap (λ (t : List ℕ). q ∷ t) h)))

four-plain : (rex b p q s o : ℕ) (text w x y : List ℕ) → b ≡ 0x62 → bit_at p 3 ≡ 0 → bit_at q 2 ≡ 1 → text ≡ p ∷ w → w ≡ q ∷ x → x ≡ s ∷ y → y ≡ o ∷ [] → Plain rex (b ∷ text) (of_evex p q s) o
four-plain rex b p q s o text w x y e u v f g h k =
    four p q s refl u v (cons₂ _ _ _ _ e (f ∙ ap (λ (t : List ℕ). p ∷ t) (g ∙ ap (λ (t : List ℕ). q ∷ t) (h ∙ ap (λ (t : List ℕ). s ∷ t) k))))

guarded : (b : Bool) (p : Type 0) → Choice b p ⊥ → (b ≡ true) × p
guarded true p h = (refl, h)
guarded false p h = absurd h

escape-to : (l : Lead) (text : List ℕ) (h : Head) → l.byte ≡ 0x0F → Seq One (EscapeRaw l.front) text h → Heads l text h
escape-to l text h b s =
    let c = cell-of _ text h s in
    elim (chosen (s.value == 0x38) _ _ s.ends) [
      | inl y ↦ let t = (guarded _ _ y.1).1 in heads-made l text h _ t.value t.ends.is (escaped 2 refl refl (cons₂ _ _ _ _ b (c ∙ cons₂ _ _ _ _ (eqb-true _ _ y.0) (last-cell _ _ _ h t))))
      | inr y ↦ elim (chosen (s.value == 0x3A) _ _ y.1) [
        | inl z ↦ let t = (guarded _ _ z.1).1 in heads-made l text h _ t.value t.ends.is (escaped 3 refl refl (cons₂ _ _ _ _ b (c ∙ cons₂ _ _ _ _ (eqb-true _ _ z.0) (last-cell _ _ _ h t))))
        | inr z ↦ heads-made l text h _ s.value z.1.is (escaped 1 refl (and_true _ _ (not-false _ y.0) (not-false _ z.0)) (cons₂ _ _ _ _ b (c ∙ ap (λ (x : List ℕ). s.value ∷ x) z.1.nothing)))
      ]
    ]

two-to : (l : Lead) (text : List ℕ) (h : Head) → l.byte ≡ 0xC5 → TwoRaw l.front text h → Heads l text h
two-to l text h b r =
    let s = (guarded (map_used Vex 1) (Seq One (λ p. OpcodeRaw l.front (of_vex_two p)) text h) r).1 in let t = s.ends in
    heads-made l text h _ t.value t.ends.is (two-plain _ l.byte s.value t.value text s.tail b (cell-of _ text h s) (last-cell _ _ _ h t))

three-to : (l : Lead) (text : List ℕ) (h : Head) → l.byte ≡ 0xC4 → ThreeRaw l.front text h → Heads l text h
three-to l text h b r =
    let s = (guarded (class_used Vex) (Seq One (ThreeLast l.front) text h) r).1 in
    let t = (guarded (map_used Vex (s.value % 32)) (Seq One (λ q. OpcodeRaw l.front (of_vex_three s.value q)) s.tail h) s.ends).1 in
    let v = t.ends in
    heads-made l text h _ v.value v.ends.is (three-plain _ l.byte s.value t.value v.value text s.tail t.tail b (cell-of _ text h s) (cell-of _ _ h t) (last-cell _ _ _ h v))

four-to : (l : Lead) (text : List ℕ) (h : Head) → l.byte ≡ 0x62 → FourRaw l.front text h → Heads l text h
four-to l text h b r =
    let s = (guarded (class_used Evex) (Seq One (FourMore l.front) text h) r).1 in
    let v = guarded ((bit_at s.value 3 == 0) && map_used Evex (s.value % 8)) (Seq One (FourLast l.front s.value) s.tail h) s.ends in
    let t = v.1 in
    let a = and_parts (bit_at s.value 3 == 0) _ v.0 in
    let w = guarded (bit_at t.value 2 == 1) (Seq One (λ x. OpcodeRaw l.front (of_evex s.value t.value x)) t.tail h) t.ends in
    let i = w.1 in let j = i.ends in
    heads-made l text h (of_evex s.value t.value i.value) j.value j.ends.is
    (four-plain l.front.rex l.byte s.value t.value i.value j.value text s.tail t.tail i.tail b (eqb-true _ _ a.0) (eqb-true _ _ w.0) (cell-of _ text h s) (cell-of _ _ h t) (cell-of _ _ h i) (last-cell _ _ _ h j))

head-to : (l : Lead) (text : List ℕ) (h : Head) → HeadRaw l text h → Heads l text h
head-to l text h r = elim (chosen (l.byte == 0x0F) _ _ r) [
  | inl x ↦ escape-to l text h (eqb-true _ _ x.0) x.1
  | inr x ↦ elim (chosen (l.byte == 0xC5) _ _ x.1) [
    | inl y ↦ two-to l text h (eqb-true _ _ y.0) y.1
    | inr y ↦ elim (chosen (l.byte == 0xC4) _ _ y.1) [
      | inl z ↦ three-to l text h (eqb-true _ _ z.0) z.1
      | inr z ↦ elim (chosen (l.byte == 0x62) _ _ z.1) [
        | inl u ↦ four-to l text h (eqb-true _ _ u.0) u.1
        | inr u ↦ heads-made l text h _ l.byte u.1.is (escaped 0 refl (and_true _ _ (not-false _ x.0) (and_true _ _ (not-false _ y.0) (and_true _ _ (not-false _ z.0) (not-false _ u.0)))) (ap (λ (v : List ℕ). l.byte ∷ v) u.1.nothing))
      ]
    ]
  ]
]

-- ---- and back
opcode-back : (f : Front) (k : Payload) (o : ℕ) (h : Head) → shaped_head f k o ≡ Ok h → OpcodeRaw f k (o ∷ []) h
opcode-back f k o h e = record { front = o ∷ []; tail = []; value = o; starts = refl; ends = record { nothing = refl; is = e }; parts = refl }

cell-back : (rel : ℕ → List ℕ → Head → Type 0) (b : ℕ) (t : List ℕ) (h : Head) → rel b t h → Seq One rel (b ∷ t) h
cell-back rel b t h r = record { front = b ∷ []; tail = t; value = b; starts = refl; ends = r; parts = refl }

rex-back : (f : Front) (m rex o : ℕ) (h : Head) → shaped_head f (of_rex m rex) o ≡ Ok h → map_used Legacy m ≡ true
unfolding of_rex
rex-back f m rex o h e = used-back Legacy m o h.shape (head-parts f (of_rex m rex) o h e).3

two-back : (f : Front) (p o : ℕ) (h : Head) → shaped_head f (of_vex_two p) o ≡ Ok h → map_used Vex 1 ≡ true
unfolding of_vex_two
two-back f p o h e = used-back Vex 1 o h.shape (head-parts f (of_vex_two p) o h e).3

three-back : (f : Front) (p q o : ℕ) (h : Head) → shaped_head f (of_vex_three p q) o ≡ Ok h → map_used Vex (p % 32) ≡ true
unfolding of_vex_three
three-back f p q o h e = used-back Vex (p % 32) o h.shape (head-parts f (of_vex_three p q) o h e).3

four-back : (f : Front) (p q s o : ℕ) (h : Head) → shaped_head f (of_evex p q s) o ≡ Ok h → map_used Evex (p % 8) ≡ true
unfolding of_evex
four-back f p q s o h e = used-back Evex (p % 8) o h.shape (head-parts f (of_evex p q s) o h e).3

long-back : (f : Front) (m o : ℕ) (h : Head) → shaped_head f (of_rex m f.rex) o ≡ Ok h → LongRaw f m (o ∷ []) h
long-back f m o h e = left (map_used Legacy m) _ _ (rex-back f m f.rex o h e) (opcode-back f (of_rex m f.rex) o h e)

-- the first byte decides, and the rest is read behind it
escaped-back : (l : Lead) (text : List ℕ) (h : Head) (m o : ℕ) → shaped_head l.front (of_rex m l.front.rex) o ≡ Ok h → l.byte ∷ text ≡ escape m ++ o ∷ [] → is_plain m o ≡ true → HeadRaw l text h
escaped-back l text h zero o e s p =
    let b : l.byte ≡ o = cc in let t : text ≡ [] = cc in
    let a = and_parts (not (o == 0x0F)) _ p in let c = and_parts (not (o == 0xC5)) _ a.1 in let d = and_parts (not (o == 0xC4)) _ c.1 in
    right (l.byte == 0x0F) _ _ (ap (λ (x : ℕ). x == 0x0F) b ∙ not-true _ a.0)
    (right (l.byte == 0xC5) _ _ (ap (λ (x : ℕ). x == 0xC5) b ∙ not-true _ c.0)
    (right (l.byte == 0xC4) _ _ (ap (λ (x : ℕ). x == 0xC4) b ∙ not-true _ d.0)
    (right (l.byte == 0x62) _ _ (ap (λ (x : ℕ). x == 0x62) b ∙ not-true _ d.1) (record { nothing = t; is = ap (shaped_head l.front (of_rex 0 l.front.rex)) b ∙ e }))))
escaped-back l text h (suc zero) o e s p =
    let b : l.byte ≡ 0x0F = cc in let t : text ≡ o ∷ [] = cc in let w = and_parts (not (o == 0x38)) _ p in
    left (l.byte == 0x0F) _ _ (eq-eqb _ _ b) (subst (λ x. Seq One (EscapeRaw l.front) x h) (sym t) (cell-back _ o [] h (right (o == 0x38) _ _ (not-true _ w.0) (right (o == 0x3A) _ _ (not-true _ w.1) (record { nothing = refl; is = e })))))
escaped-back l text h (suc (suc zero)) o e s p =
    let b : l.byte ≡ 0x0F = cc in let t : text ≡ 0x38 ∷ o ∷ [] = cc in
    left (l.byte == 0x0F) _ _ (eq-eqb _ _ b) (subst (λ x. Seq One (EscapeRaw l.front) x h) (sym t) (cell-back _ 0x38 (o ∷ []) h (long-back l.front 2 o h e)))
escaped-back l text h (suc (suc (suc zero))) o e s p =
    let b : l.byte ≡ 0x0F = cc in let t : text ≡ 0x3A ∷ o ∷ [] = cc in
    left (l.byte == 0x0F) _ _ (eq-eqb _ _ b) (subst (λ x. Seq One (EscapeRaw l.front) x h) (sym t) (cell-back _ 0x3A (o ∷ []) h (long-back l.front 3 o h e)))
escaped-back l text h (suc (suc (suc (suc n)))) o e s p = absurd cc

plain-back : (l : Lead) (text : List ℕ) (h : Head) (k : Payload) (o : ℕ) → shaped_head l.front k o ≡ Ok h → Plain l.front.rex (l.byte ∷ text) k o → HeadRaw l text h
plain-back l text h k o e (escaped m is p parts) = escaped-back l text h m o (ap (λ x. shaped_head l.front x o) (sym is) ∙ e) parts p
plain-back l text h k o e (two p is parts) =
    let b : l.byte ≡ 0xC5 = cc in let t : text ≡ p ∷ o ∷ [] = cc in let g = ap (λ x. shaped_head l.front x o) (sym is) ∙ e in
    right (l.byte == 0x0F) _ _ (ap (λ (x : ℕ). x == 0x0F) b)
    (left (l.byte == 0xC5) _ _ (eq-eqb _ _ b) (left (map_used Vex 1) _ _ (two-back l.front p o h g)
    (subst (λ x. Seq One (λ y. OpcodeRaw l.front (of_vex_two y)) x h) (sym t) (cell-back _ p (o ∷ []) h (opcode-back l.front (of_vex_two p) o h g)))))
plain-back l text h k o e (three p q is parts) =
    let b : l.byte ≡ 0xC4 = cc in let t : text ≡ p ∷ q ∷ o ∷ [] = cc in let g = ap (λ x. shaped_head l.front x o) (sym is) ∙ e in
    let u = three-back l.front p q o h g in
    right (l.byte == 0x0F) _ _ (ap (λ (x : ℕ). x == 0x0F) b)
    (right (l.byte == 0xC5) _ _ (ap (λ (x : ℕ). x == 0xC5) b)
    (left (l.byte == 0xC4) _ _ (eq-eqb _ _ b) (left (class_used Vex) _ _ (class-back Vex (p % 32) u) (subst (λ x. Seq One (ThreeLast l.front) x h) (sym t) (cell-back _ p (q ∷ o ∷ []) h
    (left (map_used Vex (p % 32)) _ _ u (cell-back _ q (o ∷ []) h (opcode-back l.front (of_vex_three p q) o h g))))))))
plain-back l text h k o e (four p q s is pz qo parts) =
    let b : l.byte ≡ 0x62 = cc in let t : text ≡ p ∷ q ∷ s ∷ o ∷ [] = cc in let g = ap (λ x. shaped_head l.front x o) (sym is) ∙ e in
    let u = four-back l.front p q s o h g in
    right (l.byte == 0x0F) _ _ (ap (λ (x : ℕ). x == 0x0F) b)
    (right (l.byte == 0xC5) _ _ (ap (λ (x : ℕ). x == 0xC5) b)
    (right (l.byte == 0xC4) _ _ (ap (λ (x : ℕ). x == 0xC4) b)
    (left (l.byte == 0x62) _ _ (eq-eqb _ _ b) (left (class_used Evex) _ _ (class-back Evex (p % 8) u) (subst (λ x. Seq One (FourMore l.front) x h) (sym t) (cell-back _ p (q ∷ s ∷ o ∷ []) h
    (left ((bit_at p 3 == 0) && map_used Evex (p % 8)) _ _ (and_true _ _ (eq-eqb _ _ pz) u) (cell-back _ q (s ∷ o ∷ []) h
    (left (bit_at q 2 == 1) _ _ (eq-eqb _ _ qo) (cell-back _ s (o ∷ []) h (opcode-back l.front (of_evex p q s) o h g)))))))))))

head-back : (l : Lead) (text : List ℕ) (h : Head) → Heads l text h → HeadRaw l text h
head-back l text h r =
    let e : shaped_head l.front h.payload h.opcode ≡ Ok h = made l.front h.payload h.opcode h.shape r.shape ∙ (let a = r.front_same in λ i. Ok (record { front = sym a i; payload = h.payload; opcode = h.opcode; shape = h.shape })) in
    plain-back l text h h.payload h.opcode e r.part

pub head-reads : (l : Lead) → Reads (head_at l) (Heads l) any
head-reads l = same-reads (head_at l) (HeadRaw l) (Heads l) any (head-to l) (head-back l) (head-raw l)

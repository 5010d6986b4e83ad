-- What follows the opcode.
use Rattle.std.proofs.Common.{◌≡◌, ℕ, Bool, true, false, List, [], ◌∷◌, ◌++◌, length, Result, Ok, Option, None, refl, sym, ap, ap₂, subst, ◌∙◌}
use Rattle.std.proofs.Common.{Some as some}
use Rattle.std.specs.Prelude.{is_some, option_to_list}
use Rattle.std.proofs.lemmas.List.{append-nil}
use Rattle.row_table.specs.declared.kinds.Fields.{Fields}
use Rattle.row_table.specs.Shapes.{sib_wanted}
use Rattle.form_scan.specs.declared.kinds.Stop.{Stop}
use Rattle.form_scan.specs.declared.kinds.Head.{Head}
use Rattle.form_scan.specs.Shaped.{disp_size, imm_size, fields_of}
use Rattle.form_scan.specs.Reading.{byte_at, optional_at, chunk_at, tail_at}
use Rattle.form_scan.proofs.Reader.{Seq, then, lift, Lifted, Choice}
use Rattle.form_scan.proofs.Full.{Full, Chunk, same-full, then-full, byte-full, done-full, if-full, chunk-full}

-- ---- ModRM and SIB
pub record Byte (wanted : Bool) (text : List ℕ) (m : Option ℕ) : Type 0 where
  pub there : is_some m ≡ wanted
  pub text_is : text ≡ option_to_list m

abbrev ByteRaw : Bool → List ℕ → Option ℕ → Type 0
ByteRaw wanted text m = Choice wanted (Seq (λ t b. t ≡ b ∷ []) (λ b. Lifted (Ok (some b))) text m) (Lifted (Ok None) text m)

ok_same : {A : Type 0} (a b : A) → let r : Result A Stop = Ok a in let q : Result A Stop = Ok b in r ≡ q → a ≡ b
ok_same a b e = cc

byte-to : (wanted : Bool) (text : List ℕ) (m : Option ℕ) → ByteRaw wanted text m → Byte wanted text m
byte-to true text m h =
    let e : some h.value ≡ m = ok_same _ _ h.ends.is in
    record {
      there = sym (ap is_some e);
      text_is = h.parts ∙ ap₂ (λ (x y : List ℕ). x ++ y) h.starts h.ends.nothing ∙ ap option_to_list e;
    }
byte-to false text m h = let e : None ≡ m = ok_same _ _ h.is in record { there = sym (ap is_some e); text_is = h.nothing ∙ ap option_to_list e }

byte-back : (wanted : Bool) (text : List ℕ) (m : Option ℕ) → Byte wanted text m → ByteRaw wanted text m
byte-back true text None h = absurd (let e = h.there in cc)
byte-back true text (some b) h = record { front = b ∷ []; tail = []; value = b; starts = refl; ends = record { nothing = refl; is = refl }; parts = h.text_is }
byte-back false text None h = record { nothing = h.text_is; is = refl }
byte-back false text (some b) h = absurd (let e = h.there in cc)

pub optional-full : (wanted : Bool) → Full (optional_at wanted) (Byte wanted)
unfolding optional_at
optional-full wanted =
    same-full (optional_at wanted) (ByteRaw wanted) (Byte wanted) (byte-to wanted) (byte-back wanted)
    (if-full wanted (then byte_at (λ b. lift (Ok (some b)))) (lift (Ok None)) _ (Lifted (Ok None))
    (then-full byte_at (λ t b. t ≡ b ∷ []) (λ b. lift (Ok (some b))) (λ b. Lifted (Ok (some b))) byte-full (λ b. done-full (some b))) (done-full None))

-- ---- the tail
abbrev pub imm_in : Head → Option ℕ → ℕ
imm_in h m = imm_size h.payload.w h.front.p66 h.front.p67 h.shape.imm m

abbrev pub made : Head → Option ℕ → Option ℕ → List ℕ → List ℕ → Fields
made h m s d i = fields_of h.front h.payload h.opcode m s d i

pub record Tail (h : Head) (text : List ℕ) (f : Fields) : Type 0 where
  pub modrm : Option ℕ
  pub modrm_there : is_some modrm ≡ h.shape.modrm
  pub sib : Option ℕ
  pub sib_there : is_some sib ≡ sib_wanted modrm
  pub disp : List ℕ
  pub disp_length : length disp ≡ disp_size modrm sib
  pub imm : List ℕ
  pub imm_length : length imm ≡ imm_in h modrm
  pub fields : f ≡ made h modrm sib disp imm
  pub text_is : text ≡ option_to_list modrm ++ (option_to_list sib ++ (disp ++ imm))

abbrev done : Head → Option ℕ → Option ℕ → List ℕ → List ℕ → Result Fields Stop
done h m s d i = Ok (made h m s d i)

abbrev TailRaw : Head → List ℕ → Fields → Type 0
TailRaw h = Seq (Byte h.shape.modrm) (λ m. Seq (Byte (sib_wanted m)) (λ s. Seq (Chunk (disp_size m s)) (λ d. Seq (Chunk (imm_in h m)) (λ i. Lifted (done h m s d i)))))

tail-raw : (h : Head) → Full (tail_at h) (TailRaw h)
unfolding tail_at
tail-raw h =
    then-full (optional_at h.shape.modrm) _ _ _ (optional-full h.shape.modrm) (λ m.
    then-full (optional_at (sib_wanted m)) _ _ _ (optional-full (sib_wanted m)) (λ s.
    then-full (chunk_at (disp_size m s)) _ _ _ (chunk-full (disp_size m s)) (λ d.
    then-full (chunk_at (imm_in h m)) _ _ _ (chunk-full (imm_in h m)) (λ i. done-full (made h m s d i)))))

tail-made : (h : Head) (text : List ℕ) (m s : Option ℕ) (d i : List ℕ) (mt st dt it : List ℕ) → Byte h.shape.modrm mt m → Byte (sib_wanted m) st s → Chunk (disp_size m s) dt d → Chunk (imm_in h m) it i → text ≡ mt ++ (st ++ (dt ++ it)) → Tail h text (made h m s d i)
tail-made h text m s d i mt st dt it a b c e t = record {
  modrm = m;
  modrm_there = a.there;
  sib = s;
  sib_there = b.there;
  disp = d;
  disp_length = ap length c.is ∙ c.long;
  imm = i;
  imm_length = ap length e.is ∙ e.long;
  fields = refl;
  text_is = t ∙ ap₂ (λ (x y : List ℕ). x ++ (y ++ (dt ++ it))) a.text_is b.text_is
      ∙ ap₂ (λ (x y : List ℕ). option_to_list m ++ (option_to_list s ++ (x ++ y))) (sym c.is) (sym e.is);
}

tail-to : (h : Head) (text : List ℕ) (f : Fields) → TailRaw h text f → Tail h text f
tail-to h text f r =
    let s = r.ends in let d = s.ends in let i = d.ends in let z = i.ends in
    let it : i.front ++ i.tail ≡ i.front = ap (λ (x : List ℕ). i.front ++ x) z.nothing ∙ append-nil i.front in
    let t : text ≡ r.front ++ (s.front ++ (d.front ++ i.front)) =
    r.parts ∙ ap (λ (x : List ℕ). r.front ++ x) (s.parts ∙ ap (λ (x : List ℕ). s.front ++ x) (d.parts ∙ ap (λ (x : List ℕ). d.front ++ x) (i.parts ∙ it))) in
    subst (Tail h text) (ok_same _ _ z.is) (tail-made h text r.value s.value d.value i.value r.front s.front d.front i.front r.starts s.starts d.starts i.starts t)

tail-back : (h : Head) (text : List ℕ) (f : Fields) → Tail h text f → TailRaw h text f
tail-back h text f t =
    record {
      front = option_to_list t.modrm;
      tail = option_to_list t.sib ++ (t.disp ++ t.imm);
      value = t.modrm;
      starts = record { there = t.modrm_there; text_is = refl };
      ends = record {
        front = option_to_list t.sib;
        tail = t.disp ++ t.imm;
        value = t.sib;
        starts = record { there = t.sib_there; text_is = refl };
        ends = record {
          front = t.disp;
          tail = t.imm;
          value = t.disp;
          starts = record { long = t.disp_length; is = refl };
          ends = record {
            front = t.imm;
            tail = [];
            value = t.imm;
            starts = record { long = t.imm_length; is = refl };
            ends = record { nothing = refl; is = ap (λ x. Ok x) (sym t.fields) };
            parts = sym (append-nil t.imm);
          };
          parts = refl;
        };
        parts = refl;
      };
      parts = t.text_is;
    }

pub tail-full : (h : Head) → Full (tail_at h) (Tail h)
tail-full h = same-full (tail_at h) (TailRaw h) (Tail h) (tail-to h) (tail-back h) (tail-raw h)

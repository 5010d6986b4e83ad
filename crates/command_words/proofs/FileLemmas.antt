-- The files that pairs name.
use Rattle.std.proofs.Common.{◌≡◌, ◌≢◌, ℕ, ◌+◌, ◌<◌, ◌≤◌, ◌⊎◌, inl, inr, ⊎_elim, Bool, true, false, cond, not, List, [], ◌∷◌, ◌++◌, length, take, get_or, map, All, Option, Some, None, is_some, is_none, refl, sym, ◌∙◌, ap, arith, subst, length-append, ◌||◌}
use Rattle.std.specs.List.{filter, AllPairs, IsDistinct}
use Rattle.std.specs.Str.{bytes_eq}
use Rattle.std.proofs.lemmas.Bool.{and_parts, ltb-true, leb-true}
use Rattle.std.proofs.lemmas.Cmp.{nat_list_eq_equiv}
use Rattle.std.proofs.lemmas.List.{length-map, map-append, get_or-map}
use Rattle.std.proofs.lemmas.List.Elements.{All-nil, All-push, All-weaker, All-append, All-map, All-filter}
use Rattle.std.proofs.lemmas.Map.Made.{AllPairs-from_IsDistinct, IsDistinct-from_AllPairs}
use Rattle.std.proofs.lemmas.Slice.Eq.{bytes_eq-Decides}
use Rattle.std.proofs.lemmas.List.Filters.{length-filter_more}
use Rattle.command_words.specs.declared.kinds.Command.{Command}
use Rattle.command_words.specs.Texts.{word_at}
use Rattle.command_words.specs.Pairs.{name_in, is_pair, name_at, names_at, place_naming}
use Rattle.command_words.specs.Files.{NamedFile, file_in, file_out, only_out, named_files, files_named}
use Rattle.command_words.specs.Command.{IsPairAt, ArePairs, IsCommand}
use Rattle.command_words.specs.Holding.{AreFiles}
use Rattle.command_words.proofs.NameLemmas.{has, union, AreDistinct, union-distinct, push-distinct, has-union, union-fits, within-front, within-back, front-short, back-short}

-- whether no pair of `--in` has the name of the pair at a place
abbrev pub is_only_out : List (List ℕ) → (ins : List ℕ) → ℕ → Bool
is_only_out words ins place = is_none (place_naming words (name_at words place) ins)

-- what `is_none` answers
pub none-is : (b : Bool) (o : Option ℕ) → is_some o ≡ not b → is_none o ≡ b
none-is true None e = refl
none-is false None e = cc
none-is true (Some n) e = cc
none-is false (Some n) e = refl

-- how many pairs of `--out` alone there are, with one more of them
module _ (ws : List (List ℕ)) (ins outs : List ℕ) (i : ℕ) where
  only-more : i < length outs
      → length (only_out ws ins (take (i + 1) outs)) ≡ length (only_out ws ins (take i outs)) + cond (is_only_out ws ins (get_or outs i 0)) 1 0
  unfolding only_out
  only-more h = length-filter_more (is_only_out ws ins) outs i 0 h

  pub only-here : i < length outs → is_only_out ws ins (get_or outs i 0) ≡ true
      → length (only_out ws ins (take (i + 1) outs)) ≡ length (only_out ws ins (take i outs)) + 1
  only-here h e = only-more h ∙ ap (λ (b : Bool). length (only_out ws ins (take i outs)) + cond b 1 0) e

  pub only-behind : i < length outs → is_only_out ws ins (get_or outs i 0) ≡ false
      → length (only_out ws ins (take (i + 1) outs)) ≡ length (only_out ws ins (take i outs))
  only-behind h e = only-more h ∙ ap (λ (b : Bool). length (only_out ws ins (take i outs)) + cond b 1 0) e ∙ omega arith

-- ---- the names of files are those of their pairs, each once
pub named-is : (ws : List (List ℕ)) (name : List ℕ) (places : List ℕ) → is_some (place_naming ws name places) ≡ has (names_at ws places) name
unfolding place_naming
named-is ws name [] = refl
named-is ws name (place ∷ places) =
    step (bytes_eq (name_at ws place) name) (bytes_eq name (name_at ws place)) _ _ (nat_list_eq_equiv.symm (name_at ws place) name) (named-is ws name places)
  where
    step : (a b : Bool) (o : Option ℕ) (h : Bool) → a ≡ b → is_some o ≡ h → is_some (cond a (Some place) o) ≡ (b || h)
    step true true o h e i = refl
    step false false o h e i = i
    step true false o h e i = cc
    step false true o h e i = cc

names-only : (ws : List (List ℕ)) (ins outs : List ℕ) → map (name_at ws) (only_out ws ins outs)
    ≡ filter (λ name. not (has (names_at ws ins) name)) (names_at ws outs)
unfolding only_out
names-only ws ins [] = refl
names-only ws ins (place ∷ outs) =
    step (is_some (place_naming ws (name_at ws place) ins)) (has (names_at ws ins) (name_at ws place)) _ _ (named-is ws (name_at ws place) ins) (names-only ws ins outs)
  where
    step : (a b : Bool) (only : List ℕ) (names : List (List ℕ)) → a ≡ b → map (name_at ws) only ≡ names
        → map (name_at ws) (cond (not a) (place ∷ only) only) ≡ cond (not b) (name_at ws place ∷ names) names
    step true true only names e i = i
    step false false only names e i = ap (λ (names : List (List ℕ)). name_at ws place ∷ names) i
    step true false only names e i = cc
    step false true only names e i = cc

abbrev pub name_of : NamedFile → List ℕ
name_of file = file.name

of-pairs : (file : ℕ → NamedFile) (ws : List (List ℕ)) (places : List ℕ) (back : List NamedFile) → ((place : ℕ) → name_of (file place) ≡ name_at ws place)
    → map name_of (map file places ++ back) ≡ names_at ws places ++ map name_of back
of-pairs file ws [] back e = refl
of-pairs file ws (place ∷ places) back e =
    ap (λ (name : List ℕ). name ∷ map name_of (map file places ++ back)) (e place)
    ∙ ap (λ (names : List (List ℕ)). name_at ws place ∷ names) (of-pairs file ws places back e)

of-last : (file : ℕ → NamedFile) (ws : List (List ℕ)) (places : List ℕ) → ((place : ℕ) → name_of (file place) ≡ name_at ws place)
    → map name_of (map file places) ≡ map (name_at ws) places
of-last file ws [] e = refl
of-last file ws (place ∷ places) e =
    ap (λ (name : List ℕ). name ∷ map name_of (map file places)) (e place)
    ∙ ap (λ (names : List (List ℕ)). name_at ws place ∷ names) (of-last file ws places e)

pub names-are : (ws : List (List ℕ)) (ins outs : List ℕ) → map name_of (named_files ws ins outs) ≡ union (names_at ws ins) (names_at ws outs)
names-are ws ins outs =
    of-pairs (file_in ws outs) ws ins (map (file_out ws) (only_out ws ins outs)) (λ place. refl)
    ∙ ap (λ (names : List (List ℕ)). names_at ws ins ++ names) (of-last (file_out ws) ws (only_out ws ins outs) (λ place. refl) ∙ names-only ws ins outs)

pub count-is : (ws : List (List ℕ)) (ins outs : List ℕ) → length (named_files ws ins outs) ≡ length (union (names_at ws ins) (names_at ws outs))
count-is ws ins outs = sym (length-map (named_files ws ins outs) name_of) ∙ ap length (names-are ws ins outs)

-- ---- names that differ
distinct-names : (names : List (List ℕ)) → AllPairs (λ a b. a ≢ b) names → AreDistinct names
distinct-names names d = IsDistinct-from_AllPairs bytes_eq-Decides names d

distinct-pairs : (names : List (List ℕ)) → AreDistinct names → AllPairs (λ a b. a ≢ b) names
distinct-pairs names d = AllPairs-from_IsDistinct bytes_eq-Decides names d

names-push : (ws : List (List ℕ)) (places : List ℕ) (place : ℕ) → names_at ws (places ++ place ∷ []) ≡ names_at ws places ++ name_at ws place ∷ []
names-push ws places place = map-append (name_at ws) places (place ∷ [])

distinct-push : (ws : List (List ℕ)) (places : List ℕ) (place : ℕ) → AreDistinct (names_at ws places)
    → is_some (place_naming ws (name_at ws place) places) ≡ false → AreDistinct (names_at ws (places ++ place ∷ []))
distinct-push ws places place d new =
    subst AreDistinct (sym (names-push ws places place))
    (push-distinct (names_at ws places) (name_at ws place) d (sym (named-is ws (name_at ws place) places) ∙ new))

pub pairs-push : (ws : List (List ℕ)) (places : List ℕ) (place : ℕ) → ArePairs ws place places → IsPairAt ws (place + 1) place
    → is_some (place_naming ws (name_at ws place) places) ≡ false → ArePairs ws (place + 1) (places ++ place ∷ [])
pairs-push ws places place are is new = record {
  pairs = All-push (IsPairAt ws (place + 1)) places place (All-weaker (IsPairAt ws place) (IsPairAt ws (place + 1)) later places are.pairs) is;
  distinct = distinct-pairs (names_at ws (places ++ place ∷ [])) (distinct-push ws places place (distinct-names (names_at ws places) are.distinct) new);
}
  where
    later : (p : ℕ) → IsPairAt ws place p → IsPairAt ws (place + 1) p
    later p h = record { before = omega (arith, h.before); pair = h.pair; text = h.text }

pub pairs-later : (ws : List (List ℕ)) (places : List ℕ) (place : ℕ) → ArePairs ws place places → ArePairs ws (place + 1) places
pairs-later ws places place are = record {
  pairs = All-weaker (IsPairAt ws place) (IsPairAt ws (place + 1)) later places are.pairs;
  distinct = are.distinct;
}
  where
    later : (p : ℕ) → IsPairAt ws place p → IsPairAt ws (place + 1) p
    later p h = record { before = omega (arith, h.before); pair = h.pair; text = h.text }

pub none-named : (ws : List (List ℕ)) (end : ℕ) → AreFiles ws end [] []
unfolding only_out IsDistinct
none-named ws end = record {
  loaded = record { pairs = All-nil (IsPairAt ws end); distinct = distinct-pairs [] none };
  stored = record { pairs = All-nil (IsPairAt ws end); distinct = distinct-pairs [] none };
  few = omega arith;
}
  where
    none : AreDistinct []
    none = tt

-- ---- one more pair, where there is room for its name
module _ (ws : List (List ℕ)) (ins outs : List ℕ) (place end : ℕ) (files : AreFiles ws end ins outs) where
  abbrev HasRoom : Type 0
  HasRoom =
      ((is_some (place_naming ws (name_at ws place) ins) || is_some (place_naming ws (name_at ws place) outs)) ≡ true)
      ⊎ (length (named_files ws ins outs) < 16)

  room-is : HasRoom → (has (union (names_at ws ins) (names_at ws outs)) (name_at ws place) ≡ true)
      ⊎ (length (union (names_at ws ins) (names_at ws outs)) < 16)
  room-is room =
      ⊎_elim
      (λ old. inl (has-union (names_at ws ins) (names_at ws outs) (name_at ws place)
      ∙ ap (λ (b : Bool). b || has (names_at ws outs) (name_at ws place)) (sym (named-is ws (name_at ws place) ins))
      ∙ ap (λ (b : Bool). is_some (place_naming ws (name_at ws place) ins) || b) (sym (named-is ws (name_at ws place) outs)) ∙ old))
      (λ less. inr (omega (arith, less, count-is ws ins outs)))
      room

  pub few-in : is_some (place_naming ws (name_at ws place) ins) ≡ false → HasRoom → length (named_files ws (ins ++ place ∷ []) outs) ≤ 16
  few-in new room =
      let most =
      union-fits (names_at ws ins) (names_at ws outs) (names_at ws (ins ++ place ∷ [])) (names_at ws outs) (name_at ws place) 16
      (distinct-push ws ins place (distinct-names (names_at ws ins) files.loaded.distinct) new)
      (distinct-names (names_at ws outs) files.stored.distinct)
      (subst (λ (names : List (List ℕ)). (q : List ℕ) → has (union names (names_at ws outs)) q ≡ true
      → (bytes_eq q (name_at ws place) || has (union (names_at ws ins) (names_at ws outs)) q) ≡ true)
      (sym (names-push ws ins place)) (within-front (names_at ws ins) (names_at ws outs) (name_at ws place)))
      (room-is room) (omega (arith, files.few, count-is ws ins outs)) in
      omega (arith, most, count-is ws (ins ++ place ∷ []) outs)

  pub few-out : is_some (place_naming ws (name_at ws place) outs) ≡ false → HasRoom → length (named_files ws ins (outs ++ place ∷ [])) ≤ 16
  few-out new room =
      let most =
      union-fits (names_at ws ins) (names_at ws outs) (names_at ws ins) (names_at ws (outs ++ place ∷ [])) (name_at ws place) 16
      (distinct-names (names_at ws ins) files.loaded.distinct)
      (distinct-push ws outs place (distinct-names (names_at ws outs) files.stored.distinct) new)
      (subst (λ (names : List (List ℕ)). (q : List ℕ) → has (union (names_at ws ins) names) q ≡ true
      → (bytes_eq q (name_at ws place) || has (union (names_at ws ins) (names_at ws outs)) q) ≡ true)
      (sym (names-push ws outs place)) (within-back (names_at ws ins) (names_at ws outs) (name_at ws place)))
      (room-is room) (omega (arith, files.few, count-is ws ins outs)) in
      omega (arith, most, count-is ws ins (outs ++ place ∷ []))

  pub place-in : is_some (place_naming ws (name_at ws place) ins) ≡ false → HasRoom → length ins < 16
  place-in new room =
      let short =
      front-short (names_at ws (ins ++ place ∷ [])) (names_at ws outs)
      (distinct-push ws ins place (distinct-names (names_at ws ins) files.loaded.distinct) new) in
      omega (
        arith,
        short,
        few-in new room,
        count-is ws (ins ++ place ∷ []) outs,
        length-map (ins ++ place ∷ []) (name_at ws),
        length-append ins (place ∷ []),
      )

  pub place-out : is_some (place_naming ws (name_at ws place) outs) ≡ false → HasRoom → length outs < 16
  place-out new room =
      let short =
      back-short (names_at ws ins) (names_at ws (outs ++ place ∷ []))
      (distinct-push ws outs place (distinct-names (names_at ws outs) files.stored.distinct) new) in
      omega (
        arith,
        short,
        few-out new room,
        count-is ws ins (outs ++ place ∷ []),
        length-map (outs ++ place ∷ []) (name_at ws),
        length-append outs (place ∷ []),
      )

-- ---- the files of a command
pub names-differ : (ws : List (List ℕ)) (command : Command) → IsCommand ws command → AllPairs (λ a b. a ≢ b) (map name_of (files_named ws command))
names-differ ws command is =
    subst (AllPairs (λ a b. a ≢ b)) (sym (names-are ws command.ins.items command.outs.items))
    (distinct-pairs (union (names_at ws command.ins.items) (names_at ws command.outs.items))
    (union-distinct (names_at ws command.ins.items) (names_at ws command.outs.items)
    (distinct-names (names_at ws command.ins.items) is.ins.distinct) (distinct-names (names_at ws command.outs.items) is.outs.distinct)))

pub files-differ : (ws : List (List ℕ)) (command : Command) → IsCommand ws command → AllPairs (λ a b. a.name ≢ b.name) (files_named ws command)
files-differ ws command is = λ i j d less within same.
    let files = files_named ws command in
    let left = get_or-map name_of files i d d.name (omega (arith, less, within)) in
    let right = get_or-map name_of files j d d.name within in
    names-differ ws command is i j d.name less (omega (arith, within, length-map files name_of)) (left ∙ same ∙ sym right)

-- a name of 1 to 255 bytes
abbrev pub IsName : List ℕ → Type 0
IsName name = (1 ≤ length name) × (length name ≤ 255)

pub pair-name : (text : List ℕ) → is_pair text ≡ true → IsName (name_in text)
unfolding is_pair
pair-name text e =
    let parts = and_parts _ _ e in
    let front = and_parts _ _ parts.0 in
    (omega (arith, ltb-true 0 (length (name_in text)) front.0), leb-true (length (name_in text)) 255 front.1)

pub names-fit : (ws : List (List ℕ)) (command : Command) → IsCommand ws command → All (λ file. IsName file.name) (files_named ws command)
unfolding only_out
names-fit ws command is =
    let ins = command.ins.items in
    let outs = command.outs.items in
    let named : (place : ℕ) → IsPairAt ws command.program place → IsName (name_at ws place) = λ place h. pair-name (word_at ws place) h.pair in
    All-append (λ (file : NamedFile). IsName file.name) (map (file_in ws outs) ins) (map (file_out ws) (only_out ws ins outs))
    (All-map (λ (file : NamedFile). IsName file.name) (file_in ws outs) ins
    (All-weaker (IsPairAt ws command.program) (λ (place : ℕ). IsName (name_at ws place)) named ins is.ins.pairs))
    (All-map (λ (file : NamedFile). IsName file.name) (file_out ws) (only_out ws ins outs)
    (All-filter (λ place. is_none (place_naming ws (name_at ws place) ins)) (λ (place : ℕ). IsName (name_at ws place)) outs
    (All-weaker (IsPairAt ws command.program) (λ (place : ℕ). IsName (name_at ws place)) named outs is.outs.pairs)))

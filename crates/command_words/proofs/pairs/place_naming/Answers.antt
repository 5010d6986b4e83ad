use Rattle.std.proofs.Common.{◌≡◌, ◌∙◌, map, string_bytes, sym, ap, nat_eq, refl, arith, List, ℕ, get_or, slice_index_or}
use Rattle.std.specs.Str.{bytes_eq}
use Rattle.command_words.specs.Pairs.{name_in, place_naming}
use Rattle.command_words.proofs.SearchLemmas.{find-here, find-behind, find-none}
use Rattle.command_words.proofs.PairLemmas.{has_name}
use Rattle.command_words.proofs.pairs.place_naming.Goals as goal

pub loop-place-init : goal.loop-place-init
unfolding place_naming
loop-place-init c = refl

pub returns-then-eq : goal.returns-then-eq
returns-then-eq c =
    let words = map string_bytes c.args.words.now in
    let name = c.args.name.now in
    sym (find-here (has_name words name) c.args.places.now c.loop-place.place-index 0 c.loop-place-test.true
    (ap (λ (text : List ℕ). bytes_eq (name_in text) name) (sym c.text_at.ensures)
    ∙ ap (λ (text : List ℕ). bytes_eq text name) (sym c.pair_name.ensures) ∙ sym c.eq.ensures ∙ c.if-eq.true))
    ∙ c.loop-place.invariant

pub loop-place-preserved : goal.loop-place-preserved
loop-place-preserved c =
    let words = map string_bytes c.args.words.now in
    let name = c.args.name.now in
    sym (find-behind (has_name words name) c.args.places.now c.loop-place.place-index 0 c.loop-place-test.true
    (ap (λ (text : List ℕ). bytes_eq (name_in text) name) (sym c.text_at.ensures)
    ∙ ap (λ (text : List ℕ). bytes_eq text name) (sym c.pair_name.ensures) ∙ sym c.eq.ensures ∙ c.if-eq.false))
    ∙ c.loop-place.invariant

pub returns : goal.returns
returns c =
    let words = map string_bytes c.args.words.now in
    sym (find-none (has_name words c.args.name.now) c.args.places.now c.loop-place.place-index (omega arith)) ∙ c.loop-place.invariant

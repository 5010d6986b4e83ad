use Rattle.std.proofs.Common.{◌∙◌, ◌+◌, ℕ, List, map, string_bytes, sym, ap}
use Rattle.std.proofs.lemmas.Bool.{not-true}
use Rattle.command_words.specs.Reading.{is_repeated, has_room}
use Rattle.command_words.proofs.CommandLemmas.{holds-later, place-is}
use Rattle.command_words.proofs.kinds.Given.check_option.Goals as goal

pub returns-in_ok-check-in-Some-2-clause-place : goal.returns-in_ok-check-in-Some-2-clause-place
returns-in_ok-check-in-Some-2-clause-place c =
    let words = map string_bytes c.args.words.now in
    let given = c.args.self.now in
    place-is words given (c.args.place + 1) c.in-Some.name (holds-later words given c.args.place c.requires.given)
    (ap (λ (text : List ℕ). is_repeated words given c.in-Some.name text) (sym c.text_at-behind.ensures)
    ∙ sym c.has.ensures ∙ not-true c.has.result c.in_ok-check-in-Some.ensures)
    (ap (λ (text : List ℕ). has_room words given c.in-Some.name text) (sym c.text_at-behind.ensures)
    ∙ sym c.has_room.ensures ∙ c.in_ok-check-in-Some-2.ensures)

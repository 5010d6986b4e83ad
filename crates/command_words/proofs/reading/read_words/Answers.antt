use Rattle.std.proofs.Common.{◌∙◌, map, string_bytes, sym}
use Rattle.command_words.specs.Reading.{ended}
use Rattle.command_words.proofs.CommandLemmas.{words-are}
use Rattle.command_words.proofs.reading.read_words.Goals as goal

pub returns-clause-read : goal.returns-clause-read
unfolding ended
returns-clause-read c =
    sym
    (c.in_ok-check_first.ensures.answer
    ∙ c.in_ok-given.ensures.answer
    ∙ c.in_ok-check_program.ensures.answer c.in_ok-given.given
    ∙ c.in_ok-check_guest_words.ensures c.in_ok-given.given c.in_ok-given.program
    ∙ sym c.command.ensures)

pub returns-clause-command : goal.returns-clause-command
returns-clause-command c = words-are (map string_bytes c.args.words.now) c.command.result (sym (returns-clause-read c))

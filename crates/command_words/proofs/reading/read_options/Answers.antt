use Rattle.std.proofs.Common.{map, string_bytes, subst, sym, ap, arith}
use Rattle.command_words.specs.declared.kinds.Given.{Given}
use Rattle.command_words.specs.Reading.{read_at}
use Rattle.command_words.specs.Reading.Role.{Place}
use Rattle.command_words.specs.Holding.{Holds}
use Rattle.command_words.proofs.CommandLemmas.{none-holds}
use Rattle.command_words.proofs.reading.read_options.Goals as goal

pub loop-place-init : goal.loop-place-init
loop-place-init c =
    let words = map string_bytes c.args.words.now in
    record {
      reads = ap (λ (given : Given). read_at words given Place 1) (sym c.new-given.ensures);
      within = c.requires.some;
      given = subst (λ (given : Given). Holds words given 1) (sym c.new-given.ensures) (none-holds words 1);
    }

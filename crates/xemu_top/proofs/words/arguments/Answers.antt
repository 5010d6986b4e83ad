use Rattle.std.proofs.Common.{◌∙◌, ap, sym, map, string_bytes, drop, arith}
use Rattle.std.proofs.lemmas.List.{drop-map, take_all, length-drop}
use Rattle.xemu_top.proofs.words.arguments.Goals as goal

pub returns-clause-value : goal.returns-clause-value
returns-clause-value c =
    ap (map string_bytes) (take_all _ (drop c.args.command.now.program c.args.words.now) (omega (arith, length-drop c.args.command.now.program c.args.words.now)))
    ∙ sym (drop-map string_bytes c.args.command.now.program c.args.words.now)

use Rattle.std.proofs.Common.{◌∙◌, string_bytes, map}
use Rattle.start_stack.proofs.StackLemmas.{stack-parts}
use Rattle.start_stack.proofs.stack.build.Goals as goal

pub returns : goal.returns
returns c =
    c.in_ok-put_zeros-2.ensures
    ∙ rw (c.in_ok-put_strings.ensures, c.in_ok-put_zeros.ensures, c.in_ok-put_vector.ensures)
    (stack-parts c.args.image.now (map string_bytes c.args.args.now) (map string_bytes c.args.env.now) c.args.seed c.args.between
    c.new-stack.result.items c.new-stack.ensures.items c.requires.between)

use Rattle.std.proofs.Common.{◌∙◌, List, ℕ, length, string_bytes, map, ap, arith}
use Rattle.start_stack.specs.Stack.{stack_size}
use Rattle.start_stack.proofs.StackLemmas.{stack-length}
use Rattle.start_stack.proofs.stack.stack_bytes.Goals as goal

pub returns-then-size-gt-LONGEST_STACK-clause-refused : goal.returns-then-size-gt-LONGEST_STACK-clause-refused
unfolding stack_size
returns-then-size-gt-LONGEST_STACK-clause-refused c = (omega arith, omega arith)

pub build-requires-clause-between : goal.build-requires-clause-between
unfolding stack_size
build-requires-clause-between c = omega arith

pub returns-in-Ok-clause-size : goal.returns-in-Ok-clause-size
returns-in-Ok-clause-size c =
    ap (λ (xs : List ℕ). length xs) c.in-Ok.ensures
    ∙ stack-length c.args.image.now (map string_bytes c.args.args.now) (map string_bytes c.args.env.now) c.args.seed

pub returns-in-Ok-clause-short : goal.returns-in-Ok-clause-short
unfolding stack_size
returns-in-Ok-clause-short c = omega arith

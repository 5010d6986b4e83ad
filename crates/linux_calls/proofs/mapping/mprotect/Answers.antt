use Rattle.std.proofs.Common.{arith}
use Rattle.linux_calls.specs.View.{view_of}
use Rattle.linux_calls.proofs.MappingLemmas.{mprotect_high}
use Rattle.linux_calls.proofs.mapping.mprotect.Goals as goal

pub returns-then-start-count-gt-HIGHEST_END-clause-does : goal.returns-then-start-count-gt-HIGHEST_END-clause-does
returns-then-start-count-gt-HIGHEST_END-clause-does c = mprotect_high (view_of c.args.w.now) (omega arith) (omega arith) (omega arith)

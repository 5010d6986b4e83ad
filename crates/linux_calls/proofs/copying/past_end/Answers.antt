use Rattle.std.proofs.Common.{arith}
use Rattle.linux_calls.specs.View.{view_of}
use Rattle.linux_calls.proofs.CopyLemmas.{copied_none}
use Rattle.linux_calls.proofs.copying.past_end.Goals as goal

pub returns-clause-does : goal.returns-clause-does
returns-clause-does c = copied_none (view_of c.args.w.now) c.args.at c.entries.ensures.kept (omega (arith, c.cap.ensures.value)) c.requires.past

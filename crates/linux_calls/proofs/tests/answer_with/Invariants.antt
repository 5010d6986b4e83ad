use Rattle.linux_calls.specs.View.{view_of, FitParts, SameParts}
use Rattle.linux_calls.specs.Waiting.{CanGoOn}
use Rattle.linux_calls.proofs.tests.answer_with.Given as goal

-- the call may go on
abbrev pub invariant-loop : goal.invariant-loop
invariant-loop l = record {
  can_go_on : CanGoOn (view_of l.w);
  fit : FitParts (view_of l.w);
  parts : SameParts l.fn.w l.w;
}

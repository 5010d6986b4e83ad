use Rattle.linux_calls.specs.Following.{AreZeroed}
use Rattle.linux_calls.proofs.mapping.zero_pages.Given as goal

abbrev pub invariant-loop-page : goal.invariant-loop-page
invariant-loop-page l = AreZeroed l.first l.page l.initial.pages l.pages

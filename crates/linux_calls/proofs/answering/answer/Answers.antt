use Rattle.std.proofs.Common.{sym, ◌∙◌}
use Rattle.linux_calls.specs.Outside.{streams}
use Rattle.linux_calls.specs.View.{view_of}
use Rattle.linux_calls.proofs.CallLemmas.{exit_begins, exit_follows}
use Rattle.linux_calls.proofs.SettleLemmas.{follows, pages_kept}
use Rattle.linux_calls.proofs.NeedLemmas.{waits_settled, swap_settled}
use Rattle.linux_calls.proofs.PassLemmas.{passed_settled}
use Rattle.linux_calls.proofs.answering.answer.Goals as goal

pub returns-in-Some-clause-follows : goal.returns-in-Some-clause-follows
returns-in-Some-clause-follows g c =
    exit_follows (view_of c.args.w.now) c.in-Some.code (streams (g.S.Source.left c.args.input.now) (g.O.Sink.taken c.args.out.now) (g.E.Sink.taken c.args.err.now)) (sym c.exit_of.ensures ∙ c.in-Some.is)

pub returns-in-Some-clause-needs : goal.returns-in-Some-clause-needs
returns-in-Some-clause-needs g c = exit_begins (view_of c.args.w.now) c.in-Some.code (sym c.exit_of.ensures ∙ c.in-Some.is)

pub returns-in-None-clause-pages : goal.returns-in-None-clause-pages
returns-in-None-clause-pages g c =
    pages_kept (view_of c.args.w.now) (view_of c.go_on-came.new.w) (streams (g.S.Source.left c.args.input.now) (g.O.Sink.taken c.args.out.now) (g.E.Sink.taken c.args.err.now))
    (streams (g.S.Source.left c.go_on-came.new.input) (g.O.Sink.taken c.go_on-came.new.out) (g.E.Sink.taken c.go_on-came.new.err))
    (view_of c.settle.new.w) c.go_on-came.result c.settle.result c.go_on-came.ensures.works.kept.pages c.settle.ensures.settles

pub returns-in-None-clause-follows : goal.returns-in-None-clause-follows
returns-in-None-clause-follows g c =
    follows (view_of c.args.w.now) (view_of c.go_on-came.new.w) (streams (g.S.Source.left c.args.input.now) (g.O.Sink.taken c.args.out.now) (g.E.Sink.taken c.args.err.now))
    (streams (g.S.Source.left c.go_on-came.new.input) (g.O.Sink.taken c.go_on-came.new.out) (g.E.Sink.taken c.go_on-came.new.err))
    (view_of c.settle.new.w) c.go_on-came.result c.settle.result c.go_on-came.ensures.works.comes c.settle.ensures.settles

pub returns-in-None-clause-waits : goal.returns-in-None-clause-waits
returns-in-None-clause-waits g c =
    waits_settled (view_of c.args.w.now) (view_of c.go_on-came.new.w) (view_of c.settle.new.w) c.go_on-came.result c.settle.result c.go_on-came.ensures.works.waits c.go_on-came.ensures.works.needs
    c.settle.ensures.settles

pub returns-in-None-clause-swap : goal.returns-in-None-clause-swap
returns-in-None-clause-swap g c =
    swap_settled (view_of c.args.w.now) (view_of c.go_on-came.new.w) (view_of c.settle.new.w) c.go_on-came.result c.settle.result c.go_on-came.ensures.works.kept.swap c.settle.ensures.settles

pub returns-in-None-clause-exact : goal.returns-in-None-clause-exact
returns-in-None-clause-exact g c =
    passed_settled (view_of c.args.w.now) (view_of c.go_on-came.new.w) (view_of c.settle.new.w) c.go_on-came.result c.settle.result c.go_on-came.ensures.exact c.settle.ensures.settles

use Rattle.linux_calls.specs.Outside.{streams}
use Rattle.linux_calls.specs.View.{view_of}
use Rattle.linux_calls.proofs.PutLemmas.{out_comes}
use Rattle.std.proofs.Common.{refl, rules}
use Rattle.host_edge.specs.declared.outside.HostCall.TheVariants.{PutOut}
use Rattle.machine_state.specs.declared.kinds.Kind.TheVariants.{Read}
use Rattle.guest_pages.proofs.Carries.{keeps_same}
use Rattle.linux_calls.proofs.WaitLemmas.{kept_table, ends_there, moving_waits}
use Rattle.linux_calls.proofs.transfers.out_on.Goals as goal

pub returns-clause-comes : goal.returns-clause-comes
returns-clause-comes g c left err =
    out_comes (view_of c.args.w.now) c.args.from (streams left (g.O.Sink.taken c.args.out.now) err) (g.O.Sink.taken c.put_pieces-stop.new.sink) c.requires.can.within
    c.put_pieces-stop.result (view_of c.finish.new.w) c.finish.result c.requires.is c.put_pieces-stop.ensures.tells (λ swap. rw c.pieces.ensures at (c.put_pieces-stop.ensures.puts swap)) (rw c.pieces.ensures at c.put_pieces-stop.ensures.stops) c.finish.ensures.ends

pub returns-clause-kept : goal.returns-clause-kept
returns-clause-kept g c =
    kept_table c.args.w.now c.finish.new.w c.args.w.now.pages.now (search rules) (keeps_same c.args.w.now.pages.now) c.requires.fit
    (ends_there c.put_pieces-stop.result PutOut (view_of c.args.w.now) (view_of c.finish.new.w) c.finish.result c.finish.ensures.ends)

pub returns-clause-waits : goal.returns-clause-waits
returns-clause-waits g c =
    moving_waits (view_of c.args.w.now) c.args.w.now.pages.now c.args.w.now.files.now c.args.w.now.random.now c.args.from Read c.requires.can.most (keeps_same c.args.w.now.pages.now)
    c.put_pieces-stop.result PutOut (view_of c.finish.new.w) c.finish.result refl (rw c.pieces.ensures at c.put_pieces-stop.ensures.stops) c.finish.ensures.ends

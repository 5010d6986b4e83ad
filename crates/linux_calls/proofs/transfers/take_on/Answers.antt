use Rattle.linux_calls.specs.Outside.{streams}
use Rattle.linux_calls.specs.View.{view_of}
use Rattle.linux_calls.proofs.TakeLemmas.{takes_come}
use Rattle.std.proofs.Common.{refl, rules}
use Rattle.host_edge.specs.declared.outside.HostCall.TheVariants.{Take}
use Rattle.machine_state.specs.declared.kinds.Kind.TheVariants.{Write}
use Rattle.linux_calls.proofs.TakeLemmas.{takes_keep}
use Rattle.linux_calls.proofs.WaitLemmas.{kept_table, ends_there, moving_waits}
use Rattle.linux_calls.proofs.transfers.take_on.Goals as goal

pub returns-clause-comes : goal.returns-clause-comes
returns-clause-comes g c out err =
    takes_come (view_of c.args.w.now) c.args.from c.take_pieces-stop.new.pages (streams (g.S.Source.left c.args.input.now) out err) (g.S.Source.left c.take_pieces-stop.new.source)
    c.take_pieces-stop.result (view_of c.finish.new.w) c.finish.result c.requires.is (rw c.pieces.ensures at c.take_pieces-stop.ensures.takes) (rw c.pieces.ensures at c.take_pieces-stop.ensures.stops) c.finish.ensures.ends

pub returns-clause-kept : goal.returns-clause-kept
returns-clause-kept g c =
    kept_table c.args.w.now c.finish.new.w c.take_pieces-stop.new.pages (search rules)
    (takes_keep c.args.w.now.pages.now c.take_pieces-stop.new.pages c.pieces.result.now c.args.from (g.S.Source.left c.args.input.now) (g.S.Source.left c.take_pieces-stop.new.source)
    c.take_pieces-stop.result c.take_pieces-stop.ensures.takes) c.requires.fit
    (ends_there c.take_pieces-stop.result Take (let v = view_of c.args.w.now in record v { pages = c.take_pieces-stop.new.pages }) (view_of c.finish.new.w) c.finish.result c.finish.ensures.ends)

pub returns-clause-waits : goal.returns-clause-waits
returns-clause-waits g c =
    moving_waits (view_of c.args.w.now) c.take_pieces-stop.new.pages c.args.w.now.files.now c.args.w.now.random.now c.args.from Write c.requires.can.most
    (takes_keep c.args.w.now.pages.now c.take_pieces-stop.new.pages c.pieces.result.now c.args.from (g.S.Source.left c.args.input.now) (g.S.Source.left c.take_pieces-stop.new.source)
    c.take_pieces-stop.result c.take_pieces-stop.ensures.takes)
    c.take_pieces-stop.result Take (view_of c.finish.new.w) c.finish.result refl (rw c.pieces.ensures at c.take_pieces-stop.ensures.stops) c.finish.ensures.ends

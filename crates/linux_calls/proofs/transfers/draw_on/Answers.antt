use Rattle.std.proofs.Common.{sym, ◌∙◌}
use Rattle.linux_calls.specs.View.{view_of}
use Rattle.linux_calls.proofs.DrawMoves.{draws_do}
use Rattle.std.proofs.Common.{refl, rules}
use Rattle.host_edge.specs.declared.outside.HostCall.TheVariants.{Take}
use Rattle.machine_state.specs.declared.kinds.Kind.TheVariants.{Write}
use Rattle.linux_calls.proofs.DrawMoves.{draws_keep}
use Rattle.linux_calls.proofs.WaitLemmas.{kept_table, ends_there, moving_waits}
use Rattle.linux_calls.proofs.transfers.draw_on.Goals as goal

pub returns-clause-does : goal.returns-clause-does
returns-clause-does c =
    draws_do (view_of c.args.w.now) c.args.from c.draw_bytes-stop.new.pages c.draw_bytes-stop.new.random c.only-piece.result.addr c.only-piece.result.len (sym c.pieces.ensures ∙ c.only-piece.ensures)
    c.draw_bytes-stop.result _ (view_of c.finish.new.w) c.finish.result c.requires.is c.draw_bytes-stop.ensures.draws (rw (sym c.only-piece.ensures ∙ c.pieces.ensures) at c.draw_bytes-stop.ensures.stops) c.finish.ensures.ends

pub returns-clause-kept : goal.returns-clause-kept
returns-clause-kept c =
    kept_table c.args.w.now c.finish.new.w c.draw_bytes-stop.new.pages (search rules)
    (draws_keep (view_of c.args.w.now) c.args.from c.draw_bytes-stop.new.pages c.draw_bytes-stop.new.random c.only-piece.result.addr c.only-piece.result.len (sym c.pieces.ensures ∙ c.only-piece.ensures)
    c.draw_bytes-stop.result c.draw_bytes-stop.ensures.draws) c.requires.fit
    (ends_there c.draw_bytes-stop.result Take (let v = view_of c.args.w.now in record v { pages = c.draw_bytes-stop.new.pages; random = c.draw_bytes-stop.new.random }) (view_of c.finish.new.w)
    c.finish.result c.finish.ensures.ends)

pub returns-clause-waits : goal.returns-clause-waits
returns-clause-waits c =
    moving_waits (view_of c.args.w.now) c.draw_bytes-stop.new.pages c.args.w.now.files.now c.draw_bytes-stop.new.random c.args.from Write c.requires.can.most
    (draws_keep (view_of c.args.w.now) c.args.from c.draw_bytes-stop.new.pages c.draw_bytes-stop.new.random c.only-piece.result.addr c.only-piece.result.len (sym c.pieces.ensures ∙ c.only-piece.ensures)
    c.draw_bytes-stop.result c.draw_bytes-stop.ensures.draws)
    c.draw_bytes-stop.result Take (view_of c.finish.new.w) c.finish.result refl (rw (sym c.only-piece.ensures ∙ c.pieces.ensures) at c.draw_bytes-stop.ensures.stops) c.finish.ensures.ends

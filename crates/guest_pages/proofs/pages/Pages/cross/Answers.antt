use Rattle.std.proofs.Common.{◌≡◌, ◌-◌, ◌%◌, ◌/◌, ◌∙◌, ap, arith}
use Rattle.std.specs.Option.{option_map}
use Rattle.std.proofs.lemmas.Result.{err_from_is_err_and}
use Rattle.machine_state.specs.declared.kinds.Miss.TheVariants.{Away}
use Rattle.machine_state.specs.Memory.{page_size, or_else}
use Rattle.guest_pages.specs.Table.{away_at}
use Rattle.guest_pages.specs.Pages.{table_of}
use Rattle.guest_pages.proofs.Walks.{walks_on, walked_at, walked_out, walk_misses}
use Rattle.guest_pages.proofs.Shows.{slot_away}
use Rattle.guest_pages.proofs.pages.Pages.cross.Goals as goal

pub returns-in_err-k-clause-walked : goal.returns-in_err-k-clause-walked
returns-in_err-k-clause-walked c =
    let p = err_from_is_err_and c.from_residual.result c.from_residual.ensures.1 in
    rw (p.1, p.2) (walk_misses c.args.self.now c.args.kind c.args.addr c.args.len c.loop-left.at c.loop-left.left c.loop-left.away _ c.loop-left.invariant (omega arith) c.in_err-k.ensures)

pub returns-then-left-here-clause-walked : goal.returns-then-left-here-clause-walked
returns-then-left-here-clause-walked c =
    let away : option_map Away c.away_slot.result ≡ away_at (table_of c.args.self.now (c.loop-left.at / page_size)) =
    ap (option_map Away) c.away_slot.ensures ∙ slot_away c.args.self.now (c.loop-left.at / page_size) c.in_ok-k.k c.in_ok-k.ensures.seat in
    walked_at c.args.self.now c.args.kind c.args.addr c.args.len c.loop-left.at c.loop-left.left c.loop-left.away c.earlier-away.result c.loop-left.invariant (omega arith) (omega arith) c.in_ok-k.ensures.grants
    (c.earlier-away.ensures ∙ ap (or_else (option_map Away c.loop-left.away)) away)

pub loop-left-preserved : goal.loop-left-preserved
loop-left-preserved c =
    let away : option_map Away c.away_slot.result ≡ away_at (table_of c.args.self.now (c.loop-left.at / page_size)) =
    ap (option_map Away) c.away_slot.ensures ∙ slot_away c.args.self.now (c.loop-left.at / page_size) c.in_ok-k.k c.in_ok-k.ensures.seat in
    walks_on c.args.self.now c.args.kind c.args.addr c.args.len c.loop-left.at c.loop-left.left (page_size - c.loop-left.at % page_size) c.loop-left.away c.earlier-away.result c.loop-left.invariant
    (omega arith) (omega arith) (omega arith) c.in_ok-k.ensures.grants
    (c.earlier-away.ensures ∙ ap (or_else (option_map Away c.loop-left.away)) away)

pub returns-clause-walked : goal.returns-clause-walked
returns-clause-walked c = walked_out c.args.self.now c.args.kind c.args.addr c.args.len c.loop-left.at c.loop-left.left c.loop-left.away c.loop-left.invariant (omega arith)

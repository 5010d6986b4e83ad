use Rattle.std.proofs.Common.{◌∙◌, sym, None}
use Rattle.std.proofs.lemmas.List.{get_or_read}
use Rattle.std.proofs.lemmas.Result.{err_from_is_err_and}
use Rattle.guest_pages.specs.Pages.{table_of}
use Rattle.guest_pages.specs.Slots.{IsSeatOf}
use Rattle.guest_pages.proofs.Walks.{blocked_at_once, blocked_within}
use Rattle.guest_pages.proofs.Shows.{away_there, resident_there, shown_there}
use Rattle.guest_pages.proofs.pages.Pages.view.Goals as goal

pub returns-in_err-k-clause-answer : goal.returns-in_err-k-clause-answer
returns-in_err-k-clause-answer c =
    let p = err_from_is_err_and c.from_residual.result c.from_residual.ensures.1 in
    rw (p.1, p.2) (blocked_at_once (table_of c.args.self.now) c.args.kind c.args.addr c.args.len _ c.requires.some c.in_err-k.ensures)

pub returns-in-Some-clause-answer : goal.returns-in-Some-clause-answer
returns-in-Some-clause-answer c =
    blocked_within (table_of c.args.self.now) c.args.kind c.args.addr c.args.len c.requires.some c.requires.one_page c.in_ok-k.ensures.grants
    ∙ rw (← c.self.view_is)
    (let seat : IsSeatOf c.self.inside.slots.items _ c.in_ok-k.k = rw (← c.self.view_is) at c.in_ok-k.ensures.seat in
    resident_there _ _ c.in_ok-k.k c.in-Some.frame.now seat
    (rw (← get_or_read c.self.inside.slots.items c.in_ok-k.k c.index.result.now seat.within c.index.ensures None) (sym c.in-Some.ensures)))

pub returns-in-Some-clause-bytes : goal.returns-in-Some-clause-bytes
returns-in-Some-clause-bytes c =
    rw (← c.self.view_is)
    (let seat : IsSeatOf c.self.inside.slots.items _ c.in_ok-k.k = rw (← c.self.view_is) at c.in_ok-k.ensures.seat in
    shown_there _ c.args.addr c.in_ok-k.k c.args.len c.in-Some.frame.now c.part.result.now seat
    (rw (← get_or_read c.self.inside.slots.items c.in_ok-k.k c.index.result.now seat.within c.index.ensures None) (sym c.in-Some.ensures))
    c.requires.one_page c.part.ensures.whole c.part.ensures.bytes)

pub returns-in-None-clause-answer : goal.returns-in-None-clause-answer
returns-in-None-clause-answer c =
    blocked_within (table_of c.args.self.now) c.args.kind c.args.addr c.args.len c.requires.some c.requires.one_page c.in_ok-k.ensures.grants
    ∙ rw (← c.self.view_is)
    (let seat : IsSeatOf c.self.inside.slots.items _ c.in_ok-k.k = rw (← c.self.view_is) at c.in_ok-k.ensures.seat in
    away_there _ _ c.in_ok-k.k seat
    (rw (← get_or_read c.self.inside.slots.items c.in_ok-k.k c.index.result.now seat.within c.index.ensures None) (sym c.in-None.ensures)))

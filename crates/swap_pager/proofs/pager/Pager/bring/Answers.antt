use Rattle.std.proofs.Common.{◌≡◌, ◌∙◌, Err, arith}
use Rattle.std.proofs.lemmas.Result.{err_from_is_err_and}
use Rattle.swap_pager.specs.Bringing.{IsOnSwap, MustPut}
use Rattle.swap_pager.proofs.Rooms.{was_swapped, slot_open, caused_by}
use Rattle.swap_pager.proofs.Brings.{filled, brought, memory_kept, lets_go}
use Rattle.swap_pager.proofs.Pagings.{can_page}
use Rattle.swap_pager.proofs.pager.Pager.bring.Goals as goal

pub fetch-requires-clause-open : goal.fetch-requires-clause-open
fetch-requires-clause-open g c = λ swapped.
    rw c.make_room.ensures.opened
    (slot_open c.args.pages.now c.make_room.new.pages _ _ c.args.slot _ c.in_ok-make_room.ensures.room c.requires.away c.requires.open swapped)

pub returns-in_err-fetch-clause-cause : goal.returns-in_err-fetch-clause-cause
returns-in_err-fetch-clause-cause g c =
    let p = err_from_is_err_and c.from_residual-in_err-fetch.result c.from_residual-in_err-fetch.ensures.1 in
    rw (p.1, p.2, ← c.in_ok-make_room.ensures.cause)
    (caused_by (IsOnSwap c.make_room.new.pages c.args.slot) ⊥ (IsOnSwap c.args.pages.now c.args.slot) (MustPut c.args.pages.now)
    (was_swapped c.args.pages.now c.make_room.new.pages _ _ c.args.slot c.in_ok-make_room.ensures.room c.requires.away) (λ never. absurd never) (Err c.in_err-fetch.field-0.0) (g.H.Host.faults c.make_room.new.host) (g.H.Host.faults c.fetch.new.host) c.in_err-fetch.ensures.cause)

pub returns-clause-brought : goal.returns-clause-brought
returns-clause-brought g c =
    brought c.args.pages.now c.make_room.new.pages c.enter.new.self _ _ c.args.slot c.deref.result.now c.in_ok-make_room.ensures.room c.requires.away c.enter.ensures.entered c.enter.ensures.ordered

pub returns-clause-memory : goal.returns-clause-memory
returns-clause-memory g c =
    let same : c.deref.result.now ≡ c.fetch.new.into = filled c.fetch.new.into c.self.inside.buffer.items c.deref.result.now _ c.deref.ensures.value (omega arith) in
    rw c.fetch.ensures.holds
    (memory_kept c.args.pages.now c.make_room.new.pages c.enter.new.self _ _ c.args.slot c.deref.result.now c.in_ok-make_room.ensures.room c.requires.away c.enter.ensures.entered c.enter.ensures.ordered
    c.requires.clean (rw same c.in_ok-fetch.ensures.bytes))

pub returns-clause-swap : goal.returns-clause-swap
returns-clause-swap g c = rw c.fetch.ensures.holds (lets_go c.args.pages.now c.make_room.new.pages _ _ c.in_ok-make_room.ensures.room)

pub returns-clause-can_page : goal.returns-clause-can_page
returns-clause-can_page g c = λ can.
    can_page c.args.pages.now c.enter.new.self _ _ _ _ c.args.slot can c.make_room.ensures.counts c.requires.away
    (returns-clause-brought g c) (returns-clause-memory g c) (c.fetch.ensures.opened ∙ c.make_room.ensures.opened)

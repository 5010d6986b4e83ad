use Rattle.std.proofs.Common.{Err, length, arith}
use Rattle.std.proofs.lemmas.Result.{err_from_is_err_and}
use Rattle.guest_pages.proofs.Laws.{pages_slots}
use Rattle.swap_pager.specs.Bringing.{MustPut}
use Rattle.swap_pager.specs.Stages.{IsUnsaved}
use Rattle.swap_pager.proofs.Rooms.{first_page, room_left, not_below, must_put, caused_by}
use Rattle.swap_pager.proofs.pager.make_room.Goals as goal

pub save-requires-clause-open : goal.save-requires-clause-open
save-requires-clause-open g c =
    let first = first_page c.args.pages.now c.first_brought-first.result c.has_free.ensures.ordered c.first_brought-first.ensures in
    let within = (pages_slots c.args.pages.now).within first.page first.mapped first.there.is in
    let same = first.there.slot_is in
    let most = c.requires.open (not_below (length c.args.pages.now.recent) c.args.pages.now.frames c.if-has_free.ensures.free) in
    omega arith

pub returns-in_err-save-clause-cause : goal.returns-in_err-save-clause-cause
returns-in_err-save-clause-cause g c =
    let p = err_from_is_err_and c.from_residual.result c.from_residual.ensures.1 in
    rw (p.1, p.2)
    (caused_by ⊥ (IsUnsaved c.args.pages.now c.first_brought-first.result) ⊥ (MustPut c.args.pages.now) (λ never. never)
    (must_put c.args.pages.now c.first_brought-first.result c.has_free.ensures.ordered (not_below (length c.args.pages.now.recent) c.args.pages.now.frames c.if-has_free.ensures.free) c.first_brought-first.ensures)
    (Err c.in_err-save.field-0.0) (g.H.Host.faults c.args.host.now) (g.H.Host.faults c.save.new.host) c.in_err-save.ensures.cause)

pub returns-clause-room : goal.returns-clause-room
returns-clause-room g c =
    let first = first_page c.args.pages.now c.first_brought-first.result c.has_free.ensures.ordered c.first_brought-first.ensures in
    room_left c.args.pages.now c.leave.new.self _ _ first c.has_free.ensures.ordered c.has_free.ensures.counts (not_below (length c.args.pages.now.recent) c.args.pages.now.frames c.if-has_free.ensures.free)
    (c.leave.ensures.left first.page first.mapped first.there) (c.in_ok-save.ensures.saved first.page first.mapped first.there)

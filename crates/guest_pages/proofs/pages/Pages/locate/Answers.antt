use Rattle.std.proofs.Common.{◌∙◌, sym, None}
use Rattle.std.proofs.lemmas.List.{get_or_read}
use Rattle.guest_pages.specs.Slots.{IsSeatOf}
use Rattle.guest_pages.proofs.Tables.{miss_unmapped, granted, denied}
use Rattle.guest_pages.proofs.pages.Pages.locate.Goals as goal

pub returns-then-grants : goal.returns-then-grants
returns-then-grants c =
    rw (← c.self.view_is)
    (let seat : IsSeatOf c.self.inside.slots.items _ c.in-Some.k = rw (← c.self.view_is) at c.in-Some.ensures in
    granted _ c.args.kind c.args.addr c.in-Some.k c.self.invariant.kept.sound seat
    (rw (← get_or_read c.self.inside.slots.items c.in-Some.k c.index.result.now seat.within c.index.ensures None) (sym c.grants.ensures ∙ c.if-grants.true)))

pub returns-else-grants : goal.returns-else-grants
returns-else-grants c =
    rw (← c.self.view_is)
    (let seat : IsSeatOf c.self.inside.slots.items _ c.in-Some.k = rw (← c.self.view_is) at c.in-Some.ensures in
    denied _ c.args.kind c.args.addr c.in-Some.k c.self.invariant.kept.sound seat
    (rw (← get_or_read c.self.inside.slots.items c.in-Some.k c.index.result.now seat.within c.index.ensures None) (sym c.grants.ensures ∙ c.if-grants.false)))

pub returns-in-None : goal.returns-in-None
returns-in-None c = miss_unmapped c.args.self.now c.args.kind c.args.addr c.absence.result c.in-None.ensures (λ any. c.absence.ensures)

use Rattle.std.proofs.Common.{◌≡◌, length, refl, arith}
use Rattle.std.proofs.lemmas.List.{length-reverse}
use Rattle.guest_pages.proofs.Laws.{pages_counted, pages_ordered}
use Rattle.guest_pages.proofs.pages.Pages.has_free.Goals as goal

pub returns-clause-free : goal.returns-clause-free
returns-clause-free c =
    let len : c.len.result ≡ length c.self.inside.order.slots.items = omega arith in
    rw (← c.self.view_is, length-reverse c.self.inside.order.slots.items, ← len) refl

pub returns-clause-counts : goal.returns-clause-counts
returns-clause-counts c = rw (← c.self.view_is) (pages_counted _ _ _ _ _ _ refl c.self.invariant)

pub returns-clause-ordered : goal.returns-clause-ordered
returns-clause-ordered c = rw (← c.self.view_is) (pages_ordered _ c.self.inside.order.slots.items c.self.invariant.kept.sound.apart refl c.self.invariant.ordered)

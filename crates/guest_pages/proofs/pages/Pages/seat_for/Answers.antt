use Rattle.std.proofs.Common.{◌≡◌, length, arith}
use Rattle.guest_pages.proofs.Maps.{seat_or_full}
use Rattle.guest_pages.proofs.pages.Pages.seat_for.Goals as goal

pub returns-in-None : goal.returns-in-None
returns-in-None c =
    let len : c.len.result ≡ length c.self.inside.slots.items = omega arith in
    rw (← c.self.view_is)
    (seat_or_full _ c.self.inside.lists c.args.page c.first.result c.self.invariant.kept.filed (rw (← c.self.view_is) at c.in-None.ensures) (rw len at c.first.ensures))

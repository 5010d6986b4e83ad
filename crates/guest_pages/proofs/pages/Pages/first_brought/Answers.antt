use Rattle.std.proofs.Common.{◌≤◌, length, reverse, arith}
use Rattle.std.proofs.lemmas.List.{length-reverse}
use Rattle.guest_pages.proofs.Brings.{first_is}
use Rattle.guest_pages.proofs.pages.Pages.first_brought.Goals as goal

pub first-requires : goal.first-requires
first-requires c =
    let full : c.self.inside.frames ≤ length (reverse c.self.inside.order.slots.items) = rw (← c.self.view_is) at c.requires in
    let same = length-reverse c.self.inside.order.slots.items in
    let eight = c.self.invariant.some in
    omega arith

pub returns : goal.returns
returns c =
    let full : c.self.inside.frames ≤ length (reverse c.self.inside.order.slots.items) = rw (← c.self.view_is) at c.requires in
    let same = length-reverse c.self.inside.order.slots.items in
    let eight = c.self.invariant.some in
    rw (← c.self.view_is) (first_is c.self.inside.order.slots.items c.first.result (omega arith) c.first.ensures)

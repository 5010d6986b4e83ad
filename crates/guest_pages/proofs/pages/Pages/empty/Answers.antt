use Rattle.std.proofs.Common.{◌≡◌, get_or, None, length, arith}
use Rattle.std.proofs.lemmas.List.{get_or_read}
use Rattle.guest_pages.specs.Slots.{IsSeatOf, home_in}
use Rattle.guest_pages.proofs.Seats.{entry_there}
use Rattle.guest_pages.proofs.Takes.{emptied_there}
use Rattle.guest_pages.proofs.Files.{filed_in, home_is}
use Rattle.guest_pages.proofs.Orders.{order_without}
use Rattle.guest_pages.proofs.Keeps.{order_emptied}
use Rattle.guest_pages.proofs.pages.Pages.empty.Goals as goal

pub shift-requires-clause-listed : goal.shift-requires-clause-listed
shift-requires-clause-listed c =
    let seat : IsSeatOf c.self.inside.slots.items c.args.page c.args.k = rw (← c.self.view_is) at c.requires in
    let home : home_in c.self.inside.slots.items c.args.k ≡ c.list_of-from.result =
    home_is c.self.inside.slots.items c.args.k _ c.len-buckets.result c.index_mut-slot.result.now seat.within c.index_mut-slot.ensures.value (omega arith) c.list_of-from.ensures.value in
    let count = c.self.invariant.kept.filed.count in
    rw (← home) (filed_in c.self.inside.slots.items c.self.inside.lists c.args.k seat.within c.self.invariant.kept.filed (rw home (omega arith)))

pub invariant_of-self : goal.invariant_of-self
invariant_of-self c =
    let seat : IsSeatOf c.self.inside.slots.items c.args.page c.args.k = rw (← c.self.view_is) at c.requires in
    let read = get_or_read c.self.inside.slots.items c.args.k c.index_mut-slot.result.now seat.within c.index_mut-slot.ensures.value None in
    let len : c.len-buckets.result ≡ length c.self.inside.slots.items = omega arith in
    let home = home_is c.self.inside.slots.items c.args.k _ c.len-buckets.result c.index_mut-slot.result.now seat.within c.index_mut-slot.ensures.value len c.list_of-from.ensures.value in
    rw c.give_frame.ensures.emptied
    (order_emptied c.self.inside.slots.items _ _ _ _ _ c.self.inside.lists c.shift.new.self _ _ _ _ c.args.k seat.within (rw read at c.give_frame.ensures.count) c.give_frame.ensures.capacity
    (rw len at (c.shift.ensures.listed (home_in c.self.inside.slots.items) home c.self.invariant.kept.filed.listed)) (omega arith) (omega arith) c.give_frame.ensures.order
    c.give_frame.ensures.order_capacity c.self.invariant)

pub returns : goal.returns
returns c =
    rw (← c.self.view_is, c.give_frame.ensures.emptied, c.give_frame.ensures.order, order_without c.args.k c.self.inside.order.slots.items)
    (let seat : IsSeatOf c.self.inside.slots.items c.args.page c.args.k = rw (← c.self.view_is) at c.requires in
    let there = entry_there (get_or c.self.inside.slots.items c.args.k None) c.args.page seat.here in
    emptied_there _ c.args.page c.args.k there.0 c.self.invariant.kept.sound.apart seat there.1)

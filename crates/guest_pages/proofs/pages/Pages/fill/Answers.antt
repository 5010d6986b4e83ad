use Rattle.std.proofs.Common.{◌≡◌, ◌∙◌, ap, reverse, None, length, refl, arith}
use Rattle.std.proofs.lemmas.List.{get_or_read}
use Rattle.guest_pages.specs.declared.entry.Place.TheVariants.{Zeros}
use Rattle.guest_pages.specs.Slots.{CanTake, home_in}
use Rattle.guest_pages.proofs.Maps.{mapped_there}
use Rattle.guest_pages.proofs.Files.{filed_in, home_is}
use Rattle.guest_pages.proofs.Orders.{order_without}
use Rattle.guest_pages.proofs.Keeps.{order_filled}
use Rattle.guest_pages.proofs.pages.Pages.fill.Goals as goal

pub shift-requires-clause-listed : goal.shift-requires-clause-listed
shift-requires-clause-listed c =
    let can : CanTake c.self.inside.slots.items c.args.page c.args.k = rw (← c.self.view_is) at c.requires.can in
    let home : home_in c.self.inside.slots.items c.args.k ≡ c.list_of-from.result =
    home_is c.self.inside.slots.items c.args.k _ c.len-buckets.result c.index_mut-slot.result.now can.within c.index_mut-slot.ensures.value (omega arith) c.list_of-from.ensures.value in
    let count = c.self.invariant.kept.filed.count in
    rw (← home) (filed_in c.self.inside.slots.items c.self.inside.lists c.args.k can.within c.self.invariant.kept.filed (rw home (omega arith)))

pub invariant_of-self : goal.invariant_of-self
invariant_of-self c =
    let can : CanTake c.self.inside.slots.items c.args.page c.args.k = rw (← c.self.view_is) at c.requires.can in
    let read = get_or_read c.self.inside.slots.items c.args.k c.index_mut-slot.result.now can.within c.index_mut-slot.ensures.value None in
    let len : c.len-buckets.result ≡ length c.self.inside.slots.items = omega arith in
    let home = home_is c.self.inside.slots.items c.args.k _ c.len-buckets.result c.index_mut-slot.result.now can.within c.index_mut-slot.ensures.value len c.list_of-from.ensures.value in
    order_filled c.self.inside.slots.items _ _ _ _ _ c.self.inside.lists c.shift.new.self c.self.inside.order.slots.items _ _ _ c.args.k
    (record { page = c.args.page; perms = c.args.perms; place = Zeros }) can
    c.requires.low refl (rw read at c.give_frame.ensures.count) c.give_frame.ensures.capacity
    (rw (c.bucket.ensures.value, len) at (c.shift.ensures.listed (home_in c.self.inside.slots.items) home c.self.invariant.kept.filed.listed)) (omega arith) (omega arith)
    c.give_frame.ensures.order c.give_frame.ensures.order_capacity c.self.invariant

pub returns : goal.returns
returns c =
    rw (← c.self.view_is)
    (mapped_there _ c.args.k (record { page = c.args.page; perms = c.args.perms; place = Zeros }) _ (rw (← c.self.view_is) at c.requires.can) refl
    (ap reverse c.give_frame.ensures.order ∙ order_without c.args.k c.self.inside.order.slots.items))

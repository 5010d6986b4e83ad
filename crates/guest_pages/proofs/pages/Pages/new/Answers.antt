use Rattle.std.proofs.Common.{◌≡◌, ap, reverse, refl, arith, length}
use Rattle.guest_pages.proofs.Maps.{blank_kept, blank_there}
use Rattle.guest_pages.proofs.pages.Pages.new.Goals as goal

pub invariant_of-result : goal.invariant_of-result
invariant_of-result c =
    let slots = c.in_ok-slots.ensures.len in
    let heads = c.in_ok-lists.ensures.heads in
    let nexts = c.in_ok-lists.ensures.nexts in
    let len : length c.in_ok-slots.slots.items ≡ c.args.pages = omega arith in
    blank_kept c.in_ok-slots.slots.items _ _ _ _ c.in_ok-lists.lists _ c.in_ok-slots.ensures.none (omega arith) c.loop.invariant.1 (omega arith) (omega arith) (rw len c.in_ok-lists.ensures.listed) c.in_ok-order.ensures.empty c.requires.some c.in_ok-order.ensures.room

pub returns : goal.returns
returns c = record { blank = let slots = c.in_ok-slots.ensures.len in blank_there _ c.args.frames c.args.pages c.in_ok-slots.ensures.none refl (omega arith) (ap reverse c.in_ok-order.ensures.empty) }

use Rattle.std.proofs.Common.{◌∙◌, sym}
use Rattle.guest_pages.proofs.Orders.{without_same, no_frame_slot}
use Rattle.guest_pages.proofs.pages.give_frame.Goals as goal

pub returns-in-None-clause-order : goal.returns-in-None-clause-order
returns-in-None-clause-order c =
    sym (without_same c.args.k c.args.order.now.slots.items (c.requires.listed ∙ no_frame_slot c.args.slot.now (sym c.in-None.ensures.frame)))

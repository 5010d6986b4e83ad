use Rattle.std.proofs.Common.{◌<◌, ◌∙◌, ap, None, length, arith}
use Rattle.std.proofs.lemmas.List.{get_or_read}
use Rattle.guest_pages.specs.Entry.{slot_swapped}
use Rattle.guest_pages.proofs.Brings.{slot_within, slot_on_swap}
use Rattle.guest_pages.proofs.pages.Pages.on_swap.Goals as goal

pub index-requires : goal.index-requires
index-requires c =
    let within : c.args.slot < length c.self.inside.slots.items = slot_within _ c.args.slot _ _ (rw (← c.self.view_is) at c.requires.away.there) in
    omega arith

pub returns : goal.returns
returns c = λ page mapped spot.
    let within : c.args.slot < length c.self.inside.slots.items = slot_within _ c.args.slot _ _ (rw (← c.self.view_is) at c.requires.away.there) in
    c.on_swap.ensures
    ∙ ap slot_swapped (get_or_read c.self.inside.slots.items c.args.slot c.index.result.now within c.index.ensures None)
    ∙ rw (← c.self.view_is) (slot_on_swap _ c.args.slot page mapped c.self.invariant.kept.sound.apart (rw (← c.self.view_is) at spot))

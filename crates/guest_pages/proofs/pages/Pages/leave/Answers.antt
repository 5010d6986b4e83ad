use Rattle.std.proofs.Common.{◌<◌, ◌∙◌, refl, sym, None, true, length, arith, ap, vec_len}
use Rattle.std.proofs.lemmas.Bool.{false≢true}
use Rattle.std.proofs.lemmas.List.{get_or_read}
use Rattle.guest_pages.specs.Entry.{is_in_frame}
use Rattle.guest_pages.proofs.Brings.{slot_within}
use Rattle.guest_pages.proofs.Orders.{no_frame_slot}
use Rattle.guest_pages.proofs.Moves.{slot_framed, free_room, leave_kept, leave_there}
use Rattle.guest_pages.proofs.pages.Pages.leave.Goals as goal

pub index_mut-requires : goal.index_mut-requires
index_mut-requires c =
    let within : c.args.slot < length c.self.inside.slots.items = slot_within _ c.args.slot _ _ (rw (← c.self.view_is) at c.requires.resident.there) in
    omega arith

pub push_reserved-requires : goal.push_reserved-requires
push_reserved-requires c =
    free_room _ _ _ _ _ c.args.slot _ _ c.self.invariant (slot_framed _ c.args.slot true c.self.invariant.kept.sound.apart (rw (← c.self.view_is) at c.requires.resident))

pub invariant_of-self : goal.invariant_of-self
invariant_of-self c =
    let has = rw (← c.self.view_is) at c.requires.resident in
    let within : c.args.slot < length c.self.inside.slots.items = slot_within _ c.args.slot _ _ has.there in
    rw c.put_away.ensures.left
    (leave_kept _ c.args.slot _ _ _ _ _ _ _ _ _ refl c.self.invariant c.push_reserved.ensures.capacity c.take_out.ensures.capacity c.index_mut.result.now
    (get_or_read c.self.inside.slots.items c.args.slot c.index_mut.result.now within c.index_mut.ensures.value None) has c.push_reserved.ensures.len c.take_out.ensures.items)

pub unreachable-requires : goal.unreachable-requires
unreachable-requires c =
    let has = rw (← c.self.view_is) at c.requires.resident in
    let within : c.args.slot < length c.self.inside.slots.items = slot_within _ c.args.slot _ _ has.there in
    let read = get_or_read c.self.inside.slots.items c.args.slot c.index_mut.result.now within c.index_mut.ensures.value None in
    false≢true
    (sym (no_frame_slot c.index_mut.result.now (sym c.in-None.ensures.frame)) ∙ ap is_in_frame read ∙ slot_framed _ c.args.slot true c.self.invariant.kept.sound.apart has)

pub returns : goal.returns
returns c = record {
  left = λ page mapped spot.
      rw (← c.self.view_is, c.put_away.ensures.left)
      (let has = rw (← c.self.view_is) at c.requires.resident in
      let within : c.args.slot < length c.self.inside.slots.items = slot_within _ c.args.slot _ _ has.there in
      leave_there _ c.args.slot _ (vec_len c.push_reserved.new.self) _ _ _ _ _ _ _ refl c.self.invariant c.push_reserved.ensures.capacity c.take_out.ensures.capacity c.index_mut.result.now
      (get_or_read c.self.inside.slots.items c.args.slot c.index_mut.result.now within c.index_mut.ensures.value None) has c.take_out.ensures.items
      page mapped (rw (← c.self.view_is) at spot));
}

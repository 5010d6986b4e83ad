use Rattle.std.proofs.Common.{◌<◌, ◌∙◌, ap, refl, None, length, arith, vec_len}
use Rattle.std.proofs.lemmas.List.{get_or_read}
use Rattle.guest_pages.specs.Entry.{is_in_frame}
use Rattle.guest_pages.proofs.Laws.{pages_ordered}
use Rattle.guest_pages.proofs.Brings.{slot_within}
use Rattle.guest_pages.proofs.Moves.{slot_framed, enter_kept, enter_there}
use Rattle.guest_pages.proofs.pages.Pages.enter.Goals as goal

pub index_mut-requires : goal.index_mut-requires
index_mut-requires c =
    let within : c.args.slot < length c.self.inside.slots.items = slot_within _ c.args.slot _ _ (rw (← c.self.view_is) at c.requires.away.there) in
    omega arith

pub bring_in-requires : goal.bring_in-requires
bring_in-requires c =
    let has = rw (← c.self.view_is) at c.requires.away in
    let within : c.args.slot < length c.self.inside.slots.items = slot_within _ c.args.slot _ _ has.there in
    ap is_in_frame (get_or_read c.self.inside.slots.items c.args.slot c.index_mut.result.now within c.index_mut.ensures.value None)
    ∙ slot_framed _ c.args.slot _ c.self.invariant.kept.sound.apart has

pub invariant_of-self : goal.invariant_of-self
invariant_of-self c =
    let has = rw (← c.self.view_is) at c.requires.away in
    let within : c.args.slot < length c.self.inside.slots.items = slot_within _ c.args.slot _ _ has.there in
    rw (c.bring_in.ensures, c.filled.ensures)
    (enter_kept _ c.args.slot _ _ _ _ _ _ _ _ _ refl c.self.invariant c.pop.ensures.capacity c.put.ensures.capacity c.index_mut.result.now c.args.bytes.now
    (get_or_read c.self.inside.slots.items c.args.slot c.index_mut.result.now within c.index_mut.ensures.value None) has (let given = c.in-Some.ensures.len in omega arith) c.put.ensures.items)

pub returns-clause-entered : goal.returns-clause-entered
returns-clause-entered c = λ page mapped spot.
    rw (← c.self.view_is, c.bring_in.ensures, c.filled.ensures)
    (let has = rw (← c.self.view_is) at c.requires.away in
    let within : c.args.slot < length c.self.inside.slots.items = slot_within _ c.args.slot _ _ has.there in
    enter_there _ c.args.slot _ (vec_len c.pop.new.self) _ _ _ _ _ _ _ refl c.self.invariant c.pop.ensures.capacity c.put.ensures.capacity c.index_mut.result.now c.args.bytes.now
    (get_or_read c.self.inside.slots.items c.args.slot c.index_mut.result.now within c.index_mut.ensures.value None) has c.put.ensures.items
    page mapped (rw (← c.self.view_is) at spot))

pub returns-clause-ordered : goal.returns-clause-ordered
returns-clause-ordered c = let whole = invariant_of-self c in pages_ordered _ c.put.new.self.slots.items whole.kept.sound.apart refl whole.ordered

use Rattle.std.proofs.Common.{◌/◌, None, get_or}
use Rattle.std.proofs.lemmas.List.{get_or_read}
use Rattle.machine_state.specs.Memory.{page_size}
use Rattle.guest_pages.specs.Slots.{IsSeatOf}
use Rattle.guest_pages.proofs.Seats.{entry_there}
use Rattle.guest_pages.proofs.Protects.{mapped_seat, protected_there, protected_kept}
use Rattle.guest_pages.proofs.pages.Pages.set_perms.Goals as goal

pub unreachable-requires : goal.unreachable-requires
unreachable-requires c = mapped_seat c.args.self.now _ c.in-None.ensures c.requires.mapped

pub invariant_of-self : goal.invariant_of-self
invariant_of-self c =
    let seat : IsSeatOf c.self.inside.slots.items (c.args.addr / page_size) c.in-Some.k = rw (← c.self.view_is) at c.in-Some.ensures in
    let there = entry_there (get_or c.self.inside.slots.items c.in-Some.k None) _ seat.here in
    let read = get_or_read c.self.inside.slots.items c.in-Some.k c.index_mut.result.now seat.within c.index_mut.ensures.value None in
    rw (c.protect.ensures, read, there.1)
    (protected_kept c.self.inside.slots.items _ _ _ _ _ _ (c.args.addr / page_size) c.in-Some.k there.0 c.args.perms seat there.1 there.2 c.self.invariant)

pub returns : goal.returns
returns c = record {
  protected =
      let seat : IsSeatOf c.self.inside.slots.items (c.args.addr / page_size) c.in-Some.k = rw (← c.self.view_is) at c.in-Some.ensures in
      let there = entry_there (get_or c.self.inside.slots.items c.in-Some.k None) _ seat.here in
      let read = get_or_read c.self.inside.slots.items c.in-Some.k c.index_mut.result.now seat.within c.index_mut.ensures.value None in
      rw (← c.self.view_is, c.protect.ensures, read, there.1)
      (protected_there _ (c.args.addr / page_size) c.in-Some.k there.0 seat there.1 there.2 c.self.invariant.kept.sound c.args.perms);
}

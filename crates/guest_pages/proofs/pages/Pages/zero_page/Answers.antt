use Rattle.std.proofs.Common.{◌/◌, None, subst}
use Rattle.std.proofs.lemmas.List.{get_or_read}
use Rattle.machine_state.specs.Memory.{page_size}
use Rattle.guest_pages.specs.Changes.{IsMapped}
use Rattle.guest_pages.specs.Slots.{IsSeatOf}
use Rattle.guest_pages.proofs.Protects.{mapped_seat, perms_there}
use Rattle.guest_pages.proofs.pages.Pages.zero_page.Goals as goal

pub unreachable-requires : goal.unreachable-requires
unreachable-requires c = mapped_seat c.args.self.now _ c.in-None.ensures c.requires.mapped

pub returns : goal.returns
returns c = record {
  zeroed = λ mapped is.
      let seat : IsSeatOf c.self.inside.slots.items (c.args.addr / page_size) c.in-Some.k = rw (← c.self.view_is) at c.in-Some.ensures in
      let read = get_or_read c.self.inside.slots.items c.in-Some.k c.index.result.now seat.within c.index.ensures None in
      subst (λ perms. IsMapped c.args.self.now c.fill.new.self (c.args.addr / page_size) perms)
      (perms_there _ (c.args.addr / page_size) c.in-Some.k c.index.result.now c.perms_of-perms.result mapped seat read c.perms_of-perms.ensures (rw (← c.self.view_is) at is))
      c.fill.ensures;
}

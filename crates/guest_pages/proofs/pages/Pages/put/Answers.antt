use Rattle.std.proofs.Common.{◌≡◌, reverse, None, get_or, sym, ap, ◌/◌}
use Rattle.std.specs.Option.{option_map}
use Rattle.std.proofs.lemmas.List.{get_or_read}
use Rattle.machine_state.specs.declared.kinds.Miss.TheVariants.{Away}
use Rattle.guest_pages.specs.Entry.{away_slot_of}
use Rattle.guest_pages.specs.Table.{answer_of}
use Rattle.machine_state.specs.Memory.{page_size}
use Rattle.guest_pages.specs.Pages.{PagesValue}
use Rattle.guest_pages.specs.Slots.{IsSeatOf}
use Rattle.guest_pages.proofs.Seats.{entry_there}
use Rattle.guest_pages.proofs.Writes.{written_there, lent_kept, lent_view}
use Rattle.guest_pages.proofs.KernelPuts.{seat_held, mapped_seat}
use Rattle.guest_pages.proofs.Shows.{slot_away}
use Rattle.guest_pages.proofs.pages.Pages.put.Goals as goal

pub invariant_of-self : goal.invariant_of-self
invariant_of-self c =
    let seat : IsSeatOf c.self.inside.slots.items (c.args.addr / page_size) c.in-Some.k = rw (← c.self.view_is) at c.in-Some.ensures in
    let read = get_or_read c.self.inside.slots.items c.in-Some.k c.index_mut-slot.result.now seat.within c.index_mut-slot.ensures.value None in
    let entry = entry_there (get_or c.self.inside.slots.items c.in-Some.k None) _ seat.here in
    rw (read, entry.1) (lent_kept c.self.inside.slots.items _ _ _ _ _ _ _ c.in-Some.k _ entry.0 _ seat entry.1 entry.2 c.self.invariant)

pub unreachable-requires : goal.unreachable-requires
unreachable-requires c = mapped_seat c.args.self.now _ c.in-None.ensures c.requires.mapped

pub returns-in-Some-away_slot-clause-answer : goal.returns-in-Some-away_slot-clause-answer
returns-in-Some-away_slot-clause-answer c =
    rw (← slot_away c.args.self.now _ c.in-Some.k c.in-Some.ensures) (ap (λ o. answer_of (option_map Away o)) c.in-Some-away_slot.ensures)

pub returns-in-None-away_slot-clause-answer : goal.returns-in-None-away_slot-clause-answer
returns-in-None-away_slot-clause-answer c =
    rw (← slot_away c.args.self.now _ c.in-Some.k c.in-Some.ensures) (ap (λ o. answer_of (option_map Away o)) c.in-None-away_slot.ensures)

pub returns-in-None-away_slot-clause-ok : goal.returns-in-None-away_slot-clause-ok
returns-in-None-away_slot-clause-ok c =
    let seat : IsSeatOf c.self.inside.slots.items (c.args.addr / page_size) c.in-Some.k = rw (← c.self.view_is) at c.in-Some.ensures in
    let read = get_or_read c.self.inside.slots.items c.in-Some.k c.index_mut-slot.result.now seat.within c.index_mut-slot.ensures.value None in
    let entry = entry_there (get_or c.self.inside.slots.items c.in-Some.k None) _ seat.here in
    let pages : PagesValue = record { frames = c.self.inside.frames; slots = c.self.inside.slots.items; recent = reverse c.self.inside.order.slots.items } in
    let here : away_slot_of (get_or c.self.inside.slots.items c.in-Some.k None) c.in-Some.k ≡ None = rw (← c.self.view_is) at (sym c.in-None-away_slot.ensures) in
    let held = seat_held pages c.args.addr c.in-Some.k _ _ _ seat here (rw read at c.lend.ensures.lent) in
    rw (c.copy_from_slice.ensures.after, ← c.self.view_is)
    (rw (lent_view pages c.args.addr c.in-Some.k c.index_mut-slot.result.now entry.0 c.args.bytes.now seat entry.1 read)
    (written_there pages c.args.addr c.in-Some.k held c.self.invariant.kept.sound c.args.bytes.now c.requires.some c.requires.one_page))

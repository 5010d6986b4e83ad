use Rattle.std.proofs.Common.{reverse, None, refl, get_or}
use Rattle.std.proofs.lemmas.List.{get_or_read}
use Rattle.machine_state.specs.declared.kinds.Kind.TheVariants.{Write}
use Rattle.guest_pages.proofs.Seats.{entry_there}
use Rattle.guest_pages.proofs.Writes.{written_there, ready_frame, ready_held, lent_shown, lent_kept, lent_view, never_lacks}
use Rattle.guest_pages.proofs.pages.Pages.lend_ready.Goals as goal

pub lend-requires-clause-resident : goal.lend-requires-clause-resident
lend-requires-clause-resident c =
    let read = get_or_read c.self.inside.slots.items c.in-Some.k c.index_mut-slot.result.now c.in-Some.ensures.within c.index_mut-slot.ensures.value None in
    rw read
    (ready_frame (record { frames = c.self.inside.frames; slots = c.self.inside.slots.items; recent = reverse c.self.inside.order.slots.items }) Write c.args.addr c.in-Some.k c.args.len c.in-Some.ensures c.requires.some
    (rw (← c.self.view_is) at c.requires.ready))

pub unreachable-requires : goal.unreachable-requires
unreachable-requires c =
    never_lacks (record { frames = c.self.inside.frames; slots = c.self.inside.slots.items; recent = reverse c.self.inside.order.slots.items }) Write c.args.addr c.args.len c.in-None.ensures c.requires.some
    (rw (← c.self.view_is) at c.requires.ready)

pub invariant_of-self-lent : goal.invariant_of-self-lent
invariant_of-self-lent c = λ w.
    let read = get_or_read c.self.inside.slots.items c.in-Some.k c.index_mut-slot.result.now c.in-Some.ensures.within c.index_mut-slot.ensures.value None in
    let entry = entry_there (get_or c.self.inside.slots.items c.in-Some.k None) _ c.in-Some.ensures.here in
    rw (read, entry.1) (lent_kept c.self.inside.slots.items _ _ _ _ _ _ _ c.in-Some.k _ entry.0 w c.in-Some.ensures entry.1 entry.2 c.self.invariant)

pub returns : goal.returns
returns c =
    let read = get_or_read c.self.inside.slots.items c.in-Some.k c.index_mut-slot.result.now c.in-Some.ensures.within c.index_mut-slot.ensures.value None in
    let entry = entry_there (get_or c.self.inside.slots.items c.in-Some.k None) _ c.in-Some.ensures.here in
    let held = ready_held (record { frames = c.self.inside.frames; slots = c.self.inside.slots.items; recent = reverse c.self.inside.order.slots.items }) Write c.args.addr c.in-Some.k c.args.len c.in-Some.ensures c.requires.some
    (rw (← c.self.view_is) at c.requires.ready) _ _ (rw read at c.lend.ensures.lent) in (
      (
        refl,
        λ w.
            rw (← c.self.view_is)
            (lent_view (record { frames = c.self.inside.frames; slots = c.self.inside.slots.items; recent = reverse c.self.inside.order.slots.items }) c.args.addr c.in-Some.k c.index_mut-slot.result.now entry.0 w c.in-Some.ensures entry.1 read),
      ),
      record {
        writes_back = tt;
        len = c.lend.ensures.len;
        bytes =
            rw (← c.self.view_is)
            (lent_shown (record { frames = c.self.inside.frames; slots = c.self.inside.slots.items; recent = reverse c.self.inside.order.slots.items }) c.args.addr c.in-Some.k c.args.len c.lend.result.now held c.requires.one_page (rw read at c.lend.ensures.lent));
        written = λ bytes len.
            rw (← c.self.view_is)
            (written_there (record { frames = c.self.inside.frames; slots = c.self.inside.slots.items; recent = reverse c.self.inside.order.slots.items }) c.args.addr c.in-Some.k held c.self.invariant.kept.sound bytes (rw len c.requires.some) (rw len c.requires.one_page));
      },
    )

use Rattle.std.proofs.Common.{◌≡◌, ◌<◌, ◌∙◌, sym, None, length, arith}
use Rattle.std.proofs.lemmas.List.{get_or_read}
use Rattle.guest_pages.proofs.Seats.{seat_of}
use Rattle.guest_pages.proofs.Files.{looks_first, looks_on, looks_end, looks_here}
use Rattle.guest_pages.proofs.pages.Pages.seat.Goals as goal

pub loop-at-init : goal.loop-at-init
loop-at-init c =
    let len : c.len.result ≡ length c.self.inside.slots.items = omega arith in
    rw (c.first-at.ensures, c.bucket.ensures.value, len) (looks_first c.self.inside.slots.items c.self.inside.lists c.args.page c.self.invariant.kept.filed)

pub index-requires : goal.index-requires
index-requires c =
    let here = looks_here c.self.inside.slots.items c.self.inside.lists.nexts.items c.args.page c.in-Some.k (rw c.in-Some.is at c.loop-at.invariant) in
    let size = c.self.invariant.kept.filed.numbers in
    omega arith

pub returns-then-holds : goal.returns-then-holds
returns-then-holds c =
    rw (← c.self.view_is)
    (let within : c.in-Some.k < length c.self.inside.slots.items = (let here = looks_here c.self.inside.slots.items c.self.inside.lists.nexts.items c.args.page c.in-Some.k (rw c.in-Some.is at c.loop-at.invariant) in let size = c.self.invariant.kept.filed.numbers in omega arith) in
    seat_of c.self.inside.slots.items c.args.page c.in-Some.k c.self.invariant.kept.sound.apart within
    (rw (← get_or_read c.self.inside.slots.items c.in-Some.k c.index.result.now within c.index.ensures None) (sym c.holds.ensures ∙ c.if-holds.true)))

pub next-at-requires : goal.next-at-requires
next-at-requires c =
    let here = looks_here c.self.inside.slots.items c.self.inside.lists.nexts.items c.args.page c.in-Some.k (rw c.in-Some.is at c.loop-at.invariant) in
    omega arith

pub loop-at-smaller : goal.loop-at-smaller
loop-at-smaller c =
    rw (c.in-Some.is, c.next-at.ensures)
    (looks_here c.self.inside.slots.items c.self.inside.lists.nexts.items c.args.page c.in-Some.k (rw c.in-Some.is at c.loop-at.invariant)).1

pub loop-at-preserved : goal.loop-at-preserved
loop-at-preserved c =
    let here = looks_here c.self.inside.slots.items c.self.inside.lists.nexts.items c.args.page c.in-Some.k (rw c.in-Some.is at c.loop-at.invariant) in
    let size = c.self.invariant.kept.filed.numbers in
    let within : c.in-Some.k < length c.self.inside.slots.items = omega arith in
    rw c.next-at.ensures
    (looks_on c.self.inside.slots.items c.self.inside.lists.nexts.items c.args.page c.in-Some.k (rw c.in-Some.is at c.loop-at.invariant)
    (rw (← get_or_read c.self.inside.slots.items c.in-Some.k c.index.result.now within c.index.ensures None) (sym c.holds.ensures ∙ c.if-holds.false)))

pub returns : goal.returns
returns c =
    rw (← c.self.view_is)
    (looks_end c.self.inside.slots.items c.self.inside.lists.nexts.items c.args.page (rw c.in_default.is at c.loop-at.invariant))

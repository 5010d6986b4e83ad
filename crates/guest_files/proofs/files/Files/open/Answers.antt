-- What the checks let pass is opened.
use Rattle.std.proofs.Common.{◌<◌, arith, length, refl, sym}
use Rattle.std.proofs.lemmas.List.{length-map}
use Rattle.guest_files.proofs.OpenLemmas.{entry_checked, open_full, open_granted, open_kept, open_left, open_refused}
use Rattle.guest_files.proofs.files.Files.open.Goals as goal

pub returns-in-Err-clause-answer : goal.returns-in-Err-clause-answer
returns-in-Err-clause-answer c =
    rw (open_refused c.args.self.now c.args.name.now c.args.flags c.in-Err.errno c.in-Err.ensures.err) refl

pub returns-in-None-clause-answer : goal.returns-in-None-clause-answer
returns-in-None-clause-answer c =
    rw (open_full c.args.self.now c.args.name.now c.args.flags c.in-Ok.ensures.err
    (rw (← c.self.view_is) c.in-None.ensures.number)) refl

pub returns-clause-answer : goal.returns-clause-answer
returns-clause-answer c =
    let free = c.in-Some.ensures.number in
    rw (open_granted c.args.self.now c.args.name.now c.args.flags c.in-Some.fd c.in-Ok.ensures.err (rw (← c.self.view_is) free))
    (rw (← c.self.view_is, sym free) refl)

pub invariant_of-self : goal.invariant_of-self
invariant_of-self c =
    let entries = c.self.inside.entries.items in
    let number = c.in-Ok.number in
    let inside = rw (← c.self.view_is) at c.in-Ok.ensures.within in
    let within : number < length entries = simp length-map at inside in
    let checked = entry_checked entries number c.index_mut.result.now c.args.name.now c.args.flags within c.index_mut.ensures.value
    (rw (← c.self.view_is) at c.in-Ok.ensures.ok) (rw (← c.self.view_is) at c.in-Ok.ensures.err) in
    let free : c.in-Some.fd < 64 = omega (arith, c.in-Some.ensures.within, c.self.invariant.files.descriptors) in
    rw c.place.ensures (open_kept entries c.self.inside.places c.self.inside.cap number c.in-Some.fd c.index_mut.result.now
    c.apply.new.entry c.args.flags c.self.invariant within c.index_mut.ensures.value free c.apply.ensures.file c.apply.ensures.capacity checked)

pub returns-clause-ok : goal.returns-clause-ok
returns-clause-ok c =
    let entries = c.self.inside.entries.items in
    let number = c.in-Ok.number in
    let inside = rw (← c.self.view_is) at c.in-Ok.ensures.within in
    let within : number < length entries = simp length-map at inside in
    rw (← c.self.view_is, c.place.ensures) (open_left entries c.self.inside.places c.self.inside.cap number c.in-Some.fd c.index_mut.result.now
    c.apply.new.entry c.args.name.now c.args.flags within c.index_mut.ensures.value (rw (← c.self.view_is) at c.in-Ok.ensures.ok) c.in-Some.ensures.number
    c.apply.ensures.file)

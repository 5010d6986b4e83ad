-- The file is written as far as the cap allows.
use Rattle.std.proofs.Common.{◌<◌, ◌∙◌, ap, arith, length, refl, sym, take}
use Rattle.std.proofs.lemmas.List.{length-map, length-take}
use Rattle.std.proofs.lemmas.List.Elements.{All-take}
use Rattle.guest_files.specs.Checks.{file_number}
use Rattle.guest_files.specs.declared.entries.Entry.{Entry}
use Rattle.guest_files.proofs.Bytes.{are_bytes}
use Rattle.guest_files.proofs.MoveLemmas.{write_kept, write_left}
use Rattle.guest_files.proofs.files.Files.write_at.Goals as goal

pub invariant_of-self : goal.invariant_of-self
invariant_of-self c =
    let entries = c.self.inside.entries.items in
    let number = c.in-Some-file.number in
    let old = c.index_mut.result.now in
    let new : Entry = record { name = old.name; bytes = c.write.new.content; exists = old.exists; writable = old.writable } in
    let inside = rw (← c.self.view_is) at c.in-Some-file.ensures.within in
    let within : number < length entries = simp length-map at inside in
    let count = c.count_below-count.result in
    let bytes = c.args.bytes.now in
    write_kept entries c.self.inside.places c.self.inside.cap c.args.fd c.in-Some.place number old new c.args.at (take count bytes)
    c.self.invariant (rw (← c.self.view_is) at c.in-Some.ensures.value)
    (c.in-Some-file.ensures.number ∙ ap file_number (sym c.in-Some.ensures.value)) within c.index_mut.ensures.value
    (rw c.write.ensures.items refl) c.write.ensures.capacity
    (All-take (λ b. b < 256) count bytes (are_bytes bytes (λ k. omega (arith, c.type_inv.bytes k))))
    (λ some. omega (arith, some, length-take count bytes, c.count_below-count.ensures))

pub returns-clause-ok : goal.returns-clause-ok
returns-clause-ok c =
    let entries = c.self.inside.entries.items in
    let number = c.in-Some-file.number in
    let old = c.index_mut.result.now in
    let new : Entry = record { name = old.name; bytes = c.write.new.content; exists = old.exists; writable = old.writable } in
    let inside = rw (← c.self.view_is) at c.in-Some-file.ensures.within in
    let within : number < length entries = simp length-map at inside in
    rw (← c.self.view_is) (write_left entries c.self.inside.places c.self.inside.cap c.args.fd c.in-Some.place number old new c.args.at
    c.args.bytes.now (rw (← c.self.view_is) at c.in-Some.ensures.value)
    (c.in-Some-file.ensures.number ∙ ap file_number (sym c.in-Some.ensures.value)) within c.index_mut.ensures.value
    (rw (c.write.ensures.items, c.count_below-count.ensures) refl))
